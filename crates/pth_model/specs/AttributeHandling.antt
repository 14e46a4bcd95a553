-- Thread attribute handling: pth_attr_new, pth_attr_of, pth_attr_init, pth_attr_set, pth_attr_get, pth_attr_destroy. The answers
-- stand beside the objects, with the refusals of each call in order.
use Rattle.std.specs.Prelude.{ℕ, ℤ, Option, Some, None}
use Rattle.pth_base.specs.declared.answer.Answer.{Answer}
use Rattle.pth_base.specs.declared.answer.Answer.TheVariants.{Int, Text}
use Rattle.pth_base.specs.declared.attr.AttrField.{AttrField}
use Rattle.pth_base.specs.declared.attr.AttrValue.{AttrValue}
use Rattle.pth_base.specs.declared.attr.AttrValue.TheVariants as value
use Rattle.pth_numbered.specs.Operands.{number, named}
use Rattle.pth_threads.specs.Attributes.{first_values, with_value, change_of, create_answer, of_answer, init_answer, set_answer, get_answer, destroy_answer}
use Rattle.pth_threads.specs.declared.attribute.Attribute.{Attribute}
use Rattle.pth_threads.specs.declared.attribute.Attribute.TheVariants.{Free, Bound}
use Rattle.pth_threads.specs.declared.entry.Change as entry
use Rattle.pth_model.specs.declared.verdict.Verdict.TheVariants.{Says}
use Rattle.pth_model.specs.Verdict.{says, done, by_result}
use Rattle.pth_model.specs.State.{Control, State}
use Rattle.pth_model.specs.Transition.{Change, nothing, tid}
use Rattle.pth_model.specs.Changes.{adds_object, puts_object, sets}
use Rattle.pth_model.specs.Row.{Row, ◌changing◌}

-- the value of a field, as an answer
abbrev pub answer_of : AttrValue → Answer
answer_of (value.Name name) = Text name
answer_of (value.Prio n) = Int n
answer_of (value.Joinable n) = Int n
answer_of (value.Cancel n) = Int n
answer_of (value.Dispatches n) = Int n
answer_of (value.State n) = Int n
answer_of (value.Bound n) = Int n

module _ {P S H : Type 0} where
  -- the object that an operand names
  abbrev pub object : Control P S H → ℤ → Option Attribute
  object k a = named k.attributes.objects a

  abbrev pub sets_field : ℕ → Option entry.Change → Change P S H
  sets_field t None = nothing
  sets_field t (Some c) = sets t c

  -- a value is set in an object, or in the thread to which it is bound
  abbrev pub sets_value : ℤ → AttrValue → Option Attribute → Change P S H
  sets_value a v None = nothing
  sets_value a v (Some (Free x)) = puts_object (number a) (Some (Free (with_value v x)))
  sets_value a v (Some (Bound t)) = sets_field t.0 (change_of v)

module _ {P S H : Type 0} (s : State P S H) where
  -- pth_attr_new: an object with the first values, which has the next number
  abbrev pub attr_new : Row P S H
  attr_new =
      by_result says (create_answer s.control.attributes.objects s.control.attributes.made)
      changing adds_object (Free first_values)

  -- pth_attr_of: an object that is bound to a thread, with the next number
  abbrev pub attr_of : ℤ → Row P S H
  attr_of n =
      by_result says (of_answer (named s.control.threads.known n) s.control.attributes.objects s.control.attributes.made)
      changing adds_object (Bound (tid (number n)))

  -- pth_attr_init: an object has the first values again
  abbrev pub attr_init : ℤ → Row P S H
  attr_init a =
      by_result done (init_answer (object s.control a))
      changing puts_object (number a) (Some (Free first_values))

  -- pth_attr_set: a field of an object is set, or of the thread to which it is bound
  abbrev pub attr_set : ℤ → AttrValue → Row P S H
  attr_set a v =
      by_result done (set_answer s.control.top s.control.threads.known (object s.control a) v)
      changing sets_value a v (object s.control a)

  -- pth_attr_get: a field is read
  abbrev pub attr_get : ℤ → AttrField → Row P S H
  attr_get a field =
      by_result (λ v. Says (answer_of v)) (get_answer s.control.threads.known (object s.control a) field)
      changing nothing

  -- pth_attr_destroy: an object is gone, and its number names none from now on
  abbrev pub attr_destroy : ℤ → Row P S H
  attr_destroy a =
      by_result done (destroy_answer (object s.control a))
      changing puts_object (number a) None
