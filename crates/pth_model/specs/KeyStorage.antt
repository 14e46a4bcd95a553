-- Key-based storage: pth_key_create, pth_key_delete, pth_key_setdata, pth_key_getdata. What these calls change is told by their answers.
use Rattle.std.specs.Prelude.{ℕ, ℤ}
use Rattle.pth_base.specs.declared.answer.Answer.TheVariants.{Int}
use Rattle.pth_store.specs.Keys.{key_create_answer, key_delete_answer, key_set_answer, key_get_answer}
use Rattle.pth_model.specs.declared.verdict.Verdict.TheVariants.{Says}
use Rattle.pth_model.specs.Verdict.{says, done, by_result}
use Rattle.pth_model.specs.State.{State}
use Rattle.pth_model.specs.Transition.{nothing}
use Rattle.pth_model.specs.Row.{Row, ◌changing◌}

module _ {P S H : Type 0} (s : State P S H) where
  -- pth_key_create: the least free key
  abbrev pub key_create : Row P S H
  key_create = by_result says (key_create_answer s.resources.store.keys) changing nothing

  -- pth_key_delete
  abbrev pub key_delete : ℤ → Row P S H
  key_delete k = by_result done (key_delete_answer s.resources.store.keys k) changing nothing

  -- pth_key_setdata
  abbrev pub key_set : ℤ → Row P S H
  key_set k = by_result done (key_set_answer s.resources.store.keys k) changing nothing

  -- pth_key_getdata: the value of t
  abbrev pub key_get : ℕ → ℤ → Row P S H
  key_get t k = by_result (λ v. Says (Int v)) (key_get_answer s.resources.store.keys t k) changing nothing
