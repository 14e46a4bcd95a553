-- An attribute object is bound to a thread.
use Rattle.std.proofs.Common.{◌≡◌, ◌∙◌, ℕ, ◌+◌, ℤ, pos, Bool, true, false, Option, Some, None, Result, Ok, Err, refl, sym, ap, subst}
use Rattle.pth_base.specs.Table.{put}
use Rattle.pth_base.specs.declared.answer.Answer.{Answer}
use Rattle.pth_base.specs.declared.answer.Answer.TheVariants.{Fail, Int}
use Rattle.pth_base.specs.declared.errno.Errno.{Errno}
use Rattle.pth_base.specs.declared.ids.AttrId.{AttrId}
use Rattle.pth_base.specs.declared.refusal.Refusal.{Refusal}
use Rattle.pth_base.specs.declared.refusal.Refusal.TheVariants as refusal
use Rattle.pth_numbered.specs.Operands.{named, number}
use Rattle.pth_threads.specs.Attributes.{Answers, MakesObject, object_of, of_answer}
use Rattle.pth_threads.specs.declared.attribute.Attribute.{Attribute}
use Rattle.pth_threads.specs.declared.attribute.Attribute.TheVariants.{Bound}
use Rattle.pth_threads.specs.declared.entry.Entry.{Entry}
use Rattle.pth_model.specs.AttributeHandling.{attr_of}
use Rattle.pth_model.specs.Changes.{adds_object}
use Rattle.pth_model.specs.State.{State, Control}
use Rattle.pth_model.specs.Transition.{tid}
use Rattle.pth_model.specs.Verdict.{by_result, refused, says}
use Rattle.pth_model.specs.declared.verdict.Verdict.{Verdict}
use Rattle.pth_model.specs.declared.verdict.Verdict.TheVariants.{Says}
use Rattle.pth_end.proofs.Answers.{passed_answered, refused_answered}
use Rattle.pth_end.specs.Saying.{SaysRefusal}
use Rattle.pth_world.specs.Leading.{IsAnswered}
use Rattle.pth_world.specs.Shows.{Shows, StandsFor}
use Rattle.pth_world.specs.World.{WorldOf, entry_in}

answers_ok : (q : Result ℕ Errno) (a : AttrId) → Answers q (Ok a) → q ≡ Ok a.0
answers_ok (Ok n) a h = ap Ok (sym h)
answers_ok (Err e) a h = absurd (cc h)

answers_err : (q : Result ℕ Errno) (e : Refusal) (a : Answer) → Answers q (Err e) → SaysRefusal e a → (d : Errno) × (q ≡ Err d) × (a ≡ Fail d)
answers_err (Ok n) e a h says = absurd (subst (λ (r : Refusal). SaysRefusal r a) h says)
answers_err (Err d) e a h says = (d, refl, subst (λ (r : Refusal). SaysRefusal r a) (let same : e ≡ refusal.Fail d = cc in same) says)

module _ {P S H : Type 0} (w : WorldOf P S H) (n : ℤ) (d : Entry) (known : (k : Control P S H) → Shows w k → Some d ≡ named k.threads.known n) (here : Some d ≡ entry_in w.threads d.tid.0) (number_is : n ≡ pos d.tid.0) where
  abbrev result : Result ℕ Errno
  result = of_answer (entry_in w.threads d.tid.0) (object_of w.attributes) w.attributes.objects.made

  verdict_is : (s : State P S H) → StandsFor w s → (attr_of s n).begin.verdict ≡ by_result says result
  verdict_is s st =
      let k = s.control in
      ap (λ (o : Option Entry). by_result says (of_answer o k.attributes.objects k.attributes.made)) (sym (known k st.control) ∙ here)
      ∙ ap (λ (x : ℕ → Option Attribute). by_result says (of_answer (entry_in w.threads d.tid.0) x k.attributes.made)) st.control.attributes.objects
      ∙ ap (λ (m : ℕ). by_result says (of_answer (entry_in w.threads d.tid.0) (object_of w.attributes) m)) st.control.attributes.made

  -- another object is shown
  more_shown : (v : WorldOf P S H) (k : Control P S H) → v ≡ record w { attributes = v.attributes } → MakesObject w.attributes v.attributes (Bound (tid d.tid.0)) → Shows w k → Shows v (adds_object (Bound (tid (number n))) k)
  more_shown v k same makes sh = subst (λ (z : WorldOf P S H). Shows z (adds_object (Bound (tid (number n))) k)) (sym same) (record {
    program = sh.program;
    shared = sh.shared;
    threads = sh.threads;
    attributes = record {
      made = ap (λ (m : ℕ). m + 1) sh.attributes.made ∙ sym makes.made;
      objects = rw (sh.attributes.objects, sh.attributes.made, number_is) (sym makes.objects);
    };
    events = sh.events;
    conditions = sh.conditions;
    barriers = sh.barriers;
    kernel = sh.kernel;
    used = sh.used;
    scheduler = sh.scheduler;
  })

  pub bound_answered : (v : WorldOf P S H) (o : AttrId) → v ≡ record w { attributes = v.attributes } → MakesObject w.attributes v.attributes (Bound (tid d.tid.0)) → Answers result (Ok o) → IsAnswered w v (Int (pos o.0)) (λ s. (attr_of s n).begin)
  bound_answered v o same makes answer =
      passed_answered w v (Int (pos o.0)) (λ s. (attr_of s n).begin) (λ s. adds_object (Bound (tid (number n)))) refl
      (λ s st. verdict_is s st ∙ ap (by_result says) (answers_ok result o answer)) (λ s. refl) (λ s st. more_shown v s.control same makes st.control) (ap (λ (z : WorldOf P S H). z.store) same)

  pub bound_refused : (v : WorldOf P S H) (e : Refusal) (a : Answer) → v ≡ w → Answers result (Err e) → SaysRefusal e a → IsAnswered w v a (λ s. (attr_of s n).begin)
  bound_refused v e a same answer told =
      let q = answers_err result e a answer told in
      subst (λ (z : WorldOf P S H). IsAnswered w z a (λ s. (attr_of s n).begin)) (sym same)
      (subst (λ (b : Answer). IsAnswered w w b (λ s. (attr_of s n).begin)) (sym q.2)
      (refused_answered w q.0 (λ s. (attr_of s n).begin) (λ s st. verdict_is s st ∙ ap (by_result says) q.1)))
