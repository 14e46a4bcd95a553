-- A barrier is initialised, or the barriers refuse it.
use Rattle.pth_end.proofs.Acting.{done_answered, error_answered}
use Rattle.std.proofs.Common.{◌≡◌, ◌∙◌, ℤ, pos, List, Option, Ok, Err, refl, sym, ap}
use Rattle.pth_base.specs.declared.answer.Answer.{Answer}
use Rattle.pth_base.specs.declared.answer.Answer.TheVariants.{Int}
use Rattle.pth_base.specs.declared.refusal.Refusal.{Refusal}
use Rattle.pth_base.specs.declared.refusal.Refusal.TheVariants as refusal
use Rattle.pth_cond.specs.Barriers.{Barrier, BarrierTable, barriers_of, barrier_init_answer, barrier_initialised}
use Rattle.pth_end.specs.Saying.{SaysRefusal}
use Rattle.pth_model.specs.Barriers.{barrier_init}
use Rattle.pth_model.specs.Changes.{with_barriers}
use Rattle.pth_model.specs.declared.verdict.Verdict.TheVariants.{Says}
use Rattle.pth_store.specs.Storing.{AnswersWithMemory}
use Rattle.pth_world.proofs.Barriers.{barred_shows}
use Rattle.pth_world.specs.Leading.{IsAnswered}
use Rattle.pth_world.specs.World.{WorldOf}
use Rattle.pth_end.proofs.Deciding.{decided}

module _ {P S H : Type 0} (w : WorldOf P S H) (x : List (Option Barrier)) (b n : ℤ) where
  abbrev initialising : Answer → Type 0
  initialising a = IsAnswered w (record w { barriers = x }) a (λ s. (barrier_init s b n).begin)

  pub barrier_made : (u : Unit {0}) → AnswersWithMemory (barrier_init_answer (barriers_of w.barriers) b n) (Ok u) → barriers_of x ≡ barrier_initialised b n (barriers_of w.barriers) → initialising (Int (pos 1))
  barrier_made u answers changed =
      decided w (record w { barriers = x }) (λ y. Int (pos 1)) (λ s. barrier_init_answer s.control.barriers b n) (λ s. with_barriers (barrier_initialised b n))
      (λ y. refl) (Ok tt) (Int (pos 1)) refl
      (λ s st. done_answered (barrier_init_answer (barriers_of w.barriers) b n) u answers ∙ sym (ap (λ (y : BarrierTable). barrier_init_answer y b n) st.control.barriers))
      (λ s st. barred_shows w x (barrier_initialised b n) s.control st.control changed)
      tt refl

  pub barrier_refused : (e : Refusal) (a : Answer) → AnswersWithMemory (barrier_init_answer (barriers_of w.barriers) b n) (Err e) → x ≡ w.barriers → SaysRefusal e a → initialising a
  barrier_refused (refusal.Fail e) a answers same says =
      decided w (record w { barriers = x }) (λ y. Int (pos 1)) (λ s. barrier_init_answer s.control.barriers b n) (λ s. with_barriers (barrier_initialised b n))
      (λ y. refl) (Err e) a (ap (λ (c : Answer). Says c) (sym says))
      (λ s st. error_answered (barrier_init_answer (barriers_of w.barriers) b n) e answers ∙ sym (ap (λ (y : BarrierTable). barrier_init_answer y b n) st.control.barriers))
      tt
      (ap (λ (y : List (Option Barrier)). record w { barriers = y }) same) tt
  barrier_refused refusal.OutOfMemory a answers same says = absurd says
