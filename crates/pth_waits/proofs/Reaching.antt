-- Attempts to pass a barrier.
use Rattle.std.proofs.Common.{◌≡◌, ◌∙◌, ℕ, ℤ, Bool, true, false, List, Option, None, Result, Ok, Err, OnOk, OnErr, if◌then◌else◌, refl, sym, ap, subst}
use Rattle.pth_base.specs.declared.answer.Answer.TheVariants.{Int}
use Rattle.pth_base.specs.declared.call.Call.TheVariants.{BarrierReach}
use Rattle.pth_base.specs.declared.errno.Errno.{Errno}
use Rattle.pth_cond.specs.Barriers.{Barrier, BarrierTable, barriers_of, arrival_answer, barrier_reached, has_passed, round_answer, round_answered}
use Rattle.pth_cond.specs.declared.barriers.Arrival.{Arrival}
use Rattle.pth_cond.specs.declared.barriers.Arrival.TheVariants.{Incomplete, Tail}
use Rattle.pth_model.specs.declared.awaits.Awaits.{Awaits}
use Rattle.pth_model.specs.declared.awaits.Awaits.TheVariants.{Round}
use Rattle.pth_model.specs.declared.verdict.Verdict.{Verdict}
use Rattle.pth_model.specs.declared.verdict.Verdict.TheVariants.{Says, Blocks}
use Rattle.pth_model.specs.Awaits.{round_in}
use Rattle.pth_model.specs.Barriers.{arrived_as, barrier_reach, tries_round}
use Rattle.pth_model.specs.Changes.{with_barriers}
use Rattle.pth_model.specs.Resources.{answer_told, told}
use Rattle.pth_model.specs.Row.{Attempt, effect_of, ◌trying◌}
use Rattle.pth_model.specs.State.{State}
use Rattle.pth_model.specs.Transition.{changes, silent}
use Rattle.pth_model.specs.Verdict.{by_result}
use Rattle.pth_world.proofs.Barriers.{barred_shows}
use Rattle.pth_world.specs.Leading.{Changed, IsIdle, MayComeTo, Tries}
use Rattle.pth_world.specs.Shows.{StandsFor}
use Rattle.pth_world.specs.World.{WorldOf}
use Rattle.pth_waits.specs.Verdicts.{Begins}
use Rattle.pth_waits.proofs.Attempting.{IsPlain, IsQuietCall, blocked_still, changed_attempts, changed_tries, quiet_ready}

-- what barriers answer tells nothing of what threads have
quiet_reach : (t : ℕ) (b : ℤ) → IsQuietCall t (BarrierReach b)
unfolding told answer_told
quiet_reach t b a x = refl

-- ---- a thread arrives

arrival_plain : (b : ℤ) (q : Result Arrival Errno) → IsPlain (by_result (arrived_as b) q)
arrival_plain b (Ok (Incomplete round)) = tt
arrival_plain b (Ok Tail) = tt
arrival_plain b (Err e) = tt

arrival_may : (t : ℕ) (b : ℤ) (q : Result Arrival Errno) → MayComeTo t (BarrierReach b) (by_result (arrived_as b) q)
arrival_may t b (Ok (Incomplete round)) = refl
arrival_may t b (Ok Tail) = tt
arrival_may t b (Err e) = tt

module _ {P S H : Type 0} (w : WorldOf P S H) (x : List (Option Barrier)) (t : ℕ) (b : ℤ) where
  abbrev v : WorldOf P S H
  v = record w { barriers = x }

  arrival_effect : (s : State P S H) (q : Result Arrival Errno) → StandsFor w s → OnOk q (barriers_of x ≡ barrier_reached b t (barriers_of w.barriers)) → OnErr q (x ≡ w.barriers)
      → Changed v (effect_of (by_result (arrived_as b) q trying changes (with_barriers (barrier_reached b t))) s)
  arrival_effect s (Ok (Incomplete round)) st changed same = record { shows = barred_shows w x (barrier_reached b t) s.control st.control changed; store = st.store; silent = refl }
  arrival_effect s (Ok Tail) st changed same = record { shows = barred_shows w x (barrier_reached b t) s.control st.control changed; store = st.store; silent = refl }
  arrival_effect s (Err e) st changed same = record { shows = barred_shows w x (λ y. y) s.control st.control (ap barriers_of same); store = st.store; silent = refl }

  pub arrival_begins : (q : Result Arrival Errno) → q ≡ arrival_answer (barriers_of w.barriers) b → OnOk q (barriers_of x ≡ barrier_reached b t (barriers_of w.barriers)) → OnErr q (x ≡ w.barriers)
      → Begins w v t (BarrierReach b) (λ s. barrier_reach s t b) (by_result (arrived_as b) q)
  arrival_begins q is changed same =
      let at : (s : State P S H) → StandsFor w s → arrival_answer s.control.barriers b ≡ q = λ s st. ap (λ (y : BarrierTable). arrival_answer y b) st.control.barriers ∙ sym is in
      changed_attempts false w v t (BarrierReach b) None (λ s. (barrier_reach s t b).begin) (by_result (arrived_as b) q)
      (λ s st. ap (by_result (arrived_as b)) (at s st))
      (λ s st. subst (λ (r : Result Arrival Errno). Changed v (effect_of (by_result (arrived_as b) r trying changes (with_barriers (barrier_reached b t))) s)) (sym (at s st)) (arrival_effect s q st changed same))
      (λ u st. quiet_ready v t (BarrierReach b) (by_result (arrived_as b) q) u refl (quiet_reach t b) (arrival_plain b q) st)
      (arrival_may t b q)

  -- ---- its round is tried again

  module _ (round : ℕ) where
    abbrev passed_as : Bool → State P S H → Attempt P S H
    passed_as passed s = if passed then (Says (Int (round_answer s.control.barriers b round t)) trying changes (with_barriers (round_answered b round t))) else (Blocks (Round b round) trying silent)

    abbrev trying_again : Verdict → Awaits → Type 0
    trying_again y a = Tries w v t (record { call = BarrierReach b; awaits = a }) (λ s. (barrier_reach s t b).again a) y

    passed_at : (passed : Bool) → has_passed (barriers_of w.barriers) b round ≡ passed → (s : State P S H) → StandsFor w s → tries_round s t b round ≡ passed_as passed s
    passed_at passed is s st = ap (λ (p : Bool). passed_as p s) (ap (λ (y : BarrierTable). has_passed y b round) st.control.barriers ∙ is)

    tried : (passed : Bool) (y : Verdict) → IsPlain y → MayComeTo t (BarrierReach b) y → has_passed (barriers_of w.barriers) b round ≡ passed
        → ((s : State P S H) → StandsFor w s → (passed_as passed s).verdict ≡ y)
        → ((s : State P S H) → StandsFor w s → Changed v (effect_of (passed_as passed s) s))
        → ((s : State P S H) → passed ≡ false → effect_of (passed_as passed s) s ≡ silent s) → ((passed ≡ true) → (z : ℤ) × (y ≡ Says (Int z)))
        → (a : Awaits) → round_in a ≡ round → trying_again y a
    tried passed y plain may is verdict effect quiet says a at =
        let here : (s : State P S H) → StandsFor w s → tries_round s t b (round_in a) ≡ passed_as passed s = λ s st. ap (λ (r : ℕ). tries_round s t b r) at ∙ passed_at passed is s st in
        changed_tries w v t (record { call = BarrierReach b; awaits = a }) (λ s. (barrier_reach s t b).again a) y
        (λ s st. ap (λ (z : Attempt P S H). z.verdict) (here s st) ∙ verdict s st)
        (λ s st. subst (λ (z : Attempt P S H). Changed v (effect_of z s)) (sym (here s st)) (effect s st))
        (λ u st. quiet_ready v t (BarrierReach b) y u refl (quiet_reach t b) plain st)
        may
        (λ idle s st. ap (λ (z : Attempt P S H). effect_of z s) (here s st) ∙ by_passing passed refl idle s)
        (blocked_still w v t refl)
      where
        by_passing : (p : Bool) → p ≡ passed → IsIdle y → (s : State P S H) → effect_of (passed_as passed s) s ≡ silent s
        by_passing true same idle s = let z = says (sym same) in absurd (subst IsIdle z.1 idle)
        by_passing false same idle s = quiet s (sym same)

    -- it has passed, and the thread is answered
    pub round_passed : has_passed (barriers_of w.barriers) b round ≡ true → barriers_of x ≡ round_answered b round t (barriers_of w.barriers) → (a : Awaits) → round_in a ≡ round → trying_again (Says (Int (round_answer (barriers_of w.barriers) b round t))) a
    round_passed is changed =
        tried true (Says (Int (round_answer (barriers_of w.barriers) b round t))) tt tt is
        (λ s st. ap (λ (y : BarrierTable). Says (Int (round_answer y b round t))) st.control.barriers)
        (λ s st. record { shows = barred_shows w x (round_answered b round t) s.control st.control changed; store = st.store; silent = refl })
        (λ s no. absurd (cc no))
        (λ yes. (round_answer (barriers_of w.barriers) b round t, refl))

    -- it has not, and the thread waits on
    pub round_waits : has_passed (barriers_of w.barriers) b round ≡ false → x ≡ w.barriers → (a : Awaits) → round_in a ≡ round → trying_again (Blocks (Round b round)) a
    round_waits is same =
        tried false (Blocks (Round b round)) tt refl is
        (λ s st. refl)
        (λ s st. record { shows = barred_shows w x (λ y. y) s.control st.control (ap barriers_of same); store = st.store; silent = refl })
        (λ s no. refl)
        (λ yes. absurd (cc yes))
