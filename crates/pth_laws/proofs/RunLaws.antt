-- Every run meets the laws of runs, and a beginning of marks that meet the laws of marks meets them.
use Rattle.std.proofs.Common.{◌≡◌, ◌∙◌, ℕ, List, [], ◌∷◌, ◌++◌, ap, append_assoc}
use Rattle.std.proofs.lemmas.List.Elements.{All-cons, All-head, All-nil, All-tail}
use Rattle.pth_base.specs.Program.{Functions}
use Rattle.pth_base.specs.declared.mark.Mark.{Mark}
use Rattle.pth_model.specs.Run.{run}
use Rattle.pth_model.specs.State.{Given}
use Rattle.pth_laws.specs.Exclusive.{IsExclusiveAt}
use Rattle.pth_laws.specs.InOrder.{IsInOrderAt, queue}
use Rattle.pth_laws.specs.InTime.{InTime, IsInTime}
use Rattle.pth_laws.specs.Initialised.{IsInitialisedAt}
use Rattle.pth_laws.specs.Orderly.{IsOrderlyAt}
use Rattle.pth_laws.specs.RunLaws.{MeetsMarkLaws, MeetsRunLaws}
use Rattle.pth_laws.proofs.Arrivals.{run_arrived}
use Rattle.pth_laws.proofs.Claimed.{run_held}
use Rattle.pth_laws.proofs.EventsSeated.{run_events}
use Rattle.pth_laws.proofs.EveryRun.{run_clean, run_exclusive, run_in_order, run_initialised, run_orderly, run_tied, run_valid}
use Rattle.pth_laws.proofs.HaveArrived.{run_arrives}
use Rattle.pth_laws.proofs.HaveSeats.{run_has_seats}
use Rattle.pth_laws.proofs.InTime.{run_in_time}
use Rattle.pth_laws.proofs.PendingRings.{run_pending}
use Rattle.pth_laws.proofs.Seated.{run_seats}

pub run_meets_laws : {P S H : Type 0} (f : P → Functions S H) (g : Given P) (i : ℕ) → MeetsRunLaws (run f g i)
run_meets_laws f g i = record {
  marks = record {
    in_time = run_in_time f g i;
    orderly = run_orderly f g i;
    exclusive = run_exclusive f g i;
    initialised = run_initialised f g i;
    in_order = run_in_order f g i;
  };
  tied = λ on. run_tied f g i on;
  valid = λ on. run_valid f g i on;
  clean = λ on. run_clean f g i on (λ b round t h. run_arrived f g i b round t h) (λ c t h. run_seats f g i c t h) (λ c e h. run_events f g i c e h);
  kept = record {
    claim = (run_held f g i).held;
    pending = run_pending f g i;
    arrival = run_arrives f g i;
    seat = run_has_seats f g i;
  };
}

-- ---- a beginning

begins_in_time : (marks rest : List Mark) → InTime (marks ++ rest) → InTime marks
begins_in_time [] rest h = All-nil IsInTime
begins_in_time (m ∷ ms) rest h = All-cons IsInTime m ms (All-head IsInTime m (ms ++ rest) h) (begins_in_time ms rest (All-tail IsInTime m (ms ++ rest) h))

-- what is said wherever a mark stands, by the marks before it, is said of a beginning
begins_said : (A : List Mark → Mark → Type 0) (marks rest : List Mark)
    → ((before later : List Mark) (m : Mark) → marks ++ rest ≡ before ++ m ∷ later → A before m)
    → (before later : List Mark) (m : Mark) → marks ≡ before ++ m ∷ later → A before m
begins_said A marks rest said before later m e = said before (later ++ rest) m (ap (λ (ms : List Mark). ms ++ rest) e ∙ append_assoc before (m ∷ later) rest)

pub beginning_meets_laws : (marks rest : List Mark) → MeetsMarkLaws (marks ++ rest) → MeetsMarkLaws marks
beginning_meets_laws marks rest laws = record {
  in_time = begins_in_time marks rest laws.in_time;
  orderly = begins_said IsOrderlyAt marks rest laws.orderly;
  exclusive = begins_said IsExclusiveAt marks rest laws.exclusive;
  initialised = begins_said IsInitialisedAt marks rest laws.initialised;
  in_order = begins_said (λ before m. IsInOrderAt (queue before) m) marks rest laws.in_order;
}
