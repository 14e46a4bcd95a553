use Rattle.std.proofs.Common.{◌≡◌, ◌∙◌, sym, arith}
use Rattle.std.proofs.lemmas.Bool.Decides.{nat_tests}
use Rattle.pth_cond.proofs.EventSeats.{no_event_is_seated}
use Rattle.pth_cond.proofs.conditions.Conds.has_event_seats.Goals as goal

pub returns-clause-none : goal.returns-clause-none
returns-clause-none c none =
    let zero : c.self.inside.event_seats ≡ 0 = grind (arith, nat_tests) in
    rw (← c.self.view_is) (no_event_is_seated c.self.inside.conditions (sym c.self.invariant.count ∙ zero))
