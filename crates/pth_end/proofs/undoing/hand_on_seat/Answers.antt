use Rattle.std.proofs.Common.{refl, rules, SFits, w64, to_z-of_z, sym, subst}
use Rattle.pth_cond.specs.Conditions.{seat_handed_on}
use Rattle.pth_model.specs.Conditions.{hands_on_seat, seat_of}
use Rattle.pth_model.specs.State.{Control}
use Rattle.pth_world.proofs.Conditions.{seated_shows}
use Rattle.pth_world.specs.Shows.{Shows}
use Rattle.pth_end.proofs.WaitUndone.{no_seat}
use Rattle.pth_end.proofs.undoing.hand_on_seat.Goals as goal

pub returns-in-Notice-clause-shows : goal.returns-in-Notice-clause-shows
unfolding hands_on_seat
returns-in-Notice-clause-shows g c =
    let x : SFits w64 c.in-Notice.c = search rules in
    let changes = rw (c.conditions_mut.ensures.value, to_z-of_z) at c.hand_on.ensures in
    rw c.in-Notice.is (λ k sh. seated_shows c.args.w.now c.hand_on.new.self (seat_handed_on c.in-Notice.c (seat_of c.args.t.0)) k sh changes)

pub returns-in_default : goal.returns-in_default
returns-in_default g c = record {
  shows = λ k sh. subst (λ (j : Control _ _ _). Shows c.args.w.now j) (sym (no_seat c.args.t.0 c.args.awaits k c.in_default.not-Notice)) sh;
  same = refl;
}
