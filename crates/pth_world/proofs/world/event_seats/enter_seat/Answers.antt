use Rattle.std.proofs.Common.{◌≡◌, sym, arith}
use Rattle.std.proofs.lemmas.Int.{ints}
use mir.Syntax.{w64}
use mir.Val.{to_z, of_z}
use Rattle.pth_cond.specs.Conditions.{conditions_of}
use Rattle.pth_world.proofs.EventSeats.{entered_nowhere}
use Rattle.pth_world.proofs.world.event_seats.enter_seat.Goals as goal

pub returns-in-Err-Fail : goal.returns-in-Err-Fail
returns-in-Err-Fail c =
    let is : to_z w64 (of_z w64 c.in-Cond.c) ≡ c.in-Cond.c = omega (arith, ints) in
    let answer = rw (c.in-Err-Fail.field-0-is, is) at c.in-Err-Fail.ensures.answer in
    rw (c.in-Cond.is, c.in-Err-Fail.ensures.refused) (sym (entered_nowhere (conditions_of c.args.conditions.now) c.in-Cond.c _ c.in-Err-Fail.field-0-0 answer))
