use Rattle.std.proofs.Common.{◌≡◌, drop}
use Rattle.std.specs.List.{list_any}
use Rattle.pth_cond.specs.Seats.{is_at}
use Rattle.pth_cond.proofs.seats.stands_among.Given as goal

abbrev pub invariant-loop-t : goal.invariant-loop-t
invariant-loop-t l = list_any (is_at l.seat) (drop l.t-index l.taken) ≡ list_any (is_at l.seat) l.taken
