use Rattle.std.proofs.Common.{◌≡◌, ◌++◌, map, take, drop}
use Rattle.pth_cond.proofs.Seating.{marked_all}
use Rattle.pth_cond.proofs.seats.mark_rest.Given as goal

abbrev pub invariant-loop-i : goal.invariant-loop-i
invariant-loop-i l = l.taken ≡ map marked_all (take l.i l.initial.taken) ++ drop l.i l.initial.taken
