use Rattle.std.proofs.Common.{◌≡◌, ◌++◌, drop, flat_map}
use Rattle.pth_explaining.specs.Waits.{wait_line}
use Rattle.pth_explaining.proofs.explanation.add_each.Given as goal

abbrev pub invariant-loop-wait : goal.invariant-loop-wait
invariant-loop-wait l =
    l.out ++ flat_map (wait_line l.marks l.alive l.waits) (drop l.wait-index l.waits)
    ≡ l.initial.out ++ flat_map (wait_line l.marks l.alive l.waits) l.waits
