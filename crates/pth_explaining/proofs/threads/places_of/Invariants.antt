use Rattle.std.proofs.Common.{◌≡◌, drop}
use Rattle.pth_explaining.specs.Threads.{places_from, places_of}
use Rattle.pth_explaining.proofs.threads.places_of.Given as goal

abbrev pub invariant-loop-index : goal.invariant-loop-index
invariant-loop-index l = places_from l.index l.clock l.places.entries (drop l.index l.marks) ≡ places_of l.marks
