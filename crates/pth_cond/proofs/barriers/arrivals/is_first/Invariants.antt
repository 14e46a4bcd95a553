use Rattle.std.proofs.Common.{◌≡◌, drop}
use Rattle.pth_cond.specs.Barriers.{is_headlight}
use Rattle.pth_cond.specs.Kept.{arrivals_of}
use Rattle.pth_cond.proofs.barriers.arrivals.is_first.Given as goal

abbrev pub invariant-loop-e : goal.invariant-loop-e
invariant-loop-e l = is_headlight l.t.0 l.round (arrivals_of (drop l.e-index l.entries)) ≡ is_headlight l.t.0 l.round (arrivals_of l.entries)
