use Rattle.std.proofs.Common.{◌≤◌, [], ◌∷◌, arith}
use Rattle.std.proofs.lemmas.List.Elements.{All-head, All-tail}
use Rattle.pth_laws.specs.Examples.{dispatched_after}
use Rattle.pth_laws.specs.InTime.{IsInTime}
use Rattle.pth_laws.proofs.in_time.in_time_refuses.Goals as goal

pub returns : goal.returns
returns c = λ h. let late : 3 ≤ 2 = All-head IsInTime (dispatched_after 3 2) [] (All-tail IsInTime (dispatched_after 2 2) (dispatched_after 3 2 ∷ []) h) in absurd (omega (arith, late))
