use Rattle.std.proofs.Common.{◌≡◌, ◌-◌, ◌++◌, ℕ, List, length, option_map}
use Rattle.pth_explaining.specs.Circles.{circle_from, on_whom, way}
use Rattle.pth_explaining.proofs.circles.circle_from.Given as goal

abbrev pub invariant-loop : goal.invariant-loop
invariant-loop l =
    option_map (λ (ts : List ℕ). l.found.items ++ ts) (way (on_whom l.blocks) (length l.blocks - l.counter) l.t l.at)
    ≡ circle_from (on_whom l.blocks) (length l.blocks) l.t
