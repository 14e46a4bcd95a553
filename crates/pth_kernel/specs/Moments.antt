-- The least of some moments that is still to come.
use Rattle.std.specs.Prelude.{ℕ, ◌&&◌, nat_lt, nat_le, min, List, [], ◌∷◌, Option, Some, None, if◌then◌else◌}
use Rattle.pth_base.specs.Limits.{last_moment}

abbrev pub least_by : ℕ → Option ℕ → Option ℕ
least_by m None = Some m
least_by m (Some n) = Some (min m n)

-- the least of these moments that is later than now: no call names one after the last
abbrev pub least_after : ℕ → List ℕ → Option ℕ
least_after now [] = None
least_after now (m ∷ ms) = if nat_lt now m && nat_le m last_moment then least_by m (least_after now ms) else least_after now ms
