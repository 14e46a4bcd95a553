-- When a barrier can take no arrival more.
use Rattle.std.specs.Prelude.{◌≡◌, ◌≤◌, ℤ, Some}
use Rattle.pth_cond.specs.Barriers.{Barrier, BarrierTable, round_number_limit}
use Rattle.pth_lock.specs.Objects.{object_named}

-- its rounds have no number left: it would be 2^62
pub record AreRoundsOver (x : BarrierTable) (b : ℤ) : Type 0 where
  pub barrier : Barrier
  pub there : x (object_named b) ≡ Some barrier
  pub over : round_number_limit ≤ barrier.round
