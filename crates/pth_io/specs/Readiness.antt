-- What a set of descriptors waits for, and the members of a set.
use Rattle.std.specs.Prelude.{◌≡◌, ℕ, Bool, List, length}
use Rattle.pth_base.specs.Descriptors.{set_with}
use Rattle.pth_io.specs.declared.readiness.Readiness.{Readiness}
use Rattle.pth_io.specs.declared.readiness.Readiness.TheVariants as readiness
use Rattle.pth_io.specs.declared.readiness.Found.{Found}
use Rattle.pth_kernel.specs.Kernel.{Kernel, is_readable, is_writeable, is_exceptional}

-- a descriptor is as it waits for
abbrev pub is_ready : Readiness → Kernel → ℕ → Bool
is_ready readiness.Readable = is_readable
is_ready readiness.Writeable = is_writeable
is_ready readiness.Exceptional = is_exceptional

-- a set and its number of members are those of a list
pub record IsFound (found : Found) (fs : List ℕ) : Type 0 where
  pub set : found.set.0 ≡ set_with fs
  pub count : found.count ≡ length fs
