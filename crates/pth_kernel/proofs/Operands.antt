-- What an operand is where it is passed on, and which of them name no descriptor.
use Rattle.std.proofs.Common.{◌≡◌, ◌≤◌, ℤ, pos, negsuc, ◌<ℤ◌, ◌≤ℤ◌, nat_abs, SFits, to_z-of_z, arith}
use Rattle.std.proofs.lemmas.Int.{ints}
use mir.Syntax.{w64}
use mir.Val.{to_z, of_z}
use Rattle.pth_base.specs.Descriptors.{descriptor_limit}
use Rattle.pth_kernel.specs.Kernel.{fd_named}

pub same_operand : (z : ℤ) → SFits w64 z → to_z w64 (of_z w64 z) ≡ z
same_operand z fits = to_z-of_z fits

pub below_past : (f : ℤ) → f <ℤ pos 0 → descriptor_limit ≤ fd_named f
below_past (pos n) low = absurd (omega (arith, ints))
below_past (negsuc n) low = omega arith

pub above_past : (f : ℤ) → pos 0 ≤ℤ f → descriptor_limit ≤ nat_abs f → descriptor_limit ≤ fd_named f
above_past (pos n) low high = high
above_past (negsuc n) low high = absurd (omega (arith, ints))
