-- Numbers as they stand in a line.
use Rattle.std.specs.Prelude.{ℤ, pos}
use Rattle.pth_snapshot.specs.declared.number.Number.{Number}
use Rattle.pth_snapshot.specs.declared.number.Number.TheVariants.{Natural, Signed}

abbrev pub number_of : Number → ℤ
number_of (Natural n) = pos n
number_of (Signed z) = z
