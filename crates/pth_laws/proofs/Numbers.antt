-- Numbers that name things.
use Rattle.std.proofs.Common.{◌≡◌, ◌<◌, ℤ, pos, negsuc, true, refl, ap, arith}
use Rattle.std.proofs.lemmas.Bool.{false≢true}
use Rattle.pth_base.proofs.Tables.{same_means}
use Rattle.pth_lock.specs.Objects.{object_limit, object_named}
use Rattle.pth_laws.specs.Marks.{is_same}

pub same_number : (m n : ℤ) → is_same m n ≡ true → m ≡ n
same_number (pos m) (pos n) h = ap pos (same_means m n h)
same_number (pos m) (negsuc n) h = absurd (false≢true h)
same_number (negsuc m) (pos n) h = absurd (false≢true h)
same_number (negsuc m) (negsuc n) h = ap negsuc (same_means m n h)

-- an operand that names an object is its number
pub named_object : (m : ℤ) → object_named m < object_limit → m ≡ pos (object_named m)
named_object (pos o) below = refl
named_object (negsuc o) below = absurd (omega (arith, below))
