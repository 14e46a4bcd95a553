-- Mutexes, read-write locks, conditions and barriers as calls name them, by numbers.
use Rattle.std.specs.Prelude.{ℕ, ℤ, pos, negsuc, Bool, nat_lt}

-- how many objects there are of each kind
abbrev pub object_limit : ℕ
object_limit = 64

-- the object that an operand names: a negative one names none
abbrev pub object_named : ℤ → ℕ
object_named (pos o) = o
object_named (negsuc o) = object_limit

-- an operand names an object
abbrev pub is_object : ℤ → Bool
is_object o = nat_lt (object_named o) object_limit
