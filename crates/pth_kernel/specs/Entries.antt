-- What entries of a trace bring, by kind.
use Rattle.std.specs.Prelude.{ℕ, ◌==◌, Bool, true, false, List, [], Option, Some, None}
use Rattle.pth_kernel.specs.declared.trace.Entry.{Entry}
use Rattle.pth_kernel.specs.declared.trace.Entry.TheVariants as entry

-- the bytes that can be read from then on
abbrev pub bytes_brought : Entry → List ℕ
bytes_brought (entry.Arrive bytes) = bytes
bytes_brought e = []

-- how many more bytes can be written
abbrev pub room_brought : Entry → ℕ
room_brought (entry.Room n) = n
room_brought e = 0

-- the descriptor of a connection that can be accepted
abbrev pub connection_brought : Entry → Option ℕ
connection_brought (entry.Conn g) = Some g.0
connection_brought e = None

-- whether a connect is taken or refused
abbrev pub settling_brought : Entry → Option Bool
settling_brought entry.Up = Some true
settling_brought entry.Refuse = Some false
settling_brought e = None

-- no bytes come any more
abbrev pub is_eof : Entry → Bool
is_eof entry.Eof = true
is_eof e = false

-- an exceptional condition, as urgent data
abbrev pub is_exception : Entry → Bool
is_exception entry.Exc = true
is_exception e = false

-- the descriptor fails from then on
abbrev pub is_failure : Entry → Bool
is_failure entry.Fault = true
is_failure e = false

-- bytes, or their end
abbrev pub is_input : Entry → Bool
is_input (entry.Arrive bytes) = true
is_input entry.Eof = true
is_input e = false

-- the connection of this descriptor
abbrev pub is_connection_of : ℕ → Option ℕ → Bool
is_connection_of f (Some g) = g == f
is_connection_of f None = false

abbrev pub brings : ℕ → Entry → Bool
brings f e = is_connection_of f (connection_brought e)
