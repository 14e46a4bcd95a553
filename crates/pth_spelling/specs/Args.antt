-- The operands of calls.
use Rattle.std.specs.Prelude.{ℕ, ℤ, Bool, List, Option}
use Rattle.pth_base.specs.declared.attr.AttrField.{AttrField}
use Rattle.pth_base.specs.declared.thread.ThreadState.{ThreadState}
use Rattle.pth_spelling.specs.declared.keyword.NewEventWord.{NewEventWord}
use Rattle.pth_spelling.specs.declared.keyword.QueryWord.{QueryWord}

-- an operand of a call
pub data Arg : Type 0 where
  Number : ℤ → Arg
  MaybeNumber : Option ℤ → Arg
  Name : List ℕ → Arg
  MaybeName : Option (List ℕ) → Arg
  -- descriptors
  Set : ℕ → Arg
  -- the bytes that are written
  Bytes : List ℕ → Arg
  -- the sum of 1 for readable, 2 for writeable and 4 for exceptional
  Goals : ℕ → Arg
  -- whether all events of a ring are meant
  Which : Bool → Arg
  -- whether a lock is taken to write
  Mode : Bool → Arg
  -- whether a walk goes forward, and whether it goes on to an event that occurred
  Walk : Bool → Bool → Arg
  Field : AttrField → Arg
  State : ThreadState → Arg
  Query : QueryWord → Arg
  Event : NewEventWord → Arg
