-- What a read does as things are.
use Rattle.std.specs.Prelude.{ℕ, List, take, Option, Some, None}
use Rattle.pth_base.specs.declared.answer.Answer.{Answer}
use Rattle.pth_base.specs.declared.answer.Answer.TheVariants.{Bytes, Fail}
use Rattle.pth_io.specs.declared.transfers.Reading.{Reading}
use Rattle.pth_io.specs.declared.transfers.Reading.TheVariants as reading

-- its answer, where these bytes are left
abbrev pub reads : Reading → List ℕ → Option Answer
reads (reading.Fails e) left = Some (Fail e)
reads (reading.Takes n) left = Some (Bytes (take n left))
reads reading.Waits left = None

-- the answer is bytes, which take memory
abbrev pub HandsOut : Option Answer → Type 0
HandsOut (Some (Bytes bs)) = Unit {0}
HandsOut _ = ⊥

-- how many bytes it takes
abbrev pub taken : Reading → ℕ
taken (reading.Fails e) = 0
taken (reading.Takes n) = n
taken reading.Waits = 0
