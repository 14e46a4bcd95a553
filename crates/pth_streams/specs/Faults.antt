-- Counts of faults, and what an answer says of the count of an object.
use Rattle.std.specs.Prelude.{◌≡◌, ◌+◌, ◌-◌, ◌^◌, ℕ, min, Result, Ok, Err}
use Rattle.pth_streams.specs.declared.source.ReadFault.{ReadFault}
use Rattle.pth_streams.specs.declared.source.ReadFault.TheVariants as read
use Rattle.pth_streams.specs.declared.sink.SinkErr.{SinkErr}
use Rattle.pth_streams.specs.declared.sink.SinkErr.TheVariants as sink

-- one fault more was counted; the count stands still at the last value of a `u64`
abbrev pub Rose : ℕ → ℕ → Type 0
Rose before now = now ≡ min (before + 1) (2 ^ 64 - 1)

-- the count rises by one exactly where the call fails
abbrev pub Counts : {T E : Type 0} → ℕ → ℕ → Result T E → Type 0
Counts before now (Ok x) = now ≡ before
Counts before now (Err e) = Rose before now

-- the same for a sink, where want of memory is no fault
abbrev pub CountsSink : {T : Type 0} → ℕ → ℕ → Result T SinkErr → Type 0
CountsSink before now (Ok x) = now ≡ before
CountsSink before now (Err sink.Failed) = Rose before now
CountsSink before now (Err sink.OutOfMemory) = now ≡ before

-- the count of faults rises by one if a read failed, and stands still otherwise
abbrev pub CountsRead : {T : Type 0} → ℕ → ℕ → Result T ReadFault → Type 0
CountsRead before now (Ok x) = now ≡ before
CountsRead before now (Err read.Failed) = Rose before now
CountsRead before now (Err read.OutOfMemory) = now ≡ before
