-- The fault that an error of a part is, and how a fault is reported.
use Rattle.std.specs.Prelude.{◌≡◌, ◌⊎◌, ℕ, List}
use Rattle.pth_print.specs.FaultLines.{fault_line, fault_status}
use Rattle.pth_print.specs.declared.fault_line.Fault.{Fault}
use Rattle.pth_print.specs.declared.fault_line.Fault.TheVariants as fault
use Rattle.pth_streams.specs.Pieces.{AppendsPrefix, Received, WritesLine}
use Rattle.pth_streams.specs.declared.arguments.ArgumentsErr.{ArgumentsErr}
use Rattle.pth_streams.specs.declared.arguments.ArgumentsErr.TheVariants as arguments
use Rattle.pth_streams.specs.declared.sink.SinkErr.{SinkErr}
use Rattle.pth_streams.specs.declared.sink.SinkErr.TheVariants as sink
use Rattle.pth_streams.specs.declared.source.ReadFault.{ReadFault}
use Rattle.pth_streams.specs.declared.source.ReadFault.TheVariants as read

-- of words that were not read
abbrev pub fault_of_arguments : ArgumentsErr → Fault
fault_of_arguments arguments.NotUtf8 = fault.Words
fault_of_arguments arguments.OutOfMemory = fault.OutOfMemory

-- of a read
abbrev pub fault_of_read : ReadFault → Fault
fault_of_read read.Failed = fault.ReadFault
fault_of_read read.OutOfMemory = fault.OutOfMemory

-- of a write
abbrev pub fault_of_write : SinkErr → Fault
fault_of_write sink.Failed = fault.WriteFault
fault_of_write sink.OutOfMemory = fault.OutOfMemory

-- a fault of a program is reported by its status and its line, or memory ran out for the line
abbrev pub Reports : (program : List ℕ) → Fault → (status : ℕ) → Received → Received → Type 0
Reports program f status old new =
    ((status ≡ fault_status f) × WritesLine old new (fault_line program f))
    ⊎ ((status ≡ 7) × (AppendsPrefix old.written new.written (fault_line program f) × (new.faults ≡ old.faults)))
