-- The lines of faults, and the status of each.
use Rattle.std.specs.Prelude.{ℕ, List, ◌++◌, codes, decimal}
use Rattle.pth_text.specs.declared.rule.Breach.TheVariants.{Limit, Of}
use Rattle.pth_text.specs.declared.rule.Rule.TheVariants as rule
use Rattle.pth_print.specs.declared.fault_line.Fault.{Fault}
use Rattle.pth_print.specs.declared.fault_line.Fault.TheVariants as fault
use Rattle.pth_print.specs.declared.fault_line.Flaw.{Flaw}
use Rattle.pth_print.specs.declared.fault_line.Flaw.TheVariants.{Breaks, NoTranscript}

-- what is wrong in a line
abbrev pub flaw_name : Flaw → List ℕ
flaw_name NoTranscript = codes "no transcript"
flaw_name (Breaks Limit) = codes "limit"
flaw_name (Breaks (Of rule.Cut)) = codes "cut"
flaw_name (Breaks (Of rule.Header)) = codes "header"
flaw_name (Breaks (Of rule.Word)) = codes "word"
flaw_name (Breaks (Of rule.Count)) = codes "count"
flaw_name (Breaks (Of rule.Operand)) = codes "operand"
flaw_name (Breaks (Of rule.Hex)) = codes "hex"
flaw_name (Breaks (Of rule.Number)) = codes "number"
flaw_name (Breaks (Of rule.Label)) = codes "label"
flaw_name (Breaks (Of rule.Main)) = codes "main"
flaw_name (Breaks (Of rule.End)) = codes "end"
flaw_name (Breaks (Of rule.Time)) = codes "time"
flaw_name (Breaks (Of rule.Fd)) = codes "fd"

-- the number of a line that is refused, and why
abbrev pub refused_line : ℕ → Flaw → List ℕ
refused_line line flaw = codes ": line " ++ (decimal line ++ (codes ": " ++ (flaw_name flaw ++ codes "\n")))

-- what is told of a fault
abbrev pub told_fault : Fault → List ℕ
told_fault fault.Words = codes ": words refused\n"
told_fault (fault.Input line flaw) = refused_line line flaw
told_fault fault.ReadFault = codes ": read fault\n"
told_fault fault.WriteFault = codes ": write fault\n"
told_fault fault.OutOfMemory = codes ": out of memory\n"

-- the line of a fault, behind the name of the program
abbrev pub fault_line : (program : List ℕ) → Fault → List ℕ
fault_line program f = program ++ told_fault f

-- the status of a fault
abbrev pub fault_status : Fault → ℕ
fault_status fault.Words = 2
fault_status (fault.Input line flaw) = 3
fault_status fault.ReadFault = 4
fault_status fault.WriteFault = 5
fault_status fault.OutOfMemory = 7
