-- What a line of a body does.
use Rattle.std.specs.Prelude.{ℕ, pos, ◌+◌, ◌+ℤ◌, List, Option, Some, None, slice_get, option_and_then, if◌then◌else◌}
use Rattle.std.specs.Int.{w64, saturate_signed}
use Rattle.pth_base.specs.Program.{Stepped}
use Rattle.pth_base.specs.declared.answer.Answer.{Answer}
use Rattle.pth_base.specs.declared.call.Call.{Call}
use Rattle.pth_base.specs.declared.call.Call.TheVariants as call
use Rattle.pth_operand.specs.LastAnswer.{heard}
use Rattle.pth_line.specs.CallLines.{call_in}
use Rattle.pth_operand.specs.Relations.{holds_between}
use Rattle.pth_operand.specs.Values.{Scope, scope, register_in, put_register, operand_in}
use Rattle.pth_operand.specs.declared.cells.Cells.{Cells}
use Rattle.pth_operand.specs.declared.frame.Frame.{Frame}
use Rattle.pth_operand.specs.declared.frame.Owed.TheVariants as owed
use Rattle.pth_line.specs.declared.line.Line.{Line}
use Rattle.pth_operand.specs.declared.operand.Register.{Register}
use Rattle.pth_line.specs.declared.line.Line.TheVariants as line

-- the thread goes to a line
abbrev pub at_line : ℕ → Scope → Scope
at_line n s = record s { frame = record s.frame { line = n } }

-- it goes to the next line
abbrev pub at_next_line : Scope → Scope
at_next_line s = at_line (s.frame.line + 1) s

-- a call, and what is left after it
abbrev pub gives : Call → Scope → Stepped Frame Cells
gives c s = record { call = c; state = s.frame; shared = s.cells }

-- the answer of the call is to be kept
abbrev pub answer_awaited : Option Register → Scope → Scope
answer_awaited r s = record s { frame = record s.frame { owed = owed.Answer r } }

-- what a line does in a thread that is past it; `add` stays at the ends of 64 bits, and `goto` goes to the line after its label where the relation holds
abbrev pub does : Line → Scope → Stepped Frame Cells
does (line.Set r x) s = gives call.Plain (put_register s r (operand_in s x))
does (line.Add r x) s = gives call.Plain (put_register s r (saturate_signed w64 (register_in s r +ℤ operand_in s x)))
does (line.Note x) s = gives (call.Note (operand_in s x)) s
does (line.Label k) s = gives call.Plain s
does (line.Goto k to x relation y) s = gives call.Plain (if holds_between relation (operand_in s x) (operand_in s y) then at_line to s else s)
does (line.Call r c) s = gives (call_in s c) (answer_awaited r s)

-- a line is one step; after the last line of a body the thread ends with 0
abbrev pub does_next : Option Line → Scope → Stepped Frame Cells
does_next (Some l) s = does l (at_next_line s)
does_next None s = gives (call.Exit (pos 0)) s

-- the line at which a thread stands, and none after the last of its body
abbrev pub line_at : List (List Line) → Frame → Option Line
line_at bodies f = option_and_then (λ lines. slice_get lines f.line) (slice_get bodies f.body)

-- a step keeps the answer of the thread's last call, and does the next line
unfoldable pub stepped : List (List Line) → Frame → Cells → Answer → Stepped Frame Cells
stepped bodies f c a = let s = heard a (scope f c) in does_next (line_at bodies s.frame) s
