-- What a script is as a program.
use Rattle.std.specs.Prelude.{ℕ, ℤ, pos, List, [], length, Option, Some, None, Bool, false, slice_get, slice_set, option_and_then, replicate}
use Rattle.pth_base.specs.Program.{Functions, Acted}
use Rattle.pth_base.specs.declared.act.Act.{Act}
use Rattle.pth_base.specs.declared.act.Act.TheVariants as act
use Rattle.pth_operand.specs.Relations.{holds_between}
use Rattle.pth_line.specs.LineSteps.{stepped}
use Rattle.pth_operand.specs.Values.{value_in}
use Rattle.pth_line.specs.declared.act_line.ActLine.{ActLine}
use Rattle.pth_line.specs.declared.act_line.ActLine.TheVariants as line
use Rattle.pth_operand.specs.declared.cells.Cells.{Cells}
use Rattle.pth_line.specs.declared.check.Check.{Check}
use Rattle.pth_operand.specs.declared.frame.Frame.{Frame}
use Rattle.pth_operand.specs.declared.frame.Owed.TheVariants as owed
use Rattle.pth_line.specs.declared.line.Line.{Line}

-- the sections of a script
pub record Sections : Type 0 where
  pub handlers : List (List ActLine)
  pub checks : List Check
  pub bodies : List (List Line)

-- all shared registers are 0 at first
abbrev pub first_cells : Cells
first_cells = record { cells = replicate 64 (pos 0) }

-- a thread's registers are 0 at first, but `a0` is its argument
abbrev pub first_frame : ℕ → ℤ → Frame
first_frame body arg = record {
  body = body;
  line = 0;
  registers = slice_set (replicate 16 (pos 0)) 0 arg;
  error = pos 0;
  buffer = [];
  message = pos 0;
  owed = owed.Nothing;
}

-- a check that is not defined is false
abbrev pub checked : Option Check → ℤ → Cells → Bool
checked None arg c = false
checked (Some k) arg c = holds_between k.relation (value_in c arg k.left) (value_in c arg k.right)

-- an act with this argument
abbrev pub act_in : Cells → ℤ → ActLine → Act
act_in c arg (line.Note x) = act.Note (value_in c arg x)
act_in c arg (line.Set k x) = act.Set k (value_in c arg x)
act_in c arg (line.Release m) = act.Release (value_in c arg m)
act_in c arg (line.Notify x y) = act.Notify (value_in c arg x) (value_in c arg y)
act_in c arg (line.Put p x) = act.Put (value_in c arg p) (value_in c arg x)
act_in c arg (line.SetKey k x) = act.SetKey (value_in c arg k) (value_in c arg x)

-- the shared registers after it
abbrev pub cells_after : Cells → ℤ → ActLine → Cells
cells_after c arg (line.Set k x) = record { cells = slice_set c.cells k (value_in c arg x) }
cells_after c arg _ = c

-- an act where there is one, and the shared registers after it
abbrev pub acted : Option ActLine → ℤ → Cells → Acted Cells
acted None arg c = record { act = None; shared = c }
acted (Some l) arg c = record { act = Some (act_in c arg l); shared = cells_after c arg l }

-- the act of a handler at an index; a handler that is not defined has none
abbrev pub act_at : List (List ActLine) → ℕ → ℕ → Option ActLine
act_at handlers handler index = option_and_then (λ acts. slice_get acts index) (slice_get handlers handler)

-- a script as a program
unfoldable pub functions_of : Sections → Functions Frame Cells
functions_of s = record {
  shared = first_cells;
  bodies = length s.bodies;
  start = λ body arg. first_frame body arg;
  step = λ f c a. stepped s.bodies f c a;
  check = λ check arg c. checked (slice_get s.checks check) arg c;
  act = λ handler arg index c. acted (act_at s.handlers handler index) arg c;
}
