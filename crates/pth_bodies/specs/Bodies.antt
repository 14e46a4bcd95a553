-- Boxed bodies and rules, as functions, and the program that they are.
use Rattle.std.specs.Prelude.{◌≡◌, ℕ, ℤ, pos, Bool, List, length, replicate, slice_get, Option, Some, None}
use Rattle.pth_base.specs.Program.{Functions, Stepped, Acted}
use Rattle.pth_base.specs.declared.answer.Answer.{Answer}
use Rattle.pth_base.specs.declared.call.Call.TheVariants as call
use Rattle.pth_bodies.specs.declared.cells.Cells.{Cells}
use Rattle.pth_bodies.specs.declared.regs.Regs.{Regs}
use Rattle.pth_bodies.specs.declared.thread.Thread.{Thread}

-- a body: the first registers by the argument, and each next call by the registers, the cells and the answer
pub record BodyFunctions : Type 0 where
  pub entry : ℤ → Regs
  pub step : Regs → Cells → Answer → Stepped Regs Cells

-- checks and handlers, by their numbers and arguments
pub record RuleFunctions : Type 0 where
  pub check : ℕ → ℤ → Cells → Bool
  pub act : ℕ → ℤ → ℕ → Cells → Acted Cells

-- all cells are 0 at first
abbrev pub first_cells : Cells
first_cells = record { v = replicate 64 (pos 0) }

abbrev pub of_body : ℕ → Stepped Regs Cells → Stepped Thread Cells
of_body b x = record { call = x.call; state = record { body = b; regs = x.state }; shared = x.shared }

-- no thread has a body that is not there
abbrev pub no_regs : Regs
no_regs = record { place = 0; r = replicate 16 (pos 0) }

abbrev pub entry_by : ℤ → Option BodyFunctions → Regs
entry_by arg (Some b) = b.entry arg
entry_by arg None = no_regs

abbrev pub step_by : Thread → Cells → Answer → Option BodyFunctions → Stepped Thread Cells
step_by t cells a (Some b) = of_body t.body (b.step t.regs cells a)
step_by t cells a None = record { call = call.Exit (pos 0); state = t; shared = cells }

-- of bodies, of which body 0 is main's, and rules: each function is that of the body with the thread's number, or of the rules
unfoldable pub functions_of_bodies : List BodyFunctions → RuleFunctions → Functions Thread Cells
functions_of_bodies bodies rules = record {
  shared = first_cells;
  bodies = length bodies;
  start = λ b arg. record { body = b; regs = entry_by arg (slice_get bodies b) };
  step = λ t cells a. step_by t cells a (slice_get bodies t.body);
  check = rules.check;
  act = rules.act;
}
