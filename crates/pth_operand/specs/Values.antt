-- What registers and operands stand for.
use Rattle.std.specs.Prelude.{ℕ, ℤ, pos, List, slice_index_or, slice_set}
use Rattle.pth_operand.specs.declared.operand.Register.{Register}
use Rattle.pth_operand.specs.declared.operand.Register.TheVariants as reg
use Rattle.pth_operand.specs.declared.operand.Operand.{Operand}
use Rattle.pth_operand.specs.declared.operand.Operand.TheVariants as operand
use Rattle.pth_operand.specs.declared.operand.Value.{Value}
use Rattle.pth_operand.specs.declared.operand.Value.TheVariants as value
use Rattle.pth_operand.specs.declared.operand.ByteOperand.{ByteOperand}
use Rattle.pth_operand.specs.declared.operand.ByteOperand.TheVariants as bytes
use Rattle.pth_operand.specs.declared.frame.Frame.{Frame}
use Rattle.pth_operand.specs.declared.cells.Cells.{Cells}

-- what a thread's line reads and writes: its own frame, and what all threads share
pub record Scope : Type 0 where
  pub frame : Frame
  pub cells : Cells

-- of a frame and the shared registers
abbrev pub scope : Frame → Cells → Scope
scope f c = record { frame = f; cells = c }

-- what a register holds
abbrev pub register_in : Scope → Register → ℤ
register_in v (reg.Own k) = slice_index_or v.frame.registers k (pos 0)
register_in v (reg.Shared k) = slice_index_or v.cells.cells k (pos 0)

-- with a number in a register
abbrev pub put_register : Scope → Register → ℤ → Scope
put_register v (reg.Own k) n = record v { frame = record v.frame { registers = slice_set v.frame.registers k n } }
put_register v (reg.Shared k) n = record v { cells = record { cells = slice_set v.cells.cells k n } }

-- the number of an operand
abbrev pub operand_in : Scope → Operand → ℤ
operand_in v (operand.Number n) = n
operand_in v (operand.Register r) = register_in v r
operand_in v operand.Error = v.frame.error

-- the bytes of an operand
abbrev pub bytes_in : Frame → ByteOperand → List ℕ
bytes_in f bytes.Buffer = f.buffer
bytes_in f (bytes.Given b) = b

-- the number of a value, where the handler or check has this argument
abbrev pub value_in : Cells → ℤ → Value → ℤ
value_in c arg (value.Number n) = n
value_in c arg (value.Shared k) = slice_index_or c.cells k (pos 0)
value_in c arg value.Argument = arg
