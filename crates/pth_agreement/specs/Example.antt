-- Two runs each, as the definitions compute them: of a script of one line and of the same script with one line more; with a stamp and
-- without; and with a descriptor that is open and with one that is not.
use Rattle.std.specs.Prelude.{ℕ, pos, List, [], ◌∷◌}
use Rattle.pth_base.specs.declared.answer.Answer.TheVariants.{Fail}
use Rattle.pth_base.specs.declared.call.Call.TheVariants.{Read}
use Rattle.pth_base.specs.declared.errno.Errno.TheVariants.{EBADF}
use Rattle.pth_base.specs.declared.mark.Mark.{Mark}
use Rattle.pth_base.specs.declared.mark.Mark.TheVariants.{Dispatch, Noted, Answered, Waits, Ended}
use Rattle.pth_kernel.specs.Kernel.{started}
use Rattle.pth_line.specs.Script.{Sections}
use Rattle.pth_line.specs.declared.line.Line.{Line}
use Rattle.pth_line.specs.declared.line.Line.TheVariants.{Note}
use Rattle.pth_model.specs.Example.{given_a_byte}
use Rattle.pth_model.specs.State.{Given}
use Rattle.pth_model.specs.Transition.{tid}
use Rattle.pth_operand.specs.declared.operand.Operand.TheVariants.{Number}
use Rattle.pth_agreement.specs.Scripts.{longer}
use Rattle.pth_agreement.specs.Traces.{given_trace}

-- main notes a number
abbrev pub notes : ℕ → Line
notes n = Note (Number (pos n))

abbrev pub one_note : Given Sections
one_note = record { program = record { handlers = []; checks = []; bodies = (notes 5 ∷ []) ∷ [] }; kernel = started 1 0 []; top = 5 }

-- and then another
abbrev pub two_notes : Given Sections
two_notes = record one_note { program = longer 0 (notes 6 ∷ []) one_note.program }

-- as main comes to the end of the one line, both have told this
abbrev pub noted : List Mark
noted = Dispatch 1 0 (tid 1) (pos 0) 0 6 ∷ Noted (tid 1) (pos 5) ∷ []

-- in the next part the first main ends, and the second notes again
abbrev pub ended_there : List Mark
ended_there = Dispatch 1 0 (tid 1) (pos 0) 0 6 ∷ Noted (tid 1) (pos 5) ∷ Ended (tid 1) (pos 0) ∷ []

abbrev pub noted_again : List Mark
noted_again = Dispatch 1 0 (tid 1) (pos 0) 0 6 ∷ Noted (tid 1) (pos 5) ∷ Noted (tid 1) (pos 6) ∷ []

-- ---- a main that reads from descriptor 3, and then ends (`reading_bodies`)

-- descriptor 3 is open, and nothing comes to it; with one stamp more a byte comes at moment 5 (`given_a_byte`)
abbrev pub given_nothing : Given ℕ
given_nothing = given_trace [] given_a_byte

-- if descriptor 3 is not open, the call is refused; if it is open from the start, main waits
abbrev pub refused_there : List Mark
refused_there = Dispatch 1 0 (tid 1) (pos 0) 0 6 ∷ Answered (tid 1) (Read (pos 3) (pos 10)) (Fail EBADF) ∷ []

abbrev pub waits_there : List Mark
waits_there = Dispatch 1 0 (tid 1) (pos 0) 0 6 ∷ Waits (tid 1) (Read (pos 3) (pos 10)) ∷ []
