-- Scripts with further lines at the end of a body.
use Rattle.std.specs.Prelude.{◌≡◌, ◌<◌, ℕ, zero, suc, List, [], ◌∷◌, ◌++◌, length, slice_index_or}
use Rattle.pth_line.specs.Script.{Sections, functions_of}
use Rattle.pth_line.specs.declared.line.Line.{Line}
use Rattle.pth_operand.specs.declared.frame.Frame.{Frame}
use Rattle.pth_model.specs.declared.progress.Progress.{Progress}
use Rattle.pth_model.specs.Run.{run}
use Rattle.pth_model.specs.State.{Given}
use Rattle.pth_agreement.specs.Agreement.{AsksForCall, AgreesWithProgram}

-- these lines behind those of body b, if there is such a body
abbrev pub lines_added : ℕ → List Line → List (List Line) → List (List Line)
lines_added b lines [] = []
lines_added zero lines (x ∷ xs) = (x ++ lines) ∷ xs
lines_added (suc b) lines (x ∷ xs) = x ∷ lines_added b lines xs

abbrev pub longer : ℕ → List Line → Sections → Sections
longer b lines s = record s { bodies = lines_added b lines s.bodies }

abbrev pub given_longer : ℕ → List Line → Given Sections → Given Sections
given_longer b lines g = record g { program = longer b lines g.program }

-- how many lines body b has
abbrev pub lines_in : Sections → ℕ → ℕ
lines_in s b = length (slice_index_or s.bodies b [])

-- whenever a thread of body b asks for a call before part i, it stands at a line of that body, and not at its end
abbrev pub NeverAtEndUpTo : (b : ℕ) → Given Sections → (i : ℕ) → Type 0
NeverAtEndUpTo b g i =
    (j t : ℕ) (p : Progress Frame) → j < i → AsksForCall (run functions_of g j) t p
    → p.state.body ≡ b → p.state.line < lines_in g.program b

-- after i parts the run of the script with these lines more differs from the run only in its script
abbrev pub AgreesWithLines : (b : ℕ) → List Line → Given Sections → (i : ℕ) → Type 0
AgreesWithLines b lines g i = AgreesWithProgram functions_of g (longer b lines g.program) i
