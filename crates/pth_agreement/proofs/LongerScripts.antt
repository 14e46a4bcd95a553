-- A script with further lines at the end of a body: which steps give the same.
use Rattle.std.proofs.Common.{◌≡◌, ◌<◌, ℕ, zero, suc, List, [], ◌∷◌, ◌++◌, length, slice_get, slice_index_or, option_and_then, Option, Some, None, ℤ, refl, ap, sym, ◌∙◌, subst, not-suc-le-zero, le_of_suc-le-suc, ◌≤◌, zero-le, suc-le-suc, le_refl, lt_trans, lt_of_lt_of_le}
use Rattle.pth_base.specs.declared.answer.Answer.{Answer}
use Rattle.pth_base.specs.declared.answer.Answer.TheVariants as answer
use Rattle.pth_line.specs.LineSteps.{stepped, does_next}
use Rattle.pth_line.specs.Script.{Sections, functions_of}
use Rattle.pth_line.specs.declared.line.Line.{Line}
use Rattle.pth_operand.specs.LastAnswer.{kept, number_of_answer, heard, heard_for, heard_into, held}
use Rattle.pth_operand.specs.Values.{Scope, scope, put_register}
use Rattle.pth_operand.specs.declared.cells.Cells.{Cells}
use Rattle.pth_operand.specs.declared.frame.Frame.{Frame}
use Rattle.pth_operand.specs.declared.frame.Owed.{Owed}
use Rattle.pth_operand.specs.declared.frame.Owed.TheVariants as owed
use Rattle.pth_operand.specs.declared.operand.Register.{Register}
use Rattle.pth_operand.specs.declared.operand.Register.TheVariants as reg
use Rattle.pth_model.specs.Course.{Course}
use Rattle.pth_model.specs.Part.{next_part}
use Rattle.pth_model.specs.declared.progress.Progress.{Progress}
use Rattle.pth_model.specs.Run.{run}
use Rattle.pth_model.specs.State.{Given}
use Rattle.pth_agreement.specs.Agreement.{AsksForCall, with_program}
use Rattle.pth_agreement.specs.Scripts.{lines_added, longer, given_longer, NeverAtEndUpTo, AgreesWithLines}
use Rattle.pth_agreement.proofs.WholeRuns.{programs_agree}

-- as many bodies, and the same lines but at the end of body b
as_many : (b : ℕ) (lines : List Line) (bodies : List (List Line)) → length (lines_added b lines bodies) ≡ length bodies
as_many b lines [] = refl
as_many zero lines (x ∷ xs) = refl
as_many (suc b) lines (x ∷ xs) = ap suc (as_many b lines xs)

same_before : (x lines : List Line) (n : ℕ) → n < length x → slice_get (x ++ lines) n ≡ slice_get x n
same_before [] lines n before = absurd (not-suc-le-zero before)
same_before (y ∷ x) lines zero before = refl
same_before (y ∷ x) lines (suc n) before = same_before x lines n (le_of_suc-le-suc before)

-- the line at which a thread stands
abbrev line_of : List (List Line) → (body line : ℕ) → Option Line
line_of bodies body line = option_and_then (λ lines. slice_get lines line) (slice_get bodies body)

same_line : (b : ℕ) (lines : List Line) (bodies : List (List Line)) (body n : ℕ) → (body ≡ b → n < length (slice_index_or bodies b [])) → line_of (lines_added b lines bodies) body n ≡ line_of bodies body n
same_line b lines [] body n before = refl
same_line zero lines (x ∷ xs) zero n before = same_before x lines n (before refl)
same_line zero lines (x ∷ xs) (suc body) n before = refl
same_line (suc b) lines (x ∷ xs) zero n before = refl
same_line (suc b) lines (x ∷ xs) (suc body) n before = same_line b lines xs body n (λ same. before (ap suc same))

-- where a thread stands as it heard an answer
abbrev StaysAt : Scope → Scope → Type 0
StaysAt s u = (u.frame.body ≡ s.frame.body) × (u.frame.line ≡ s.frame.line)

held_stays : (a : Answer) (f : Frame) → ((held a f).body ≡ f.body) × ((held a f).line ≡ f.line)
held_stays (answer.Bytes b) f = (refl, refl)
held_stays (answer.Msg m v) f = (refl, refl)
held_stays a f = (refl, refl)

put_stays : (s : Scope) (r : Register) (n : ℤ) → StaysAt s (put_register s r n)
put_stays s (reg.Own k) n = (refl, refl)
put_stays s (reg.Shared k) n = (refl, refl)

into_stays : (r : Option Register) (a : Answer) (s : Scope) → StaysAt s (heard_into r a s)
into_stays None a s = held_stays a s.frame
into_stays (Some r) a s = let put = put_stays (kept a s) r (number_of_answer a) in let h = held_stays a s.frame in (put.0 ∙ h.0, put.1 ∙ h.1)

for_stays : (o : Owed) (a : Answer) (s : Scope) → StaysAt s (heard_for o a s)
for_stays owed.Nothing a s = (refl, refl)
for_stays (owed.Answer r) a s = into_stays r a s

heard_stays : (a : Answer) (s : Scope) → StaysAt s (heard a s)
unfolding heard
heard_stays a s = for_stays s.frame.owed a s

-- the step of a thread that does not stand at the end of body b
same_step : (b : ℕ) (lines : List Line) (bodies : List (List Line)) (f : Frame) (c : Cells) (a : Answer) → (f.body ≡ b → f.line < length (slice_index_or bodies b [])) → stepped (lines_added b lines bodies) f c a ≡ stepped bodies f c a
unfolding stepped
same_step b lines bodies f c a before =
    let s = heard a (scope f c) in
    let at = heard_stays a (scope f c) in
    ap (λ o. does_next o s) (same_line b lines bodies s.frame.body s.frame.line (λ same. subst (λ n. n < length (slice_index_or bodies b [])) (sym at.1) (before (sym at.0 ∙ same))))

others_same : (b : ℕ) (lines : List Line) (s : Sections) → functions_of (longer b lines s) ≡ record (functions_of s) { step = (functions_of (longer b lines s)).step }
unfolding functions_of
others_same b lines s = ap (λ n. record (functions_of s) { bodies = n; step = (functions_of (longer b lines s)).step }) (as_many b lines s.bodies)

pub lines_agree : (b : ℕ) (lines : List Line) (g : Given Sections) (i : ℕ) → NeverAtEndUpTo b g i → AgreesWithLines b lines g i
unfolding functions_of
lines_agree b lines g i never = programs_agree functions_of g (longer b lines g.program) i (record {
  others = others_same b lines g.program;
  steps = λ j t p before asks. same_step b lines g.program.bodies p.state (run functions_of g j).state.control.shared p.owed (never j t p before asks);
})

-- ---- more lines again

longer_by : (x lines : List Line) → length x ≤ length (x ++ lines)
longer_by [] lines = zero-le
longer_by (y ∷ x) lines = suc-le-suc (longer_by x lines)

no_fewer : (b c : ℕ) (lines : List Line) (bodies : List (List Line)) → length (slice_index_or bodies c []) ≤ length (slice_index_or (lines_added b lines bodies) c [])
no_fewer b c lines [] = le_refl 0
no_fewer zero zero lines (x ∷ xs) = longer_by x lines
no_fewer zero (suc c) lines (x ∷ xs) = le_refl (length (slice_index_or xs c []))
no_fewer (suc b) zero lines (x ∷ xs) = le_refl (length x)
no_fewer (suc b) (suc c) lines (x ∷ xs) = no_fewer b c lines xs

-- who asks in the run of the longer script asks in the run
asks_too : (c : Course Sections Frame Cells) (q : Sections) (t : ℕ) (p : Progress Frame) → AsksForCall (with_program q c) t p → AsksForCall c t p
unfolding next_part
asks_too c q t p asks = record { steps = asks.steps; is_so_far = asks.is_so_far; unblocked = asks.unblocked }

pub never_again : (b c : ℕ) (lines : List Line) (g : Given Sections) (i : ℕ) → NeverAtEndUpTo b g i → NeverAtEndUpTo c g i → NeverAtEndUpTo c (given_longer b lines g) i
never_again b c lines g i never nor_there j t p before asks same =
    let q = longer b lines g.program in
    let agrees = lines_agree b lines g j (λ k u o earlier. never k u o (lt_trans earlier before)) in
    let too = asks_too (run functions_of g j) q t p (subst (λ (d : Course Sections Frame Cells). AsksForCall d t p) agrees asks) in
    lt_of_lt_of_le (nor_there j t p before too same) (no_fewer b c lines g.program.bodies)
