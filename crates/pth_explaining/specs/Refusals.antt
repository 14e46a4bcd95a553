-- The calls that were refused: their answer is an error.
use Rattle.std.specs.Prelude.{ℕ, ◌+◌, ◌==◌, ◌++◌, Bool, true, false, List, [], ◌∷◌, codes, decimal, if◌then◌else◌}
use Rattle.std.specs.List.{count_by, list_any}
use Rattle.std.specs.Str.{bytes_eq}
use Rattle.pth_base.specs.declared.answer.Answer.TheVariants.{Fail}
use Rattle.pth_base.specs.declared.mark.Mark.{Mark}
use Rattle.pth_base.specs.declared.mark.Mark.TheVariants as mark
use Rattle.pth_print.specs.MarkLines.{mark_line}
use Rattle.pth_explaining.specs.declared.refusals.Refusal.{Refusal}

-- a call of a thread or of a handler is answered by an error
abbrev pub is_refused : Mark → Bool
is_refused (mark.Answered t c (Fail e)) = true
is_refused (mark.Acted t x (Fail e)) = true
is_refused m = false

-- the refused calls of further marks, the first of which stands at line n
abbrev pub refusals_from : ℕ → List Mark → List Refusal
refusals_from n [] = []
refusals_from n (m ∷ ms) =
    if is_refused m
    then record { line = n; text = mark_line false m } ∷ refusals_from (n + 1) ms
    else refusals_from (n + 1) ms

-- the refused calls, in order
abbrev pub refusals_of : List Mark → List Refusal
refusals_of marks = refusals_from 1 marks

-- two refusals have the same line: the same call of the same thread, with the same error
abbrev pub is_like : Refusal → Refusal → Bool
is_like r other = bytes_eq other.text r.text

abbrev pub times_text : ℕ → List ℕ
times_text n = if n == 1 then codes " time" else codes " times"

-- how often calls were refused like this one, which is the first
abbrev pub refusal_line : ℕ → Refusal → List ℕ
refusal_line times r =
    codes "refused " ++ decimal times ++ times_text times ++ codes ", first at line "
    ++ decimal r.line ++ codes ": " ++ r.text

-- a line for each kind of refusal, where the first of its kind stands
abbrev pub refusal_lines : (before : List Refusal) → List Refusal → List ℕ
refusal_lines before [] = []
refusal_lines before (r ∷ rs) =
    (if list_any (is_like r) before then [] else refusal_line (count_by (is_like r) (r ∷ rs)) r)
    ++ refusal_lines (before ++ r ∷ []) rs
