-- The labels of a body.
use Rattle.std.specs.Prelude.{ℕ, suc, ℤ, Bool, false, List, [], ◌∷◌, ◌++◌, Option, Some, None, map, option_map, unwrap_or, if◌then◌else◌}
use Rattle.std.specs.Ordering.{int_eq}
use Rattle.std.specs.List.{list_any}
use Rattle.pth_line.specs.declared.line.Line.{Line}
use Rattle.pth_line.specs.declared.line.Line.TheVariants as line

-- lines that were read, beside those of a text
abbrev pub somes : {A : Type 0} → List A → List (Option A)
somes xs = map (λ x. Some x) xs

-- ---- the numbers of labels

-- the label that a line is
abbrev pub label_in : Line → Option ℤ
label_in (line.Label k) = Some k
label_in _ = None

-- the label that a `goto` names
abbrev pub goto_in : Line → Option ℤ
goto_in (line.Goto k to x r y) = Some k
goto_in _ = None

-- one thing, or none
abbrev pub one_or_none : {A : Type 0} → Option A → List A
one_or_none (Some x) = x ∷ []
one_or_none None = []

-- the labels of lines
unfoldable pub labels_in : List Line → List ℤ
labels_in [] = []
labels_in (l ∷ ls) = one_or_none (label_in l) ++ labels_in ls

-- the labels that lines name
unfoldable pub gotos_in : List Line → List ℤ
gotos_in [] = []
gotos_in (l ∷ ls) = one_or_none (goto_in l) ++ gotos_in ls

-- a number is in a list
abbrev pub has : List ℤ → ℤ → Bool
has ns n = list_any (λ m. int_eq m n) ns

-- ---- where a `goto` goes

-- a line is this label
abbrev pub is_this_label : Option Line → ℤ → Bool
is_this_label (Some (line.Label n)) k = int_eq n k
is_this_label _ k = false

-- the place of the line after a label, counted from 0; none where no line is this label
unfoldable pub place_after : List (Option Line) → ℤ → Option ℕ
place_after [] k = None
place_after (l ∷ ls) k = if is_this_label l k then Some 1 else option_map (λ n. suc n) (place_after ls k)

-- a line of a body with these lines
abbrev pub placed_in : List (Option Line) → Option Line → Option Line
placed_in all (Some (line.Goto k to x r y)) = Some (line.Goto k (unwrap_or (place_after all k) 0) x r y)
placed_in all l = l

-- a body in which each `goto` goes to the line after its label
unfoldable pub with_places : List (Option Line) → List (Option Line)
with_places all = map (placed_in all) all
