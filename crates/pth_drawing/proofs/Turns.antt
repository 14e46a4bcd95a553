-- What one mark more does to the turns that marks tell.
use Rattle.std.proofs.Common.{◌≡◌, ◌∙◌, ℕ, List, [], ◌∷◌, ◌++◌, Option, Some, None, is_some, if◌then◌else◌, refl, sym, ap, append_assoc}
use Rattle.std.proofs.lemmas.List.{append-nil}
use Rattle.pth_base.specs.declared.mark.Mark.{Mark}
use Rattle.pth_drawing.specs.States.{Turn, dispatched, up_to_dispatch, turn_begun, turns_after, turns_of}

-- the last turn has a mark more
abbrev pub with_mark : Mark → Turn → Turn
with_mark m x = record x { during = x.during ++ m ∷ [] }

abbrev pub heard : Mark → List Turn → List Turn
heard m [] = []
heard m (x ∷ []) = with_mark m x ∷ []
heard m (x ∷ y ∷ ys) = x ∷ heard m (y ∷ ys)

pub heard_push : (m : Mark) (xs : List Turn) (x : Turn) → heard m (xs ++ x ∷ []) ≡ xs ++ with_mark m x ∷ []
heard_push m [] x = refl
heard_push m (y ∷ []) x = refl
heard_push m (y ∷ z ∷ zs) x = ap (λ (l : List Turn). y ∷ l) (heard_push m (z ∷ zs) x)

-- ---- a Dispatch

up_to_dispatched : (ms : List Mark) (m : Mark) (t : ℕ) → dispatched m ≡ Some t → up_to_dispatch (ms ++ m ∷ []) ≡ up_to_dispatch ms
unfolding up_to_dispatch
up_to_dispatched [] m t is = ap (λ (o : Option ℕ). if is_some o then [] else m ∷ []) is
up_to_dispatched (x ∷ xs) m t is = ap (λ (l : List Mark). if is_some (dispatched x) then [] else x ∷ l) (up_to_dispatched xs m t is)

begun_alike : (before : List Mark) (o : Option ℕ) (ms ns : List Mark) → up_to_dispatch ms ≡ up_to_dispatch ns → turn_begun before o ms ≡ turn_begun before o ns
begun_alike before None ms ns is = refl
begun_alike before (Some t) ms ns is = ap (λ (l : List Mark). record { before = before; thread = t; during = l } ∷ []) is

turns_dispatched : (before ms : List Mark) (m : Mark) (t : ℕ) → dispatched m ≡ Some t
    → turns_after before (ms ++ m ∷ []) ≡ turns_after before ms ++ record { before = before ++ ms; thread = t; during = [] } ∷ []
unfolding turns_after up_to_dispatch
turns_dispatched before [] m t is =
    ap (λ (o : Option ℕ). turn_begun before o [] ++ []) is
    ∙ ap (λ (l : List Mark). record { before = l; thread = t; during = [] } ∷ []) (sym (append-nil before))
turns_dispatched before (x ∷ xs) m t is =
    ap (λ (l : List Turn). l ++ turns_after (before ++ x ∷ []) (xs ++ m ∷ [])) (begun_alike before (dispatched x) (xs ++ m ∷ []) xs (up_to_dispatched xs m t is))
    ∙ ap (λ (l : List Turn). turn_begun before (dispatched x) xs ++ l) (turns_dispatched (before ++ x ∷ []) xs m t is)
    ∙ sym (append_assoc (turn_begun before (dispatched x) xs) (turns_after (before ++ x ∷ []) xs) _)
    ∙ ap (λ (l : List Mark). (turn_begun before (dispatched x) xs ++ turns_after (before ++ x ∷ []) xs) ++ record { before = l; thread = t; during = [] } ∷ []) (append_assoc before (x ∷ []) xs)

-- a Dispatch begins a turn
pub turns_more : (marks : List Mark) (m : Mark) (t : ℕ) → dispatched m ≡ Some t
    → turns_of (marks ++ m ∷ []) ≡ turns_of marks ++ record { before = marks; thread = t; during = [] } ∷ []
turns_more marks m t is = turns_dispatched [] marks m t is

-- ---- another mark

-- up to the end there is no Dispatch, if no turn begins
up_to_end : (before xs : List Mark) (m : Mark) → dispatched m ≡ None → turns_after before xs ≡ [] → up_to_dispatch (xs ++ m ∷ []) ≡ up_to_dispatch xs ++ m ∷ []
unfolding up_to_dispatch turns_after
up_to_end before [] m other none = ap (λ (o : Option ℕ). if is_some o then [] else m ∷ []) other
up_to_end before (x ∷ xs) m other none = at (dispatched x) none (λ k. up_to_end (before ++ x ∷ []) xs m other k)
  where
    at : (o : Option ℕ) → turn_begun before o xs ++ turns_after (before ++ x ∷ []) xs ≡ []
        → (turns_after (before ++ x ∷ []) xs ≡ [] → up_to_dispatch (xs ++ m ∷ []) ≡ up_to_dispatch xs ++ m ∷ [])
        → (if is_some o then [] else x ∷ up_to_dispatch (xs ++ m ∷ [])) ≡ (if is_some o then [] else x ∷ up_to_dispatch xs) ++ m ∷ []
    at None none rest = ap (λ (l : List Mark). x ∷ l) (rest none)
    at (Some t) none rest = absurd (cc)

-- and else there is one
up_to_next : (before xs : List Mark) (m : Mark) (y : Turn) (ys : List Turn) → turns_after before xs ≡ y ∷ ys → up_to_dispatch (xs ++ m ∷ []) ≡ up_to_dispatch xs
unfolding up_to_dispatch turns_after
up_to_next before [] m y ys some = absurd (cc)
up_to_next before (x ∷ xs) m y ys some = at (dispatched x) some (λ k. up_to_next (before ++ x ∷ []) xs m y ys k)
  where
    at : (o : Option ℕ) → turn_begun before o xs ++ turns_after (before ++ x ∷ []) xs ≡ y ∷ ys
        → (turns_after (before ++ x ∷ []) xs ≡ y ∷ ys → up_to_dispatch (xs ++ m ∷ []) ≡ up_to_dispatch xs)
        → (if is_some o then [] else x ∷ up_to_dispatch (xs ++ m ∷ [])) ≡ (if is_some o then [] else x ∷ up_to_dispatch xs)
    at None some rest = ap (λ (l : List Mark). x ∷ l) (rest some)
    at (Some t) some rest = refl

turns_heard : (before ms : List Mark) (m : Mark) → dispatched m ≡ None → turns_after before (ms ++ m ∷ []) ≡ heard m (turns_after before ms)
unfolding turns_after
turns_heard before [] m other = ap (λ (o : Option ℕ). turn_begun before o [] ++ []) other
turns_heard before (x ∷ xs) m other =
    ap (λ (l : List Turn). turn_begun before (dispatched x) (xs ++ m ∷ []) ++ l) (turns_heard (before ++ x ∷ []) xs m other)
    ∙ at (dispatched x) (turns_after (before ++ x ∷ []) xs) refl
  where
    at : (o : Option ℕ) (l : List Turn) → turns_after (before ++ x ∷ []) xs ≡ l → turn_begun before o (xs ++ m ∷ []) ++ heard m l ≡ heard m (turn_begun before o xs ++ l)
    at None l is = refl
    at (Some t) [] is = ap (λ (ms : List Mark). record { before = before; thread = t; during = ms } ∷ []) (up_to_end (before ++ x ∷ []) xs m other is)
    at (Some t) (y ∷ ys) is = ap (λ (ms : List Mark). record { before = before; thread = t; during = ms } ∷ heard m (y ∷ ys)) (up_to_next (before ++ x ∷ []) xs m y ys is)

-- another mark is in the last turn
pub turns_same : (marks : List Mark) (m : Mark) → dispatched m ≡ None → turns_of (marks ++ m ∷ []) ≡ heard m (turns_of marks)
turns_same marks m other = turns_heard [] marks m other
