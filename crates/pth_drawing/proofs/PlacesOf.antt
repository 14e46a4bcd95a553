-- The columns that pass a test, with one column more, and with one mark more in the last.
use Rattle.std.proofs.Common.{◌≡◌, ◌∙◌, ℕ, suc, ◌+◌, ◌-◌, ◌<◌, ◌≤◌, ◌||◌, Bool, true, false, if◌then◌else◌, List, [], ◌∷◌, ◌++◌, length, Option, Some, None, refl, sym, ap, arith, slice_get}
use Rattle.std.proofs.lemmas.List.{length_push, append-nil}
use Rattle.pth_base.proofs.Tables.{same_self, not_same}
use Rattle.pth_base.specs.declared.mark.Mark.{Mark}
use Rattle.pth_drawing.specs.Drawing.{places_from, places}
use Rattle.pth_drawing.specs.States.{Turn}
use Rattle.pth_drawing.specs.Tracks.{last_of, is_last, with_place, first_of}
use Rattle.pth_drawing.proofs.DrawnTurns.{Split, split, empty, last}
use Rattle.pth_drawing.proofs.Turns.{with_mark, heard, heard_push}

-- a place if a test is passed
abbrev pub place_if : Bool → ℕ → List ℕ
place_if b i = if b then i ∷ [] else []

place_before : (b : Bool) (i : ℕ) (is js : List ℕ) → (if b then i ∷ (is ++ js) else is ++ js) ≡ (if b then i ∷ is else is) ++ js
place_before true i is js = refl
place_before false i is js = refl

places_from_more : (test : Turn → Bool) (i k : ℕ) (xs : List Turn) (x : Turn) → i + length xs ≡ k → places_from test i (xs ++ x ∷ []) ≡ places_from test i xs ++ place_if (test x) k
unfolding places_from
places_from_more test i k [] x at = ap (place_if (test x)) (omega arith)
places_from_more test i k (y ∷ ys) x at =
    ap (λ (l : List ℕ). if test y then i ∷ l else l) (places_from_more test (i + 1) k ys x (omega arith))
    ∙ place_before (test y) i (places_from test (i + 1) ys) (place_if (test x) k)

-- one column more
pub places_more : (test : Turn → Bool) (xs : List Turn) (x : Turn) → places test (xs ++ x ∷ []) ≡ places test xs ++ place_if (test x) (length xs)
places_more test xs x = places_from_more test 0 (length xs) xs x (omega arith)

-- ---- the last place

abbrev pub last_place : List ℕ → Option ℕ
last_place is = slice_get is (length is - 1)

last_place_later : (i j : ℕ) (js : List ℕ) → last_place (i ∷ j ∷ js) ≡ last_place (j ∷ js)
last_place_later i j js =
    let here : suc (suc (length js)) - 1 ≡ suc (length js) = omega arith in
    let there : length js ≡ suc (length js) - 1 = omega arith in
    ap (λ (n : ℕ). slice_get (i ∷ j ∷ js) n) here ∙ ap (λ (n : ℕ). slice_get (j ∷ js) n) there

last_place_after : (i k : ℕ) (is : List ℕ) → i < k → is_last k (last_place is) ≡ false → is_last k (last_place (i ∷ is)) ≡ false
last_place_after i k [] below rest = not_same i k (λ e. absurd (omega arith))
last_place_after i k (j ∷ js) below rest = ap (is_last k) (last_place_later i j js) ∙ rest

last_place_if : (b : Bool) (i k : ℕ) (is : List ℕ) → i < k → is_last k (last_place is) ≡ false → is_last k (last_place (if b then i ∷ is else is)) ≡ false
last_place_if true i k is below rest = last_place_after i k is below rest
last_place_if false i k is below rest = rest

-- a column after these is not their last place
last_below : (test : Turn → Bool) (i k : ℕ) (xs : List Turn) → i + length xs ≤ k → is_last k (last_place (places_from test i xs)) ≡ false
unfolding places_from
last_below test i k [] few = refl
last_below test i k (x ∷ xs) few = last_place_if (test x) i k (places_from test (i + 1) xs) (omega arith) (last_below test (i + 1) k xs (omega arith))

last_push : (is : List ℕ) (k : ℕ) → is_last k (last_place (is ++ k ∷ [])) ≡ true
last_push [] k = same_self k
last_push (i ∷ []) k = ap (is_last k) (last_place_later i k []) ∙ same_self k
last_push (i ∷ j ∷ js) k = ap (is_last k) (last_place_later i j (js ++ k ∷ [])) ∙ last_push (j ∷ js) k

-- ---- one mark more in the last column

with_place_once : (b : Bool) (is : List ℕ) (k : ℕ) → is_last k (last_place is) ≡ false → with_place (Some k) (is ++ place_if b k) ≡ is ++ k ∷ []
with_place_once true is k apart = ap (λ b. if b then is ++ k ∷ [] else (is ++ k ∷ []) ++ k ∷ []) (last_push is k)
with_place_once false is k apart =
    ap (λ (l : List ℕ). with_place (Some k) l) (append-nil is)
    ∙ ap (λ b. if b then is else is ++ k ∷ []) apart

last_column : (xs : List Turn) (x : Turn) → last_of (length (xs ++ x ∷ [])) ≡ Some (length xs)
last_column xs x =
    let n : length (xs ++ x ∷ []) ≡ suc (length xs) = omega (arith, length_push xs x) in
    ap last_of n

-- a mark passes the test of the last turn, or not
abbrev pub NotesIn : (Turn → Bool) → Mark → Bool → Type 0
NotesIn test m b = (x : Turn) → test (with_mark m x) ≡ (test x || b)

-- a place more, if the last turn passes the test now
heard_if : (b c : Bool) (is : List ℕ) (k : ℕ) → is_last k (last_place is) ≡ false
    → (if c then with_place (Some k) (is ++ place_if b k) else is ++ place_if b k) ≡ is ++ place_if (b || c) k
heard_if true true is k apart = with_place_once true is k apart
heard_if false true is k apart = with_place_once false is k apart
heard_if true false is k apart = refl
heard_if false false is k apart = refl

with_place_none : (b : Bool) (is : List ℕ) → (if b then with_place None is else is) ≡ is
with_place_none true is = refl
with_place_none false is = refl

pub places_heard : (test : Turn → Bool) (m : Mark) (b : Bool) → NotesIn test m b → (xs : List Turn)
    → (if b then with_place (last_of (length xs)) (places test xs) else places test xs) ≡ places test (heard m xs)
places_heard test m b notes xs = by (split xs)
  where
    after : List Turn → List ℕ
    after l = if b then with_place (last_of (length l)) (places test l) else places test l

    after_last : (ys : List Turn) (y : Turn) → after (ys ++ y ∷ []) ≡ places test (heard m (ys ++ y ∷ []))
    after_last ys y =
        ap (λ (o : Option ℕ). if b then with_place o (places test (ys ++ y ∷ [])) else places test (ys ++ y ∷ [])) (last_column ys y)
        ∙ ap (λ (l : List ℕ). if b then with_place (Some (length ys)) l else l) (places_more test ys y)
        ∙ heard_if (test y) b (places test ys) (length ys) (last_below test 0 (length ys) ys (omega arith))
        ∙ ap (λ c. places test ys ++ place_if c (length ys)) (sym (notes y))
        ∙ sym (places_more test ys (with_mark m y))
        ∙ ap (places test) (sym (heard_push m ys y))

    by : Split xs → after xs ≡ places test (heard m xs)
    by (empty is) = ap after is ∙ with_place_none b (places test []) ∙ ap (λ (l : List Turn). places test (heard m l)) (sym is)
    by (last ys y is) = ap after is ∙ after_last ys y ∙ ap (λ (l : List Turn). places test (heard m l)) (sym is)

-- the first place, in the same way
first_heard_if : (b c : Bool) (is : List ℕ) (k : ℕ)
    → (if c then first_of (slice_get (is ++ place_if b k) 0) (Some k) else slice_get (is ++ place_if b k) 0) ≡ slice_get (is ++ place_if (b || c) k) 0
first_heard_if true true [] k = refl
first_heard_if true false [] k = refl
first_heard_if false true [] k = refl
first_heard_if false false [] k = refl
first_heard_if true true (i ∷ is) k = refl
first_heard_if true false (i ∷ is) k = refl
first_heard_if false true (i ∷ is) k = refl
first_heard_if false false (i ∷ is) k = refl

abbrev no_place : Option ℕ
no_place = None

first_none : (b : Bool) → (if b then first_of None None else None) ≡ no_place
first_none true = refl
first_none false = refl

pub first_heard : (test : Turn → Bool) (m : Mark) (b : Bool) → NotesIn test m b → (xs : List Turn)
    → (if b then first_of (slice_get (places test xs) 0) (last_of (length xs)) else slice_get (places test xs) 0) ≡ slice_get (places test (heard m xs)) 0
unfolding places_from
first_heard test m b notes xs = by (split xs)
  where
    after : List Turn → Option ℕ
    after l = if b then first_of (slice_get (places test l) 0) (last_of (length l)) else slice_get (places test l) 0

    after_last : (ys : List Turn) (y : Turn) → after (ys ++ y ∷ []) ≡ slice_get (places test (heard m (ys ++ y ∷ []))) 0
    after_last ys y =
        ap (λ (o : Option ℕ). if b then first_of (slice_get (places test (ys ++ y ∷ [])) 0) o else slice_get (places test (ys ++ y ∷ [])) 0) (last_column ys y)
        ∙ ap (λ (l : List ℕ). if b then first_of (slice_get l 0) (Some (length ys)) else slice_get l 0) (places_more test ys y)
        ∙ first_heard_if (test y) b (places test ys) (length ys)
        ∙ ap (λ c. slice_get (places test ys ++ place_if c (length ys)) 0) (sym (notes y))
        ∙ ap (λ (l : List ℕ). slice_get l 0) (sym (places_more test ys (with_mark m y)) ∙ ap (places test) (sym (heard_push m ys y)))

    by : Split xs → after xs ≡ slice_get (places test (heard m xs)) 0
    by (empty is) = ap after is ∙ first_none b ∙ ap (λ (l : List Turn). slice_get (places test (heard m l)) 0) (sym is)
    by (last ys y is) = ap after is ∙ after_last ys y ∙ ap (λ (l : List Turn). slice_get (places test (heard m l)) 0) (sym is)
