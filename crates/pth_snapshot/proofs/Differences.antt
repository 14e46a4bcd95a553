-- The first line in which two texts differ.
use Rattle.std.proofs.Common.{◌≡◌, ◌≢◌, ℕ, zero, suc, ◌+◌, ◌<◌, ◌≤◌, ◌⊎◌, ◌==◌, Bool, true, false, List, [], ◌∷◌, drop, length, Option, Some, None, refl, sym, ap, ap₂, ◌∙◌, arith, subst, inl, inr, if◌then◌else◌, min}
use Rattle.std.proofs.lemmas.Bool.{cases_lt}
use Rattle.std.proofs.lemmas.List.{drop_all}
use Rattle.pth_base.proofs.Tables.{same_means}
use Rattle.pth_text.specs.Bytes.{code}
use Rattle.pth_script.specs.TextRows.{TextRow, text_rows, onto_first}
use Rattle.pth_snapshot.specs.Loading.{row_at, DifferFirstAt}

-- the first n rows are the same, and the next one differs
pub record Differ (rs ss : List TextRow) (n : ℕ) : Type 0 where
  pub above : (i : ℕ) → i < n → row_at rs i ≡ row_at ss i
  pub here : row_at rs n ≢ row_at ss n

abbrev pub DifferBehind : (a b : List ℕ) → ℕ → Type 0
DifferBehind a b n = Differ (text_rows a) (text_rows b) n

pub differ_first : (a b : List ℕ) (n : ℕ) → DifferBehind a b n → DifferFirstAt a b (n + 1)
differ_first a b n d = record { row = n; counted = refl; above = d.above; here = d.here }

-- ---- rows that a byte was put before

later : (x : ℕ) (rs : List TextRow) (i : ℕ) → row_at (onto_first x rs) (suc i) ≡ row_at rs (suc i)
later x [] i = refl
later x (r ∷ rs) i = refl

first : (x : ℕ) (rs ss : List TextRow) → row_at rs 0 ≡ row_at ss 0 → row_at (onto_first x rs) 0 ≡ row_at (onto_first x ss) 0
first x [] [] e = refl
first x [] (s ∷ ss) e = absurd (cc e)
first x (r ∷ rs) [] e = absurd (cc e)
first x (r ∷ rs) (s ∷ ss) e = let same : r ≡ s = cc in rw same refl

-- a row without bytes has its LF
abbrev HasSome : List TextRow → Type 0
HasSome [] = Unit {0}
HasSome (r ∷ rs) = r.ended ≡ false → r.bytes ≢ []

row_some : (x : ℕ) (lf : Bool) (rs : List TextRow) → HasSome (if lf then record { bytes = []; ended = true } ∷ rs else onto_first x rs)
row_some x true rs = λ ended empty. cc
row_some x false [] = λ ended empty. cc
row_some x false (r ∷ rs) = λ ended empty. cc

rows_some : (a : List ℕ) → HasSome (text_rows a)
unfolding text_rows
rows_some [] = tt
rows_some (x ∷ a) = row_some x (x == code "\n") (text_rows a)

abbrev bytes_of : Option TextRow → List ℕ
bytes_of None = []
bytes_of (Some r) = r.bytes

abbrev ended_of : Option TextRow → Bool
ended_of None = false
ended_of (Some r) = r.ended

abbrev tail_of : List ℕ → List ℕ
tail_of [] = []
tail_of (x ∷ xs) = xs

here_by : (x : ℕ) (rs ss : List TextRow) → HasSome rs → HasSome ss → row_at rs 0 ≢ row_at ss 0 → row_at (onto_first x rs) 0 ≢ row_at (onto_first x ss) 0
here_by x [] [] hr hs other e = other refl
here_by x [] (s ∷ ss) hr hs other e = hs (sym (ap ended_of e)) (sym (ap (λ o. tail_of (bytes_of o)) e))
here_by x (r ∷ rs) [] hr hs other e = hr (ap ended_of e) (ap (λ o. tail_of (bytes_of o)) e)
here_by x (r ∷ rs) (s ∷ ss) hr hs other e =
    let ended : r.ended ≡ s.ended = ap ended_of e in
    let bytes : r.bytes ≡ s.bytes = ap (λ o. tail_of (bytes_of o)) e in
    let same : r ≡ s = ap₂ (λ b e. record { bytes = b; ended = e }) bytes ended in
    other (ap (λ q. Some q) same)

onto : (x : ℕ) (rs ss : List TextRow) (n : ℕ) → HasSome rs → HasSome ss → Differ rs ss n → Differ (onto_first x rs) (onto_first x ss) n
onto x rs ss zero hr hs d = record { above = λ i low. absurd (omega (arith, low)); here = here_by x rs ss hr hs d.here }
onto x rs ss (suc n) hr hs d = record {
  above = above_by;
  here = λ e. d.here (sym (later x rs n) ∙ e ∙ later x ss n);
}
  where
    above_by : (i : ℕ) → i < suc n → row_at (onto_first x rs) i ≡ row_at (onto_first x ss) i
    above_by zero low = first x rs ss (d.above 0 low)
    above_by (suc i) low = later x rs i ∙ d.above (suc i) low ∙ sym (later x ss i)

-- ---- a byte that both texts have

abbrev more_by : Bool → ℕ → ℕ
more_by lf n = if lf then n + 1 else n

with_byte : (x : ℕ) (lf : Bool) (rs ss : List TextRow) (n : ℕ) → HasSome rs → HasSome ss → Differ rs ss n
    → Differ (if lf then record { bytes = []; ended = true } ∷ rs else onto_first x rs) (if lf then record { bytes = []; ended = true } ∷ ss else onto_first x ss) (more_by lf n)
with_byte x false rs ss n hr hs d = onto x rs ss n hr hs d
with_byte x true rs ss n hr hs d = record { above = above_by; here = subst (λ k. row_at (record { bytes = []; ended = true } ∷ rs) k ≢ row_at (record { bytes = []; ended = true } ∷ ss) k) (let e : suc n ≡ n + 1 = omega arith in e) d.here }
  where
    above_by : (i : ℕ) → i < n + 1 → row_at (record { bytes = []; ended = true } ∷ rs) i ≡ row_at (record { bytes = []; ended = true } ∷ ss) i
    above_by zero low = refl
    above_by (suc i) low = d.above i (omega (arith, low))

pub same_byte : (x : ℕ) (a b : List ℕ) (n : ℕ) → DifferBehind a b n → DifferBehind (x ∷ a) (x ∷ b) (more_by (x == code "\n") n)
unfolding text_rows
same_byte x a b n d = with_byte x (x == code "\n") (text_rows a) (text_rows b) n (rows_some a) (rows_some b) d

-- ---- a byte that one of them has not

some_row : (x : ℕ) (lf : Bool) (rs : List TextRow) → row_at (if lf then record { bytes = []; ended = true } ∷ rs else onto_first x rs) 0 ≢ None
some_row x true rs = λ e. cc
some_row x false [] = λ e. cc
some_row x false (r ∷ rs) = λ e. cc

pub longer : (x : ℕ) (a : List ℕ) → DifferBehind (x ∷ a) [] 0
unfolding text_rows
longer x a = record { above = λ i low. absurd (omega (arith, low)); here = some_row x (x == code "\n") (text_rows a) }

pub shorter : (y : ℕ) (b : List ℕ) → DifferBehind [] (y ∷ b) 0
unfolding text_rows
shorter y b = record { above = λ i low. absurd (omega (arith, low)); here = λ e. some_row y (y == code "\n") (text_rows b) (sym e) }

abbrev head : List ℕ → Option ℕ
head [] = None
head (x ∷ xs) = Some x

abbrev first_byte : Option TextRow → Option ℕ
first_byte None = None
first_byte (Some r) = head r.bytes

first_of : (x : ℕ) (lf : Bool) (rs : List TextRow) → first_byte (row_at (if lf then record { bytes = []; ended = true } ∷ rs else onto_first x rs) 0) ≡ (if lf then None else Some x)
first_of x true rs = refl
first_of x false [] = refl
first_of x false (r ∷ rs) = refl

other_first : (x y : ℕ) (p q : Bool) → (p ≡ true → x ≡ code "\n") → (q ≡ true → y ≡ code "\n") → x ≢ y → (if p then None else Some x) ≢ (if q then None else Some y)
other_first x y true true hx hy other e = other (hx refl ∙ sym (hy refl))
other_first x y true false hx hy other e = cc
other_first x y false true hx hy other e = cc
other_first x y false false hx hy other e = other cc

pub other_byte : (x y : ℕ) (a b : List ℕ) → x ≢ y → DifferBehind (x ∷ a) (y ∷ b) 0
unfolding text_rows
other_byte x y a b other = record {
  above = λ i low. absurd (omega (arith, low));
  here = λ e. other_first x y (x == code "\n") (y == code "\n") (same_means x (code "\n")) (same_means y (code "\n")) other (sym (first_of x (x == code "\n") (text_rows a)) ∙ ap first_byte e ∙ first_of y (y == code "\n") (text_rows b));
}

-- ---- the texts from a place on

-- what differs from a place on differs in the whole, so many lines later
pub record Leaves (a b : List ℕ) (i lines : ℕ) : Type 0 where
  pub few : lines ≤ i
  pub rest : (n : ℕ) → DifferBehind (drop i a) (drop i b) n → DifferBehind a b (n + lines)
  pub apart : drop i a ≢ drop i b

-- one more byte that is the same
pub leaves_more : (a b : List ℕ) (i lines more x : ℕ) → drop i a ≡ x ∷ drop (i + 1) a → drop i b ≡ x ∷ drop (i + 1) b → more ≡ lines + (if x == code "\n" then 1 else 0)
    → Leaves a b i lines → Leaves a b (i + 1) more
leaves_more a b i lines more x ea eb is l = record {
  few = few_by (x == code "\n") is;
  rest = λ n d. (
      let behind : DifferBehind (drop i a) (drop i b) (more_by (x == code "\n") n) = rw (ea, eb) (same_byte x (drop (i + 1) a) (drop (i + 1) b) n d) in
      subst (λ k. DifferBehind a b k) (count_by (x == code "\n") n is) (l.rest (more_by (x == code "\n") n) behind));
  apart = λ same. l.apart (ea ∙ ap (λ xs. x ∷ xs) same ∙ sym eb);
}
  where
    few_by : (lf : Bool) → more ≡ lines + (if lf then 1 else 0) → more ≤ i + 1
    few_by true is = omega (arith, l.few)
    few_by false is = omega (arith, l.few)

    count_by : (lf : Bool) (n : ℕ) → more ≡ lines + (if lf then 1 else 0) → more_by lf n + lines ≡ n + more
    count_by true n is = omega arith
    count_by false n is = omega arith

pub differ_here : (a b : List ℕ) (i lines x y : ℕ) → drop i a ≡ x ∷ drop (i + 1) a → drop i b ≡ y ∷ drop (i + 1) b → x ≢ y → Leaves a b i lines → DifferFirstAt a b (lines + 1)
differ_here a b i lines x y ea eb other l = differ_first a b lines (subst (DifferBehind a b) (let e : 0 + lines ≡ lines = omega arith in e) (l.rest 0 (rw (ea, eb) (other_byte x y (drop (i + 1) a) (drop (i + 1) b) other))))

ends_by : (xs ys : List ℕ) → xs ≢ ys → (xs ≡ []) ⊎ (ys ≡ []) → DifferBehind xs ys 0
ends_by [] [] other one = absurd (other refl)
ends_by [] (y ∷ ys) other one = shorter y ys
ends_by (x ∷ xs) [] other one = longer x xs
ends_by (x ∷ xs) (y ∷ ys) other one = elim one [
  | inl e ↦ absurd (cc e)
  | inr e ↦ absurd (cc e)
]

-- one of them ends
pub differ_at_end : (a b : List ℕ) (i lines : ℕ) → (drop i a ≡ []) ⊎ (drop i b ≡ []) → Leaves a b i lines → DifferFirstAt a b (lines + 1)
differ_at_end a b i lines one l = differ_first a b lines (subst (DifferBehind a b) (let e : 0 + lines ≡ lines = omega arith in e) (l.rest 0 (ends_by (drop i a) (drop i b) l.apart one)))

-- so does one where the shorter one was gone over
pub one_ends : (a b : List ℕ) (i : ℕ) → min (length a) (length b) ≤ i → (drop i a ≡ []) ⊎ (drop i b ≡ [])
one_ends a b i past = elim (cases_lt (length a) (length b)) [
  | inl low ↦ inl (drop_all i a (omega (arith, past, low)))
  | inr high ↦ inr (drop_all i b (omega (arith, past, high)))
]
