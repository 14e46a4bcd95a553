-- Pieces written one after another.
use Rattle.std.proofs.Common.{◌≡◌, ◌≢◌, ◌∙◌, ◌+◌, ◌-◌, ◌<◌, ◌≤◌, ℕ, List, [], ◌∷◌, ◌++◌, length, take, drop, Option, ap, sym, refl, subst, append_assoc, append-nil, take-append-drop, arith}
use Rattle.std.proofs.lemmas.List.{take_rest, length-drop}
use Rattle.std.proofs.Math.Seq.{take-add}
use Rattle.std.proofs.KnownBytes.{Appends-nil, Appends-trans, Appends-kept}
use Rattle.std.specs.Io.KnownBytes.{Appends, Keeps}
use Rattle.pth_streams.specs.Pieces.{AppendsPart, AppendsPrefix, Toward}

-- a part of `xs[i..]`, after what stands
pub append_rest : (a b c : Option (List ℕ)) (xs : List ℕ) (i n : ℕ) → Appends a b (take i xs) → Appends b c (take n (take (length xs - i) (drop i xs)))
    → Appends a c (take (i + n) xs)
append_rest a b c xs i n p q =
    let more : Appends b c (take n (drop i xs)) = subst (λ (l : List ℕ). Appends b c (take n l)) (take_rest xs i) q in
    subst (Appends a c) (sym (take-add i n xs)) (Appends-trans a b c (take i xs) (take n (drop i xs)) p more)

pub rest_within : (xs : List ℕ) (i n : ℕ) → i ≤ length xs → n ≤ length (take (length xs - i) (drop i xs)) → i + n ≤ length xs
rest_within xs i n within h = let k : n ≤ length (drop i xs) = rw take_rest at h in omega (arith, length-drop i xs, k)

pub is_not_empty : (xs : List ℕ) (i : ℕ) → i < length xs → xs ≡ [] → ⊥
is_not_empty xs i h e = let none = ap length e in omega (arith, none)

rest_is_some : (xs : List ℕ) (i : ℕ) → i < length xs → drop i xs ≢ []
rest_is_some xs i h e = let none = ap length e in omega (arith, length-drop i xs, none)

-- a write that failed, with a part of the text left
pub part_at : (a b c : Option (List ℕ)) (xs : List ℕ) (i : ℕ) → i < length xs → Appends a b (take i xs) → Keeps b c → AppendsPart a c xs
part_at a b c xs i h p q = (
  drop i xs,
  rest_is_some xs i h,
  record { first = take i xs; appended = Appends-kept a b c (take i xs) p q; whole = take-append-drop i xs },
)

-- nothing was written yet
pub none_of : (a : Option (List ℕ)) (text : List ℕ) → AppendsPrefix a a text
none_of a text = (text, record { first = []; appended = Appends-nil a; whole = refl })

pub all_of : (a b : Option (List ℕ)) (text : List ℕ) → Appends a b text → AppendsPrefix a b text
all_of a b text p = ([], record { first = text; appended = p; whole = append-nil text })

pub part_is_prefix : (a b : Option (List ℕ)) (text : List ℕ) → AppendsPart a b text → AppendsPrefix a b text
part_is_prefix a b text p = (p.0, p.2)

-- one beginning after a whole text
pub toward_then : (a b c : Option (List ℕ)) (one two rest after : List ℕ) → Appends a b one → Toward b c two rest → Toward a c (one ++ (two ++ after)) (rest ++ after)
toward_then a b c one two rest after p t = record {
  first = one ++ t.first;
  appended = Appends-trans a b c one t.first p t.appended;
  whole = append_assoc one t.first (rest ++ after) ∙ ap (λ l. one ++ l) (sym (append_assoc t.first rest after) ∙ ap (λ l. l ++ after) t.whole);
}

pub more_is_some : (rest after : List ℕ) → rest ≢ [] → rest ++ after ≢ []
more_is_some [] after h = absurd (h refl)
more_is_some (x ∷ xs) after h = λ e. cc

pub prefix_then : (a b c : Option (List ℕ)) (one two after : List ℕ) → Appends a b one → AppendsPrefix b c two → AppendsPrefix a c (one ++ (two ++ after))
prefix_then a b c one two after p q = (q.0 ++ after, toward_then a b c one two q.0 after p q.1)

pub part_then : (a b c : Option (List ℕ)) (one two after : List ℕ) → Appends a b one → AppendsPart b c two → AppendsPart a c (one ++ (two ++ after))
part_then a b c one two after p q = (q.0 ++ after, more_is_some q.0 after q.1, toward_then a b c one two q.0 after p q.2)

-- nothing was appended
pub none_after : (a b : Option (List ℕ)) (text : List ℕ) → Appends a b [] → AppendsPrefix a b text
none_after a b text h = (text, record { first = []; appended = h; whole = refl })
