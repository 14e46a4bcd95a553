-- Lines one after another.
use Rattle.std.proofs.Common.{◌≡◌, ◌∙◌, ℕ, suc, zero, ◌<◌, ◌+◌, List, [], ◌∷◌, ◌++◌, sym, ap, arith, take, length, get_or, flat_map}
use Rattle.std.specs.List.{range_with_len}
use Rattle.std.proofs.lemmas.List.{flat_map_more, take_more}

-- the lines of one more
pub one_more : {A : Type 0} (f : A → List ℕ) (xs : List A) (i : ℕ) (d : A) (old mid new : List ℕ) → i < length xs
    → mid ≡ old ++ flat_map f (take i xs) → new ≡ mid ++ f (get_or xs i d) → new ≡ old ++ flat_map f (take (i + 1) xs)
one_more f xs i d old mid new h before after =
    after ∙ ap (λ (t : List ℕ). t ++ f (get_or xs i d)) before ∙ flat_map_more f old (take i xs) (get_or xs i d)
    ∙ ap (λ (l : _). old ++ flat_map f l) (sym (take_more xs i d h))

counted_more : (a n j : ℕ) → a + n ≡ j → range_with_len a (suc n) ≡ range_with_len a n ++ j ∷ []
counted_more a zero j e =
    let here : a ≡ j = omega arith in
    ap (λ (i : ℕ). i ∷ []) here
counted_more a (suc n) j e = ap (λ (l : List ℕ). a ∷ l) (counted_more (a + 1) n j (omega arith))

-- the lines of one number more, counted from 0
pub one_count_more : (f : ℕ → List ℕ) (k : ℕ) (old mid new : List ℕ) → mid ≡ old ++ flat_map f (range_with_len 0 k) → new ≡ mid ++ f k
    → new ≡ old ++ flat_map f (range_with_len 0 (k + 1))
one_count_more f k old mid new before after =
    after ∙ ap (λ (t : List ℕ). t ++ f k) before ∙ flat_map_more f old (range_with_len 0 k) k
    ∙ ap (λ (l : _). old ++ flat_map f l) (sym (let on : k + 1 ≡ suc k = omega arith in ap (range_with_len 0) on ∙ counted_more 0 k k (omega arith)))
