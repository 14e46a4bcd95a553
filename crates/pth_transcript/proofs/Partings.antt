-- Words are parted at the first `=`.
use Rattle.std.proofs.Common.{◌≡◌, ◌∙◌, ◌+◌, ◌-◌, ◌<◌, ℕ, zero, suc, Bool, true, false, cond, List, [], ◌∷◌, ◌++◌, length, length-drop, get_or, take, drop, codes, Some, None, refl, sym, ap, arith}
use Rattle.std.specs.List.{position, position_from}
use Rattle.std.proofs.Math.Seq.{take-length}
use Rattle.std.proofs.lemmas.Iterator.Adapters.{position_from-zero}
use Rattle.std.proofs.lemmas.List.Quantifiers.{position-Some}
use denote.Ref.{Bor}
use Rattle.pth_spelling.specs.Texts.{texts}
use Rattle.pth_transcript.specs.Parted.{is_equals, parted}

-- the first `=` stands at this place
parted_here : (ws : List (Bor (List ℕ))) (d : Bor (List ℕ)) (i : ℕ) → i < length ws → is_equals (get_or ws i d).now ≡ true
    → ((k : ℕ) → k < i → is_equals (get_or ws k d).now ≡ false) → parted (texts ws) ≡ Some (texts (take i ws), texts (drop (suc i) ws))
unfolding parted
parted_here [] d i lt at before = absurd (omega arith)
parted_here (w ∷ ws) d zero lt at before = rw at refl
parted_here (w ∷ ws) d (suc i) lt at before =
    let later : parted (texts ws) ≡ Some (texts (take i ws), texts (drop (suc i) ws)) = parted_here ws d i (omega arith) at (λ k less. before (suc k) (omega arith)) in
    rw (before 0 (omega arith)) (rw later refl)

-- all words behind a place
pub all_behind : (ws : List (Bor (List ℕ))) (n : ℕ) → take (length ws - n) (drop n ws) ≡ drop n ws
all_behind ws n = ap (λ (k : ℕ). take k (drop n ws)) (sym (length-drop n ws)) ∙ take-length (drop n ws)

-- the place of the first `=` was found
pub parted_at : (ws : List (Bor (List ℕ))) (i : ℕ) → position (λ (w : Bor (List ℕ)). is_equals w.now) ws ≡ Some i
    → parted (texts ws) ≡ Some (texts (take i ws), texts (take (length ws - (i + 1)) (drop (i + 1) ws)))
parted_at [] i found = absurd (cc)
parted_at (w ∷ ws) i found =
    let place = position-Some (λ (v : Bor (List ℕ)). is_equals v.now) (w ∷ ws) i w found in
    let next : suc i ≡ i + 1 = omega arith in
    parted_here (w ∷ ws) w i place.0 place.1 place.2
    ∙ ap (λ (n : ℕ). Some (texts (take i (w ∷ ws)), texts (drop n (w ∷ ws)))) next
    ∙ ap (λ (vs : List (Bor (List ℕ))). Some (texts (take i (w ∷ ws)), texts vs)) (sym (all_behind (w ∷ ws) (i + 1)))

-- no word is `=`, or the first is not and the others are as before
none_by : (w : Bor (List ℕ)) (ws : List (Bor (List ℕ))) (i : ℕ) (b : Bool) → is_equals w.now ≡ b
    → cond b (Some i) (position_from (λ (v : Bor (List ℕ)). is_equals v.now) (i + 1) ws) ≡ None
    → (is_equals w.now ≡ false) × (position_from (λ (v : Bor (List ℕ)). is_equals v.now) (i + 1) ws ≡ None)
none_by w ws i true is none = absurd (cc)
none_by w ws i false is none = (is, none)

-- from a place on no word is `=`
nowhere_from : (i : ℕ) (ws : List (Bor (List ℕ))) → position_from (λ (v : Bor (List ℕ)). is_equals v.now) i ws ≡ None → parted (texts ws) ≡ None
unfolding parted
nowhere_from i [] none = refl
nowhere_from i (w ∷ ws) none =
    let next = none_by w ws i (is_equals w.now) refl none in
    rw next.0 (rw (nowhere_from (i + 1) ws next.1) refl)

-- no word is `=`
pub parted_nowhere : (ws : List (Bor (List ℕ))) → position (λ (v : Bor (List ℕ)). is_equals v.now) ws ≡ None → parted (texts ws) ≡ None
parted_nowhere ws none = nowhere_from 0 ws (sym (position_from-zero (λ (v : Bor (List ℕ)). is_equals v.now) ws) ∙ none)

-- ---- words none of which is `=`

-- none of the words is `=`
abbrev pub HasNoEquals : List (List ℕ) → Type 0
HasNoEquals [] = Unit {0}
HasNoEquals (w ∷ ws) = (is_equals w ≡ false) × HasNoEquals ws

-- words none of which is `=` stand before the first
pub parted_behind : (ws back : List (List ℕ)) → HasNoEquals ws → parted (ws ++ codes "=" ∷ back) ≡ Some (ws, back)
unfolding parted
parted_behind [] back none = refl
parted_behind (w ∷ ws) back none = rw none.0 (rw (parted_behind ws back none.1) refl)

-- words none of which is `=` are not parted
pub not_parted : (ws : List (List ℕ)) → HasNoEquals ws → parted ws ≡ None
unfolding parted
not_parted [] none = refl
not_parted (w ∷ ws) none = rw none.0 (rw (not_parted ws none.1) refl)

-- ---- the two parts

-- the same parts
pub same_pair : (p q : List (List ℕ) × List (List ℕ)) → Some p ≡ Some q → p ≡ q
same_pair p q e = (cc)

-- no parts
pub no_pair : (p : List (List ℕ) × List (List ℕ)) → None ≡ Some p → ⊥
no_pair p e = cc
