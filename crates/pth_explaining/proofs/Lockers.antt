-- Who holds a lock that somebody writes.
use Rattle.std.proofs.Common.{◌≡◌, ◌∙◌, ◌<◌, ◌++◌, ℕ, List, [], ◌∷◌, Result, Ok, Err, OnOk, codes, length, append_assoc, ap, arith, refl, subst}
use Rattle.pth_explaining.specs.Whom.{lockers_text, named_text, readers_text}

pub written : (ws rs : List ℕ) → 0 < length ws → named_text (codes ", written by") ws ++ named_text (codes ", read by") rs ≡ lockers_text ws rs
unfolding lockers_text
written [] rs some = absurd (omega (arith, some))
written (t ∷ ts) rs some = refl

-- two texts are added one after the other
pub both : {T E : Type 0} (r : Result T E) (old mid new x y text : List ℕ) → OnOk r (new ≡ mid ++ y) → mid ≡ old ++ x → x ++ y ≡ text → OnOk r (new ≡ old ++ text)
both (Ok u) old mid new x y text last first is = last ∙ ap (λ (l : List ℕ). l ++ y) first ∙ append_assoc old x y ∙ ap (λ (l : List ℕ). old ++ l) is
both (Err e) old mid new x y text last first is = tt

pub unwritten : (ws rs : List ℕ) → length ws ≡ 0 → readers_text rs ≡ lockers_text ws rs
unfolding lockers_text
unwritten [] rs none = refl
unwritten (t ∷ ts) rs none = absurd (omega (arith, none))

-- an added text, named otherwise
pub called : {T E : Type 0} (r : Result T E) (old new x text : List ℕ) → OnOk r (new ≡ old ++ x) → x ≡ text → OnOk r (new ≡ old ++ text)
called r old new x text added is = subst (λ (l : List ℕ). OnOk r (new ≡ old ++ l)) is added
