-- Results.
use Rattle.std.proofs.Common.{◌≡◌, ℕ, List, Option, Result, Ok, Err, IfErr, IsErrAnd, subst, sym}
use Rattle.pth_base.specs.declared.mark.Mark.{Mark}
use Rattle.pth_print.specs.declared.fault_line.Fault.{Fault}
use Rattle.pth_transcript.specs.declared.ending.Ending.{Ending}
use Rattle.pth_explaining.specs.Why.{Makes, StopsAt}

-- what is known of an error goes on to what a `?` answers
pub passed_on : {T E : Type 0} (P : E → Type 0) (r : Result T E) (e : E) → IsErrAnd r (λ y. y ≡ e) → P e → IfErr r P
passed_on P (Ok x) e h p = tt
passed_on P (Err y) e h p = subst P (sym h) p

-- nothing was made of a content
pub not_made : {T : Type 0} (Is : List Mark → Ending → T → Type 0) (content : Option (List ℕ)) (r : Result T Fault) (f : Fault) → IsErrAnd r (λ y. y ≡ f)
    → StopsAt content f → Makes Is content r
not_made Is content (Ok x) f h stops = absurd h
not_made Is content (Err y) f h stops = subst (StopsAt content) (sym h) stops

-- a `?` answers the error that it met
pub answers_error : {T E : Type 0} (P : Result T E → Type 0) (r : Result T E) (e : E) → IsErrAnd r (λ y. y ≡ e) → P (Err e) → P r
answers_error P (Ok x) e h p = absurd h
answers_error {T} {E} P (Err y) e h p = subst (λ (z : E). P (Err z)) (sym h) p
