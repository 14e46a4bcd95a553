-- Results and options.
use Rattle.std.proofs.Common.{◌≡◌, Option, Some, None, Result, Ok, Err, IsErr, IsErrAnd, MatchResult, ap, IfSome, IfOk, subst, sym}

-- what a `?` answers
pub err_is : {T E : Type 0} (r : Result T E) (e : E) → IsErr r → IsErrAnd r (λ x. x ≡ e) → r ≡ Err e
err_is (Ok x) e h k = cc
err_is (Err x) e h k = ap Err k

pub err_and : {T E : Type 0} (r : Result T E) (e : E) → IsErrAnd r (λ x. x ≡ e) → r ≡ Err e
err_and (Ok x) e h = absurd h
err_and (Err x) e h = ap Err h

-- what is told of a value goes on to what follows from it
pub told : {X : Type 0} (P Q : X → Type 0) (o : Option X) → ((x : X) → P x → Q x) → IfSome o P → IfSome o Q
told P Q None f h = tt
told P Q (Some x) f h = f x h

pub always : {X : Type 0} (Q : X → Type 0) (o : Option X) → ((x : X) → Q x) → IfSome o Q
always Q None f = tt
always Q (Some x) f = f x

-- a result is one value or one error
pub ok_is : {T E : Type 0} (r : Result T E) (x y : T) → r ≡ Ok x → r ≡ Ok y → x ≡ y
ok_is r x y p q = cc

pub ok_not_err : {T E : Type 0} (r : Result T E) (x : T) (e : E) → r ≡ Ok x → r ≡ Err e → ⊥
ok_not_err r x e h k = cc

-- what is known of a value that an error's change let through
pub kept : {T E G : Type 0} (P : T → Type 0) (f : E → G) (r : Result T E) (s : Result T G) (x : T) → s ≡ Ok x → IfOk r P
    → MatchResult r (λ y. s ≡ Ok y) (λ e. IsErrAnd s (λ y. y ≡ f e)) → P x
kept P f (Ok y) s x is h m = subst P (ok_is s y x m is) h
kept P f (Err e) s x is h m = absurd (subst (λ r. IsErrAnd r (λ y. y ≡ f e)) is m)

pub ok_kept : {T E G : Type 0} (P : T → Type 0) (f : E → G) (r : Result T E) (s : Result T G) → IfOk r P
    → MatchResult r (λ y. s ≡ Ok y) (λ e. IsErrAnd s (λ y. y ≡ f e)) → IfOk s P
ok_kept P f (Ok y) s h m = subst (λ t. IfOk t P) (sym m) h
ok_kept P f (Err e) s h m = subst (λ t. IfOk t P) (sym (err_and s (f e) m)) tt
