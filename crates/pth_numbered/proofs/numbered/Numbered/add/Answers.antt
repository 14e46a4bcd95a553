use Rattle.std.proofs.Common.{◌≡◌, ◌↔◌, ℕ, List, Option, is_some, count_by, Result, Err, IsErrOf, refl, sym, ◌∙◌, ap, arith}
use Rattle.std.proofs.lemmas.Result.{err_from_is_err_and}
use Rattle.slab.specs.Slab.{Slab}
use Rattle.pth_numbered.specs.declared.numbered.Record.{Record}
use Rattle.pth_numbered.specs.declared.error.AddErr.{AddErr}
use Rattle.pth_numbered.specs.declared.error.AddErr.TheVariants.{TooMany, OutOfMemory}
use Rattle.pth_numbered.specs.Numbered.{NumberedOf, count}
use Rattle.pth_numbered.proofs.Slots.{adds, kept_added}
use Rattle.pth_numbered.proofs.numbered.Numbered.add.Goals as goal

-- there are too many exactly where the answer says so
many : {T A : Type 0} (r : Result T AddErr) (x : NumberedOf A) (n : ℕ) → n ≡ count_by is_some x.slots → n ≡ x.limit → r ≡ Err TooMany → IsErrOf r TooMany ↔ (count x ≡ x.limit)
unfolding count
many r x n is full e = (λ h. sym is ∙ full, λ h. e)

few : {T A : Type 0} (r : Result T AddErr) (x : NumberedOf A) (n : ℕ) → n ≡ count_by is_some x.slots → (n ≡ x.limit → ⊥) → (r ≡ Err TooMany → ⊥) → IsErrOf r TooMany ↔ (count x ≡ x.limit)
unfolding count
few r x n is room e = (λ h. absurd (e h), λ h. absurd (room (is ∙ h)))

other_err : {T : Type 0} (r : Result T AddErr) (d : AddErr) → r ≡ Err d → d ≡ OutOfMemory → r ≡ Err TooMany → ⊥
other_err r d is e h = cc

pub returns-then-len-limit-clause-too_many : goal.returns-then-len-limit-clause-too_many
returns-then-len-limit-clause-too_many g c = rw (← c.self.view_is) (many _ _ c.len.result c.len.ensures c.if-len-limit.true refl)

pub returns-in_err-slot-clause-too_many : goal.returns-in_err-slot-clause-too_many
returns-in_err-slot-clause-too_many g c =
    let p = err_from_is_err_and c.from_residual.result c.from_residual.ensures.1 in
    rw (← c.self.view_is) (few _ _ c.len.result c.len.ensures c.if-len-limit.false (other_err _ p.0 p.1 p.2))

pub returns-in_err-reserve-clause-too_many : goal.returns-in_err-reserve-clause-too_many
returns-in_err-reserve-clause-too_many g c =
    let p = err_from_is_err_and c.from_residual-in_err-reserve.result c.from_residual-in_err-reserve.ensures.1 in
    rw (← c.self.view_is) (few _ _ c.len.result c.len.ensures c.if-len-limit.false (other_err _ p.0 p.1 p.2))

pub returns-in_err-keep_recent-clause-too_many : goal.returns-in_err-keep_recent-clause-too_many
returns-in_err-keep_recent-clause-too_many g c =
    let p = err_from_is_err_and c.from_residual-in_err-keep_recent.result c.from_residual-in_err-keep_recent.ensures.1 in
    rw (← c.self.view_is) (few _ _ c.len.result c.len.ensures c.if-len-limit.false (other_err _ p.0 p.1 p.2))

pub returns-in_err-_none-clause-too_many : goal.returns-in_err-_none-clause-too_many
returns-in_err-_none-clause-too_many g c =
    let p = err_from_is_err_and c.from_residual-in_err-_none.result c.from_residual-in_err-_none.ensures.1 in
    rw (← c.self.view_is) (few _ _ c.len.result c.len.ensures c.if-len-limit.false (other_err _ p.0 p.1 p.2))

pub invariant_of-self-2 : goal.invariant_of-self-2
invariant_of-self-2 g c =
    let slots = sym (ap (λ (s : Slab (Record g.row.T.Denot)). s.slots) c.in_ok-reserve.ensures.rest_kept) in
    let key : c.insert_reserved-key.result ≡ c.in_ok-slot.slot = c.insert_reserved-key.ensures.key ∙ ap (λ (s : Slab (Record g.row.T.Denot)). s.vacant_key) c.in_ok-reserve.ensures.rest_kept ∙ sym c.in_ok-slot.ensures.key in
    kept_added _ c.reserve.new.self c.insert_reserved-key.new.self c.self.inside.index c.insert.new.self c.in_ok-slot.slot c.args.thing c.self.invariant slots refl
    (rw key at c.insert_reserved-key.ensures.was_vacant)
    (rw key at c.insert_reserved-key.ensures.updates)
    c.insert_reserved-key.ensures.len
    c.in_ok-_none.ensures.updates
    c.in_ok-slot.ensures.low
    (λ h. c.if-len-limit.false (c.len.ensures ∙ ap (λ (xs : List (Option (Record g.row.T.Denot))). count_by is_some xs) slots ∙ h))

pub returns-clause-ok : goal.returns-clause-ok
returns-clause-ok g c =
    let slots = sym (ap (λ (s : Slab (Record g.row.T.Denot)). s.slots) c.in_ok-reserve.ensures.rest_kept) in
    let key : c.insert_reserved-key.result ≡ c.in_ok-slot.slot = c.insert_reserved-key.ensures.key ∙ ap (λ (s : Slab (Record g.row.T.Denot)). s.vacant_key) c.in_ok-reserve.ensures.rest_kept ∙ sym c.in_ok-slot.ensures.key in
    rw (← c.self.view_is) (adds _ c.reserve.new.self c.insert_reserved-key.new.self c.self.inside.index c.insert.new.self c.in_ok-slot.slot c.args.thing c.self.invariant slots refl
    (rw key at c.insert_reserved-key.ensures.was_vacant)
    (rw key at c.insert_reserved-key.ensures.updates)
    c.insert_reserved-key.ensures.len
    c.in_ok-_none.ensures.updates
    c.in_ok-slot.ensures.low
    (λ h. c.if-len-limit.false (c.len.ensures ∙ ap (λ (xs : List (Option (Record g.row.T.Denot))). count_by is_some xs) slots ∙ h)))

pub returns-clause-too_many : goal.returns-clause-too_many
returns-clause-too_many g c = rw (← c.self.view_is) (few _ _ c.len.result c.len.ensures c.if-len-limit.false (λ h. cc))

pub returns-clause-kept : goal.returns-clause-kept
returns-clause-kept g c = invariant_of-self-2 g c
