use Rattle.std.proofs.Common.{◌≡◌, ◌∙◌, ap, to_z-of_z, ℕ, sym, true, false, None, rules}
use Rattle.pth_base.specs.Table.{table}
use Rattle.pth_lock.specs.Objects.{object_named}
use Rattle.pth_lock.specs.Sets.{is_in_set}
use Rattle.pth_lock.specs.RwLocks.{lock_take_answer, lock_taken, is_open}
use Rattle.pth_lock.proofs.Holdings.{take_answered, room_is, kept_entered, shown_entered, old}
use Rattle.pth_lock.proofs.rwlocks.RwLocks.try_take.Goals as goal

pub returns-then-not-is_open-clause-answer : goal.returns-then-not-is_open-clause-answer
returns-then-not-is_open-clause-answer c =
    let closed : is_open c.in_ok-place.holders c.args.write ≡ false = search rules in
    let out = ap (is_in_set c.self.inside.sets c.args.s.0) (sym c.in_ok-place.ensures.named) ∙ sym c.contains.ensures ∙ c.if-contains.false in
    rw (← c.self.view_is)
    (take_answered _ c.in_ok-place.holders _ c.in_ok-place.ensures.known (c.self.invariant.held _) c.args.s.0 c.args.write false false out closed
    ∙ ap (lock_take_answer (old c.self.inside.locks c.self.inside.sets c.self.invariant) c.args.s.0 c.args.write) (to_z-of_z c.ranges.l))

pub entered-requires : goal.entered-requires
entered-requires c = room_is _ c.in_ok-place.holders _ c.in_ok-place.ensures.known (c.self.invariant.held _)

pub invariant_of-self : goal.invariant_of-self
invariant_of-self c =
    let enters : is_open c.in_ok-place.holders c.args.write ≡ true = search rules in
    kept_entered c.self.inside.locks c.self.inside.sets c.self.invariant c.in_ok-place.place c.in_ok-place.ensures.low c.in_ok-place.holders
    (ap (table None c.self.inside.locks) c.in_ok-place.ensures.named ∙ c.in_ok-place.ensures.known) c.args.s c.requires (sym c.contains.ensures ∙ c.if-contains.false)
    c.entered.result c.insert.new.self c.insert.ensures.long c.insert.ensures.objects c.args.write c.entered.ensures enters

pub returns-clause-answer : goal.returns-clause-answer
returns-clause-answer c =
    let enters : is_open c.in_ok-place.holders c.args.write ≡ true = search rules in
    let out = ap (is_in_set c.self.inside.sets c.args.s.0) (sym c.in_ok-place.ensures.named) ∙ sym c.contains.ensures ∙ c.if-contains.false in
    rw (← c.self.view_is)
    (take_answered _ c.in_ok-place.holders _ c.in_ok-place.ensures.known (c.self.invariant.held _) c.args.s.0 c.args.write false true out enters
    ∙ ap (lock_take_answer (old c.self.inside.locks c.self.inside.sets c.self.invariant) c.args.s.0 c.args.write) (to_z-of_z c.ranges.l))

pub returns-clause-changes : goal.returns-clause-changes
returns-clause-changes c =
    let enters : is_open c.in_ok-place.holders c.args.write ≡ true = search rules in
    let named = c.in_ok-place.ensures.named ∙ ap object_named (to_z-of_z c.ranges.l) in
    rw (← c.self.view_is)
    (shown_entered c.self.inside.locks c.self.inside.sets c.self.invariant c.in_ok-place.place c.in_ok-place.ensures.low c.in_ok-place.holders
    (ap (table None c.self.inside.locks) c.in_ok-place.ensures.named ∙ c.in_ok-place.ensures.known) c.args.s c.requires (sym c.contains.ensures ∙ c.if-contains.false)
    c.entered.result c.insert.new.self c.insert.ensures.long c.insert.ensures.objects c.args.write c.entered.ensures enters
    ∙ ap (λ (k : ℕ). lock_taken c.args.s.0 c.args.write k (old c.self.inside.locks c.self.inside.sets c.self.invariant)) named)
