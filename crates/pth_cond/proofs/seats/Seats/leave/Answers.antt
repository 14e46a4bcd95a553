use Rattle.std.proofs.Common.{◌≡◌, ◌∙◌, true, false, Some, sym, ap, get_or}
use Rattle.pth_cond.specs.Seats.{has_mark}
use Rattle.pth_cond.specs.declared.seats.Taken.{Taken}
use Rattle.pth_cond.proofs.Seating.{place_is, left_at, not_left, kept_marked, kept_unmarked}
use Rattle.pth_cond.proofs.seats.Seats.leave.Goals as goal

pub returns-in_default-clause-mark : goal.returns-in_default-clause-mark
returns-in_default-clause-mark c =
    let none = place_is c.args.seat c.deref.ensures.value c.place_of_seat.ensures c.in_default.is in
    rw (← c.self.view_is) (sym (not_left c.args.seat c.self.inside.taken.items none).1)

pub returns-in_default-clause-changes : goal.returns-in_default-clause-changes
returns-in_default-clause-changes c =
    let none = place_is c.args.seat c.deref.ensures.value c.place_of_seat.ensures c.in_default.is in
    rw (← c.self.view_is) (sym (not_left c.args.seat c.self.inside.taken.items none).0)

pub invariant_of-self : goal.invariant_of-self
invariant_of-self c =
    let at = place_is c.args.seat c.deref.ensures.value c.place_of_seat.ensures c.in-Some.is in
    let marked : has_mark (get_or c.self.inside.taken.items c.in-Some.place c.remove-gone.result) ≡ true = ap has_mark (sym c.remove-gone.ensures.value) ∙ sym c.is_mark.ensures ∙ c.if-is_mark.true in
    rw c.remove-gone.ensures.items (kept_marked c.args.seat c.self.inside.marked c.self.inside.taken.items c.self.invariant c.in-Some.place c.remove-gone.result at marked)

pub invariant_of-self-else-is_mark : goal.invariant_of-self-else-is_mark
invariant_of-self-else-is_mark c =
    let at = place_is c.args.seat c.deref.ensures.value c.place_of_seat.ensures c.in-Some.is in
    let unmarked : has_mark (get_or c.self.inside.taken.items c.in-Some.place c.remove-gone.result) ≡ false = ap has_mark (sym c.remove-gone.ensures.value) ∙ sym c.is_mark.ensures ∙ c.if-is_mark.false in
    rw c.remove-gone.ensures.items (kept_unmarked c.args.seat c.self.inside.marked c.self.inside.taken.items c.self.invariant c.in-Some.place c.remove-gone.result at unmarked)

pub returns-then-is_mark-clause-mark : goal.returns-then-is_mark-clause-mark
returns-then-is_mark-clause-mark c =
    let at = place_is c.args.seat c.deref.ensures.value c.place_of_seat.ensures c.in-Some.is in
    rw (← c.self.view_is) (ap (λ (t : Taken). Some t.mark) c.remove-gone.ensures.value ∙ sym (left_at c.args.seat c.self.inside.taken.items c.in-Some.place c.remove-gone.result at).mark)

pub returns-then-is_mark-clause-changes : goal.returns-then-is_mark-clause-changes
returns-then-is_mark-clause-changes c =
    let at = place_is c.args.seat c.deref.ensures.value c.place_of_seat.ensures c.in-Some.is in
    rw (← c.self.view_is) (c.remove-gone.ensures.items ∙ sym (left_at c.args.seat c.self.inside.taken.items c.in-Some.place c.remove-gone.result at).left)

pub returns-else-is_mark-clause-mark : goal.returns-else-is_mark-clause-mark
returns-else-is_mark-clause-mark c =
    let at = place_is c.args.seat c.deref.ensures.value c.place_of_seat.ensures c.in-Some.is in
    rw (← c.self.view_is) (ap (λ (t : Taken). Some t.mark) c.remove-gone.ensures.value ∙ sym (left_at c.args.seat c.self.inside.taken.items c.in-Some.place c.remove-gone.result at).mark)

pub returns-else-is_mark-clause-changes : goal.returns-else-is_mark-clause-changes
returns-else-is_mark-clause-changes c =
    let at = place_is c.args.seat c.deref.ensures.value c.place_of_seat.ensures c.in-Some.is in
    rw (← c.self.view_is) (c.remove-gone.ensures.items ∙ sym (left_at c.args.seat c.self.inside.taken.items c.in-Some.place c.remove-gone.result at).left)
