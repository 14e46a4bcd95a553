use Rattle.std.proofs.Common.{◌≢◌, ◌<◌, ℕ, ap, sym, subst}
use Rattle.pth_numbered.specs.Numbered.{number_at}
use Rattle.pth_model.specs.State.{now_of}
use Rattle.pth_waits.specs.Dormant.{AreFoundPending}
use Rattle.pth_waits.proofs.Rounding.{PendingRound, finds_at, later_at, pends_none, pends_next, pends_all, all_later}
use Rattle.pth_waits.proofs.dormant.round_until.Goals as goal

pub round-init : goal.round-init
round-init g c = record { used = c.requires.used; so_far = pends_none c.args.w.now _ _ c.requires.begins c.never-until.ensures.later }

pub returns-then-at-first-clause-pending : goal.returns-then-at-first-clause-pending
returns-then-at-first-clause-pending g c = λ s st.
    let w = c.args.w.now in
    let e = number_at w.events c.args.first.0 in
    let spec = rw c.rings-rings.ensures at c.spec_at.ensures in
    let named = rw (c.rings-rings.ensures) at c.id_at.ensures in
    let here = finds_at w e _ c.found_until.result c.spec_at.result.now spec (rw named at c.found_until.ensures.pending) in
    let later = later_at w e _ c.found_until.result c.spec_at.result.now spec c.round.invariant.so_far.within (rw named at c.found_until.ensures.later) in
    subst (λ (u : ℕ). AreFoundPending s u (s.control.events.rings e)) (sym c.min-until.ensures)
    (pends_all w e _ _ c.round.until c.found_until.result c.round.invariant.so_far later here (rw c.rings-rings.ensures at c.next_at-at.ensures.round) (ap (number_at w.events) c.if-at-first.true) s st)

pub returns-then-at-first-clause-later : goal.returns-then-at-first-clause-later
returns-then-at-first-clause-later g c = λ s st finds.
    let w = c.args.w.now in
    let e = number_at w.events c.args.first.0 in
    let spec = rw c.rings-rings.ensures at c.spec_at.ensures in
    let named = rw (c.rings-rings.ensures) at c.id_at.ensures in
    let here = finds_at w e _ c.found_until.result c.spec_at.result.now spec (rw named at c.found_until.ensures.pending) in
    let later = later_at w e _ c.found_until.result c.spec_at.result.now spec c.round.invariant.so_far.within (rw named at c.found_until.ensures.later) in
    subst (λ (u : ℕ). now_of s.control < u) (sym c.min-until.ensures)
    (all_later w e _ _ c.round.until c.found_until.result c.round.invariant.so_far later here (rw c.rings-rings.ensures at c.next_at-at.ensures.round) s st finds)

pub round-preserved : goal.round-preserved
round-preserved g c =
    let w = c.args.w.now in
    let v = c.next_at-at.result.0 in
    let e = number_at w.events c.args.first.0 in
    let used = rw c.rings-rings.ensures at c.next_at-at.ensures.used in
    let apart = rw c.rings-rings.ensures at c.next_at-at.ensures.apart in
    let more : number_at w.events v ≢ e = λ h. c.if-at-first.false (sym (apart c.args.first.0 (sym h))) in
    let spec = rw c.rings-rings.ensures at c.spec_at.ensures in
    let named = rw (c.rings-rings.ensures) at c.id_at.ensures in
    let here = finds_at w e _ c.found_until.result c.spec_at.result.now spec (rw named at c.found_until.ensures.pending) in
    let later = later_at w e _ c.found_until.result c.spec_at.result.now spec c.round.invariant.so_far.within (rw named at c.found_until.ensures.later) in
    record {
      used = used;
      so_far = subst (PendingRound w e (number_at w.events v)) (sym c.min-until.ensures)
          (pends_next w e _ _ c.round.until c.found_until.result c.round.invariant.so_far later here (rw c.rings-rings.ensures at c.next_at-at.ensures.round) more);
    }
