use Rattle.std.proofs.Common.{◌≢◌, ◌∙◌, ap, subst, sym}
use Rattle.pth_cond.specs.Conditions.{conditions_of, seat_entered}
use Rattle.pth_numbered.specs.Numbered.{number_at}
use Rattle.pth_ring.specs.Arena.{events_of}
use Rattle.pth_world.proofs.EventSeats.{ChangedUpTo, none_changed, one_more_changed, all_changed, read_next}
use Rattle.pth_world.proofs.world.event_seats.enter_round.Goals as goal

pub round-init : goal.round-init
round-init c = record { used = c.requires.used; so_far = none_changed seat_entered (events_of c.args.rings.now) _ (conditions_of c.args.conditions.now) c.requires.begins }

pub returns-then-at-first : goal.returns-then-at-first
returns-then-at-first c =
    let x = events_of c.args.rings.now in
    let n = number_at c.args.rings.now in
    let e = n c.args.first.0 in
    let old = conditions_of c.args.conditions.now in
    let y = conditions_of c.round.conditions in
    let goes = c.next_at-at.ensures.round e c.round.invariant.so_far.within in
    c.in_ok-enter_seat.ensures
    ∙ read_next seat_entered x e old (n c.round.at.0) _ y c.round.invariant.so_far goes c.id_at.result.0 c.spec_at.result.now c.id_at.ensures c.spec_at.ensures
    ∙ all_changed seat_entered x e old (n c.round.at.0) _ y c.round.invariant.so_far goes (ap n c.if-at-first.true)

pub round-preserved : goal.round-preserved
round-preserved c =
    let x = events_of c.args.rings.now in
    let n = number_at c.args.rings.now in
    let e = n c.args.first.0 in
    let old = conditions_of c.args.conditions.now in
    let y = conditions_of c.round.conditions in
    let goes = c.next_at-at.ensures.round e c.round.invariant.so_far.within in
    let more : n c.next_at-at.result.0 ≢ e = λ h. c.if-at-first.false (sym (c.next_at-at.ensures.apart c.args.first.0 (sym h))) in
    let next = c.in_ok-enter_seat.ensures ∙ read_next seat_entered x e old (n c.round.at.0) _ y c.round.invariant.so_far goes c.id_at.result.0 c.spec_at.result.now c.id_at.ensures c.spec_at.ensures in
    record {
      used = c.next_at-at.ensures.used;
      so_far = subst (ChangedUpTo seat_entered x e old (n c.next_at-at.result.0)) (sym next) (one_more_changed seat_entered x e old (n c.round.at.0) _ y c.round.invariant.so_far goes more);
    }
