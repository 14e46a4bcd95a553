use Rattle.std.proofs.Common.{◌≤◌, ◌∙◌, sym, ap, arith, count_by}
use Rattle.pth_numbered.specs.Numbered.{thing_at}
use Rattle.pth_ring.specs.Links.{event_at, ring}
use Rattle.pth_ring.specs.Rings.{event_limit, is_settled}
use Rattle.pth_ring.proofs.Going.{along, on-start, on-live, on-next, places_left-start, places_left-last, places_left-step, places_left-shorter, counted, counted-last}
use Rattle.pth_ring.proofs.Shown.{live, used}
use Rattle.pth_ring.proofs.Asked.{settled-seen, settled-few}
use Rattle.pth_ring.proofs.rounds.count_settled.Goals as goal

pub round-init : goal.round-init
round-init c = record { on = on-start (thing_at c.args.nodes.now) c.args.e.0 c.requires.kept.linked (live c.args.nodes.now c.requires.kept c.args.e.0 c.requires.used); sum = (let a = ap (count_by (λ y. is_settled (event_at (thing_at c.args.nodes.now) y))) (places_left-start (thing_at c.args.nodes.now) c.args.e.0 c.requires.kept.linked (live c.args.nodes.now c.requires.kept c.args.e.0 c.requires.used)) in omega arith) }

pub settled_at-count-requires : goal.settled_at-count-requires
settled_at-count-requires c = used c.args.nodes.now c.requires.kept c.round.at.0 (on-live (thing_at c.args.nodes.now) c.args.e.0 c.requires.kept.linked (live c.args.nodes.now c.requires.kept c.args.e.0 c.requires.used) c.round.at.0 c.round.invariant.on)

pub next_of-at-requires : goal.next_of-at-requires
next_of-at-requires c = used c.args.nodes.now c.requires.kept c.round.at.0 (on-live (thing_at c.args.nodes.now) c.args.e.0 c.requires.kept.linked (live c.args.nodes.now c.requires.kept c.args.e.0 c.requires.used) c.round.at.0 c.round.invariant.on)

pub overflow_add-count : goal.overflow_add-count
overflow_add-count c =
    let a = counted (λ y. is_settled (event_at (thing_at c.args.nodes.now) y)) c.round.at.0 c.round.count c.settled_at-count.result _ _ _ (along (thing_at c.args.nodes.now) c.args.e.0 c.requires.kept.linked (live c.args.nodes.now c.requires.kept c.args.e.0 c.requires.used) c.round.at.0 c.round.invariant.on).is c.settled_at-count.ensures c.round.invariant.sum in
    let b : count_by (λ y. is_settled (event_at (thing_at c.args.nodes.now) y)) (ring (thing_at c.args.nodes.now) c.args.e.0) ≤ event_limit = settled-few c.args.nodes.now c.requires.kept c.args.e.0 c.requires.used in
    omega arith

pub returns-then-at-e : goal.returns-then-at-e
returns-then-at-e c = counted-last (λ y. is_settled (event_at (thing_at c.args.nodes.now) y)) c.round.at.0 c.round.count c.settled_at-count.result _ _ (places_left-last (thing_at c.args.nodes.now) c.args.e.0 c.requires.kept.linked (live c.args.nodes.now c.requires.kept c.args.e.0 c.requires.used) c.round.at.0 c.round.invariant.on (sym c.next_of-at.ensures ∙ c.if-at-e.true)) c.settled_at-count.ensures c.round.invariant.sum ∙ settled-seen c.args.nodes.now c.requires.kept c.args.e.0 c.requires.used

pub round-smaller : goal.round-smaller
round-smaller c = rw c.next_of-at.ensures (places_left-shorter (thing_at c.args.nodes.now) c.args.e.0 c.requires.kept.linked (live c.args.nodes.now c.requires.kept c.args.e.0 c.requires.used) c.round.at.0 c.round.invariant.on (λ k. c.if-at-e.false (c.next_of-at.ensures ∙ k)))

pub round-preserved : goal.round-preserved
round-preserved c = rw c.next_of-at.ensures (record {
  on = on-next (thing_at c.args.nodes.now) c.args.e.0 c.requires.kept.linked (live c.args.nodes.now c.requires.kept c.args.e.0 c.requires.used) c.round.at.0 c.round.invariant.on;
  sum = counted (λ y. is_settled (event_at (thing_at c.args.nodes.now) y)) c.round.at.0 c.round.count c.settled_at-count.result _ _ _ (places_left-step (thing_at c.args.nodes.now) c.args.e.0 c.requires.kept.linked (live c.args.nodes.now c.requires.kept c.args.e.0 c.requires.used) c.round.at.0 c.round.invariant.on (λ k. c.if-at-e.false (c.next_of-at.ensures ∙ k))) c.settled_at-count.ensures c.round.invariant.sum;
})
