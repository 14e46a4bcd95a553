use Rattle.std.proofs.Common.{◌∙◌, sym, ap}
use Rattle.std.specs.List.{list_any}
use Rattle.pth_numbered.specs.Numbered.{thing_at}
use Rattle.pth_ring.specs.Links.{event_at}
use Rattle.pth_ring.specs.Rings.{has_claim}
use Rattle.pth_ring.proofs.Going.{along, on-start, on-live, on-next, places_left-start, places_left-last, places_left-step, places_left-shorter, any-here, any-later}
use Rattle.pth_ring.proofs.Shown.{live, used}
use Rattle.pth_ring.proofs.Asked.{claimed-seen}
use Rattle.pth_ring.proofs.rounds.is_claimed.Goals as goal

pub round-init : goal.round-init
round-init c = record { on = on-start (thing_at c.args.nodes.now) c.args.e.0 c.requires.kept.linked (live c.args.nodes.now c.requires.kept c.args.e.0 c.requires.used); same = ap (list_any (λ y. has_claim (event_at (thing_at c.args.nodes.now) y))) (places_left-start (thing_at c.args.nodes.now) c.args.e.0 c.requires.kept.linked (live c.args.nodes.now c.requires.kept c.args.e.0 c.requires.used)) }

pub has_claim-requires : goal.has_claim-requires
has_claim-requires c = used c.args.nodes.now c.requires.kept c.round.at.0 (on-live (thing_at c.args.nodes.now) c.args.e.0 c.requires.kept.linked (live c.args.nodes.now c.requires.kept c.args.e.0 c.requires.used) c.round.at.0 c.round.invariant.on)

pub next_of-at-requires : goal.next_of-at-requires
next_of-at-requires c = used c.args.nodes.now c.requires.kept c.round.at.0 (on-live (thing_at c.args.nodes.now) c.args.e.0 c.requires.kept.linked (live c.args.nodes.now c.requires.kept c.args.e.0 c.requires.used) c.round.at.0 c.round.invariant.on)

pub returns-then-has_claim : goal.returns-then-has_claim
returns-then-has_claim c = any-here (λ y. has_claim (event_at (thing_at c.args.nodes.now) y)) c.round.at.0 _ _ _ (along (thing_at c.args.nodes.now) c.args.e.0 c.requires.kept.linked (live c.args.nodes.now c.requires.kept c.args.e.0 c.requires.used) c.round.at.0 c.round.invariant.on).is c.if-has_claim.ensures c.round.invariant.same ∙ claimed-seen c.args.nodes.now c.requires.kept c.args.e.0 c.requires.used

pub returns-then-at-e : goal.returns-then-at-e
returns-then-at-e c = any-later (λ y. has_claim (event_at (thing_at c.args.nodes.now) y)) c.round.at.0 _ _ _ (places_left-last (thing_at c.args.nodes.now) c.args.e.0 c.requires.kept.linked (live c.args.nodes.now c.requires.kept c.args.e.0 c.requires.used) c.round.at.0 c.round.invariant.on (sym c.next_of-at.ensures ∙ c.if-at-e.true)) c.if-has_claim.ensures c.round.invariant.same ∙ claimed-seen c.args.nodes.now c.requires.kept c.args.e.0 c.requires.used

pub round-smaller : goal.round-smaller
round-smaller c = rw c.next_of-at.ensures (places_left-shorter (thing_at c.args.nodes.now) c.args.e.0 c.requires.kept.linked (live c.args.nodes.now c.requires.kept c.args.e.0 c.requires.used) c.round.at.0 c.round.invariant.on (λ k. c.if-at-e.false (c.next_of-at.ensures ∙ k)))

pub round-preserved : goal.round-preserved
round-preserved c = rw c.next_of-at.ensures (record {
  on = on-next (thing_at c.args.nodes.now) c.args.e.0 c.requires.kept.linked (live c.args.nodes.now c.requires.kept c.args.e.0 c.requires.used) c.round.at.0 c.round.invariant.on;
  same = any-later (λ y. has_claim (event_at (thing_at c.args.nodes.now) y)) c.round.at.0 _ _ _ (places_left-step (thing_at c.args.nodes.now) c.args.e.0 c.requires.kept.linked (live c.args.nodes.now c.requires.kept c.args.e.0 c.requires.used) c.round.at.0 c.round.invariant.on (λ k. c.if-at-e.false (c.next_of-at.ensures ∙ k))) c.if-has_claim.ensures c.round.invariant.same;
})
