use Rattle.std.proofs.Common.{◌==◌, ◌∙◌, sym, ap}
use Rattle.pth_base.proofs.Tables.{same_self, not_same}
use Rattle.pth_numbered.specs.Numbered.{thing_at}
use Rattle.pth_ring.specs.Ring.{ring_holds}
use Rattle.pth_ring.proofs.Going.{along, on-start, on-live, on-next, places_left-start, places_left-last, places_left-step, places_left-shorter, any-here, any-later}
use Rattle.pth_ring.proofs.Shown.{live, used}
use Rattle.pth_ring.proofs.Asked.{held-seen}
use Rattle.pth_ring.proofs.rounds.is_with.Goals as goal

pub round-init : goal.round-init
round-init c = record { on = on-start (thing_at c.args.nodes.now) c.args.e.0 c.requires.kept.linked (live c.args.nodes.now c.requires.kept c.args.e.0 c.requires.used); same = ap (ring_holds c.args.a.0) (places_left-start (thing_at c.args.nodes.now) c.args.e.0 c.requires.kept.linked (live c.args.nodes.now c.requires.kept c.args.e.0 c.requires.used)) }

pub next_of-at-requires : goal.next_of-at-requires
next_of-at-requires c = used c.args.nodes.now c.requires.kept c.round.at.0 (on-live (thing_at c.args.nodes.now) c.args.e.0 c.requires.kept.linked (live c.args.nodes.now c.requires.kept c.args.e.0 c.requires.used) c.round.at.0 c.round.invariant.on)

pub returns-then-at-a : goal.returns-then-at-a
returns-then-at-a c = any-here (λ y. y == c.args.a.0) c.round.at.0 _ _ _ (along (thing_at c.args.nodes.now) c.args.e.0 c.requires.kept.linked (live c.args.nodes.now c.requires.kept c.args.e.0 c.requires.used) c.round.at.0 c.round.invariant.on).is (sym (ap (λ z. z == c.args.a.0) c.if-at-a.true ∙ same_self c.args.a.0)) c.round.invariant.same ∙ held-seen c.args.nodes.now c.requires.kept c.args.e.0 c.requires.used c.args.a.0 c.requires.a

pub returns-then-at-e : goal.returns-then-at-e
returns-then-at-e c = any-later (λ y. y == c.args.a.0) c.round.at.0 _ _ _ (places_left-last (thing_at c.args.nodes.now) c.args.e.0 c.requires.kept.linked (live c.args.nodes.now c.requires.kept c.args.e.0 c.requires.used) c.round.at.0 c.round.invariant.on (sym c.next_of-at.ensures ∙ c.if-at-e.true)) (sym (not_same c.round.at.0 c.args.a.0 c.if-at-a.false)) c.round.invariant.same ∙ held-seen c.args.nodes.now c.requires.kept c.args.e.0 c.requires.used c.args.a.0 c.requires.a

pub round-smaller : goal.round-smaller
round-smaller c = rw c.next_of-at.ensures (places_left-shorter (thing_at c.args.nodes.now) c.args.e.0 c.requires.kept.linked (live c.args.nodes.now c.requires.kept c.args.e.0 c.requires.used) c.round.at.0 c.round.invariant.on (λ k. c.if-at-e.false (c.next_of-at.ensures ∙ k)))

pub round-preserved : goal.round-preserved
round-preserved c = rw c.next_of-at.ensures (record {
  on = on-next (thing_at c.args.nodes.now) c.args.e.0 c.requires.kept.linked (live c.args.nodes.now c.requires.kept c.args.e.0 c.requires.used) c.round.at.0 c.round.invariant.on;
  same = any-later (λ y. y == c.args.a.0) c.round.at.0 _ _ _ (places_left-step (thing_at c.args.nodes.now) c.args.e.0 c.requires.kept.linked (live c.args.nodes.now c.requires.kept c.args.e.0 c.requires.used) c.round.at.0 c.round.invariant.on (λ k. c.if-at-e.false (c.next_of-at.ensures ∙ k))) (sym (not_same c.round.at.0 c.args.a.0 c.if-at-a.false)) c.round.invariant.same;
})
