use Rattle.std.proofs.Common.{◌∙◌, sym}
use Rattle.pth_numbered.specs.Numbered.{thing_at}
use Rattle.pth_ring.specs.Links.{event_at}
use Rattle.pth_ring.specs.Rings.{has_occurred}
use Rattle.pth_ring.proofs.Going.{on-start, on-live, on-next, places_left-shorter, find-start, found-here, found-none, found-later}
use Rattle.pth_ring.proofs.Shown.{live, used}
use Rattle.pth_ring.proofs.rounds.find_next.Goals as goal

pub round-init : goal.round-init
round-init c = record { on = on-start (thing_at c.args.nodes.now) c.args.e.0 c.requires.kept.linked (live c.args.nodes.now c.requires.kept c.args.e.0 c.requires.used); same = find-start (thing_at c.args.nodes.now) (λ y. has_occurred (event_at (thing_at c.args.nodes.now) y)) c.args.e.0 c.requires.kept.linked (live c.args.nodes.now c.requires.kept c.args.e.0 c.requires.used) }

pub next_of-at-requires : goal.next_of-at-requires
next_of-at-requires c = used c.args.nodes.now c.requires.kept c.round.at.0 (on-live (thing_at c.args.nodes.now) c.args.e.0 c.requires.kept.linked (live c.args.nodes.now c.requires.kept c.args.e.0 c.requires.used) c.round.at.0 c.round.invariant.on)

pub has_occurred-requires : goal.has_occurred-requires
has_occurred-requires c = rw c.next_of-at.ensures (used c.args.nodes.now c.requires.kept _ (on-live (thing_at c.args.nodes.now) c.args.e.0 c.requires.kept.linked (live c.args.nodes.now c.requires.kept c.args.e.0 c.requires.used) _ (on-next (thing_at c.args.nodes.now) c.args.e.0 c.requires.kept.linked (live c.args.nodes.now c.requires.kept c.args.e.0 c.requires.used) c.round.at.0 c.round.invariant.on)))

pub returns-then-has_occurred : goal.returns-then-has_occurred
returns-then-has_occurred c = rw c.next_of-at.ensures (found-here (thing_at c.args.nodes.now) (λ y. has_occurred (event_at (thing_at c.args.nodes.now) y)) c.args.e.0 c.requires.kept.linked (live c.args.nodes.now c.requires.kept c.args.e.0 c.requires.used) c.round.at.0 c.round.invariant.on _ (rw c.next_of-at.ensures at c.if-has_occurred.ensures) c.round.invariant.same)

pub returns-then-at-e : goal.returns-then-at-e
returns-then-at-e c = found-none (thing_at c.args.nodes.now) (λ y. has_occurred (event_at (thing_at c.args.nodes.now) y)) c.args.e.0 c.requires.kept.linked (live c.args.nodes.now c.requires.kept c.args.e.0 c.requires.used) c.round.at.0 c.round.invariant.on _ (sym c.next_of-at.ensures ∙ c.if-at-e.true) (rw c.next_of-at.ensures at c.if-has_occurred.ensures) c.round.invariant.same

pub round-smaller : goal.round-smaller
round-smaller c = rw c.next_of-at.ensures (places_left-shorter (thing_at c.args.nodes.now) c.args.e.0 c.requires.kept.linked (live c.args.nodes.now c.requires.kept c.args.e.0 c.requires.used) c.round.at.0 c.round.invariant.on (λ k. c.if-at-e.false (c.next_of-at.ensures ∙ k)))

pub round-preserved : goal.round-preserved
round-preserved c = rw c.next_of-at.ensures (record {
  on = on-next (thing_at c.args.nodes.now) c.args.e.0 c.requires.kept.linked (live c.args.nodes.now c.requires.kept c.args.e.0 c.requires.used) c.round.at.0 c.round.invariant.on;
  same = found-later (thing_at c.args.nodes.now) (λ y. has_occurred (event_at (thing_at c.args.nodes.now) y)) c.args.e.0 c.requires.kept.linked (live c.args.nodes.now c.requires.kept c.args.e.0 c.requires.used) c.round.at.0 c.round.invariant.on _ (λ k. c.if-at-e.false (c.next_of-at.ensures ∙ k)) (rw c.next_of-at.ensures at c.if-has_occurred.ensures) c.round.invariant.same;
})
