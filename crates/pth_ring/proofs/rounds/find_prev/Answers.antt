use Rattle.std.proofs.Common.{◌≡◌, ◌∙◌, sym, ap, Option, IsSome, ℕ, find}
use Rattle.pth_base.specs.Chain.{StandsIn}
use Rattle.pth_numbered.specs.Numbered.{thing_at}
use Rattle.pth_ring.specs.declared.node.Node.{Node}
use Rattle.pth_ring.specs.Links.{next_place, prev_place, event_at, ring, IsLinked}
use Rattle.pth_ring.specs.Rings.{has_occurred}
use Rattle.pth_ring.proofs.Flips.{flip, flip-next, flip-event, flip-linked, flip-live, flip-ring}
use Rattle.pth_ring.proofs.Going.{on-start, on-live, on-next, places_left-shorter, find-start, found-here, found-none, found-later}
use Rattle.pth_ring.proofs.Shown.{live, used}
use Rattle.pth_ring.proofs.rounds.find_prev.Goals as goal

-- the one before is the next one backwards
back : (x : ℕ → Option Node) (at r : ℕ) → r ≡ prev_place x at → r ≡ next_place (flip x) at
back x at r h = rw (flip-next x) h

live_back : (x : ℕ → Option Node) (e at : ℕ) → IsLinked x → IsSome (event_at x e) → StandsIn at (ring (flip x) e) → IsSome (event_at x at)
live_back x e at linked live on = rw (flip-event x) at (on-live (flip x) e (flip-linked x linked) (flip-live x e live) at on)

pub round-init : goal.round-init
round-init c = record {
  on = on-start (flip (thing_at c.args.nodes.now)) c.args.e.0 (flip-linked (thing_at c.args.nodes.now) c.requires.kept.linked) (flip-live (thing_at c.args.nodes.now) c.args.e.0 (live c.args.nodes.now c.requires.kept c.args.e.0 c.requires.used));
  same = find-start (flip (thing_at c.args.nodes.now)) (λ y. has_occurred (event_at (thing_at c.args.nodes.now) y)) c.args.e.0 (flip-linked (thing_at c.args.nodes.now) c.requires.kept.linked) (flip-live (thing_at c.args.nodes.now) c.args.e.0 (live c.args.nodes.now c.requires.kept c.args.e.0 c.requires.used)) ∙ ap (find (λ y. has_occurred (event_at (thing_at c.args.nodes.now) y))) (flip-ring (thing_at c.args.nodes.now) c.args.e.0 c.requires.kept.linked (live c.args.nodes.now c.requires.kept c.args.e.0 c.requires.used));
}

pub prev_of-at-requires : goal.prev_of-at-requires
prev_of-at-requires c = used c.args.nodes.now c.requires.kept c.round.at.0 (live_back (thing_at c.args.nodes.now) c.args.e.0 c.round.at.0 c.requires.kept.linked (live c.args.nodes.now c.requires.kept c.args.e.0 c.requires.used) c.round.invariant.on)

pub has_occurred-requires : goal.has_occurred-requires
has_occurred-requires c =
    let n = back (thing_at c.args.nodes.now) c.round.at.0 _ c.prev_of-at.ensures in
    rw n (used c.args.nodes.now c.requires.kept _ (live_back (thing_at c.args.nodes.now) c.args.e.0 _ c.requires.kept.linked (live c.args.nodes.now c.requires.kept c.args.e.0 c.requires.used) (on-next (flip (thing_at c.args.nodes.now)) c.args.e.0 (flip-linked (thing_at c.args.nodes.now) c.requires.kept.linked) (flip-live (thing_at c.args.nodes.now) c.args.e.0 (live c.args.nodes.now c.requires.kept c.args.e.0 c.requires.used)) c.round.at.0 c.round.invariant.on)))

pub returns-then-has_occurred : goal.returns-then-has_occurred
returns-then-has_occurred c =
    let n = back (thing_at c.args.nodes.now) c.round.at.0 _ c.prev_of-at.ensures in
    rw n (found-here (flip (thing_at c.args.nodes.now)) (λ y. has_occurred (event_at (thing_at c.args.nodes.now) y)) c.args.e.0 (flip-linked (thing_at c.args.nodes.now) c.requires.kept.linked) (flip-live (thing_at c.args.nodes.now) c.args.e.0 (live c.args.nodes.now c.requires.kept c.args.e.0 c.requires.used)) c.round.at.0 c.round.invariant.on _ (rw n at c.if-has_occurred.ensures) c.round.invariant.same)

pub returns-then-at-e : goal.returns-then-at-e
returns-then-at-e c =
    let n = back (thing_at c.args.nodes.now) c.round.at.0 _ c.prev_of-at.ensures in
    found-none (flip (thing_at c.args.nodes.now)) (λ y. has_occurred (event_at (thing_at c.args.nodes.now) y)) c.args.e.0 (flip-linked (thing_at c.args.nodes.now) c.requires.kept.linked) (flip-live (thing_at c.args.nodes.now) c.args.e.0 (live c.args.nodes.now c.requires.kept c.args.e.0 c.requires.used)) c.round.at.0 c.round.invariant.on _ (sym n ∙ c.if-at-e.true) (rw n at c.if-has_occurred.ensures) c.round.invariant.same

pub round-smaller : goal.round-smaller
round-smaller c =
    let n = back (thing_at c.args.nodes.now) c.round.at.0 _ c.prev_of-at.ensures in
    rw n (places_left-shorter (flip (thing_at c.args.nodes.now)) c.args.e.0 (flip-linked (thing_at c.args.nodes.now) c.requires.kept.linked) (flip-live (thing_at c.args.nodes.now) c.args.e.0 (live c.args.nodes.now c.requires.kept c.args.e.0 c.requires.used)) c.round.at.0 c.round.invariant.on (λ k. c.if-at-e.false (n ∙ k)))

pub round-preserved : goal.round-preserved
round-preserved c =
    let n = back (thing_at c.args.nodes.now) c.round.at.0 _ c.prev_of-at.ensures in
    rw n (record {
      on = on-next (flip (thing_at c.args.nodes.now)) c.args.e.0 (flip-linked (thing_at c.args.nodes.now) c.requires.kept.linked) (flip-live (thing_at c.args.nodes.now) c.args.e.0 (live c.args.nodes.now c.requires.kept c.args.e.0 c.requires.used)) c.round.at.0 c.round.invariant.on;
      same = found-later (flip (thing_at c.args.nodes.now)) (λ y. has_occurred (event_at (thing_at c.args.nodes.now) y)) c.args.e.0 (flip-linked (thing_at c.args.nodes.now) c.requires.kept.linked) (flip-live (thing_at c.args.nodes.now) c.args.e.0 (live c.args.nodes.now c.requires.kept c.args.e.0 c.requires.used)) c.round.at.0 c.round.invariant.on _ (λ k. c.if-at-e.false (n ∙ k)) (rw n at c.if-has_occurred.ensures) c.round.invariant.same;
    })
