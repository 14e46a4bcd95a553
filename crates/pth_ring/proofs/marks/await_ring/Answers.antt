use Rattle.std.proofs.Common.{◌≢◌, ◌∙◌, sym, refl}
use Rattle.pth_numbered.specs.Numbered.{thing_at, number_at}
use Rattle.pth_ring.proofs.Writes.{places_none, places_then}
use Rattle.pth_ring.proofs.Going.{on-start, on-live}
use Rattle.pth_ring.proofs.Shown.{live, used}
use Rattle.pth_ring.proofs.Awaits.{awaited-start, awaited-step, awaited-last, awaited-shorter, awaited-on, ring-awaited}
use Rattle.pth_ring.proofs.marks.await_ring.Goals as goal

pub round-init : goal.round-init
round-init c = record {
  kept = c.requires.kept;
  places = places_none c.args.nodes.now;
  rings = refl;
  on = on-start (thing_at c.args.nodes.now) c.args.e.0 c.requires.kept.linked (live c.args.nodes.now c.requires.kept c.args.e.0 c.requires.used);
  event = awaited-start c.args.nodes.now c.args.now c.args.e.0 c.requires.kept c.requires.used;
}

pub await_at-requires-clause-used : goal.await_at-requires-clause-used
await_at-requires-clause-used c =
    let i = c.round.invariant in
    let u : number_at c.round.nodes c.args.e.0 ≢ 0 = rw i.places.numbers c.requires.used in
    used c.round.nodes i.kept c.round.at.0 (on-live (thing_at c.round.nodes) c.args.e.0 i.kept.linked (live c.round.nodes i.kept c.args.e.0 u) c.round.at.0 i.on)

pub next_of-at-requires : goal.next_of-at-requires
next_of-at-requires c =
    let i = c.round.invariant in
    let u : number_at c.round.nodes c.args.e.0 ≢ 0 = rw i.places.numbers c.requires.used in
    rw c.await_at.ensures.places.numbers (used c.round.nodes i.kept c.round.at.0 (on-live (thing_at c.round.nodes) c.args.e.0 i.kept.linked (live c.round.nodes i.kept c.args.e.0 u) c.round.at.0 i.on))

pub returns-then-at-e : goal.returns-then-at-e
returns-then-at-e c =
    let i = c.round.invariant in
    let u : number_at c.round.nodes c.args.e.0 ≢ 0 = rw i.places.numbers c.requires.used in
    let r = c.await_at.ensures in
    ring-awaited c.args.nodes.now c.await_at.new.nodes c.args.now c.args.e.0 c.requires.kept c.requires.used r.kept
    (places_then _ _ _ i.places r.places)
    (r.rings ∙ i.rings)
    (awaited-last c.round.nodes c.await_at.new.nodes c.args.now c.args.e.0 c.round.at.0 i.kept u i.on r _ (sym c.next_of-at.ensures ∙ c.if-at-e.true) i.event)

pub round-smaller : goal.round-smaller
round-smaller c =
    let i = c.round.invariant in
    let u : number_at c.round.nodes c.args.e.0 ≢ 0 = rw i.places.numbers c.requires.used in
    rw c.next_of-at.ensures (awaited-shorter c.round.nodes c.await_at.new.nodes c.args.now c.args.e.0 c.round.at.0 i.kept u i.on c.await_at.ensures (λ k. c.if-at-e.false (c.next_of-at.ensures ∙ k)))

pub round-preserved : goal.round-preserved
round-preserved c =
    let i = c.round.invariant in
    let u : number_at c.round.nodes c.args.e.0 ≢ 0 = rw i.places.numbers c.requires.used in
    let r = c.await_at.ensures in
    rw c.next_of-at.ensures (record {
      kept = r.kept;
      places = places_then _ _ _ i.places r.places;
      rings = r.rings ∙ i.rings;
      on = awaited-on c.round.nodes c.await_at.new.nodes c.args.now c.args.e.0 c.round.at.0 i.kept u i.on r;
      event = awaited-step c.round.nodes c.await_at.new.nodes c.args.now c.args.e.0 c.round.at.0 i.kept u i.on r _ (λ k. c.if-at-e.false (c.next_of-at.ensures ∙ k)) i.event;
    })
