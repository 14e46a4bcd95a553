use Rattle.std.proofs.Common.{◌≡◌, true, false, None, IsSome, is_some, ap, refl, rules}
use Rattle.pth_model.specs.Changes.{blocked_of}
use Rattle.pth_world.specs.Numbering.{Thread, Object, Event, Port}
use Rattle.pth_sched.proofs.Showing.{placed_none, placed_waiting, placed_back}
use Rattle.pth_sched.proofs.turns.place.Goals as goal

pub returns-then-is_none-clause-shows : goal.returns-then-is_none-clause-shows
returns-then-is_none-clause-shows g c =
    let nobody : c.args.w.now.scheduler.running ≡ None = search rules in
    λ k st. placed_none c.args.w.now k c.args.t.0 nobody st

pub returns-then-is_some-clause-shows : goal.returns-then-is_some-clause-shows
returns-then-is_some-clause-shows g c =
    let runs : IsSome c.args.w.now.scheduler.running = search rules in
    λ k st.
    let blocked : is_some (blocked_of k c.args.t.0) ≡ true = (rw (← c.blocked.ensures.blocked k st) (search rules)) in
    placed_waiting c.args.w.now _ k c.args.t.0 runs blocked st (c.make_waiting.ensures.shows k st)

pub returns-else-is_some-clause-shows : goal.returns-else-is_some-clause-shows
returns-else-is_some-clause-shows g c =
    let runs : IsSome c.args.w.now.scheduler.running = search rules in
    λ k st.
    let blocked : is_some (blocked_of k c.args.t.0) ≡ false = (rw (← c.blocked.ensures.blocked k st) (search rules)) in
    placed_back c.args.w.now _ k c.args.t.0 runs blocked st (c.put_back.ensures.shows k st)

pub returns-then-is_some-clause-whole : goal.returns-then-is_some-clause-whole
returns-then-is_some-clause-whole g c = c.make_waiting.ensures.whole

pub returns-then-is_some-clause-running : goal.returns-then-is_some-clause-running
returns-then-is_some-clause-running g c = ap (λ w. w.scheduler.running) c.make_waiting.ensures.same

pub returns-then-is_some-clause-preferred : goal.returns-then-is_some-clause-preferred
returns-then-is_some-clause-preferred g c = ap (λ w. w.scheduler.preferred) c.make_waiting.ensures.same

pub returns-then-is_none-clause-gives : goal.returns-then-is_none-clause-gives
returns-then-is_none-clause-gives g c = λ k. refl

pub returns-then-is_some-clause-gives : goal.returns-then-is_some-clause-gives
returns-then-is_some-clause-gives g c = elim [ Thread ↦ c.make_waiting.ensures.threads.made | Object ↦ ap (λ w. w.attributes.objects.made) c.make_waiting.ensures.same | Event ↦ ap (λ w. w.events.made) c.make_waiting.ensures.same | Port ↦ ap (λ w. w.store.ports.made) c.make_waiting.ensures.same ]

pub returns-then-is_some-clause-store : goal.returns-then-is_some-clause-store
returns-then-is_some-clause-store g c = ap (λ w. w.store) c.make_waiting.ensures.same

pub returns-then-is_some-clause-ranks : goal.returns-then-is_some-clause-ranks
returns-then-is_some-clause-ranks g c = c.make_waiting.ensures.ranks

pub returns-else-is_some-clause-whole : goal.returns-else-is_some-clause-whole
returns-else-is_some-clause-whole g c = c.put_back.ensures.whole

pub returns-else-is_some-clause-running : goal.returns-else-is_some-clause-running
returns-else-is_some-clause-running g c = ap (λ w. w.scheduler.running) c.put_back.ensures.same

pub returns-else-is_some-clause-preferred : goal.returns-else-is_some-clause-preferred
returns-else-is_some-clause-preferred g c = ap (λ w. w.scheduler.preferred) c.put_back.ensures.same

pub returns-else-is_some-clause-gives : goal.returns-else-is_some-clause-gives
returns-else-is_some-clause-gives g c = elim [ Thread ↦ c.put_back.ensures.threads.made | Object ↦ ap (λ w. w.attributes.objects.made) c.put_back.ensures.same | Event ↦ ap (λ w. w.events.made) c.put_back.ensures.same | Port ↦ ap (λ w. w.store.ports.made) c.put_back.ensures.same ]

pub returns-else-is_some-clause-store : goal.returns-else-is_some-clause-store
returns-else-is_some-clause-store g c = ap (λ w. w.store) c.put_back.ensures.same

pub returns-else-is_some-clause-ranks : goal.returns-else-is_some-clause-ranks
returns-else-is_some-clause-ranks g c = c.put_back.ensures.ranks

pub returns-then-is_some-clause-stays : goal.returns-then-is_some-clause-stays
returns-then-is_some-clause-stays g c = c.make_waiting.ensures.stays

pub returns-else-is_some-clause-stays : goal.returns-else-is_some-clause-stays
returns-else-is_some-clause-stays g c = c.put_back.ensures.stays
