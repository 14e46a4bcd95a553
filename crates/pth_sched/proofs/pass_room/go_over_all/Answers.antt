use Rattle.std.proofs.Common.{◌≡◌, ◌≢◌, length, ℕ, List, [], ◌∷◌, ◌++◌, if◌then◌else◌, map, drop, slice_index_or, sym, ap, subst, arith}
use Rattle.std.proofs.lemmas.List.{drop_more, drop_all}
use Rattle.std.proofs.lemmas.List.Elements.{All-get_or}
use Rattle.pth_base.specs.declared.ids.Slot.{Slot}
use Rattle.pth_threads.specs.Threads.{number_of, tid_at}
use Rattle.pth_model.specs.Looks.{looks_at}
use Rattle.pth_model.specs.Pass.{is_to_wake}
use Rattle.pth_model.specs.RingWaits.{awaited_events}
use Rattle.pth_model.specs.State.{State}
use Rattle.pth_world.specs.Shows.{Shows, StandsFor}
use Rattle.pth_world.specs.WellFormed.{WellFormed}
use Rattle.pth_world.specs.World.{WorldOf, ThreadsBySlot}
use Rattle.pth_world.proofs.Events.{events_whole}
use Rattle.pth_sched.proofs.Listing.{GoneOver, gone_none, gone_more, gone_shows, gone_listed, dead_still}
use Rattle.pth_sched.proofs.pass_room.go_over_all.Goals as goal

pub loop-slot-init : goal.loop-slot-init
loop-slot-init g c = record {
  over = rw c.clear.ensures.items (gone_none g.P.Program.functions c.args.w.now _);
  few = (let none = ap length c.clear.ensures.items in omega (arith, none));
  room = (let kept = c.clear.ensures.capacity in omega (arith, kept));
}

pub go_over-requires-clause-room : goal.go_over-requires-clause-room
go_over-requires-clause-room g c =
    let few = c.loop-slot.invariant.few in
    let room = c.loop-slot.invariant.room in
    let all = c.requires.room in
    let within = c.loop-slot-test.true in
    omega arith

pub go_over-requires-clause-whole : goal.go_over-requires-clause-whole
go_over-requires-clause-whole g c = subst (λ (w : WorldOf _ _ _). WellFormed w) (sym c.loop-slot.invariant.over.same) (events_whole c.args.w.now c.loop-slot.w.events c.requires.whole)

pub go_over-requires-clause-used : goal.go_over-requires-clause-used
go_over-requires-clause-used g c =
    let name = λ (s : Slot). tid_at c.args.w.now.threads.records s.0 in
    let threads = ap (λ (w : WorldOf _ _ _). w.threads) c.loop-slot.invariant.over.same in
    subst (λ (x : ThreadsBySlot _). tid_at x.records (slice_index_or c.args.slots.now c.loop-slot.slot-index (record { 0 = 0 })).0 ≢ 0) (sym threads)
    (All-get_or (λ (s : Slot). name s ≢ 0) c.args.slots.now c.loop-slot.slot-index (record { 0 = 0 }) c.loop-slot-test.true c.requires.used)

pub go_over-requires-clause-dead : goal.go_over-requires-clause-dead
go_over-requires-clause-dead g c = dead_still c.args.w.now c.loop-slot.w c.any_has_died-any_dead.result c.loop-slot.invariant.over.same c.any_has_died-any_dead.ensures

pub loop-slot-preserved : goal.loop-slot-preserved
loop-slot-preserved g c = record {
  over = (
      let name = λ (s : Slot). tid_at c.args.w.now.threads.records s.0 in
      let split = drop_more c.args.slots.now c.loop-slot.slot-index (record { 0 = 0 }) c.loop-slot-test.true in
      let threads = ap (λ (w : WorldOf _ _ _). w.threads) c.loop-slot.invariant.over.same in
      let so_far = subst (λ (l : List Slot). GoneOver g.P.Program.functions c.args.w.now c.loop-slot.w (map name c.args.slots.now) (map name l) (map number_of c.loop-slot.waking.items)) split c.loop-slot.invariant.over in
      let e = c.go_over.ensures in
      let is = ap (λ (x : ThreadsBySlot _). tid_at x.records (slice_index_or c.args.slots.now c.loop-slot.slot-index (record { 0 = 0 })).0) threads in
      gone_more g.P.Program.functions c.args.w.now c.loop-slot.w c.go_over.new.w _ _ _ _ _ so_far
      (subst (λ (t : ℕ). (s : State _ _ _) → StandsFor c.loop-slot.w s → Shows c.go_over.new.w (looks_at g.P.Program.functions s (awaited_events s.control t) s.control)) is e.shows)
      e.made e.same
      (subst (λ (t : ℕ). (s : State _ _ _) → StandsFor c.loop-slot.w s → map number_of c.go_over.new.waking.items ≡ map number_of c.loop-slot.waking.items ++ (if is_to_wake g.P.Program.functions s t then t ∷ [] else [])) is e.listed));
  few = (
      let so_far = c.loop-slot.invariant.few in
      let one = c.go_over.ensures.one in
      omega arith);
  room = (
      let so_far = c.loop-slot.invariant.room in
      let kept = c.go_over.ensures.room in
      omega arith);
}

pub returns-clause-listed : goal.returns-clause-listed
returns-clause-listed g c =
    let name = λ (s : Slot). tid_at c.args.w.now.threads.records s.0 in
    let none : drop c.loop-slot.slot-index c.args.slots.now ≡ [] = drop_all c.loop-slot.slot-index c.args.slots.now (omega arith) in
    let all = subst (λ (l : List Slot). GoneOver g.P.Program.functions c.args.w.now c.loop-slot.w (map name c.args.slots.now) (map name l) (map number_of c.loop-slot.waking.items)) none c.loop-slot.invariant.over in
    λ s st. gone_listed g.P.Program.functions c.args.w.now c.loop-slot.w _ _ all s st (c.requires.waiting s.control st.control)

pub returns-clause-shows : goal.returns-clause-shows
returns-clause-shows g c =
    let name = λ (s : Slot). tid_at c.args.w.now.threads.records s.0 in
    let none : drop c.loop-slot.slot-index c.args.slots.now ≡ [] = drop_all c.loop-slot.slot-index c.args.slots.now (omega arith) in
    let all = subst (λ (l : List Slot). GoneOver g.P.Program.functions c.args.w.now c.loop-slot.w (map name c.args.slots.now) (map name l) (map number_of c.loop-slot.waking.items)) none c.loop-slot.invariant.over in
    λ s st. gone_shows g.P.Program.functions c.args.w.now c.loop-slot.w _ _ all s st (c.requires.waiting s.control st.control)
