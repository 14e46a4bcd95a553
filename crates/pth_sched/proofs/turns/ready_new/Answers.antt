use Rattle.std.proofs.Common.{◌≡◌, ◌∙◌, [], ap, sym, refl, rules, arith, SFits, w64, to_z-of_z}
use Rattle.pth_queue.specs.declared.queue.Queue.TheVariants as queue
use Rattle.pth_model.specs.State.{Scheduler}
use Rattle.pth_world.specs.WellFormed.{Newly}
use Rattle.pth_sched.proofs.Keeping.{new_shorter, scheduler_first, scheduler_then}
use Rattle.pth_sched.proofs.Readying.{rank_room, room_next, rises_none, rises_next, rises_all, some_ready, new_shows, comes_next, comes_end}
use Rattle.pth_sched.proofs.turns.ready_new.Goals as goal

pub loop-t-init : goal.loop-t-init
loop-t-init g c = record {
  comes = λ k st. record { control = k; shows = st; same = refl };
  whole = c.requires.whole;
  scheduler = scheduler_first _;
  made = refl;
  room = c.requires.room;
  rises = λ bound low under. rises_none _ bound under;
  some = λ h. h;
  stays = λ u waits. waits;
}

pub make_ready-requires-clause-before : goal.make_ready-requires-clause-before
make_ready-requires-clause-before g c = record { queue = queue.New; before = Newly; stands = c.in-Some.ensures.stands }

pub make_ready-requires-clause-rank : goal.make_ready-requires-clause-rank
make_ready-requires-clause-rank g c =
    let fits : SFits w64 c.new_rank-rank.result = search rules in
    rw to_z-of_z record {
      low = c.new_rank-rank.ensures.low;
      high = rank_room c.loop-t.w.threads c.in-Some.t.0 c.new_rank-rank.result c.in-Some.ensures.known c.in-Some.ensures.stands c.loop-t.invariant.room c.new_rank-rank.ensures.under;
    }

pub loop-t-preserved : goal.loop-t-preserved
loop-t-preserved g c =
    let fits : SFits w64 c.new_rank-rank.result = search rules in
    let known = c.in-Some.ensures.known in
    let stands = c.in-Some.ensures.stands in
    let before = c.loop-t.invariant in
    let queues = simp to_z-of_z at c.make_ready.ensures.queues in
    let made = simp to_z-of_z at c.make_ready.ensures.shows in
    record {
      comes = λ s st. comes_next c.loop-t.w c.make_ready.new.self _ c.in-Some.t.0 before.whole.sound c.in-Some.ensures.last (λ x k. new_shows c.make_ready.new.self x _ _ _ (c.new_rank-rank.ensures.rank x k) (c.favour.ensures ∙ ap (λ (y : Scheduler). y.favour_new) (sym k.scheduler)) (made x k)) (before.comes s st);
      whole = c.make_ready.ensures.whole;
      scheduler = scheduler_then _ _ _ before.scheduler c.make_ready.ensures.scheduler;
      made = c.make_ready.ensures.threads.made ∙ before.made;
      room = room_next c.loop-t.w.threads c.make_ready.new.self.threads c.in-Some.t.0 _ known stands queues before.room c.new_rank-rank.ensures.under;
      rises = λ bound low under. rises_next _ c.loop-t.w.threads c.make_ready.new.self.threads c.in-Some.t.0 _ bound known stands queues low c.new_rank-rank.ensures.under (before.rises bound low under);
      some = λ h. (let n = some_ready c.loop-t.w.threads c.make_ready.new.self.threads c.in-Some.t.0 _ known stands queues in omega arith);
      stays = λ u waits. c.make_ready.ensures.stays u (before.stays u waits);
    }

pub loop-t-smaller : goal.loop-t-smaller
loop-t-smaller g c = new_shorter c.loop-t.w.threads c.make_ready.new.self.threads c.in-Some.t.0 _ c.in-Some.ensures.known c.in-Some.ensures.stands c.make_ready.ensures.queues

pub returns-clause-shows : goal.returns-clause-shows
returns-clause-shows g c =
    let none : c.loop-t.w.threads.queues.new ≡ [] = search rules in
    λ s st. comes_end _ _ none (c.loop-t.invariant.comes s st)

pub returns-clause-ranks : goal.returns-clause-ranks
returns-clause-ranks g c = λ bound low under. rises_all _ _ bound (c.loop-t.invariant.rises bound low under)
