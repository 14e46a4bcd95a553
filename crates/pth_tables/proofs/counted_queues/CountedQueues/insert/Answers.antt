use Rattle.std.proofs.Common.{◌<◌, ℤ, ◌-ℤ◌, ◌∙◌, ap, sym, subst, length, set, arith, rules, SFits, w64, to_z-of_z, length-set}
use Rattle.std.specs.Int.{int_wrap}
use Rattle.std.proofs.lemmas.Int.{wrapping_sub_is}
use Rattle.pth_queue.specs.Queues.{IsNowhere}
use Rattle.pth_tables.specs.CountedOf.{KeptQueues}
use Rattle.pth_tables.proofs.Counting.{few_more, counts_entered}
use Rattle.pth_tables.proofs.Heights.{room_with, tells_entered}
use Rattle.pth_tables.proofs.Keeping.{beside_entered}
use Rattle.pth_tables.proofs.Places.{marked_entered}
use Rattle.pth_tables.proofs.counted_queues.CountedQueues.insert.Goals as goal

pub overflow_add-n : goal.overflow_add-n
overflow_add-n c = omega (arith, few_more c.self.inside.queues c.self.inside.queues c.self.inside.lengths c.self.invariant.counts c.self.inside.lengths c.args.q c.of-n.result c.of-n.ensures c.queue_of-home.ensures.orderly)

pub invariant_of-self : goal.invariant_of-self
invariant_of-self c =
    let f : SFits w64 c.args.rank = search rules in
    let g : SFits w64 c.of.result = search rules in
    let reserved : c.args.s.0 < c.self.inside.queues.room = subst (λ (k : KeptQueues). c.args.s.0 < k.queues.room) (sym c.self.view_is) c.requires.reserved in
    let nowhere : IsNowhere c.args.s.0 c.self.inside.queues = subst (λ (k : KeptQueues). IsNowhere c.args.s.0 k.queues) (sym c.self.view_is) c.requires.nowhere in
    let low : c.args.s.0 < length c.self.inside.heights.items = let room = c.self.invariant.room in omega arith in
    let entered = rw to_z-of_z at c.insert.ensures in
    record {
      counts = counts_entered _ c.self.inside.queues c.self.inside.lengths c.self.invariant.counts _ c.args.q c.of-n.result c.of-n.ensures c.args.rank c.args.s.0 entered c.set.ensures;
      room = room_with _ c.self.inside.queues c.args.q _ _ _ entered c.self.invariant.room (length-set c.self.inside.heights.items c.args.s.0 _);
      tells = tells_entered _ c.self.inside.queues c.self.inside.raises c.self.inside.heights.items c.self.invariant.tells c.args.q c.args.rank c.args.s.0 _ low nowhere entered
          (ap (set c.self.inside.heights.items c.args.s.0) (wrapping_sub_is w64 c.args.rank c.of.result f g ∙ ap (λ (n : ℤ). int_wrap w64 (c.args.rank -ℤ n)) c.of.ensures));
      beside = beside_entered c.self.inside.queues _ _ _ c.self.invariant.beside c.queue_of-home.ensures.orderly _ _ _ _ c.args.q c.args.rank c.args.s.0 c.args.top nowhere c.requires.rank.ready entered (rw to_z-of_z at c.enter.ensures.value) c.enter.ensures.room c.enter.ensures.due;
      marked = marked_entered c.self.inside.queues _ c.self.inside.mark c.self.invariant.marked c.args.q c.args.rank c.args.s.0 _ nowhere entered c.after_entry-self-inside.ensures.kept c.after_entry-self-inside.ensures.behind;
    }
