use Rattle.std.proofs.Common.{ℤ, pos, ◌+ℤ◌, ◌∙◌, refl, ap, rules, SFits, w64}
use Rattle.std.specs.Int.{int_wrap}
use Rattle.std.proofs.lemmas.Int.{wrapping_add_is}
use Rattle.pth_tables.specs.Counted.{with_kept}
use Rattle.pth_tables.proofs.Counting.{counts_raised}
use Rattle.pth_tables.proofs.Heights.{room_with, tells_raised}
use Rattle.pth_tables.proofs.Keeping.{beside_raised}
use Rattle.pth_tables.proofs.Places.{marked_raised}
use Rattle.pth_tables.proofs.counted_queues.CountedQueues.increase.Goals as goal

pub invariant_of-self : goal.invariant_of-self
invariant_of-self c =
    let f : SFits w64 c.of-raises.result = search rules in
    let g : SFits w64 (pos 1) = search rules in
    record {
      counts = counts_raised _ c.self.inside.queues c.self.inside.lengths c.self.invariant.counts c.args.q c.increase.ensures;
      room = room_with _ c.self.inside.queues c.args.q _ _ _ c.increase.ensures c.self.invariant.room refl;
      tells = tells_raised _ c.self.inside.queues c.self.inside.raises c.self.inside.heights.items c.self.invariant.tells c.args.q _ c.increase.ensures
          (c.set.ensures ∙ ap (λ (n : ℤ). with_kept c.args.q n c.self.inside.raises) (wrapping_add_is w64 c.of-raises.result (pos 1) f g ∙ ap (λ (n : ℤ). int_wrap w64 (n +ℤ pos 1)) c.of-raises.ensures));
      beside = beside_raised c.self.inside.queues _ _ _ c.self.invariant.beside _ c.args.q c.increase.ensures;
      marked = marked_raised c.self.inside.queues _ c.self.inside.mark c.self.invariant.marked c.args.q c.increase.ensures;
    }
