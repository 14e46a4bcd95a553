use Rattle.std.proofs.Common.{◌≡◌, ℕ, ◌<◌, ℤ, pos, ◌+ℤ◌, length, Some, IsSomeAnd, ◌∙◌, ap, sym, subst, arith, rules, SFits, w64}
use Rattle.std.specs.Int.{int_wrap, int_wrapping_add}
use Rattle.std.proofs.lemmas.Int.{wrapping_add_is}
use Rattle.std.proofs.lemmas.List.{get_or_default}
use Rattle.pth_base.specs.Table.{table}
use Rattle.pth_queue.specs.declared.queue.Queue.{Queue}
use Rattle.pth_queue.specs.Queues.{queue_of, place_of}
use Rattle.pth_tables.specs.CountedOf.{KeptQueues}
use Rattle.pth_tables.specs.Counted.{kept_of}
use Rattle.pth_tables.proofs.Heights.{low_slot, rank_told}
use Rattle.pth_tables.proofs.counted_queues.CountedQueues.rank_of.Goals as goal

pub index-requires : goal.index-requires
index-requires c =
    let stands : queue_of c.args.s.0 c.self.inside.queues ≡ Some c.unwrap-q.result = sym c.queue_of.ensures.value ∙ c.unwrap-q.ensures in
    let low = low_slot c.args.s.0 c.unwrap-q.result c.self.inside.queues c.queue_of.ensures.orderly stands in
    let room = c.self.invariant.room in
    omega arith

pub returns : goal.returns
returns c =
    let heights = c.self.inside.heights.items in
    let raises = kept_of c.unwrap-q.result c.self.inside.raises in
    let stands : queue_of c.args.s.0 c.self.inside.queues ≡ Some c.unwrap-q.result = sym c.queue_of.ensures.value ∙ c.unwrap-q.ensures in
    let slot = low_slot c.args.s.0 c.unwrap-q.result c.self.inside.queues c.queue_of.ensures.orderly stands in
    let low : c.args.s.0 < length heights = let room = c.self.invariant.room in omega arith in
    let here : table (pos 0) heights c.args.s.0 ≡ c.index.result.now = get_or_default heights c.args.s.0 (pos 0) c.index.result.now low ∙ sym c.index.ensures in
    let f : SFits w64 c.index.result.now = search rules in
    let g : SFits w64 c.of.result = search rules in
    let sum : int_wrap w64 (table (pos 0) heights c.args.s.0 +ℤ raises) ≡ int_wrapping_add w64 c.index.result.now c.of.result =
    ap (λ (z : ℤ). int_wrap w64 (z +ℤ raises)) here ∙ ap (λ (z : ℤ). int_wrap w64 (c.index.result.now +ℤ z)) (sym c.of.ensures) ∙ sym (wrapping_add_is w64 c.index.result.now c.of.result f g) in
    let told = rank_told c.args.s.0 c.unwrap-q.result c.self.inside.queues c.queue_of.ensures.orderly stands c.self.inside.raises heights c.self.invariant.tells in
    subst (λ (x : KeptQueues). IsSomeAnd {T = Queue × ℤ × ℕ} (place_of c.args.s.0 x.queues) (λ p. int_wrapping_add w64 c.index.result.now c.of.result ≡ p.1)) c.self.view_is
    (subst (λ (z : ℤ). IsSomeAnd {T = Queue × ℤ × ℕ} (place_of c.args.s.0 c.self.inside.queues) (λ p. z ≡ p.1)) sum told)
