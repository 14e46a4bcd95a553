use Rattle.std.proofs.Common.{◌∙◌, sym, ap, option_map, arith}
use Rattle.std.proofs.lemmas.List.{length-map}
use Rattle.pth_base.specs.declared.ids.Slot.{Slot}
use Rattle.pth_queue.specs.Arena.{slots_of}
use Rattle.pth_tables.specs.Waits.{waits_of}
use Rattle.pth_tables.proofs.Places.{at_tail, some_last}
use Rattle.pth_tables.proofs.Walks.{few_due}
use Rattle.pth_tables.proofs.dispatching.walk_from_tail.Goals as goal

pub unwrap-slot-requires : goal.unwrap-slot-requires
unwrap-slot-requires c =
    let some = c.requires.some in
    let told = c.requires.told in
    some_last c.args.queues.now.ready c.tail.result (omega (arith, few_due (waits_of c.args.waits.now) (slots_of c.args.queues.now.ready), length-map c.args.queues.now.ready (λ r. r.holder))) c.tail.ensures

pub walk-requires-clause-from : goal.walk-requires-clause-from
walk-requires-clause-from c =
    let some = c.requires.some in
    let told = c.requires.told in
    let counted = c.requires.counted in
    at_tail c.args.queues.now _ (omega (arith, few_due (waits_of c.args.waits.now) (slots_of c.args.queues.now.ready), length-map c.args.queues.now.ready (λ r. r.holder)))
    (sym (ap (option_map (λ (s : Slot). s.0)) c.unwrap-slot.ensures) ∙ c.tail.ensures)
