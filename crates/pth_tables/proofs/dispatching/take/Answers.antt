use Rattle.std.proofs.Common.{refl, sym, ap, ◌∙◌, arith}
use Rattle.pth_queue.specs.declared.queue.Queue.TheVariants.{Ready}
use Rattle.pth_queue.specs.Arena.{slots_of}
use Rattle.pth_tables.specs.Waits.{WaitsOf, waits_of, dispatched, is_counting}
use Rattle.pth_tables.specs.DueTable.{none_at}
use Rattle.pth_tables.proofs.DueTables.{table-told}
use Rattle.pth_tables.proofs.Heights.{low_slot}
use Rattle.pth_tables.proofs.Keeping.{takes_none, takes_one, dispatches-met, counts_met, table_stays, table_goes_on}
use Rattle.pth_tables.proofs.dispatching.take.Goals as goal

pub forget-requires : goal.forget-requires
forget-requires c = let slot = low_slot c.args.s.0 Ready c.args.queues.now c.requires.orderly c.requires.ready in let room = c.requires.room in omega arith

pub returns-then-not-is_counting-clause-value : goal.returns-then-not-is_counting-clause-value
returns-then-not-is_counting-clause-value c = sym (takes_none c.args.by_name (slots_of c.args.queues.now.ready) (waits_of c.args.waits.now) (sym c.is_counting.ensures ∙ c.if-not-is_counting.true))

pub returns-then-not-is_counting-clause-table : goal.returns-then-not-is_counting-clause-table
returns-then-not-is_counting-clause-table c = table_stays c.args.queues.now c.requires.orderly (waits_of c.args.waits.now) c.args.due.now c.args.s.0 c.requires.ready c.requires.table (waits_of c.args.waits.now) c.forget.new.due refl c.forget.ensures

pub meet-requires-clause-told : goal.meet-requires-clause-told
meet-requires-clause-told c = c.due_now-left.ensures ∙ table-told (slots_of c.args.queues.now.ready) (waits_of c.args.waits.now) c.args.due.now c.requires.table

pub turn-turn-requires : goal.turn-turn-requires
turn-turn-requires c = let slot = low_slot c.args.s.0 Ready c.args.queues.now c.requires.orderly c.requires.ready in let room = c.requires.room in let same = c.meet.ensures.room in omega arith

pub dispatch-requires : goal.dispatch-requires
dispatch-requires c = ap is_counting c.meet.ensures.value ∙ counts_met (slots_of c.args.queues.now.ready) (waits_of c.args.waits.now) (sym c.is_counting.ensures ∙ c.if-not-is_counting.false)

pub returns-clause-value : goal.returns-clause-value
returns-clause-value c =
    c.dispatch.ensures.value ∙ ap (dispatched c.args.by_name) c.meet.ensures.value
    ∙ sym (takes_one c.args.by_name (slots_of c.args.queues.now.ready) (waits_of c.args.waits.now) (sym c.is_counting.ensures ∙ c.if-not-is_counting.false))

pub returns-clause-table : goal.returns-clause-table
returns-clause-table c =
    let same = ap (λ (x : WaitsOf). x.dispatches) c.meet.ensures.value ∙ dispatches-met (slots_of c.args.queues.now.ready) (waits_of c.args.waits.now) in
    table_goes_on c.args.queues.now c.requires.orderly (waits_of c.args.waits.now) c.args.due.now c.args.s.0 c.requires.ready c.requires.table c.args.by_name (waits_of c.dispatch.new.self) c.clear.new.due
    (c.dispatch.ensures.value ∙ ap (dispatched c.args.by_name) c.meet.ensures.value) (c.clear.ensures ∙ ap (λ d. none_at d c.forget.new.due) same ∙ ap (none_at c.args.waits.now.dispatches) c.forget.ensures)
