use Rattle.std.proofs.Common.{sym, ap, ◌∙◌}
use Rattle.pth_queue.specs.Arena.{slots_of}
use Rattle.pth_tables.specs.Waits.{WaitsOf, KeptWaits, waits_of, seen_at_top}
use Rattle.pth_tables.specs.DueTable.{dues}
use Rattle.pth_tables.proofs.Walks.{dues-seen, reached-none}
use Rattle.pth_tables.proofs.dispatching.meet.Goals as goal

pub returns-then-due-eq0-clause-value : goal.returns-then-due-eq0-clause-value
returns-then-due-eq0-clause-value c =
    let slots = slots_of c.args.queues.now.ready in
    let x = waits_of c.args.waits.now in
    c.see_at_top.ensures.value ∙ sym (reached-none 0 slots (seen_at_top x) (dues-seen x slots ∙ sym c.requires.told ∙ c.if-due-eq0.true))

pub meet_next-requires-clause-told : goal.meet_next-requires-clause-told
meet_next-requires-clause-told c = c.requires.told ∙ sym (ap (λ (x : WaitsOf). dues x (slots_of c.args.queues.now.ready)) c.see_at_top.ensures.value ∙ dues-seen (waits_of c.args.waits.now) (slots_of c.args.queues.now.ready))

pub meet_all-requires-clause-told : goal.meet_all-requires-clause-told
meet_all-requires-clause-told c =
    let slots = slots_of c.args.queues.now.ready in
    c.requires.told ∙ sym (ap (λ (k : KeptWaits). dues (waits_of k) slots) (c.meet_next.ensures.not_met c.if-not-meet_next.true) ∙ ap (λ (x : WaitsOf). dues x slots) c.see_at_top.ensures.value ∙ dues-seen (waits_of c.args.waits.now) slots)
