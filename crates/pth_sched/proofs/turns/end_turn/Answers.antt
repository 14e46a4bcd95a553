use Rattle.std.proofs.Common.{◌≡◌, ◌∙◌, ◌+◌, ap, sym, subst, arith}
use Rattle.pth_world.specs.Numbering.{made}
use Rattle.pth_world.specs.Ranks.{IsUnder}
use Rattle.pth_world.specs.World.{WorldOf}
use Rattle.pth_world.proofs.Ranks.{under-increase}
use Rattle.pth_sched.proofs.turns.end_turn.Goals as goal

pub returns-clause-ranks : goal.returns-clause-ranks
returns-clause-ranks g c = λ bound low under.
    let raised = subst (λ w. IsUnder (bound + 1) w.threads.queues.ready) (sym c.raise_ready.ensures.same) (under-increase bound c.args.w.now.threads.queues.ready under) in
    let placed = c.place.ensures.ranks.under (bound + 1) (omega arith) raised in
    subst (λ w. IsUnder (bound + 1) w.threads.queues.ready) (sym c.tick.ensures.same) placed

pub returns-clause-stays : goal.returns-clause-stays
returns-clause-stays g c u waits = c.tick.ensures.stays u (c.place.ensures.stays u (c.raise_ready.ensures.stays u waits))

pub returns-clause-gives : goal.returns-clause-gives
returns-clause-gives g c k =
    let raised : made c.raise_ready.new.self k ≡ made c.args.w.now k = ap (λ (w : WorldOf _ _ _). made w k) c.raise_ready.ensures.same in
    let over : made c.tick.new.w k ≡ made c.place.new.w k = ap (λ (w : WorldOf _ _ _). made w k) c.tick.ensures.same in
    over ∙ c.place.ensures.gives k ∙ raised
