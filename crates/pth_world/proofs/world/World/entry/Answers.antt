use Rattle.std.proofs.Common.{◌∙◌, None, sym, subst}
use Rattle.pth_base.proofs.Namings.{seen_at}
use Rattle.pth_threads.specs.Threads.{slot_of, entry_at}
use Rattle.pth_world.specs.Sound.{HasPrio}
use Rattle.pth_world.proofs.Moves.{whole_prio}
use Rattle.pth_world.proofs.Showing.{entry_is, not_known, not_here}
use Rattle.pth_world.proofs.world.World.entry.Goals as goal

pub returns-in-Some-clause-entry : goal.returns-in-Some-clause-entry
returns-in-Some-clause-entry g c k sh = sym (entry_is _ k c.args.t.0 c.in-Some.slot.0 c.requires (rw c.threads.ensures at c.in-Some.ensures.slot) sh.threads ∙ (rw c.threads-in-Some.ensures at c.get.ensures.entry))

pub returns-in-None-clause-entry : goal.returns-in-None-clause-entry
returns-in-None-clause-entry g c k sh = not_known _ k c.args.t.0 (rw c.threads.ensures at c.in-None.ensures.slot) sh.threads

pub returns-in-Some-clause-prio : goal.returns-in-Some-clause-prio
returns-in-Some-clause-prio g c whole =
    let x = c.args.self.now.threads.records in
    subst HasPrio (seen_at None (slot_of x) (entry_at x) c.args.t.0 c.in-Some.slot.0 (rw c.threads.ensures at c.in-Some.ensures.slot) ∙ (rw c.threads-in-Some.ensures at c.get.ensures.entry)) (whole_prio c.args.self.now c.args.t.0 whole)

pub returns-in-Some-clause-here : goal.returns-in-Some-clause-here
returns-in-Some-clause-here g c =
    let x = c.args.self.now.threads.records in
    sym (seen_at None (slot_of x) (entry_at x) c.args.t.0 c.in-Some.slot.0 (rw c.threads.ensures at c.in-Some.ensures.slot) ∙ (rw c.threads-in-Some.ensures at c.get.ensures.entry))

pub returns-in-None-clause-here : goal.returns-in-None-clause-here
returns-in-None-clause-here g c = not_here c.args.self.now.threads c.args.t.0 (rw c.threads.ensures at c.in-None.ensures.slot)
