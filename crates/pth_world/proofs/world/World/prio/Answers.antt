use Rattle.std.proofs.Common.{◌∙◌, None, sym, ap, subst, SFits, w64, to_z-of_z}
use Rattle.pth_base.proofs.Namings.{seen_at}
use Rattle.pth_model.specs.Changes.{or_nobody}
use Rattle.pth_threads.specs.Threads.{slot_of, entry_at}
use Rattle.pth_world.specs.Sound.{IsPrio, HasPrio}
use Rattle.pth_world.proofs.Slots.{used, prio_fits}
use Rattle.pth_world.proofs.Showing.{entry_is}
use Rattle.pth_world.proofs.world.World.prio.Goals as goal

pub returns-clause-prio : goal.returns-clause-prio
returns-clause-prio g c k sh =
    let e = rw c.threads.ensures at c.get.ensures.entry in
    let x = c.args.self.now.threads.records in
    let p : IsPrio c.get.result.now.prio = subst HasPrio (seen_at None (slot_of x) (entry_at x) c.args.t.0 c.args.slot.0 c.requires.at ∙ e) c.requires.prio in
    let f : SFits w64 c.get.result.now.prio = prio_fits _ p in
    rw to_z-of_z (sym (ap (λ o. (or_nobody o).prio) (entry_is _ k c.args.t.0 c.args.slot.0 c.requires.sound c.requires.at sh.threads ∙ e)))

pub returns-clause-low : goal.returns-clause-low
returns-clause-low g c =
    let e = rw c.threads.ensures at c.get.ensures.entry in
    let x = c.args.self.now.threads.records in
    let p : IsPrio c.get.result.now.prio = subst HasPrio (seen_at None (slot_of x) (entry_at x) c.args.t.0 c.args.slot.0 c.requires.at ∙ e) c.requires.prio in
    let f : SFits w64 c.get.result.now.prio = prio_fits _ p in
    rw to_z-of_z p

pub get-requires : goal.get-requires
get-requires g c = rw c.threads.ensures (used c.args.self.now.threads c.args.t.0 c.args.slot.0 c.requires.sound c.requires.at)
