use Rattle.std.proofs.Common.{◌∙◌, ap, rules, sym}
use Rattle.std.proofs.lemmas.Result.{on_ok_weaker}
use Rattle.pth_model.specs.RingWaits.{ring_given, claims}
use Rattle.pth_world.specs.Store.{store_of}
use Rattle.pth_world.specs.World.{WorldOf}
use Rattle.pth_waits.proofs.Blocking.{waits_leads}
use Rattle.pth_waits.proofs.blocks.block.Goals as goal

pub returns-clause-ok : goal.returns-clause-ok
returns-clause-ok g c = on_ok_weaker c.push.result (λ told s ready.
    let k = claims c.args.t.0 (ring_given c.args.call) s.control in
    waits_leads _ s c.args.t.0 c.args.call c.args.awaits _ _ (ready.store ∙ sym (ap (λ (z : WorldOf _ _ _). store_of z.store) c.block.ensures.same)) (c.block.ensures.shows k ready.control) (search rules)) c.push.ensures.ok
