use Rattle.std.proofs.Common.{◌∙◌, Err, ap, sym, subst}
use Rattle.pth_world.specs.Shows.{StandsFor}
use Rattle.pth_world.proofs.Telling.{has_still}
use Rattle.pth_world.specs.World.{WorldOf}
use Rattle.pth_waits.proofs.Attempting.{claimed_ready, refused_ready}
use Rattle.pth_waits.proofs.ring_waits.wait_beside.Goals as goal

pub returns-in-Err-Fail-clause-ready : goal.returns-in-Err-Fail-clause-ready
returns-in-Err-Fail-clause-ready g c call s other st =
    let v = c.claim_given.new.w in
    let same = c.claim_given.ensures.refused c.in-Err-Fail.errno (c.in-Err-Fail.is ∙ ap Err c.in-Err-Fail.field-0-is) in
    refused_ready v c.args.t.0 call c.args.ring _ s other (subst (λ (x : WorldOf _ _ _). StandsFor x s) (sym same) st)

pub returns-in-Ok-clause-ready : goal.returns-in-Ok-clause-ready
returns-in-Ok-clause-ready g c call s other st =
    claimed_ready c.claim_given.new.w c.args.t.0 call c.args.ring c.args.awaits s other (c.in-Ok.ensures.shows s.control st.control) (has_still c.args.w.now c.claim_given.new.w s c.claim_given.ensures.store st.store)
