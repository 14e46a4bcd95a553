use Rattle.std.proofs.Common.{rules, SFits, w64, to_z-of_z}
use Rattle.pth_model.specs.RingWaits.{claims}
use Rattle.pth_waits.proofs.ring_waits.claim_given.Goals as goal

pub returns-in-None-clause-shows : goal.returns-in-None-clause-shows
unfolding claims
returns-in-None-clause-shows g c k sh = rw c.in-None.is sh

pub returns-in-Some-clause-shows : goal.returns-in-Some-clause-shows
returns-in-Some-clause-shows g c =
    let e : SFits w64 c.in-Some.e = search rules in
    rw c.in-Some.is (rw to_z-of_z at c.claim.ensures.shows)
