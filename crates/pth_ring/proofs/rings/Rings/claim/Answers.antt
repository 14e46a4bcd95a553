use Rattle.std.proofs.Common.{◌≡◌, arith}
use Rattle.std.proofs.lemmas.Int.{ints}
use mir.Syntax.{w64}
use mir.Val.{to_z, of_z}
use Rattle.pth_ring.proofs.Kept.{claims}
use Rattle.pth_ring.proofs.rings.Rings.claim.Goals as goal

pub returns-in-Ok-clause-changes : goal.returns-in-Ok-clause-changes
returns-in-Ok-clause-changes c =
    let is : to_z w64 (of_z w64 c.args.e) ≡ c.args.e = omega (arith, ints) in
    rw (← is, ← c.in-Ok.ensures.named, ← c.self.view_is) (claims c.self.inside.nodes c.await_ring.new.nodes c.set_claim.new.nodes c.in-Ok.place.0 c.args.now c.args.t (rw c.self.view_is c.in-Ok.ensures.used) c.await_ring.ensures c.set_claim.ensures)
