use Rattle.std.proofs.Common.{◌∙◌, sym}
use Rattle.pth_ring.specs.Claims.{without_claims}
use Rattle.pth_ring.proofs.Kept.{remade}
use Rattle.pth_ring.proofs.Releases.{released-none}
use Rattle.pth_ring.proofs.marks.release_place.Goals as goal

pub returns-then-number_in-ne0 : goal.returns-then-number_in-ne0
returns-then-number_in-ne0 c = remade c.args.nodes.now c.release.new.nodes c.args.e.0 (without_claims c.args.gone) c.requires (λ zero. c.if-number_in-ne0.true (c.number_in.ensures ∙ zero)) c.release.ensures

pub returns-else-number_in-ne0 : goal.returns-else-number_in-ne0
returns-else-number_in-ne0 c = released-none c.args.nodes.now (without_claims c.args.gone) _ c.requires (sym c.number_in.ensures ∙ c.if-number_in-ne0.false)
