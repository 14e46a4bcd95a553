use Rattle.std.proofs.Common.{◌∙◌, ap, ℕ}
use Rattle.pth_ring.proofs.Writes.{id_is}
use Rattle.pth_ring.proofs.node.id_of.Goals as goal

pub returns : goal.returns
returns c = id_is c.args.nodes.now c.args.e.0 _ c.get.ensures ∙ ap (λ (f : ℕ → ℕ). f c.args.e.0) c.requires.kept.named
