use Rattle.std.proofs.Common.{◌∙◌, ap, sym, rules}
use Rattle.pth_numbered.specs.Operands.{named}
use Rattle.pth_world.proofs.Showing.{named_negative, named_late}
use Rattle.pth_world.proofs.world.World.known.Goals as goal

pub returns-then-n-lt0-clause-entry : goal.returns-then-n-lt0-clause-entry
returns-then-n-lt0-clause-entry g c k sh = named_negative k.threads.known c.args.n search rules

pub returns-then-n-from-clause-entry : goal.returns-then-n-from-clause-entry
returns-then-n-from-clause-entry g c k sh = named_late c.args.self.now.threads c.args.n c.requires search rules ∙ sym (ap (λ f. named f c.args.n) sh.threads.known)
