use Rattle.std.proofs.Common.{sym, subst}
use Rattle.pth_script.specs.Upgrade.{StandsForTheSame}
use Rattle.pth_script.proofs.Upgrading.{upgrade_stands}
use Rattle.pth_script.proofs.upgrade.upgrade.Goals as goal

pub returns-clause-same : goal.returns-clause-same
returns-clause-same c = λ small. subst (StandsForTheSame c.args.bytes.now) (sym c.in_ok-with_new_heading.ensures) (upgrade_stands c.args.bytes.now c.in_ok-read.ensures.read.0 small)
