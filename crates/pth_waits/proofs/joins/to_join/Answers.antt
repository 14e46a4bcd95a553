use Rattle.std.proofs.Common.{◌∙◌, sym, rules}
use Rattle.pth_world.proofs.Moves.{dead_stands}
use Rattle.pth_waits.proofs.joins.to_join.Goals as goal

pub returns-then-is_dead-clause-dead : goal.returns-then-is_dead-clause-dead
returns-then-is_dead-clause-dead g c = dead_stands c.args.w.now c.in-Some.it.now c.requires search rules search rules (sym c.is_dead.ensures ∙ c.if-is_dead.true)
