use Rattle.std.proofs.Common.{◌∙◌, sym, rules}
use Rattle.pth_world.proofs.Moves.{dead_stands}
use Rattle.pth_calls.proofs.cancellation.to_abort.Goals as goal

pub returns-clause-dead : goal.returns-clause-dead
returns-clause-dead g c dead = dead_stands c.args.w.now c.in-Some.it.now c.requires.whole search rules search rules (sym c.is_dead.ensures ∙ dead)
