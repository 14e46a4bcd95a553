use Rattle.std.proofs.Common.{◌<◌, ℕ, sym, subst}
use Rattle.pth_sched.specs.Quiescence.{AreDormant}
use Rattle.pth_sched.proofs.QuiescentWorlds.{are_dormant}
use Rattle.pth_sched.proofs.passes.known_until.Goals as goal

pub returns-clause-dormant : goal.returns-clause-dormant
returns-clause-dormant g c = λ s st some.
    subst (λ (u : ℕ). 0 < u → AreDormant s u) (sym c.min.ensures)
    (are_dormant c.args.w.now c.args.t.0 c.args.quiescence.until c.own_dormant_until.result c.requires.quiescence s st (c.own_dormant_until.ensures.dormant s st)) some
