use Rattle.std.proofs.Common.{neg_ℤ, pos, ◌≤ℤ◌, sym, subst, rules, SFits, w64, to_z-of_z}
use Rattle.pth_tables.proofs.Keeping.{high_top}
use Rattle.pth_tables.proofs.counted_queues.CountedQueues.favour_top.Goals as goal

pub returns-clause-low : goal.returns-clause-low
returns-clause-low c =
    let f : SFits w64 c.favour_top.result = search rules in
    rw to_z-of_z (subst (λ z. neg_ℤ (pos 20) ≤ℤ z) (sym c.favour_top.ensures) (high_top _ _ c.self.invariant.beside.high))
