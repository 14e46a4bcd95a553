use Rattle.std.proofs.Common.{◌≡◌, append-nil, pos, sym, SFits, w64, to_z-of_z, rules}
use Rattle.pth_calls.proofs.Storing.{is_not_zero}
use Rattle.pth_calls.proofs.cleanups.run_popped.Goals as goal

pub returns-then-v-eq0-clause-goes : goal.returns-then-v-eq0-clause-goes
returns-then-v-eq0-clause-goes g c =
    let none : c.args.v ≡ pos 0 = search rules in
    rw none (record { leads = λ s st. record { stands = st; tells = sym (append-nil _) }; cut = tt })

pub returns-clause-goes : goal.returns-clause-goes
returns-clause-goes g c =
    let x : SFits w64 c.args.arg = search rules in
    let runs = is_not_zero c.args.v (search rules) in
    rw runs (simp to_z-of_z at c.run_told_handler.ensures.goes)
