use Rattle.std.proofs.Common.{SFits, w64, to_z-of_z, refl, rules}
use Rattle.pth_world.proofs.Moves.{runner_alive}
use Rattle.pth_waits.proofs.verdicts.carry_out.Goals as goal

pub end_thread-requires-clause-alive : goal.end_thread-requires-clause-alive
end_thread-requires-clause-alive g c = runner_alive c.args.w.now c.args.t.0 c.requires.whole c.requires.runs

pub returns-in_ok-end_thread-in-Ends-clause-goes : goal.returns-in_ok-end_thread-in-Ends-clause-goes
returns-in_ok-end_thread-in-Ends-clause-goes g c =
    let f : SFits w64 c.in-Ends.value = search rules in
    rw c.in-Ends.is (record { next = λ s ready. rw to_z-of_z refl; leads = λ s ready. (rw to_z-of_z at c.in_ok-end_thread-in-Ends.ensures.goes.leads) s ready; cut = tt })
