use Rattle.std.proofs.Common.{SFits, w64, to_z-of_z, refl, ap, rules}
use Rattle.pth_model.specs.RingWaits.{claims}
use Rattle.pth_world.proofs.Moves.{runner_alive}
use Rattle.pth_model.specs.declared.next.Next.TheVariants as next
use Rattle.pth_waits.proofs.verdicts.carry_on.Goals as goal

pub end_thread-requires-clause-alive : goal.end_thread-requires-clause-alive
end_thread-requires-clause-alive g c = runner_alive c.args.w.now c.args.t.0 c.requires.whole c.requires.runs

pub returns-in_ok-end_thread-in-Ends-clause-goes : goal.returns-in_ok-end_thread-in-Ends-clause-goes
returns-in_ok-end_thread-in-Ends-clause-goes g c b =
    let f : SFits w64 c.in-Ends.value = search rules in
    rw c.in-Ends.is (record { next = λ s ready. rw to_z-of_z refl; leads = λ s ready. (rw to_z-of_z at c.in_ok-end_thread-in-Ends.ensures.goes.leads) s ready.1; cut = tt })

pub returns-in_ok-block_on-in-Blocks-clause-goes : goal.returns-in_ok-block_on-in-Blocks-clause-goes
unfolding claims
returns-in_ok-block_on-in-Blocks-clause-goes g c b =
    rw c.in-Blocks.is (record { next = λ s ready. refl; leads = λ s ready. c.in_ok-block_on-in-Blocks.ensures.ok s b ready.0 ready.1; cut = tt })

pub returns-in_ok-answer-in-Says-clause-goes : goal.returns-in_ok-answer-in-Says-clause-goes
returns-in_ok-answer-in-Says-clause-goes g c b =
    rw c.in-Says.is (record { next = λ s ready. ap next.Done c.in_ok-answer-in-Says.ensures.value; leads = λ s ready. c.in_ok-answer-in-Says.ensures.ok s b ready.0 ready.1; cut = tt })

pub returns-in_ok-answer-in-Yields-clause-goes : goal.returns-in_ok-answer-in-Yields-clause-goes
returns-in_ok-answer-in-Yields-clause-goes g c b =
    rw c.in-Yields.is (record { next = λ s ready. ap next.Yields c.in_ok-answer-in-Yields.ensures.value; leads = λ s ready. c.in_ok-answer-in-Yields.ensures.ok s b ready.0 ready.1; cut = tt })

pub returns-in_ok-answer_blocked-in-Kills-clause-goes : goal.returns-in_ok-answer_blocked-in-Kills-clause-goes
returns-in_ok-answer_blocked-in-Kills-clause-goes g c b =
    rw c.in-Kills.is (record { next = λ s ready. refl; leads = λ s ready. c.in_ok-answer_blocked-in-Kills.ensures.ok s b ready.0 ready.1; cut = tt })
