use Rattle.std.proofs.Common.{◌∙◌, refl, sym, rules, SFits, w64, to_z-of_z}
use Rattle.pth_world.proofs.Barriers.{barred_frame}
use Rattle.pth_waits.proofs.Reaching.{round_passed, round_waits}
use Rattle.pth_waits.proofs.barriers.reach_barrier_again.Goals as goal

pub returns-then-not-passed-clause-tries : goal.returns-then-not-passed-clause-tries
returns-then-not-passed-clause-tries g c a at =
    let b : SFits w64 c.args.b = search rules in
    let passed = rw (c.barriers.ensures, to_z-of_z) at c.passed.ensures.answer in
    rw to_z-of_z (round_waits c.args.w.now c.args.w.now.barriers c.args.t.0 c.args.b c.args.round (sym passed ∙ c.if-not-passed.true) refl a at)

pub returns-clause-tries : goal.returns-clause-tries
returns-clause-tries g c a at =
    let b : SFits w64 c.args.b = search rules in
    let passed = rw (c.barriers.ensures, to_z-of_z) at c.passed.ensures.answer in
    let answer = rw (c.barriers_mut.ensures.value, to_z-of_z) at c.answer-answer.ensures.answer in
    let changes = rw (c.barriers_mut.ensures.value, to_z-of_z) at c.answer-answer.ensures.changes in
    let z : SFits w64 c.answer-answer.result = search rules in
    rw (to_z-of_z, answer) (round_passed c.args.w.now c.answer-answer.new.self c.args.t.0 c.args.b c.args.round (sym passed ∙ c.if-not-passed.false) changes a at)

pub returns-clause-frame : goal.returns-clause-frame
returns-clause-frame g c = barred_frame c.args.w.now c.answer-answer.new.self c.requires.whole
