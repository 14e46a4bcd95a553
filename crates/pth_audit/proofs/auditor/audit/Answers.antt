use Rattle.std.proofs.Common.{◌≡◌, ◌≤◌, ◌<◌, ◌+◌, ◌^◌, ap, arith, length, subst, take, Err}
use Rattle.std.proofs.lemmas.List.{length-take-le}
use Rattle.pth_audit.specs.Auditing.{IsAdded}
use Rattle.pth_audit.proofs.Auditing.{begins_there, broken_there, followed_more}
use Rattle.pth_audit.proofs.auditor.audit.Goals as goal

pub returns-in-Ok-Some-clause-verdict : goal.returns-in-Ok-Some-clause-verdict
returns-in-Ok-Some-clause-verdict c =
    broken_there c.args.marks.now c.loop-i.i c.index-marks-i.result c.in-Ok-Some.rule c.loop-i-test.true c.index-marks-i.is c.loop-i.invariant.lawful
    (subst (λ o. IsAdded o c.add.new.self (take c.loop-i.i c.args.marks.now) c.index-marks-i.result) c.in-Ok-Some.field-0-is (c.in-Ok-Some.ensures.added (take c.loop-i.i c.args.marks.now) c.loop-i.invariant))

pub loop-i-preserved : goal.loop-i-preserved
loop-i-preserved c =
    followed_more c.add.new.self c.args.marks.now c.loop-i.i c.index-marks-i.result c.loop-i-test.true c.index-marks-i.is
    (subst (λ o. IsAdded o c.add.new.self (take c.loop-i.i c.args.marks.now) c.index-marks-i.result) c.in-Ok-None.field-0-is (c.in-Ok-None.ensures.added (take c.loop-i.i c.args.marks.now) c.loop-i.invariant))

pub returns-in-Err-OutOfMemory-clause-memory : goal.returns-in-Err-OutOfMemory-clause-memory
returns-in-Err-OutOfMemory-clause-memory c =
    begins_there c.args.marks.now c.loop-i.i c.index-marks-i.result c.loop-i-test.true c.index-marks-i.is
    (c.in-Err-OutOfMemory.ensures.memory (take c.loop-i.i c.args.marks.now) c.loop-i.invariant)

pub unreachable-requires : goal.unreachable-requires
unreachable-requires c =
    let low = c.loop-i-test.true in
    let many : 2 ^ 64 ≤ length (take c.loop-i.i c.args.marks.now) + 1 = c.in-Err-Overflow.ensures.overflow (ap Err c.in-Err-Overflow.field-0-is) (take c.loop-i.i c.args.marks.now) c.loop-i.invariant in
    omega (arith, many, length-take-le c.loop-i.i c.args.marks.now (omega (arith, low)))
