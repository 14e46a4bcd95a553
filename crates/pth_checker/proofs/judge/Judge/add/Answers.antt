use Rattle.std.proofs.Common.{◌≡◌, ◌≤◌, ◌<◌, ◌+◌, ◌^◌, ap, arith, length, Err}
use Rattle.pth_checker.proofs.judge.Judge.add.Goals as goal

pub unreachable-requires : goal.unreachable-requires
unreachable-requires c =
    let few = c.requires.few in
    let many : 2 ^ 64 ≤ length c.requires.marks + 1 = c.in-Err-Overflow.ensures.overflow (ap Err c.in-Err-Overflow.field-0-is) c.requires.marks c.requires.judges.laws in
    omega (arith, many, few)
