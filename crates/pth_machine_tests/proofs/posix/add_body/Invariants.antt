use Rattle.std.proofs.Common.{◌<◌, length}
use Rattle.pth_machine_tests.proofs.posix.add_body.Given as goal

abbrev pub invariant-loop-call : goal.invariant-loop-call
invariant-loop-call l = l.body.0 < length l.listed
