use Rattle.std.proofs.Common.{refl}
use Rattle.pth_threads.proofs.Objects.{not_known, known_thread}
use Rattle.pth_threads.proofs.attrs.set_of_thread.Goals as goal

pub returns-in_default-clause-answer : goal.returns-in_default-clause-answer
returns-in_default-clause-answer c = rw (not_known c.args.threads.now c.args.t.0 c.in_default.ensures.slot) refl

pub returns-in-Err-clause-answer : goal.returns-in-Err-clause-answer
returns-in-Err-clause-answer c = rw (known_thread c.args.threads.now c.args.t.0 c.in-Some.slot.0 c.in-Some.ensures.slot c.in-Some.ensures.used) c.in-Err.ensures.answer

pub returns-in-Ok-clause-answer : goal.returns-in-Ok-clause-answer
returns-in-Ok-clause-answer c = rw (known_thread c.args.threads.now c.args.t.0 c.in-Some.slot.0 c.in-Some.ensures.slot c.in-Some.ensures.used) c.in-Ok.ensures.answer
