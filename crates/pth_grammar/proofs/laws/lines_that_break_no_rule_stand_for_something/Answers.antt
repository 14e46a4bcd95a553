use Rattle.pth_grammar.proofs.Readable.{act_readable, body_readable, check_readable, clock_readable, open_readable, stamp_readable}
use Rattle.pth_grammar.proofs.laws.lines_that_break_no_rule_stand_for_something.Goals as goal

pub returns-clause-bodies : goal.returns-clause-bodies
returns-clause-bodies c = λ ws h n. body_readable ws h n

pub returns-clause-handlers : goal.returns-clause-handlers
returns-clause-handlers c = λ ws h n. act_readable ws h n

pub returns-clause-checks : goal.returns-clause-checks
returns-clause-checks c = λ s ws h e. check_readable s ws h e

pub returns-clause-clocks : goal.returns-clause-clocks
returns-clause-clocks c = λ p ws h e. clock_readable p ws h e

pub returns-clause-opens : goal.returns-clause-opens
returns-clause-opens c = λ p ws h e. open_readable p ws h e

pub returns-clause-stamps : goal.returns-clause-stamps
returns-clause-stamps c = λ p ws h e. stamp_readable p ws h e
