use Rattle.pth_grammar.proofs.KernelRanges.{clock_within, open_within, stamp_within}
use Rattle.pth_grammar.proofs.laws.what_kernel_lines_stand_for_is_in_range.Goals as goal

pub returns-clause-clocks : goal.returns-clause-clocks
returns-clause-clocks c = λ ws k e. clock_within ws k e

pub returns-clause-opens : goal.returns-clause-opens
returns-clause-opens c = λ ws f e. open_within ws f e

pub returns-clause-stamps : goal.returns-clause-stamps
returns-clause-stamps c = λ ws s e. stamp_within ws s e
