use Rattle.pth_threads.proofs.Entries.{no_entries, no_tids, kept_none}
use Rattle.pth_threads.proofs.threads.Threads.new.Goals as goal

pub invariant_of-result : goal.invariant_of-result
invariant_of-result c = kept_none c.new.result c.new.ensures.things c.new.ensures.numbers c.new.ensures.limit

pub returns-clause-tids : goal.returns-clause-tids
returns-clause-tids c = no_tids c.new.result c.new.ensures.things

pub returns-clause-entries : goal.returns-clause-entries
returns-clause-entries c = no_entries c.new.result c.new.ensures.things
