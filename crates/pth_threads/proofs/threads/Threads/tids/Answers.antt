use Rattle.std.proofs.Common.{◌∙◌, ap, map}
use Rattle.pth_threads.specs.Threads.{tid_from}
use Rattle.pth_threads.proofs.Numbers.{listed, rising}
use Rattle.pth_threads.proofs.threads.Threads.tids.Goals as goal

pub returns-clause-listed : goal.returns-clause-listed
returns-clause-listed c = rw (← c.self.view_is) (listed c.self.inside.entries _ _ c.in_ok-numbers.ensures.listed (c.in_ok-named.ensures ∙ ap (map tid_from) c.deref.ensures.value))

pub returns-clause-rising : goal.returns-clause-rising
returns-clause-rising c = rising c.in_ok-numbers.numbers.items _ (c.in_ok-named.ensures ∙ ap (map tid_from) c.deref.ensures.value) c.in_ok-numbers.ensures.rising
