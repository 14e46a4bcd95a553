use Rattle.pth_model.proofs.Queues.{queue-entered, queue-leave, queue-raised}
use Rattle.pth_model.proofs.standings.standings_show_as_lists.Goals as goal

pub returns-clause-enter : goal.returns-clause-enter
returns-clause-enter p c = λ s t q k rank top. queue-entered s t q k rank top

pub returns-clause-leave : goal.returns-clause-leave
returns-clause-leave p c = λ s t q. queue-leave s t q

pub returns-clause-raise : goal.returns-clause-raise
returns-clause-raise p c = λ s q. queue-raised s q
