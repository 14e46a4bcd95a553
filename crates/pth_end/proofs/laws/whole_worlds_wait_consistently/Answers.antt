use Rattle.pth_laws.proofs.Waiting.{all_ask}
use Rattle.pth_end.proofs.Wholes.{waits_of}
use Rattle.pth_end.proofs.laws.whole_worlds_wait_consistently.Goals as goal

pub returns-clause-waits : goal.returns-clause-waits
returns-clause-waits p c = λ w s whole st. waits_of w s st whole.waits

pub returns-clause-rows : goal.returns-clause-rows
returns-clause-rows p c = λ w s whole st. all_ask p.P.Program.functions s (waits_of w s st whole.waits).rightly
