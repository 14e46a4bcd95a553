use Rattle.std.proofs.Common.{get_or}
use Rattle.pth_drawing.specs.States.{turns_of}
use Rattle.pth_drawing.proofs.OneRuns.{runs_alone}
use Rattle.pth_drawing.proofs.laws.one_runs.Goals as goal

pub returns : goal.returns
returns c = λ marks k d low. ((get_or (turns_of marks) k d).thread, runs_alone (get_or (turns_of marks) k d))
