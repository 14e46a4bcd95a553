use Rattle.pth_player.proofs.Outputs.{output_of}
use Rattle.pth_player.proofs.laws.every_input_has_one_output.Goals as goal

pub returns : goal.returns
returns c = λ asked bytes. output_of asked bytes
