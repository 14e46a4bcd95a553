use Rattle.pth_world.proofs.StateOf.{stands_for_state}
use Rattle.pth_world.proofs.laws.sound_worlds_stand_for_a_state.Goals as goal

pub returns : goal.returns
returns p c = λ w sound. stands_for_state w sound
