-- What the objects of a call tell.
use Rattle.pth_streams.specs.Inputs.{Inputs}
use Rattle.pth_streams.specs.Pieces.{Received}

-- what the input, the files and the output tell at a moment
pub record Scene : Type 0 where
  pub ins : Inputs
  pub out : Received

abbrev pub scene : Inputs → Received → Scene
scene ins out = record { ins = ins; out = out }
