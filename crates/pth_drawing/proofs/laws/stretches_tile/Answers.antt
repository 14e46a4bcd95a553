use Rattle.pth_drawing.proofs.Tiles.{tile, within, longest}
use Rattle.pth_drawing.proofs.laws.stretches_tile.Goals as goal

pub returns-clause-tile : goal.returns-clause-tile
returns-clause-tile c = tile

pub returns-clause-within : goal.returns-clause-within
returns-clause-within c = within

pub returns-clause-longest : goal.returns-clause-longest
returns-clause-longest c = longest
