use Rattle.std.proofs.Common.{refl}
use Rattle.pth_drawing.specs.Drawing.{chart, places_from, stretches_from, moments_from}
use Rattle.pth_drawing.specs.States.{up_to_dispatch, turns_after}
use Rattle.pth_drawing.proofs.example.joining_run_is_drawn.Goals as goal

pub returns-clause-whole : goal.returns-clause-whole
unfolding chart places_from stretches_from moments_from up_to_dispatch turns_after
returns-clause-whole c = refl

pub returns-clause-second : goal.returns-clause-second
unfolding chart places_from stretches_from moments_from up_to_dispatch turns_after
returns-clause-second c = refl
