use Rattle.pth_laws.proofs.Excludes.{have_objects}
use Rattle.pth_laws.proofs.initialised.initialised_marks_are_in_range.Goals as goal

pub returns : goal.returns
returns c = have_objects
