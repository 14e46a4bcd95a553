-- Calls that wait for a length of time.
use Rattle.pth_model.specs.declared.verdict.Verdict.{Verdict}
use Rattle.pth_model.specs.declared.verdict.Verdict.TheVariants.{Says, Blocks}
use Rattle.pth_world.specs.WellFormed.{IsMoment}

-- such a call is answered, or waits for a moment
abbrev pub IsRestVerdict : Verdict → Type 0
IsRestVerdict (Says a) = Unit {0}
IsRestVerdict (Blocks a) = IsMoment a
IsRestVerdict v = ⊥
