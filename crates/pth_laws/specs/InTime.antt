-- Marks in time: no thread that is dispatched has waited longer than it may.
use Rattle.std.specs.Prelude.{◌≤◌, List, All}
use Rattle.pth_base.specs.declared.mark.Mark.{Mark}
use Rattle.pth_base.specs.declared.mark.Mark.TheVariants as mark

-- what is said of a mark: at a dispatch, that the thread has waited as often as it may, or less
abbrev pub IsInTime : Mark → Type 0
IsInTime (mark.Dispatch turn at t rank waited allowed) = waited ≤ allowed
IsInTime m = Unit {0}

-- that is said of each mark
abbrev pub InTime : List Mark → Type 0
InTime marks = All IsInTime marks
