-- What the lines of a kernel stand for is in its range.
use Rattle.std.specs.Prelude.{ℕ, ◌≡◌, ◌<◌, ◌≤◌, false, List, Some}
use Rattle.pth_base.specs.Descriptors.{descriptor_limit}
use Rattle.pth_kernel.specs.Trace.{most_clock, is_out_of_range}
use Rattle.pth_kernel.specs.declared.trace.Stamp.{Stamp}
use Rattle.pth_grammar.specs.KernelLines.{clock_line, open_line, stamp_line}

abbrev pub ClocksAreInRange : Type 0
ClocksAreInRange = (words : List (List ℕ)) (clock : ℕ) → clock_line words ≡ Some clock → clock ≤ most_clock

abbrev pub OpensAreInRange : Type 0
OpensAreInRange = (words : List (List ℕ)) (f : ℕ) → open_line words ≡ Some f → f < descriptor_limit

abbrev pub StampsAreInRange : Type 0
StampsAreInRange = (words : List (List ℕ)) (stamp : Stamp) → stamp_line words ≡ Some stamp → is_out_of_range stamp ≡ false
