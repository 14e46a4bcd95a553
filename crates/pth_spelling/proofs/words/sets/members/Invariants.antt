use Rattle.std.proofs.Common.{◌==◌}
use Rattle.std.specs.List.{slice_split}
use Rattle.pth_text.specs.Bytes.{code}
use Rattle.pth_spelling.specs.WordMeanings.{members_of}
use Rattle.pth_spelling.proofs.Sets.{Leads}
use Rattle.pth_spelling.proofs.words.sets.members.Given as goal

abbrev pub invariant-loop-part : goal.invariant-loop-part
invariant-loop-part l = Leads (goal.iterator-loop-part).next_gives l.part-iterator l.set l.least (members_of 0 (slice_split (λ b. b == code ",") l.fn.word))
