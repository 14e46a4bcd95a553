-- Lines that break none of the rules on words stand for something.
use Rattle.std.specs.Prelude.{ℕ, ◌≡◌, ◌≢◌, List, Some, None, IsSome}
use Rattle.pth_grammar.specs.KernelLines.{clock_line, open_line, stamp_line}
use Rattle.pth_grammar.specs.declared.kernel_part.KernelPart.{KernelPart}
use Rattle.pth_grammar.specs.LineMeanings.{line_of, act_of, check_of}
use Rattle.pth_grammar.specs.Shapes.{words_fault}
use Rattle.pth_grammar.specs.declared.section.Section.{Section}
use Rattle.pth_grammar.specs.declared.section.Section.TheVariants as sec
use Rattle.pth_spelling.specs.Starts.{begins}
use Rattle.pth_spelling.specs.declared.keyword.Keyword.TheVariants as key

-- a line of a body, but the `end` of it
abbrev pub BodyLinesStand : Type 0
BodyLinesStand = (words : List (List ℕ)) → words_fault sec.Body words ≡ None → begins words ≢ Some key.End → IsSome (line_of words)

-- a line of a handler, but the `end` of it
abbrev pub HandlerLinesStand : Type 0
HandlerLinesStand = (words : List (List ℕ)) → words_fault sec.Handler words ≡ None → begins words ≢ Some key.End → IsSome (act_of words)

-- a check, in whatever section
abbrev pub ChecksStand : Type 0
ChecksStand = (section : Section) (words : List (List ℕ)) → words_fault section words ≡ None → begins words ≡ Some key.Check → IsSome (check_of words)

-- the lines of a kernel, in whatever part of it
abbrev pub ClocksStand : Type 0
ClocksStand = (part : KernelPart) (words : List (List ℕ)) → words_fault (sec.Kernel part) words ≡ None → begins words ≡ Some key.Clock → IsSome (clock_line words)

abbrev pub OpensStand : Type 0
OpensStand = (part : KernelPart) (words : List (List ℕ)) → words_fault (sec.Kernel part) words ≡ None → begins words ≡ Some key.Open → IsSome (open_line words)

abbrev pub StampsStand : Type 0
StampsStand = (part : KernelPart) (words : List (List ℕ)) → words_fault (sec.Kernel part) words ≡ None → begins words ≡ Some key.At → IsSome (stamp_line words)
