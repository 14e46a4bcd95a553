-- Calls whose words are read back as them.
use Rattle.std.specs.Prelude.{◌≡◌, ◌≢◌, ◌<◌, ◌≤◌, ◌^◌, List, [], ◌∷◌, Option, Some, None, FitsSigned, All}
use Rattle.std.specs.Int.{w64}
use Rattle.pth_base.specs.declared.call.Call.{Call}
use Rattle.pth_base.specs.declared.thread.ThreadState.TheVariants.{Running}
use Rattle.pth_print.specs.Args.{Arg}
use Rattle.pth_print.specs.Args as arg
use Rattle.pth_print.specs.Parts.{Parts, parts_of}
use Rattle.pth_spelling.specs.WordMeanings.{name_of}

-- what a word can spell: a number of 64 bits, a name, a set of descriptors below 64, bytes, goals, or a state that an event may wait for
abbrev pub IsReadableArg : Arg → Type 0
IsReadableArg (arg.Number n) = FitsSigned w64 n
IsReadableArg (arg.MaybeNumber (Some n)) = FitsSigned w64 n
IsReadableArg (arg.Name name) = name_of name ≡ Some name
IsReadableArg (arg.MaybeName (Some name)) = name_of name ≡ Some name
IsReadableArg (arg.Set set) = set < 2 ^ 64
IsReadableArg (arg.Bytes bytes) = All (λ b. b < 256) bytes
IsReadableArg (arg.Goals goals) = (1 ≤ goals) × (goals ≤ 7)
IsReadableArg (arg.State state) = state ≢ Running
IsReadableArg _ = Unit {0}

-- each operand is one that a word can spell
abbrev pub AreReadable : List Arg → Type 0
AreReadable [] = Unit {0}
AreReadable (o ∷ os) = IsReadableArg o × AreReadable os

-- the parts are those of a call, and words can spell its operands
abbrev pub IsReadableBy : Option Parts → Type 0
IsReadableBy (Some p) = AreReadable p.operands
IsReadableBy None = ⊥

-- a call whose words are read back as it
abbrev pub IsReadable : Call → Type 0
IsReadable c = IsReadableBy (parts_of c)
