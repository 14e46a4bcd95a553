-- Parts of calls and the calls that they make.
use Rattle.std.specs.Prelude.{◌≡◌, Option, Some, None}
use Rattle.pth_base.specs.declared.call.Call.{Call}
use Rattle.pth_line.specs.CallOf.{call_of}
use Rattle.pth_print.specs.Parts.{Parts, parts_of}

-- the parts, where there are some, make this call
abbrev pub IsMadeBy : Call → Option Parts → Type 0
IsMadeBy c (Some p) = call_of p.word p.operands ≡ c
IsMadeBy c None = Unit {0}

-- each call is made of its word and its operands
abbrev pub EachIsMade : Type 0
EachIsMade = (c : Call) → IsMadeBy c (parts_of c)
