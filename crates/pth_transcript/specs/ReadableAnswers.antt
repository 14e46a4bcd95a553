-- Answers and acts whose words are read back as them.
use Rattle.std.specs.Prelude.{◌≡◌, ◌<◌, ◌^◌, Bool, true, false, Some, FitsSigned, All}
use Rattle.std.specs.Int.{w64}
use Rattle.pth_base.specs.declared.act.Act.{Act}
use Rattle.pth_base.specs.declared.act.Act.TheVariants as act
use Rattle.pth_base.specs.declared.answer.Answer.{Answer}
use Rattle.pth_base.specs.declared.answer.Answer.TheVariants as answer
use Rattle.pth_base.specs.declared.attr.AttrField.TheVariants as field
use Rattle.pth_base.specs.declared.call.Call.{Call}
use Rattle.pth_base.specs.declared.call.Call.TheVariants as call
use Rattle.pth_base.specs.declared.query.Query.TheVariants as query
use Rattle.pth_spelling.specs.WordMeanings.{name_of}

-- what words can spell of an answer that is no text: numbers of 64 bits, bytes, sets of descriptors below 64
abbrev pub IsReadablePlainAnswer : Answer → Type 0
IsReadablePlainAnswer answer.None = Unit {0}
IsReadablePlainAnswer (answer.Int n) = FitsSigned w64 n
IsReadablePlainAnswer (answer.Bytes bytes) = All (λ b. b < 256) bytes
IsReadablePlainAnswer (answer.Sets count r w x) = FitsSigned w64 count × (r.0 < 2 ^ 64) × (w.0 < 2 ^ 64) × (x.0 < 2 ^ 64)
IsReadablePlainAnswer (answer.Text name) = ⊥
IsReadablePlainAnswer (answer.Msg id value) = (id.0 < 2 ^ 64) × FitsSigned w64 value
IsReadablePlainAnswer (answer.Fail e) = Unit {0}

-- the answer to who asks for a name: a name or an error
abbrev pub IsReadableNameAnswer : Answer → Type 0
IsReadableNameAnswer (answer.Text name) = name_of name ≡ Some name
IsReadableNameAnswer (answer.Fail e) = Unit {0}
IsReadableNameAnswer a = ⊥

-- a call asks for a name
abbrev pub asks_name : Call → Bool
asks_name (call.Ctrl (query.Name t)) = true
asks_name (call.AttrGet a field.Name) = true
asks_name c = false

-- an answer to a call that asks for a name, or to another
abbrev pub IsReadableBehind : (name : Bool) → Answer → Type 0
IsReadableBehind true a = IsReadableNameAnswer a
IsReadableBehind false a = IsReadablePlainAnswer a

-- an answer that is read back behind its call
abbrev pub IsReadableAnswer : Call → Answer → Type 0
IsReadableAnswer c a = IsReadableBehind (asks_name c) a

-- an act that is read back with its answer: one that makes no call has none
abbrev pub IsReadableAct : Act → Answer → Type 0
IsReadableAct (act.Note v) a = FitsSigned w64 v × (a ≡ answer.None)
IsReadableAct (act.Set v n) a = (v < 2 ^ 32) × FitsSigned w64 n × (a ≡ answer.None)
IsReadableAct (act.Release m) a = FitsSigned w64 m × IsReadablePlainAnswer a
IsReadableAct (act.Notify c v) a = FitsSigned w64 c × FitsSigned w64 v × IsReadablePlainAnswer a
IsReadableAct (act.Put p v) a = FitsSigned w64 p × FitsSigned w64 v × IsReadablePlainAnswer a
IsReadableAct (act.SetKey k v) a = FitsSigned w64 k × FitsSigned w64 v × IsReadablePlainAnswer a
