-- A call is made of its word and its operands.
use Rattle.std.proofs.Common.{refl}
use Rattle.pth_base.specs.declared.attr.AttrValue.TheVariants as value
use Rattle.pth_base.specs.declared.call.Call.{Call}
use Rattle.pth_base.specs.declared.call.Call.TheVariants as call
use Rattle.pth_base.specs.declared.event.EvLine.TheVariants as line
use Rattle.pth_base.specs.declared.query.Query.TheVariants as query
use Rattle.pth_print.specs.Made.{IsMadeBy}
use Rattle.pth_print.specs.Parts.{parts_of}

pub made : (c : Call) → IsMadeBy c (parts_of c)
made (call.Ctrl query.Threads) = refl
made (call.AttrSet a (value.Prio n)) = refl
made (call.Chain e (line.Time m)) = refl
made call.Plain = tt
made (call.Note v) = tt
made _ = refl
