-- The lines of calls that make events.
use Rattle.std.specs.Prelude.{Option, Some, None}
use Rattle.pth_base.specs.declared.call.Call.{Call}
use Rattle.pth_base.specs.declared.call.Call.TheVariants as call
use Rattle.pth_base.specs.declared.event.EvLine.{EvLine}
use Rattle.pth_base.specs.declared.event.EvLine.TheVariants as line

-- pth_event without PTH_MODE_CHAIN
abbrev pub unchained_event_line : Call → Option EvLine
unchained_event_line (call.EvFd goals fd) = Some (line.Fd goals fd)
unchained_event_line (call.EvSelect r w x) = Some (line.Select r w x)
unchained_event_line (call.EvTime m) = Some (line.Time m)
unchained_event_line (call.EvMsg p) = Some (line.Msg p)
unchained_event_line (call.EvCond c) = Some (line.Cond c)
unchained_event_line (call.EvTid state n) = Some (line.Tid state n)
unchained_event_line (call.EvFunc c v l) = Some (line.Func c v l)
unchained_event_line c = None
