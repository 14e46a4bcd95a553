-- Calls on descriptors, as the code tells of them: by what they wait for.
use Rattle.std.specs.Prelude.{length, Bool, false, Option, Some, None}
use Rattle.pth_base.specs.declared.call.Call.{Call}
use Rattle.pth_base.specs.declared.call.Call.TheVariants as call
use Rattle.pth_kernel.specs.Kernel.{Kernel, fd_named, is_nonblocking}
use Rattle.pth_model.specs.declared.awaits.Awaits.{Awaits}
use Rattle.pth_model.specs.declared.awaits.Awaits.TheVariants.{Reading, Writing, Connection, ConnectAnswer, Selection}
use Rattle.pth_model.specs.Io.{is_refused_length as is_refused, select_deadline}
use Rattle.pth_model.specs.State.{State}

-- what a call on descriptors waits for if it is not answered at once; none of any other call
abbrev pub first_awaited : {P S H : Type 0} → State P S H → Call → Option Awaits
first_awaited s (call.Read f n) = Some (Reading f n)
first_awaited s (call.ReadEv f n e) = Some (Reading f n)
first_awaited s (call.Write f bytes) = Some (Writing f (length bytes) 0)
first_awaited s (call.WriteEv f bytes e) = Some (Writing f (length bytes) 0)
first_awaited s (call.Accept f) = Some (Connection f)
first_awaited s (call.AcceptEv f e) = Some (Connection f)
first_awaited s (call.Connect f) = Some (ConnectAnswer f)
first_awaited s (call.ConnectEv f e) = Some (ConnectAnswer f)
first_awaited s (call.Select r w x l) = Some (Selection r w x (select_deadline s l))
first_awaited s (call.SelectEv r w x l e) = Some (Selection r w x (select_deadline s l))
first_awaited s c = None

-- a select is refused for its length: one below -1, if all members of its sets are live
abbrev pub is_refused_length : {P S H : Type 0} → State P S H → Call → Bool
is_refused_length s (call.Select r w x l) = is_refused s r w x l
is_refused_length s (call.SelectEv r w x l e) = is_refused s r w x l
is_refused_length s c = false

-- the call's descriptor doesn't block: one of pth_select may
abbrev pub is_at_once : Kernel → Call → Bool
is_at_once k (call.Read f n) = is_nonblocking k (fd_named f)
is_at_once k (call.ReadEv f n e) = is_nonblocking k (fd_named f)
is_at_once k (call.Write f bytes) = is_nonblocking k (fd_named f)
is_at_once k (call.WriteEv f bytes e) = is_nonblocking k (fd_named f)
is_at_once k (call.Accept f) = is_nonblocking k (fd_named f)
is_at_once k (call.AcceptEv f e) = is_nonblocking k (fd_named f)
is_at_once k (call.Connect f) = is_nonblocking k (fd_named f)
is_at_once k (call.ConnectEv f e) = is_nonblocking k (fd_named f)
is_at_once k c = false
