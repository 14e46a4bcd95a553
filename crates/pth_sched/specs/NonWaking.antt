-- Which calls leave what all other threads wait for as it is.
use Rattle.std.specs.Prelude.{◌==◌, Bool, true, false, Option, Some, None}
use Rattle.pth_kernel.specs.Kernel.{Kernel, fd_named, room}
use Rattle.pth_model.specs.declared.blocked.Blocked.{Blocked}
use Rattle.pth_base.specs.declared.call.Call.{Call}
use Rattle.pth_base.specs.declared.call.Call.TheVariants as call
use Rattle.pth_model.specs.declared.next.Next.{Next}
use Rattle.pth_model.specs.declared.next.Next.TheVariants as next

-- whatever it comes to: it asks and changes nothing, or gives control up
abbrev pub is_non_waking : Call → Bool
is_non_waking call.Plain = true
is_non_waking (call.Note v) = true
is_non_waking call.SelfTid = true
is_non_waking (call.Yield n) = true
is_non_waking (call.Ctrl q) = true
is_non_waking (call.AttrGet a field) = true
is_non_waking (call.Timeout n) = true
is_non_waking (call.EvWalk e forward until_occurred) = true
is_non_waking (call.EvStatus e) = true
is_non_waking (call.EvKind e) = true
is_non_waking (call.KeyGet k) = true
is_non_waking c = false

-- if it begins to wait, or waits on as it is tried again: it takes nothing, and a write finds no room
abbrev pub waits_without_waking : Kernel → Call → Bool
waits_without_waking k (call.Exit v) = true
waits_without_waking k (call.Join n) = true
waits_without_waking k (call.Wait e) = true
waits_without_waking k (call.Nap n) = true
waits_without_waking k (call.Usleep n) = true
waits_without_waking k (call.Sleep n) = true
waits_without_waking k (call.MutexAcquire m v e) = true
waits_without_waking k (call.RwAcquire l write v e) = true
waits_without_waking k (call.BarrierReach b) = true
waits_without_waking k (call.Read f n) = true
waits_without_waking k (call.ReadEv f n e) = true
waits_without_waking k (call.Write f bytes) = room k (fd_named f) == 0
waits_without_waking k (call.WriteEv f bytes e) = room k (fd_named f) == 0
waits_without_waking k (call.Accept f) = true
waits_without_waking k (call.AcceptEv f e) = true
waits_without_waking k (call.Connect f) = true
waits_without_waking k (call.ConnectEv f e) = true
waits_without_waking k (call.Select r w x l) = true
waits_without_waking k (call.SelectEv r w x l e) = true
waits_without_waking k c = false

abbrev pub is_waiting : Next → Bool
is_waiting next.Blocks = true
is_waiting n = false

-- the call that blocks a thread is non-waking if it waits on
abbrev pub waits_on_without_waking : Kernel → Option Blocked → Bool
waits_on_without_waking k None = false
waits_on_without_waking k (Some b) = waits_without_waking k b.call
