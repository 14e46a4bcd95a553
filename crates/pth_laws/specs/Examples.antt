-- Lists of marks. Some a law refuses, others it takes, though most of these no run tells either.
use Rattle.std.specs.Prelude.{ℕ, ℤ, pos, negsuc, Bool, true, false, List, [], ◌∷◌, None, Some}
use Rattle.pth_base.specs.declared.answer.Answer.TheVariants.{Fail, Int, Msg}
use Rattle.pth_base.specs.declared.act.Act.TheVariants as act
use Rattle.pth_base.specs.declared.call.Call.{Call}
use Rattle.pth_base.specs.declared.call.Call.TheVariants as call
use Rattle.pth_base.specs.declared.errno.Errno.TheVariants.{ENOENT}
use Rattle.pth_base.specs.declared.mark.Mark.{Mark}
use Rattle.pth_base.specs.declared.mark.Mark.TheVariants as mark
use Rattle.pth_base.specs.declared.ids.HandlerId.{HandlerId}
use Rattle.pth_base.specs.declared.ids.Tid.{Tid}

abbrev pub one : Tid
one = record { 0 = 1 }

abbrev pub two : Tid
two = record { 0 = 2 }

abbrev pub handler_of_number : ℕ → HandlerId
handler_of_number n = record { 0 = n }

-- thread 1 pushes two handlers, and then tells the rest
abbrev pub two_pushed : List Mark → List Mark
two_pushed rest = mark.Answered one (call.CleanupPush (pos 0) (pos 5)) (Int (pos 1)) ∷ mark.Answered one (call.CleanupPush (pos 0) (pos 6)) (Int (pos 1)) ∷ rest

abbrev pub first_in_first_out : List Mark
first_in_first_out = two_pushed (mark.Handler one (handler_of_number 0) (pos 5) ∷ mark.Handler one (handler_of_number 0) (pos 6) ∷ mark.Ended one (pos 0) ∷ [])

abbrev pub a_handler_is_missing : List Mark
a_handler_is_missing = two_pushed (mark.Handler one (handler_of_number 0) (pos 6) ∷ mark.Ended one (pos 0) ∷ [])

-- a key with a destructor has a value
abbrev pub a_destructor_is_left : List Mark
a_destructor_is_left = mark.Answered one (call.KeyCreate (Some (pos 0))) (Int (pos 0)) ∷ mark.Answered one (call.KeySet (pos 0) (pos 7)) (Int (pos 1)) ∷ mark.Ended one (pos 0) ∷ []

abbrev pub an_answer_after_a_cancellation : List Mark
an_answer_after_a_cancellation = mark.Canceled one None ∷ mark.Answered one call.SelfTid (Int (pos 1)) ∷ []

abbrev pub a_mark_after_the_end : List Mark
a_mark_after_the_end = mark.Ended one (pos 0) ∷ mark.Noted one (pos 3) ∷ []

abbrev pub a_canceled_thread_ends_with_0 : List Mark
a_canceled_thread_ends_with_0 = mark.Canceled one None ∷ mark.Ended one (pos 0) ∷ []

-- a pop that should run its handler
abbrev pub a_pop_runs_nothing : List Mark
a_pop_runs_nothing = mark.Answered one (call.CleanupPush (pos 0) (pos 5)) (Int (pos 1)) ∷ mark.Answered one (call.CleanupPop (pos 1)) (Int (pos 1)) ∷ []

-- thread 1 makes key k with a destructor, and has the value v under it
abbrev pub with_value : (k v : ℕ) → List Mark → List Mark
with_value k v rest = mark.Answered one (call.KeyCreate (Some (pos 0))) (Int (pos k)) ∷ mark.Answered one (call.KeySet (pos k) (pos v)) (Int (pos 1)) ∷ rest

abbrev pub a_handler_after_a_destructor : List Mark
a_handler_after_a_destructor =
    mark.Answered one (call.CleanupPush (pos 0) (pos 5)) (Int (pos 1)) ∷ with_value 0 7 (mark.Destructor one 0 (pos 7) ∷ mark.Handler one (handler_of_number 0) (pos 5) ∷ mark.Ended one (pos 0) ∷ [])

abbrev pub a_later_destructor_first : List Mark
a_later_destructor_first = with_value 0 7 (with_value 1 8 (mark.Destructor one 1 (pos 8) ∷ mark.Destructor one 0 (pos 7) ∷ mark.Ended one (pos 0) ∷ []))

abbrev pub a_destructor_of_another_value : List Mark
a_destructor_of_another_value = with_value 0 7 (mark.Destructor one 0 (pos 8) ∷ mark.Ended one (pos 0) ∷ [])

-- a destructor sets the value of its key again, and runs no more
abbrev pub a_value_is_set_again : List Mark
a_value_is_set_again = with_value 0 7 (mark.Destructor one 0 (pos 7) ∷ mark.Acted one (act.SetKey (pos 0) (pos 9)) (Int (pos 1)) ∷ mark.Ended one (pos 0) ∷ [])

-- thread 1 pushes a handler, thread 2 kills the run, and thread 1 ends without its handler
abbrev pub an_end_after_a_kill : List Mark
an_end_after_a_kill = mark.Answered one (call.CleanupPush (pos 0) (pos 5)) (Int (pos 1)) ∷ mark.Answered two call.Kill (Int (pos 1)) ∷ mark.Ended one (pos 0) ∷ []

-- a key 300 with a destructor has a value
abbrev pub a_key_out_of_range_is_left : List Mark
a_key_out_of_range_is_left = mark.Answered one (call.KeyCreate (Some (pos 0))) (Int (pos 300)) ∷ mark.Answered one (call.KeySet (pos 300) (pos 7)) (Int (pos 1)) ∷ mark.Ended one (pos 0) ∷ []

-- its destructor runs
abbrev pub a_key_out_of_range_is_destroyed : List Mark
a_key_out_of_range_is_destroyed = mark.Answered one (call.KeyCreate (Some (pos 0))) (Int (pos 300)) ∷ mark.Answered one (call.KeySet (pos 300) (pos 7)) (Int (pos 1)) ∷ mark.Destructor one 300 (pos 7) ∷ mark.Ended one (pos 0) ∷ []

-- ---- mutexes and locks

-- a call is answered 1
abbrev pub done_by : Tid → Call → Mark
done_by t c = mark.Answered t c (Int (pos 1))

-- thread 1 initialises mutex 0, or lock 0
abbrev pub with_mutex : List Mark → List Mark
with_mutex rest = done_by one (call.MutexInit (pos 0)) ∷ rest

abbrev pub with_lock : List Mark → List Mark
with_lock rest = done_by one (call.RwInit (pos 0)) ∷ rest

-- t takes a mutex; t enters lock 0 to write, or to read
abbrev pub takes_mutex : Tid → ℤ → Mark
takes_mutex t m = done_by t (call.MutexAcquire m (pos 0) (pos 0))

abbrev pub enters_it : Tid → Bool → Mark
enters_it t write = done_by t (call.RwAcquire (pos 0) write (pos 0) (pos 0))

abbrev pub two_owners : List Mark
two_owners = with_mutex (takes_mutex one (pos 0) ∷ takes_mutex two (pos 0) ∷ [])

abbrev pub a_release_without_a_level : List Mark
a_release_without_a_level = with_mutex (done_by one (call.MutexRelease (pos 0)) ∷ [])

abbrev pub a_writer_beside_a_reader : List Mark
a_writer_beside_a_reader = with_lock (enters_it one false ∷ enters_it two true ∷ [])

abbrev pub a_reader_beside_a_writer : List Mark
a_reader_beside_a_writer = with_lock (enters_it one true ∷ enters_it two false ∷ [])

-- thread 1 reads, and thread 2 gives the lock back
abbrev pub a_lock_left_by_another : List Mark
a_lock_left_by_another = with_lock (enters_it one false ∷ done_by two (call.RwRelease (pos 0)) ∷ [])

-- thread 1 gives up a mutex of which it has two levels, and then releases it
abbrev pub a_release_after_all_was_given_up : List Mark
a_release_after_all_was_given_up = with_mutex (takes_mutex one (pos 0) ∷ takes_mutex one (pos 0) ∷ mark.GaveMutex one 0 ∷ done_by one (call.MutexRelease (pos 0)) ∷ [])

abbrev pub a_mutex_at_an_end : List Mark
a_mutex_at_an_end = with_mutex (takes_mutex one (pos 0) ∷ mark.Ended one (pos 0) ∷ [])

abbrev pub a_lock_at_an_end : List Mark
a_lock_at_an_end = with_lock (enters_it one false ∷ mark.Ended one (pos 0) ∷ [])

-- thread 2 has a mutex as thread 1 kills the run, and still as it ends
abbrev pub a_kill_keeps_levels : List Mark
a_kill_keeps_levels = with_mutex (takes_mutex two (pos 0) ∷ done_by one call.Kill ∷ mark.Ended two (pos 0) ∷ [])

-- a release that is not answered 1 gives nothing back
abbrev pub a_release_answered_seven : List Mark
a_release_answered_seven = with_mutex (takes_mutex one (pos 0) ∷ mark.Answered one (call.MutexRelease (pos 0)) (Int (pos 7)) ∷ mark.Ended one (pos 0) ∷ [])

-- a cond_await with mutex 0
abbrev pub awaits_it : Call
awaits_it = call.CondAwait (pos 0) (pos 0) (pos 0)

abbrev pub an_await_without_a_level : List Mark
an_await_without_a_level = with_mutex (mark.Waits one awaits_it ∷ [])

-- thread 2 has the mutex that thread 1 takes back
abbrev pub a_mutex_taken_back_beside_an_owner : List Mark
a_mutex_taken_back_beside_an_owner = with_mutex (takes_mutex two (pos 0) ∷ mark.Took one 0 ∷ [])

-- thread 2 has the mutex as the cond_await of thread 1, which awaits, is answered
abbrev pub an_await_answered_beside_an_owner : List Mark
an_await_answered_beside_an_owner = with_mutex (takes_mutex one (pos 0) ∷ mark.Waits one awaits_it ∷ takes_mutex two (pos 0) ∷ done_by one awaits_it ∷ [])

-- thread 1 has its mutex again before its cond_await is answered, and so one level alone
abbrev pub a_mutex_taken_back_once : List Mark
a_mutex_taken_back_once =
    with_mutex (takes_mutex one (pos 0) ∷ mark.Waits one awaits_it ∷ mark.Took one 0 ∷ done_by one awaits_it ∷ done_by one (call.MutexRelease (pos 0)) ∷ done_by one (call.MutexRelease (pos 0)) ∷ [])

abbrev pub a_mutex_that_was_not_initialised : List Mark
a_mutex_that_was_not_initialised = takes_mutex one (pos 0) ∷ []

abbrev pub a_mutex_is_initialised_twice : List Mark
a_mutex_is_initialised_twice = with_mutex (with_mutex [])

abbrev pub a_mutex_out_of_range : List Mark
a_mutex_out_of_range = done_by one (call.MutexInit (pos 70)) ∷ takes_mutex one (pos 70) ∷ []

-- an acquire that is not answered 1 takes nothing
abbrev pub an_acquire_answered_two : List Mark
an_acquire_answered_two = with_mutex (takes_mutex one (pos 0) ∷ mark.Answered two (call.MutexAcquire (pos 0) (pos 0) (pos 0)) (Int (pos 2)) ∷ [])

abbrev pub a_reader_reads_again : List Mark
a_reader_reads_again = with_lock (enters_it one false ∷ enters_it one false ∷ [])

-- mutex -1 and mutex -2 are two
abbrev pub two_numbers_below_zero : List Mark
two_numbers_below_zero = takes_mutex one (negsuc 0) ∷ takes_mutex two (negsuc 1) ∷ []

-- a cond_await of mutex -1 gives a level of mutex -1 back
abbrev pub an_await_of_a_number_below_zero : List Mark
an_await_of_a_number_below_zero = takes_mutex one (negsuc 0) ∷ mark.Waits one (call.CondAwait (pos 0) (negsuc 0) (pos 0)) ∷ []

-- ---- ports

-- thread 1 makes a port, puts a message there with a port for the reply, 0 for none, or gets one, or finds none
abbrev pub port_made : ℤ → Mark
port_made p = mark.Answered one (call.PortCreate None) (Int p)

abbrev pub put_at : (p : ℤ) (v : ℕ) (r : ℤ) → Mark
put_at p v r = done_by one (call.PortPut p (pos v) r)

abbrev pub got_at : (p : ℤ) (n v : ℕ) → Mark
got_at p n v = mark.Answered one (call.PortGet p) (Msg (record { 0 = n }) (pos v))

abbrev pub none_at : ℤ → Mark
none_at p = mark.Answered one (call.PortGet p) (Fail ENOENT)

abbrev pub pending_at : (p : ℤ) (n : ℕ) → Mark
pending_at p n = mark.Answered one (call.PortPending p) (Int (pos n))

-- messages 1 and 2 wait at port 1, with the values 7 and 8
abbrev pub two_waiting : List Mark
two_waiting = port_made (pos 1) ∷ put_at (pos 1) 7 (pos 0) ∷ put_at (pos 1) 8 (pos 0) ∷ []

-- the only message of port 1 was got
abbrev pub one_got : List Mark
one_got = port_made (pos 1) ∷ put_at (pos 1) 7 (pos 0) ∷ got_at (pos 1) 1 7 ∷ []

-- a message with port 2 for its reply waited at port 1, which is destroyed
abbrev pub one_sent_back : List Mark
one_sent_back = port_made (pos 1) ∷ port_made (pos 2) ∷ put_at (pos 1) 7 (pos 2) ∷ done_by one (call.PortDestroy (pos 1)) ∷ []

-- a request at port 1, and its reply at port 2
abbrev pub a_request_and_its_reply : List Mark
a_request_and_its_reply =
    port_made (pos 1) ∷ port_made (pos 2) ∷ put_at (pos 1) 7 (pos 2) ∷ got_at (pos 1) 1 7 ∷ done_by one (call.Reply (pos 1) (pos 9)) ∷ pending_at (pos 2) 1 ∷ got_at (pos 2) 1 9 ∷ none_at (pos 2) ∷ []

-- a message with no port for its reply waits at port 1, which is destroyed: it does not go to port 0
abbrev pub none_sent_to_port_0 : List Mark
none_sent_to_port_0 = port_made (pos 0) ∷ port_made (pos 1) ∷ put_at (pos 1) 7 (pos 0) ∷ done_by one (call.PortDestroy (pos 1)) ∷ none_at (pos 0) ∷ []

-- port -1 and port -2 are two
abbrev pub two_ports_below_zero : List Mark
two_ports_below_zero = port_made (negsuc 0) ∷ port_made (negsuc 1) ∷ put_at (negsuc 0) 7 (pos 0) ∷ none_at (negsuc 1) ∷ got_at (negsuc 0) 1 7 ∷ []

-- nothing goes to a port that is not there, neither before it is made nor after it is destroyed; and what was not put has no number
abbrev pub nothing_without_a_port : List Mark
nothing_without_a_port =
    put_at (pos 1) 7 (pos 0) ∷ port_made (pos 1) ∷ done_by one (call.PortDestroy (pos 1)) ∷ put_at (pos 1) 7 (pos 0) ∷ none_at (pos 1) ∷ port_made (pos 1) ∷ put_at (pos 1) 8 (pos 0) ∷ got_at (pos 1) 1 8 ∷ []

-- a message that was got goes back by one reply alone, and one that comes back from a port that is destroyed has no port for a reply any
-- more
abbrev pub sent_back_once : List Mark
sent_back_once =
    port_made (pos 1) ∷ port_made (pos 2) ∷ put_at (pos 1) 7 (pos 2) ∷ put_at (pos 1) 8 (pos 2) ∷ got_at (pos 1) 1 7 ∷ done_by one (call.Reply (pos 1) (pos 9)) ∷ done_by one (call.Reply (pos 1) (pos 6)) ∷ done_by one (call.PortDestroy (pos 1)) ∷ got_at (pos 2) 1 9 ∷ got_at (pos 2) 2 8 ∷ done_by one (call.Reply (pos 2) (pos 4)) ∷ none_at (pos 2) ∷ []

-- a put that is not answered 1 puts nothing
abbrev pub a_put_answered_seven : List Mark
a_put_answered_seven = port_made (pos 1) ∷ mark.Answered one (call.PortPut (pos 1) (pos 7) (pos 0)) (Int (pos 7)) ∷ none_at (pos 1) ∷ []

-- a kill of thread 2 takes no message away
abbrev pub one_waiting_after_a_kill : List Mark
one_waiting_after_a_kill = port_made (pos 1) ∷ put_at (pos 1) 7 (pos 0) ∷ done_by two call.Kill ∷ []

-- ---- waits

-- thread 1 is dispatched, has waited so often, and may wait so often
abbrev pub dispatched_after : (waited allowed : ℕ) → Mark
dispatched_after waited allowed = mark.Dispatch 1 0 one (pos 0) waited allowed

abbrev pub all_dispatched_in_time : List Mark
all_dispatched_in_time = dispatched_after 0 6 ∷ dispatched_after 2 2 ∷ []

abbrev pub one_dispatched_late : List Mark
one_dispatched_late = dispatched_after 2 2 ∷ dispatched_after 3 2 ∷ []
