-- The parts of a state, by the words of pth(3).
--
-- Three kinds of words are defined here. A word that takes the state s and operands is a test or a value of s, as `is_mutex s m` and
-- `mutex_of s m`. A verb without s is a change that stands before `then`, as `claims_ring t e`. `X_become g` is the change after which
-- the part X is g of what it was, as `mutexes_become g`.
use Rattle.std.specs.Prelude.{ℕ, ◌==◌, nat_le, ℤ, Bool, false, not, ◌&&◌, ◌||◌, List, [], Option, is_some}
use Rattle.pth_numbered.specs.Numbered.{number_known}
use Rattle.pth_numbered.specs.Operands.{number, ◌is◌, is_zero}
use Rattle.pth_threads.specs.Attributes.{is_full}
use Rattle.pth_threads.specs.declared.entry.Entry.{Entry}
use Rattle.pth_ring.specs.Rings.{Events, all_unclaimed}
use Rattle.pth_store.specs.Cleanups.{Stacks}
use Rattle.pth_store.specs.Keys.{Tables}
use Rattle.pth_lock.specs.Objects.{object_named}
use Rattle.pth_lock.specs.Mutexes.{Mutex, MutexTable, mutex_taken}
use Rattle.pth_lock.specs.RwLocks.{LockTables}
use Rattle.pth_cond.specs.Barriers.{BarrierTable, all_withdrawn}
use Rattle.pth_cond.specs.Conditions.{ConditionTable, all_seats_left}
use Rattle.pth_port.specs.Mail.{Message, Mail, PortNames, port_limit, message_limit, is_live, is_port, messages_at, messages, port_named, reply_port}
use Rattle.pth_kernel.specs.Kernel.{Kernel}
use Rattle.pth_model.specs.Changes as change
use Rattle.pth_model.specs.Kill.{of_only, only_at}
use Rattle.pth_model.specs.Store as resources
use Rattle.pth_model.specs.RingWaits.{claims, stops_waiting, extra_ring, is_no_ring, is_claimed_ring, has_settled}
use Rattle.pth_model.specs.State.{State, Control, present}
use Rattle.pth_model.specs.ThreadControl.{thread, is_known}
use Rattle.pth_model.specs.Transition.{controlled}

module _ {P S H : Type 0} where
  -- ---- threads (pth_t)

  -- the record of the thread that an operand names; a dead thread without attributes, if it is not in the system
  abbrev pub thread_of : State P S H → ℤ → Entry
  thread_of s n = change.or_nobody (thread s.control n)

  -- the record of a thread by its number
  abbrev pub entry_of : State P S H → ℕ → Entry
  entry_of s t = change.or_nobody (s.control.threads.known t)

  abbrev pub control_becomes : (Control P S H → Control P S H) → State P S H → State P S H
  control_becomes g = controlled g

  -- t would join itself, or joins any thread (0) and there is no other
  abbrev pub has_none_to_join : State P S H → ℕ → ℤ → Bool
  has_none_to_join s t n = n is t || (is_zero n && (present s.control == 1))

  -- the thread to be joined is not in the system
  abbrev pub joins_unknown : State P S H → ℤ → Bool
  joins_unknown s n = not (is_zero n) && not (is_known s.control n)

  -- the thread to be joined is detached (PTH_ATTR_JOINABLE is FALSE)
  abbrev pub joins_detached : State P S H → ℤ → Bool
  joins_detached s n = not (is_zero n) && not (thread_of s n).joinable

  -- the wait of t is over: no call blocks t, and the claim on the event ring of its call is given back, with the seats of its events
  abbrev pub unblocks : ℕ → State P S H → State P S H
  unblocks t = controlled (stops_waiting t)

  -- all threads but t are gone from the system, with their mutexes and locks: no ring is claimed, and no thread waits at a condition or a
  -- barrier
  abbrev pub leaves_only : ℕ → State P S H → State P S H
  leaves_only t s =
      let k = s.control in
      record {
        resources = of_only t s.resources;
        control = record k {
          threads = record k.threads {
            known = only_at t k.threads.known;
            progress = only_at t k.threads.progress;
            standing = λ q. [];
          };
          events = all_unclaimed k.events;
          conditions = all_seats_left k.conditions;
          barriers = all_withdrawn k.barriers;
        };
      }

  -- ---- events and rings (pth_event_t)

  abbrev pub events_become : (Events → Events) → State P S H → State P S H
  events_become g = controlled (change.with_events g)

  -- the extra event e of a call is neither NULL (0) nor an event
  abbrev pub is_no_ring_of : State P S H → ℤ → Bool
  is_no_ring_of s e = is_no_ring s (extra_ring e)

  -- a thread waits for the event ring of e already
  abbrev pub ring_is_in_use : State P S H → ℤ → Bool
  ring_is_in_use s e = is_claimed_ring s (extra_ring e)

  -- an event of the ring of e has occurred or failed
  abbrev pub has_event_settled : State P S H → ℤ → Bool
  has_event_settled s e = has_settled s.control.events (extra_ring e)

  -- t waits for the event ring of e too, unless e is NULL (0): all events of the ring become pending
  abbrev pub claims_ring : ℕ → ℤ → State P S H → State P S H
  claims_ring t e = controlled (claims t (extra_ring e))

  -- ---- attribute objects (pth_attr_t)

  -- there are as many attribute objects as there may be
  abbrev pub is_full_of_attributes : State P S H → Bool
  is_full_of_attributes s = is_full s.control.attributes.objects s.control.attributes.made

  -- ---- keys (pth_key_t)

  abbrev pub keys_of : State P S H → Tables
  keys_of s = s.resources.store.keys

  abbrev pub keys_become : (Tables → Tables) → State P S H → State P S H
  keys_become g s = record s { resources = resources.keys_become s.resources g }

  -- ---- message ports (pth_msgport_t)

  abbrev pub ports_of : State P S H → PortNames
  ports_of s = s.resources.store.ports

  abbrev pub mail_of : State P S H → Mail
  mail_of s = s.resources.store.mail

  -- the operand names a message port
  abbrev pub is_message_port : State P S H → ℤ → Bool
  is_message_port s p = is_port (mail_of s) p

  -- the message port with this name
  abbrev pub port_with_name : State P S H → List ℕ → Option ℕ
  port_with_name s name = port_named name (ports_of s).names (ports_of s).made

  -- the pending messages on a message port, the oldest first
  abbrev pub pending_on : State P S H → ℤ → List Message
  pending_on s p = messages_at (mail_of s) p

  -- the message with this number that was got, has a reply port, and was not replied
  abbrev pub kept_message : State P S H → ℤ → Option Message
  kept_message s m = (mail_of s).kept (number m)

  -- it is there, and so is its reply port
  abbrev pub can_be_replied : State P S H → ℤ → Bool
  can_be_replied s m = is_live (mail_of s) (reply_port (kept_message s m))

  -- there are as many message ports as there may be
  abbrev pub is_full_of_ports : State P S H → Bool
  is_full_of_ports s = nat_le port_limit (number_known (mail_of s).at (ports_of s).made)

  -- there are as many messages as there may be, pending or kept
  abbrev pub is_full_of_messages : State P S H → Bool
  is_full_of_messages s = nat_le message_limit (messages (mail_of s) (ports_of s).made)

  abbrev pub mail_becomes : (Mail → Mail) → State P S H → State P S H
  mail_becomes g s = record s { resources = resources.mail_becomes s.resources g }

  -- the ports with their names, and then the messages
  abbrev pub ports_become : (PortNames → PortNames) → (Mail → Mail) → State P S H → State P S H
  ports_become g h s = record s { resources = resources.ports_become s.resources g h }

  -- ---- cleanups

  abbrev pub cleanups_of : State P S H → Stacks
  cleanups_of s = s.resources.store.cleanups

  abbrev pub cleanups_become : (Stacks → Stacks) → State P S H → State P S H
  cleanups_become g s = record s { resources = resources.cleanups_become s.resources g }

  -- ---- mutexes (pth_mutex_t)

  -- the mutex that an operand names
  abbrev pub mutex_of : State P S H → ℤ → Mutex
  mutex_of s m = s.resources.store.mutexes (object_named m)

  -- the mutex was initialised
  abbrev pub is_mutex : State P S H → ℤ → Bool
  is_mutex s m = is_some (mutex_of s m)

  abbrev pub mutexes_become : (MutexTable → MutexTable) → State P S H → State P S H
  mutexes_become g s = record s { resources = resources.mutexes_become s.resources g }

  -- ---- read-write locks (pth_rwlock_t)

  abbrev pub locks_of : State P S H → LockTables
  locks_of s = s.resources.store.rw_locks

  abbrev pub locks_become : (LockTables → LockTables) → State P S H → State P S H
  locks_become g s = record s { resources = resources.locks_become s.resources g }

  -- ---- conditions (pth_cond_t)

  -- the condition that an operand names was initialised
  abbrev pub is_condition : State P S H → ℤ → Bool
  is_condition s c = is_some (s.control.conditions (object_named c))

  abbrev pub conditions_become : (ConditionTable → ConditionTable) → State P S H → State P S H
  conditions_become g = controlled (change.with_conditions g)

  -- the flag of t is set that says whether t awaits a condition, and does not have its mutex again
  abbrev pub sets_awaiting : ℕ → Bool → State P S H → State P S H
  sets_awaiting t b s = record s { resources = resources.awaiting s.resources t b }

  -- t reacquires the mutex that it released to await a condition
  abbrev pub takes_mutex_back : ℕ → ℤ → State P S H → State P S H
  takes_mutex_back t m s = sets_awaiting t false (mutexes_become (mutex_taken t (object_named m)) s)

  -- ---- barriers (pth_barrier_t)

  abbrev pub barriers_become : (BarrierTable → BarrierTable) → State P S H → State P S H
  barriers_become g = controlled (change.with_barriers g)

  -- ---- descriptors

  abbrev pub kernel_becomes : (Kernel → Kernel) → State P S H → State P S H
  kernel_becomes g = controlled (change.with_kernel g)
