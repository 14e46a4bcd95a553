-- The changes of which calls and the parts of a run are made: one thing of the control each.
use Rattle.std.specs.Prelude.{ℕ, ◌+◌, ℤ, pos, Bool, true, false, List, [], ◌∷◌, map, Option, Some, None, option_map, if◌then◌else◌}
use Rattle.pth_base.specs.Program.{Functions}
use Rattle.pth_base.specs.Table.{put}
use Rattle.pth_base.specs.declared.answer.Answer.{Answer}
use Rattle.pth_base.specs.declared.answer.Answer.TheVariants as answer
use Rattle.pth_base.specs.declared.thread.ThreadState.{ThreadState}
use Rattle.pth_base.specs.declared.thread.ThreadState.TheVariants as state
use Rattle.pth_queue.specs.declared.ranked.Ranked.{Ranked}
use Rattle.pth_queue.specs.declared.queue.Queue.{Queue}
use Rattle.pth_queue.specs.declared.queue.Queue.TheVariants as queue
use Rattle.pth_threads.specs.declared.entry.Entry.{Entry}
use Rattle.pth_threads.specs.declared.entry.NewThread.{NewThread}
use Rattle.pth_threads.specs.declared.entry.Change.{Change}
use Rattle.pth_threads.specs.Threads.{changed, made_of}
use Rattle.pth_model.specs.declared.blocked.Blocked.{Blocked}
use Rattle.pth_model.specs.declared.progress.Progress.{Progress}
use Rattle.pth_model.specs.Standing.{is_queue, left_by, raises_of}
use Rattle.pth_model.specs.Allowance.{Point}
use Rattle.pth_threads.specs.declared.attribute.Attribute.{Attribute}
use Rattle.pth_ring.specs.Rings.{Events}
use Rattle.pth_cond.specs.Conditions.{ConditionTable}
use Rattle.pth_cond.specs.Barriers.{BarrierTable}
use Rattle.pth_kernel.specs.Kernel.{Kernel, advanced}
use Rattle.pth_model.specs.State.{Control, Threads, Attributes, Scheduler}
use Rattle.pth_model.specs.Transition as transition

-- whose ranks these are
abbrev pub holders : List Ranked → List ℕ
holders rows = map (λ r. r.holder) rows

abbrev pub is_empty : {A : Type 0} → List A → Bool
is_empty [] = true
is_empty (x ∷ xs) = false

-- the queue of a state: a running thread stands in none
abbrev pub queue_for : ThreadState → Option Queue
queue_for state.New = Some queue.New
queue_for state.Ready = Some queue.Ready
queue_for state.Running = None
queue_for state.Waiting = Some queue.Waiting
queue_for state.Dead = Some queue.Dead

-- what stands for the record of a thread that is not in the system
abbrev pub nobody : Entry
nobody = record { tid = record { 0 = 0 }; prio = pos 0; name = []; joinable = false; cancel = 1; request = false; state = state.Dead; suspended = false; dispatches = 0; value = pos 0 }

abbrev pub or_nobody : Option Entry → Entry
or_nobody None = nobody
or_nobody (Some e) = e

-- the answer that is not yet handed over, and the call that blocks
abbrev pub owed_in : {S : Type 0} → Option (Progress S) → Answer
owed_in None = answer.None
owed_in (Some p) = p.owed

abbrev pub blocked_in : {S : Type 0} → Option (Progress S) → Option Blocked
blocked_in None = None
blocked_in (Some p) = p.blocked

abbrev pub owing : {S : Type 0} → Answer → Progress S → Progress S
owing a p = record p { owed = a }

abbrev pub blocking : {S : Type 0} → Option Blocked → Progress S → Progress S
blocking b p = record p { blocked = b }

module _ {P S H : Type 0} where
  -- what a control shows of a thread
  abbrev pub entry_of : Control P S H → ℕ → Option Entry
  entry_of k t = k.threads.known t

  abbrev pub prio_of : Control P S H → ℕ → ℤ
  prio_of k t = (or_nobody (k.threads.known t)).prio

  abbrev pub blocked_of : Control P S H → ℕ → Option Blocked
  blocked_of k t = blocked_in (k.threads.progress t)

  abbrev pub with_threads : (Threads S → Threads S) → transition.Change P S H
  with_threads g k = record k { threads = g k.threads }

  abbrev pub with_attributes : (Attributes → Attributes) → transition.Change P S H
  with_attributes g k = record k { attributes = g k.attributes }

  abbrev pub with_events : (Events → Events) → transition.Change P S H
  with_events g k = record k { events = g k.events }

  abbrev pub with_conditions : (ConditionTable → ConditionTable) → transition.Change P S H
  with_conditions g k = record k { conditions = g k.conditions }

  abbrev pub with_barriers : (BarrierTable → BarrierTable) → transition.Change P S H
  with_barriers g k = record k { barriers = g k.barriers }

  abbrev pub with_kernel : (Kernel → Kernel) → transition.Change P S H
  with_kernel g k = record k { kernel = g k.kernel }

  abbrev pub with_scheduler : (Scheduler → Scheduler) → transition.Change P S H
  with_scheduler g k = record k { scheduler = g k.scheduler }

  -- the program's shared value is another
  abbrev pub shares : H → transition.Change P S H
  shares h k = record k { shared = h }

  -- a once control was used (pth_once)
  abbrev pub uses : ℕ → transition.Change P S H
  uses o k = record k { used = put k.used o true }

  -- one field of t's record is set
  unfoldable pub sets : ℕ → Change → transition.Change P S H
  sets t c = with_threads (λ x. record x { known = put x.known t (option_map (changed c) (x.known t)) })

  -- t goes on otherwise
  unfoldable pub goes_on : ℕ → (Progress S → Progress S) → transition.Change P S H
  goes_on t g = with_threads (λ x. record x { progress = put x.progress t (option_map g (x.progress t)) })

  -- an answer is handed over to t in its next step
  abbrev pub owes : ℕ → Answer → transition.Change P S H
  owes t a = goes_on t (owing a)

  -- a call blocks t, or none does any longer
  abbrev pub is_blocked_by : ℕ → Option Blocked → transition.Change P S H
  is_blocked_by t b = goes_on t (blocking b)

  -- t enters a queue at a rank, with the next number of an entry
  unfoldable pub enters : ℕ → Queue → ℤ → Bool → transition.Change P S H
  enters t q rank top = with_threads (λ x. record x {
    standing = λ p. if is_queue p q
        then record { tid = t; rank = rank; since = raises_of x.raises q; entry = x.entries; top = top } ∷ x.standing p
        else x.standing p;
    entries = x.entries + 1;
  })

  -- t leaves its queue, if it stands in one
  unfoldable pub leaves_queue : ℕ → transition.Change P S H
  leaves_queue t = with_threads (λ x. record x { standing = λ q. left_by t (x.standing q) })

  -- the ready queue is raised: every rank in it is one more
  unfoldable pub raises_ready : transition.Change P S H
  raises_ready = with_threads (λ x. record x { raises = x.raises + 1 })

  -- a thread that is new, with its body's first state
  unfoldable pub makes : (P → Functions S H) → ℕ → ℤ → NewThread → transition.Change P S H
  makes f body arg of k = with_threads (λ x. record x {
    made = x.made + 1;
    known = put x.known (x.made + 1) (Some (made_of of (x.made + 1)));
    progress = put x.progress (x.made + 1) (Some (record { state = (f k.program).start body arg; owed = answer.None; blocked = None }));
  }) k

  -- the dispatches so far are these
  unfoldable pub trails : List Point → transition.Change P S H
  trails ps = with_threads (λ x. record x { trail = ps })

  -- t is in the system no longer, once it stands in no queue
  unfoldable pub forgets : ℕ → transition.Change P S H
  forgets t = with_threads (λ x. record x { known = put x.known t None; progress = put x.progress t None })

  -- t leaves its queue, and the system
  abbrev pub removes : ℕ → transition.Change P S H
  removes t = transition.◌and◌ (leaves_queue t) (forgets t)

  -- one more attribute object, with the next number
  abbrev pub adds_object : Attribute → transition.Change P S H
  adds_object x = with_attributes (λ y. record { made = y.made + 1; objects = put y.objects (y.made + 1) (Some x) })

  -- another object stands under a number, or none
  abbrev pub puts_object : ℕ → Option Attribute → transition.Change P S H
  puts_object n o = with_attributes (λ y. record y { objects = put y.objects n o })

  abbrev pub runs_now : Option ℕ → transition.Change P S H
  runs_now t = with_scheduler (λ x. record x { running = t })

  abbrev pub prefers : Option ℕ → transition.Change P S H
  prefers t = with_scheduler (λ x. record x { preferred = t })

  abbrev pub favours_new : Bool → transition.Change P S H
  favours_new b = with_scheduler (λ x. record x { favour_new = b })

  -- time moves to a moment
  abbrev pub moves_to : ℕ → transition.Change P S H
  moves_to m = with_kernel (advanced m)
