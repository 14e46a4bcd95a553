-- What the judge of endings keeps of a list of marks.
use Rattle.std.specs.Prelude.{◌≡◌, ℕ, ◌+◌, ◌==◌, ◌&&◌, ℤ, pos, negsuc, zero, suc, nat_lt, Bool, true, false, not, if◌then◌else◌, List, [], ◌∷◌, ◌++◌, Option, Some, None, unwrap_or}
use Rattle.std.specs.declared.collections.VecDeque.{VecDeque}
use Rattle.std.specs.Global.{Global}
use Rattle.std.specs.Ordering.{nat_cmp, int_cmp, ordering_then}
use Rattle.std.specs.declared.cmp.Ordering.{Ordering}
use Rattle.std.specs.BTreeMap.{BTreeMap, get, IsOrdered}
use Rattle.std.specs.BTreeSet.{contains}
use Rattle.std.specs.List.{list_any}
use Rattle.pth_base.specs.declared.ids.HandlerId.{HandlerId}
use Rattle.pth_numbered.specs.Operands.{is_zero}
use Rattle.pth_store.specs.Cleanups.{PushedHandler}
use Rattle.pth_base.specs.declared.answer.Answer.TheVariants.{Int}
use Rattle.pth_base.specs.declared.call.Call.TheVariants as call
use Rattle.pth_base.specs.declared.mark.Mark.{Mark}
use Rattle.pth_base.specs.declared.mark.Mark.TheVariants as mark
use Rattle.pth_laws.specs.Marks.{is_same, thread_of, is_end_of, is_cancellation_of, block_at_end, before_block}
use Rattle.pth_laws.specs.Orderly.{is_later, pending_handlers, key_at, value_of, handlers_in, AreHandlersFirst, RanLast, Stage, first_stage, IsNext}
use Rattle.pth_audit.specs.declared.values.Due.{Due}
use Rattle.pth_audit.specs.declared.values.Values.{Values}
use Rattle.pth_audit.specs.declared.block.Block.{Block}
use Rattle.pth_audit.specs.declared.block.Ran.{Ran}
use Rattle.pth_audit.specs.declared.endings.Endings.{Endings}

-- ---- handlers

-- a thread's handlers, the last pushed first
abbrev pub Stack : Type 0
Stack = VecDeque PushedHandler Global

-- the handlers of a stack, none where there is no stack
abbrev pub handlers_of : Option Stack → List PushedHandler
handlers_of None = []
handlers_of (Some stack) = stack.items

-- a thread's pending handlers
abbrev pub pending_in : BTreeMap ℕ Stack → ℕ → List PushedHandler
pending_in stacks t = handlers_of (get nat_cmp stacks t)

-- ---- keys and values

-- the order of keys with threads
abbrev pub pair_cmp : ℤ × ℕ → ℤ × ℕ → Ordering
pair_cmp x y = ordering_then (int_cmp x.0 y.0) (nat_cmp x.1 y.1)

-- a thread's value under a key
abbrev pub value_in : BTreeMap (ℤ × ℕ) ℤ → (t : ℕ) (key : ℤ) → ℤ
value_in values t key = unwrap_or (get pair_cmp values (key, t)) (pos 0)

-- ---- destructors

-- what a key owes a thread: its value, if the key comes after the last one and has a destructor, and the value is not 0
abbrev pub owed_by : Option ℤ → (key : ℤ) → Option HandlerId → (value : ℤ) → Option ℤ
owed_by last key None v = None
owed_by last key (Some h) v = if is_later last key && not (is_zero v) then Some v else None

abbrev pub key_with : ℤ → Option ℤ → Option (ℤ × ℤ) → Option (ℤ × ℤ)
key_with key (Some v) rest = Some (key, v)
key_with key None rest = rest

-- the first key of these that owes a destructor, with the value
abbrev pub first_owed : (value : ℤ → ℤ) → Option ℤ → List (ℤ × Option HandlerId) → Option (ℤ × ℤ)
first_owed value last [] = None
first_owed value last (e ∷ es) = key_with e.0 (owed_by last e.0 e.1 (value e.0)) (first_owed value last es)

abbrev pub due_in : ℕ → Option (ℤ × ℤ) → Option Due
due_in rounds None = None
due_in rounds (Some e) = Some (record { key = e.0; value = e.1; rounds = rounds })

abbrev pub due_or : Option Due → Option Due → Option Due
due_or (Some d) other = Some d
due_or None other = other

-- the destructor that is next after so many rounds and this last key, by the first one of a round after a key
abbrev pub next_of : (Option ℤ → Option (ℤ × ℤ)) → ℕ → Option ℤ → Option Due
next_of first rounds last = due_or (due_in rounds (first last)) (if nat_lt rounds 4 then due_in (rounds + 1) (first None) else None)

-- the destructor that is next for a thread at a stage
abbrev pub next_in : Values → ℕ → Stage → Option Due
next_in x t s = next_of (λ last. first_owed (value_in x.values t) last x.keys.entries) s.rounds s.last

-- ---- the open block

-- what a thread ran in its block
pub record Run : Type 0 where
  -- the handlers, the first of them first
  pub handlers : List PushedHandler
  -- a destructor ran
  pub begun : Bool
  -- no handler came after a destructor
  pub handlers_first : Bool
  -- how far it is in its destructors
  pub stage : Stage
  -- each destructor was the next one
  pub in_turn : Bool

abbrev pub ran_nothing : Run
ran_nothing = record { handlers = []; begun = false; handlers_first = true; stage = first_stage; in_turn = true }

abbrev pub run_of : Ran → Run
run_of x = record { handlers = x.handlers.items; begun = x.begun; handlers_first = x.handlers_first; stage = record { rounds = x.rounds; last = x.last }; in_turn = x.in_turn }

-- what a thread ran in the open block, nothing if it has none
abbrev pub run_by : Option ℕ → Run → ℕ → Run
run_by None x t = ran_nothing
run_by (Some u) x t = if u == t then x else ran_nothing

abbrev pub run_in : Block → ℕ → Run
run_in b t = run_by b.thread (run_of b.ran) t

-- a handler runs
abbrev pub with_handler : PushedHandler → Run → Run
with_handler c x = record x { handlers = x.handlers ++ c ∷ []; handlers_first = x.handlers_first && not x.begun }

-- a destructor runs, with a key and a value; and the one that is next
abbrev pub with_destructor : Option Due → ℤ → ℤ → Run → Run
with_destructor None key v x = record x { begun = true; in_turn = false }
with_destructor (Some d) key v x = record x { begun = true; stage = record { rounds = d.rounds; last = Some d.key }; in_turn = x.in_turn && (is_same d.key key && is_same d.value v) }

-- what t ran in its block after a mark, if next says which destructor is next
abbrev pub run_after : ℕ → (Stage → Option Due) → Run → Mark → Run
run_after t next x (mark.Handler u h v) = if u.0 == t then with_handler (h, v) x else ran_nothing
run_after t next x (mark.Destructor u key v) = if u.0 == t then with_destructor (next x.stage) (pos key) v x else ran_nothing
run_after t next x (mark.Acted u a answer) = if u.0 == t then x else ran_nothing
run_after t next x (mark.GaveMutex u m) = if u.0 == t then x else ran_nothing
run_after t next x (mark.GaveLock u l) = if u.0 == t then x else ran_nothing
run_after t next x (mark.Withdrew u n) = if u.0 == t then x else ran_nothing
run_after t next x m = ran_nothing

-- a destructor runs in these marks
unfoldable pub has_destructor : List Mark → Bool
has_destructor [] = false
has_destructor (mark.Destructor t key v ∷ ms) = true
has_destructor (m ∷ ms) = has_destructor ms

-- a mark leads from a stage to another: a destructor if it is the next one, and each other mark leaves the stage
abbrev pub IsStep : ℕ → List Mark → Stage → Mark → Stage → Type 0
IsStep t before x (mark.Destructor u key v) y = (rounds : ℕ) × IsNext t before x (pos key) v rounds × (y ≡ record { rounds = rounds; last = Some (pos key) })
IsStep t before x m y = y ≡ x

-- marks lead from a stage to another, each destructor being the next one
unfoldable pub IsWay : ℕ → List Mark → Stage → List Mark → Stage → Type 0
IsWay t before x [] y = y ≡ x
IsWay t before x (m ∷ ms) y = (z : Stage) × IsStep t before x m z × IsWay t (before ++ m ∷ []) z ms y

-- x is what t ran in its block, with the marks before the block
pub record RunFits (t : ℕ) (before block : List Mark) (x : Run) : Type 0 where
  pub handlers : handlers_in block ≡ x.handlers
  pub begun : has_destructor block ≡ x.begun
  pub first : x.handlers_first ≡ true → AreHandlersFirst block
  pub not_first : x.handlers_first ≡ false → AreHandlersFirst block → ⊥
  pub in_turn : x.in_turn ≡ true → IsWay t before first_stage block x.stage
  pub not_in_turn : x.in_turn ≡ false → (y : Stage) → IsWay t before first_stage block y → ⊥

-- ---- all of it

-- the judge has what these marks say
pub record FollowsEndings (e : Endings) (marks : List Mark) : Type 0 where
  pub ended : (t : ℕ) → contains nat_cmp e.threads.ended t ≡ list_any (is_end_of t) marks
  pub canceled : (t : ℕ) → contains nat_cmp e.threads.canceled t ≡ list_any (is_cancellation_of t) marks
  pub pending : (t : ℕ) → pending_in e.handlers.stacks t ≡ pending_handlers t marks
  pub keys : (key : ℤ) → get int_cmp e.values.keys key ≡ key_at key marks
  pub ordered : IsOrdered int_cmp e.values.keys
  pub values : (t : ℕ) (key : ℤ) → value_in e.values.values t key ≡ value_of t key marks
  pub block : (t : ℕ) → RunFits t (before_block t marks) (block_at_end t marks) (run_in e.block t)

-- ---- what is asked of a mark, by what the judge has

-- by a test of threads: the thread of a mark passes it
abbrev pub is_so_of : (ℕ → Bool) → Option ℕ → Bool
is_so_of test None = false
is_so_of test (Some t) = test t

-- and so does the thread of a call that a mark is of
abbrev pub is_so_of_call : (ℕ → Bool) → Mark → Bool
is_so_of_call test (mark.Answered u c a) = test u.0
is_so_of_call test (mark.Waits u c) = test u.0
is_so_of_call test (mark.Noted u v) = test u.0
is_so_of_call test m = false

module _ (e : Endings) where
  -- a pop that runs a handler ran the last that is pending
  abbrev pub PopsRightly : Mark → Type 0
  PopsRightly (mark.Answered t (call.CleanupPop v) (Int (pos (suc zero)))) = is_zero v ≡ false → RanLast (run_in e.block t.0).handlers (pending_in e.handlers.stacks t.0)
  PopsRightly m = Unit {0}

  -- a thread may end with a value
  pub record MayEnd (t : ℕ) (v : ℤ) : Type 0 where
    pub minus_one : contains nat_cmp e.threads.canceled t ≡ true → v ≡ negsuc 0
    pub all_pending : (run_in e.block t).handlers ≡ pending_in e.handlers.stacks t
    pub handlers_first : (run_in e.block t).handlers_first ≡ true
    pub in_turn : (run_in e.block t).in_turn ≡ true
    pub none_next : next_in e.values t (run_in e.block t).stage ≡ None

  abbrev pub EndsRightly : Mark → Type 0
  EndsRightly (mark.Ended t v) = MayEnd t.0 v
  EndsRightly m = Unit {0}

  -- all that is asked of a mark
  pub record AsksAll (m : Mark) : Type 0 where
    pub living : is_so_of (contains nat_cmp e.threads.ended) (thread_of m) ≡ false
    pub uncanceled : is_so_of_call (contains nat_cmp e.threads.canceled) m ≡ false
    pub pops : PopsRightly m
    pub ends : EndsRightly m
