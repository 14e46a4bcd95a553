-- Orderly marks: a thread that ends has run its handlers and then its destructors (pth_exit), one that pops a handler has run it
-- (pth_cleanup_pop), one that was canceled makes no call more (pth_cancel), and one that has ended has no mark more. All is told by
-- the marks alone, of every list of marks: also of one that no run tells.
use Rattle.std.specs.Prelude.{◌≡◌, ◌⊎◌, ◌≤◌, ◌<◌, ℕ, zero, suc, ◌+◌, ◌==◌, ◌&&◌, ℤ, pos, negsuc, int_le, int_lt, Bool, true, false, if◌then◌else◌, List, [], ◌∷◌, ◌++◌, fold, Option, Some, None}
use Rattle.std.specs.List.{list_any}
use Rattle.pth_base.specs.declared.act.Act.TheVariants as act
use Rattle.pth_base.specs.declared.answer.Answer.TheVariants.{Int}
use Rattle.pth_base.specs.declared.call.Call.TheVariants as call
use Rattle.pth_base.specs.declared.ids.HandlerId.{HandlerId}
use Rattle.pth_base.specs.declared.ids.Tid.{Tid}
use Rattle.pth_base.specs.declared.mark.Mark.{Mark}
use Rattle.pth_base.specs.declared.mark.Mark.TheVariants as mark
use Rattle.pth_numbered.specs.Operands.{is_zero}
use Rattle.pth_store.specs.Cleanups.{PushedHandler, without_top}
use Rattle.pth_model.specs.Ending.{round_limit}
use Rattle.pth_model.specs.Resources.{handler, destructor_by}
use Rattle.pth_laws.specs.Marks.{is_same, thread_of, is_end_of, is_cancellation_of, is_call_of, block_at_end, before_block}

-- ---- handlers

-- t's pending handlers after a mark: a push of t that is answered 1 adds one, a pop of t that is answered 1 takes the last, and t's
-- end takes all of them
abbrev pub pending_after : ℕ → List PushedHandler → Mark → List PushedHandler
pending_after t cs (mark.Answered u (call.CleanupPush h v) (Int (pos (suc zero)))) = if u.0 == t then (handler h, v) ∷ cs else cs
pending_after t cs (mark.Answered u (call.CleanupPop v) (Int (pos (suc zero)))) = if u.0 == t then without_top cs else cs
pending_after t cs (mark.Ended u v) = if u.0 == t then [] else cs
pending_after t cs m = cs

-- the handlers that t has pending after these marks, each with its argument, the last pushed first
abbrev pub pending_handlers : ℕ → List Mark → List PushedHandler
pending_handlers t marks = fold (pending_after t) [] marks

-- the handlers that run in these marks, each with its argument, in the order in which they run
unfoldable pub handlers_in : List Mark → List PushedHandler
handlers_in [] = []
handlers_in (mark.Handler t h v ∷ ms) = (h, v) ∷ handlers_in ms
handlers_in (m ∷ ms) = handlers_in ms

-- no handler runs after a destructor
unfoldable pub AreHandlersFirst : List Mark → Type 0
AreHandlersFirst [] = Unit {0}
AreHandlersFirst (mark.Destructor t key v ∷ ms) = handlers_in ms ≡ []
AreHandlersFirst (m ∷ ms) = AreHandlersFirst ms

-- one handler ran, the last that is pending
abbrev pub RanLast : List PushedHandler → List PushedHandler → Type 0
RanLast ran [] = ⊥
RanLast ran (c ∷ cs) = ran ≡ c ∷ []

-- ---- keys and values

-- a key after a mark: a key_create that is answered with its number makes it live, with the destructor of the call or with none, and a
-- key_delete that is answered 1 ends it
abbrev pub key_after : ℤ → Option (Option HandlerId) → Mark → Option (Option HandlerId)
key_after key x (mark.Answered u (call.KeyCreate h) (Int k)) = if is_same key k then Some (destructor_by h) else x
key_after key x (mark.Answered u (call.KeyDelete k) (Int (pos (suc zero)))) = if is_same key k then None else x
key_after key x m = x

-- a key after these marks: none if it is not live, and else its destructor, if it has one
abbrev pub key_at : ℤ → List Mark → Option (Option HandlerId)
key_at key marks = fold (key_after key) None marks

-- t's value under a key after a mark: a key that is made or ended has the value 0 for all threads; t sets its value by a key_set that
-- is answered 1, and by such an act of a handler; and it is 0 once t's destructor of this key runs, and once t ends
abbrev pub value_after : (t : ℕ) (key : ℤ) → ℤ → Mark → ℤ
value_after t key v (mark.Answered u (call.KeyCreate h) (Int k)) = if is_same key k then pos 0 else v
value_after t key v (mark.Answered u (call.KeyDelete k) (Int (pos (suc zero)))) = if is_same key k then pos 0 else v
value_after t key v (mark.Answered u (call.KeySet k x) (Int (pos (suc zero)))) = if is_same key k && (u.0 == t) then x else v
value_after t key v (mark.Acted u (act.SetKey k x) (Int (pos (suc zero)))) = if is_same key k && (u.0 == t) then x else v
value_after t key v (mark.Destructor u k x) = if is_same key (pos k) && (u.0 == t) then pos 0 else v
value_after t key v (mark.Ended u x) = if u.0 == t then pos 0 else v
value_after t key v m = v

-- t's value under a key after these marks, 0 if none was set
abbrev pub value_of : (t : ℕ) (key : ℤ) → List Mark → ℤ
value_of t key marks = fold (value_after t key) (pos 0) marks

-- ---- destructors

-- how far an end is in its destructors
pub record Stage : Type 0 where
  -- how many rounds have begun
  pub rounds : ℕ
  -- the key of the last destructor of this round, none before the first
  pub last : Option ℤ

-- as the first round begins
abbrev pub first_stage : Stage
first_stage = record { rounds = 1; last = None }

-- a key comes in a round after the last one
abbrev pub is_later : Option ℤ → ℤ → Bool
is_later None key = true
is_later (Some last) key = int_lt last key

-- by the marks so far
module _ (t : ℕ) (marks : List Mark) where
  -- a key is live with a destructor, and t has a value under it that is not 0
  pub record Owes (key : ℤ) (h : HandlerId) (v : ℤ) : Type 0 where
    pub live : key_at key marks ≡ Some (Some h)
    pub value : value_of t key marks ≡ v
    pub set : is_zero v ≡ false

  -- no key after the last one owes t a destructor
  abbrev pub NoneOwes : Option ℤ → Type 0
  NoneOwes last = (key : ℤ) (h : HandlerId) (v : ℤ) → is_later last key ≡ true → Owes key h v → ⊥

  -- the least key after the last one that owes t its destructor, and t's value
  pub record IsLeast (last : Option ℤ) (key v : ℤ) : Type 0 where
    pub later : is_later last key ≡ true
    pub destructor : HandlerId
    pub owes : Owes key destructor v
    pub least : (k : ℤ) (h : HandlerId) (x : ℤ) → is_later last k ≡ true → Owes k h x → int_le key k ≡ true

  -- one more round begins, if none is owed any more in this one and fewer than four began
  pub record IsOfNextRound (x : Stage) (key v : ℤ) (rounds : ℕ) : Type 0 where
    pub over : NoneOwes x.last
    pub fewer : x.rounds < round_limit
    pub first : IsLeast None key v
    pub more : rounds ≡ x.rounds + 1

  -- the next destructor is that of this key, with t's value: the least of this round, or the least of all in one more round; and so
  -- many rounds have begun then
  abbrev pub IsNext : Stage → (key v : ℤ) → (rounds : ℕ) → Type 0
  IsNext x key v rounds = (IsLeast x.last key v × (rounds ≡ x.rounds)) ⊎ IsOfNextRound x key v rounds

  -- there is none: neither in this round, nor in another that might begin
  abbrev pub IsNoneNext : Stage → Type 0
  IsNoneNext x = NoneOwes x.last × ((round_limit ≤ x.rounds) ⊎ NoneOwes None)

-- from these marks and this stage on, each destructor that runs is t's next one, with its value, and after the last there is none
unfoldable pub IsSequence : ℕ → List Mark → Stage → List Mark → Type 0
IsSequence t before x [] = IsNoneNext t before x
IsSequence t before x (mark.Destructor u key v ∷ ms) =
    (rounds : ℕ) × IsNext t before x (pos key) v rounds × IsSequence t (before ++ mark.Destructor u key v ∷ []) (record { rounds = rounds; last = Some (pos key) }) ms
IsSequence t before x (m ∷ ms) = IsSequence t (before ++ m ∷ []) x ms

-- ---- the sentences

-- what is said of a mark m, by the marks before it
pub record IsOrderlyAt (before : List Mark) (m : Mark) : Type 0 where
  -- a thread that has ended has no mark more
  pub no_mark_after_end : (t : ℕ) → thread_of m ≡ Some t → list_any (is_end_of t) before ≡ false
  -- a thread that was canceled notes nothing more, and none of its calls is answered or waits
  pub no_call_after_cancellation : (t : ℕ) → is_call_of t m ≡ true → list_any (is_cancellation_of t) before ≡ false
  -- a thread that was canceled ends with the value -1
  pub canceled_ends_with_minus_one : (t : Tid) (v : ℤ) → m ≡ mark.Ended t v → list_any (is_cancellation_of t.0) before ≡ true → v ≡ negsuc 0
  -- if a cleanup_pop, not of 0, is answered 1, its thread has just run one handler: the last that is pending
  pub pop_runs_last_pending : (t : Tid) (v : ℤ) → m ≡ mark.Answered t (call.CleanupPop v) (Int (pos 1)) → is_zero v ≡ false → RanLast (handlers_in (block_at_end t.0 before)) (pending_handlers t.0 before)
  -- a thread that ends has just run all its pending handlers, the last pushed first
  pub end_runs_all_pending : (t : Tid) (v : ℤ) → m ≡ mark.Ended t v → handlers_in (block_at_end t.0 before) ≡ pending_handlers t.0 before
  -- a thread that ends has run its handlers before its destructors
  pub end_runs_handlers_first : (t : Tid) (v : ℤ) → m ≡ mark.Ended t v → AreHandlersFirst (block_at_end t.0 before)
  -- a thread that ends has run its destructors one by one, from the first round on, until none was owed
  pub end_runs_all_destructors : (t : Tid) (v : ℤ) → m ≡ mark.Ended t v → IsSequence t.0 (before_block t.0 before) first_stage (block_at_end t.0 before)

-- wherever a mark stands in these marks, that is said of it
abbrev pub Orderly : List Mark → Type 0
Orderly marks = (before later : List Mark) (m : Mark) → marks ≡ before ++ m ∷ later → IsOrderlyAt before m
