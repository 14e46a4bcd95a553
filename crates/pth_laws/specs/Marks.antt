-- Marks of a thread, and its blocks: marks of one thread that stand side by side.
use Rattle.std.specs.Prelude.{ℕ, ◌==◌, ℤ, pos, negsuc, Bool, false, if◌then◌else◌, List, [], ◌∷◌, Option, Some, None}
use Rattle.std.specs.List.{list_all}
use Rattle.pth_base.specs.declared.mark.Mark.{Mark}
use Rattle.pth_base.specs.declared.mark.Mark.TheVariants as mark

-- ---- numbers in calls and marks: each names something of its own, also one outside of the range that a call takes

-- two numbers are the same
abbrev pub is_same : ℤ → ℤ → Bool
is_same (pos m) (pos n) = m == n
is_same (negsuc m) (negsuc n) = m == n
is_same m n = false

-- what a table by number from 0 on has at a number: d at a negative one
abbrev pub at_number : {A : Type 0} → A → (ℕ → A) → ℤ → A
at_number d f (pos n) = f n
at_number d f (negsuc n) = d

-- ---- marks of a thread

-- the thread of a mark
abbrev pub thread_of : Mark → Option ℕ
thread_of (mark.Dispatch turn at t rank waited allowed) = Some t.0
thread_of (mark.Answered t c a) = Some t.0
thread_of (mark.Waits t c) = Some t.0
thread_of (mark.Retakes t c) = Some t.0
thread_of (mark.Canceled t c) = Some t.0
thread_of (mark.Took t m) = Some t.0
thread_of (mark.Withdrew t n) = Some t.0
thread_of (mark.Handler t h v) = Some t.0
thread_of (mark.Destructor t key v) = Some t.0
thread_of (mark.Acted t x a) = Some t.0
thread_of (mark.GaveMutex t m) = Some t.0
thread_of (mark.GaveLock t l) = Some t.0
thread_of (mark.Ended t v) = Some t.0
thread_of (mark.Noted t v) = Some t.0
thread_of (mark.Woke t rank) = Some t.0
thread_of (mark.Moved at) = None

-- t ends
abbrev pub is_end_of : ℕ → Mark → Bool
is_end_of t (mark.Ended u v) = u.0 == t
is_end_of t m = false

-- t is canceled
abbrev pub is_cancellation_of : ℕ → Mark → Bool
is_cancellation_of t (mark.Canceled u c) = u.0 == t
is_cancellation_of t m = false

-- a call of t is answered or waits, or t notes a value
abbrev pub is_call_of : ℕ → Mark → Bool
is_call_of t (mark.Answered u c a) = u.0 == t
is_call_of t (mark.Waits u c) = u.0 == t
is_call_of t (mark.Noted u v) = u.0 == t
is_call_of t m = false

-- ---- blocks

-- a mark that a block of t has: a handler or a destructor runs, or a handler acts, or t's end gives something back
abbrev pub is_of_block : ℕ → Mark → Bool
is_of_block t (mark.Withdrew u n) = u.0 == t
is_of_block t (mark.Handler u h v) = u.0 == t
is_of_block t (mark.Destructor u key v) = u.0 == t
is_of_block t (mark.Acted u x a) = u.0 == t
is_of_block t (mark.GaveMutex u m) = u.0 == t
is_of_block t (mark.GaveLock u l) = u.0 == t
is_of_block t m = false

-- the block of t with which these marks close: the longest last part of the list in which every mark is one that a block of t has
unfoldable pub block_at_end : ℕ → List Mark → List Mark
block_at_end t [] = []
block_at_end t (m ∷ ms) = if list_all (is_of_block t) (m ∷ ms) then m ∷ ms else block_at_end t ms

-- the marks before that block
unfoldable pub before_block : ℕ → List Mark → List Mark
before_block t [] = []
before_block t (m ∷ ms) = if list_all (is_of_block t) (m ∷ ms) then [] else m ∷ before_block t ms
