-- Marks in turns: turns are numbered and moments never fall, each line is one of the thread whose turn it is, and nobody has a line who
-- was not made or has ended, or is woken who did not wait (pth_spawn, pth_yield, pth_cancel, pth_exit).
--
-- Whoever reads marks in order keeps an account of them. It alone says whether the next mark is allowed.
use Rattle.std.specs.Prelude.{◌≡◌, ◌≤◌, ℕ, ◌+◌, ◌==◌, ◌&&◌, not, nat_le, nat_lt, Bool, true, false, List, [], ◌∷◌, Option, Some, None, is_some, is_none}
use Rattle.pth_base.specs.Limits.{last_moment}
use Rattle.pth_base.specs.Table.{put}
use Rattle.pth_base.specs.declared.answer.Answer.{Answer}
use Rattle.pth_base.specs.declared.answer.Answer.TheVariants.{Int}
use Rattle.pth_base.specs.declared.call.Call.{Call}
use Rattle.pth_base.specs.declared.call.Call.TheVariants as call
use Rattle.pth_base.specs.declared.mark.Mark.{Mark}
use Rattle.pth_base.specs.declared.mark.Mark.TheVariants as mark
use Rattle.pth_numbered.specs.Operands.{◌is◌}
use Rattle.pth_model.specs.Living.{is_made}
use Rattle.pth_model.specs.State.{Given}

-- what the marks so far say
pub record Account : Type 0 where
  -- the number of the last turn, and the last moment
  pub turn : ℕ
  pub moment : ℕ
  -- the thread whose turn it is: from its dispatch until it waits, yields or ends
  pub running : Option ℕ
  -- another thread that it cancels or aborts, until that one has ended
  pub canceled : Option ℕ
  -- how many threads were made, and who has ended
  pub made : ℕ
  pub ended : ℕ → Bool
  -- who waits: from its wait until it is woken
  pub waiting : ℕ → Bool

-- before the first mark there is the main thread, and nobody's turn
abbrev pub first_account : Account
first_account = record { turn = 0; moment = 0; running = None; canceled = None; made = 1; ended = λ t. false; waiting = λ t. false }

-- ---- whether a mark is allowed

-- it is this thread
abbrev pub is_thread : Option ℕ → ℕ → Bool
is_thread None t = false
is_thread (Some u) t = u == t

-- whose line comes next: the thread that is canceled, or else the one whose turn it is
abbrev pub speaker : Option ℕ → Option ℕ → Option ℕ
speaker (Some u) running = Some u
speaker None running = running

-- a spawn is answered the next number
abbrev pub is_next_made : ℕ → Call → Answer → Bool
is_next_made made (call.Spawn b v a) (Int n) = n is (made + 1)
is_next_made made c x = true

module _ (a : Account) where
  -- t was made, and has not ended
  abbrev pub is_up : ℕ → Bool
  is_up t = is_made a.made t && not (a.ended t)

  -- it is t's turn
  abbrev pub has_turn : ℕ → Bool
  has_turn t = is_none a.canceled && is_thread a.running t && is_up t

  -- t runs handlers, gives back what it has, or ends: in its own turn, or canceled in another thread's
  abbrev pub may_end : ℕ → Bool
  may_end t = is_thread (speaker a.canceled a.running) t && is_up t

  -- the next turn begins, and t has it
  abbrev pub may_dispatch : (turn at t : ℕ) → Bool
  may_dispatch turn at t = is_none a.running && (turn == a.turn + 1) && nat_le a.moment at && is_up t && not (a.waiting t)

  -- t, which waits, is woken between two turns
  abbrev pub may_wake : ℕ → Bool
  may_wake t = is_none a.running && a.waiting t && is_up t

  -- t is canceled in another thread's turn
  abbrev pub may_be_canceled : ℕ → Bool
  may_be_canceled t = is_some a.running && is_none a.canceled && not (is_thread a.running t) && is_up t

  abbrev pub is_allowed : Mark → Bool
  is_allowed (mark.Dispatch turn at t rank waited allowed) = may_dispatch turn at t.0
  is_allowed (mark.Moved at) = is_none a.running && nat_lt a.moment at
  is_allowed (mark.Woke t rank) = may_wake t.0
  is_allowed (mark.Answered t c x) = has_turn t.0 && is_next_made a.made c x
  is_allowed (mark.Waits t c) = has_turn t.0
  is_allowed (mark.Retakes t c) = has_turn t.0
  is_allowed (mark.Took t m) = has_turn t.0
  is_allowed (mark.Noted t v) = has_turn t.0
  is_allowed (mark.Canceled t (Some c)) = has_turn t.0
  is_allowed (mark.Canceled t None) = may_be_canceled t.0
  is_allowed (mark.Withdrew t b) = may_end t.0
  is_allowed (mark.Handler t h v) = may_end t.0
  is_allowed (mark.Destructor t key v) = may_end t.0
  is_allowed (mark.Acted t x y) = may_end t.0
  is_allowed (mark.GaveMutex t m) = may_end t.0
  is_allowed (mark.GaveLock t l) = may_end t.0
  is_allowed (mark.Ended t v) = may_end t.0

  -- ---- the account after a mark

  -- a call is answered: a spawn makes a thread, a yield gives up control, and a kill ends all threads
  abbrev pub answered : Call → Answer → Account
  answered (call.Spawn b v k) (Int n) = record a { made = a.made + 1 }
  answered (call.Yield n) (Int v) = record a { running = None }
  answered call.Kill (Int v) = record a { running = None; ended = λ t. true }
  answered c x = a

  -- t waits, and gives up control
  abbrev pub waits : ℕ → Account
  waits t = record a { running = None; waiting = put a.waiting t true }

  -- t is woken
  abbrev pub wakes : ℕ → Account
  wakes t = record a { waiting = put a.waiting t false }

  -- who ends has no more lines; by: who is canceled
  abbrev pub stops : Option ℕ → Account
  stops (Some u) = record a { canceled = None }
  stops None = record a { running = None }

  -- t ends
  abbrev pub ends : Option ℕ → ℕ → Account
  ends canceled t = record (stops canceled) { ended = put a.ended t true }

  abbrev pub account_after : Mark → Account
  account_after (mark.Dispatch turn at t rank waited allowed) = record a { turn = turn; moment = at; running = Some t.0 }
  account_after (mark.Moved at) = record a { moment = at }
  account_after (mark.Woke t rank) = wakes t.0
  account_after (mark.Answered t c x) = answered c x
  account_after (mark.Waits t c) = waits t.0
  account_after (mark.Retakes t c) = waits t.0
  account_after (mark.Canceled t None) = record a { canceled = Some t.0 }
  account_after (mark.Ended t v) = ends a.canceled t.0
  account_after m = a

-- ---- the law

-- the account after all of these marks
abbrev pub account_of : Account → List Mark → Account
account_of a [] = a
account_of a (m ∷ marks) = account_of (account_after a m) marks

-- each mark is allowed by the account of those before it
abbrev pub AreAllowed : Account → List Mark → Type 0
AreAllowed a [] = Unit {0}
AreAllowed a (m ∷ marks) = (is_allowed a m ≡ true) × AreAllowed (account_after a m) marks

abbrev pub InTurns : List Mark → Type 0
InTurns marks = AreAllowed first_account marks

-- a run starts no later than at the last moment
abbrev pub StartsInTime : {P : Type 0} → Given P → Type 0
StartsInTime g = g.kernel.now ≤ last_moment
