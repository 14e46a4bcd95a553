-- What a list of marks says, as a run goes on with it: what threads have by the marks, as the state has it, who has ended, who was
-- canceled, and which block of marks is open.
use Rattle.std.specs.Prelude.{ℕ, ◌==◌, ◌&&◌, ℤ, int_le, Bool, true, false, List, [], ◌∷◌, ◌++◌, Option, Some, None, if◌then◌else◌}
use Rattle.pth_base.specs.Table.{put}
use Rattle.pth_base.specs.declared.answer.Answer.TheVariants.{Int}
use Rattle.pth_base.specs.declared.call.Call.TheVariants as call
use Rattle.pth_base.specs.declared.mark.Mark.{Mark}
use Rattle.pth_base.specs.declared.mark.Mark.TheVariants as mark
use Rattle.pth_store.specs.Cleanups.{PushedHandler}
use Rattle.pth_model.specs.declared.destructors.Due.{Due}
use Rattle.pth_model.specs.declared.destructors.DestructorRound.{DestructorRound}
use Rattle.pth_model.specs.Ending.{first_round, next_destructor}
use Rattle.pth_model.specs.Resources.{told}
use Rattle.pth_model.specs.Store.{Resources, no_resources}

-- what one thread ran in a block of its marks, which stand side by side (pth_exit, pth_cleanup_pop, pth_once)
pub record BlockRun : Type 0 where
  -- the handlers, the first of them first
  pub handlers : List PushedHandler
  -- how far it is in its destructors
  pub round : DestructorRound
  -- no handler came after a destructor, and each destructor was the next one, with the thread's value
  pub is_fine : Bool

-- the block of marks that is open: one of a thread, or none
pub data Block : Type 0 where
  Closed : Block
  Open : ℕ → BlockRun → Block

abbrev pub ran_nothing : BlockRun
ran_nothing = record { handlers = []; round = first_round; is_fine = true }

-- what t ran in the block before a mark
unfoldable pub ran_by : Block → ℕ → BlockRun
ran_by Closed t = ran_nothing
ran_by (Open u x) t = if u == t then x else ran_nothing

-- no destructor that was due has run
abbrev pub is_before_destructors : DestructorRound → Bool
is_before_destructors r = r.from == 0

-- two values are the same
abbrev pub is_value : ℤ → ℤ → Bool
is_value v w = int_le v w && int_le w v

-- a handler is told
unfoldable pub with_handler : PushedHandler → BlockRun → BlockRun
with_handler c x = record x { handlers = x.handlers ++ c ∷ []; is_fine = x.is_fine && is_before_destructors x.round }

-- a destructor is told, with a key and a value; by: the one that is next
unfoldable pub with_destructor : Option Due → ℕ → ℤ → BlockRun → BlockRun
with_destructor None key v x = record x { is_fine = false }
with_destructor (Some d) key v x = record x { round = d.round; is_fine = x.is_fine && ((d.key == key) && is_value d.value v) }

-- what a list of marks says
pub record Book : Type 0 where
  pub resources : Resources
  pub ended : ℕ → Bool
  pub canceled : ℕ → Bool
  pub block : Block

abbrev pub empty_book : Book
empty_book = record { resources = no_resources; ended = λ t. false; canceled = λ t. false; block = Closed }

-- a kill ends all
abbrev pub ended_after : (ℕ → Bool) → Mark → ℕ → Bool
ended_after e (mark.Ended t v) = put e t.0 true
ended_after e (mark.Answered t call.Kill (Int n)) = λ u. true
ended_after e m = e

abbrev pub canceled_after : (ℕ → Bool) → Mark → ℕ → Bool
canceled_after e (mark.Canceled t c) = put e t.0 true
canceled_after e m = e

-- a kill of the run
abbrev pub is_kill : Mark → Bool
is_kill (mark.Answered t call.Kill (Int n)) = true
is_kill m = false

-- marks of handlers, destructors and acts, and of what an end gives back, open a block or go on with it; every other mark closes it
abbrev pub block_after : Book → Mark → Block
block_after b (mark.Handler t h v) = Open t.0 (with_handler (h, v) (ran_by b.block t.0))
block_after b (mark.Destructor t key v) =
    let x = ran_by b.block t.0 in
    Open t.0 (with_destructor (next_destructor b.resources.store.keys t.0 x.round) key v x)
block_after b (mark.Acted t x a) = Open t.0 (ran_by b.block t.0)
block_after b (mark.GaveMutex t m) = Open t.0 (ran_by b.block t.0)
block_after b (mark.GaveLock t l) = Open t.0 (ran_by b.block t.0)
block_after b (mark.Withdrew t n) = Open t.0 (ran_by b.block t.0)
block_after b m = Closed

-- after one mark more
abbrev pub after : Book → Mark → Book
after b m = record {
  resources = told b.resources m;
  ended = ended_after b.ended m;
  canceled = canceled_after b.canceled m;
  block = block_after b m;
}

abbrev pub book_of : Book → List Mark → Book
book_of b [] = b
book_of b (m ∷ ms) = book_of (after b m) ms
