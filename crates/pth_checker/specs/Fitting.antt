-- What marks say of who is alive, and which endings fit them.
use Rattle.std.specs.Prelude.{◌≡◌, ◌↔◌, ◌&&◌, ℕ, pos, Bool, true, not, List, [], ◌∷◌, Option, Some, None, Contains, map}
use Rattle.std.specs.List.{list_any}
use Rattle.std.specs.List.Sorted.{IsStrictlyIncreasing}
use Rattle.pth_base.specs.declared.answer.Answer.TheVariants as answer
use Rattle.pth_base.specs.declared.call.Call.TheVariants as call
use Rattle.pth_base.specs.declared.ids.Tid.{Tid}
use Rattle.pth_base.specs.declared.mark.Mark.{Mark}
use Rattle.pth_base.specs.declared.mark.Mark.TheVariants as mark
use Rattle.pth_laws.specs.Marks.{is_end_of}
use Rattle.pth_transcript.specs.Threads.{is_there}
use Rattle.pth_transcript.specs.declared.ending.Ending.{Ending}
use Rattle.pth_transcript.specs.declared.ending.Ending.TheVariants as ending

-- the main thread
abbrev pub main : Tid
main = record { 0 = 1 }

-- ---- who is alive

-- t has ended
abbrev pub has_ended : List Mark → ℕ → Bool
has_ended marks t = list_any (is_end_of t) marks

-- t is there and has not ended
abbrev pub is_alive : List Mark → ℕ → Bool
is_alive marks t = is_there t marks && not (has_ended marks t)

-- ---- endings

-- the last of these marks
abbrev pub last_mark : List Mark → Option Mark
last_mark [] = None
last_mark (m ∷ []) = Some m
last_mark (m ∷ n ∷ ms) = last_mark (n ∷ ms)

-- these are the threads that are alive, rising
pub record AreTheLiving (marks : List Mark) (threads : List ℕ) : Type 0 where
  pub rising : IsStrictlyIncreasing threads
  pub alive : (t : ℕ) → Contains threads t ↔ (is_alive marks t ≡ true)

-- the numbers of threads
abbrev pub numbers : List Tid → List ℕ
numbers threads = map (λ t. t.0) threads

-- An ending fits the marks before it: main has just ended with its value, or was just answered that its `pth_kill` succeeds, or the
-- threads that stalled are those that are alive. A run may be cut after any step.
abbrev pub FitsEnding : List Mark → Ending → Type 0
FitsEnding marks (ending.Ended v) = last_mark marks ≡ Some (mark.Ended main v)
FitsEnding marks ending.Killed = last_mark marks ≡ Some (mark.Answered main call.Kill (answer.Int (pos 1)))
FitsEnding marks (ending.Stalled live) = AreTheLiving marks (numbers live.items)
FitsEnding marks (ending.StepLimit n) = Unit {0}
