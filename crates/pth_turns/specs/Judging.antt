-- What a judge of turns keeps of the marks that it was given, and what it says of one mark more.
use Rattle.std.specs.Prelude.{◌≡◌, ◌||◌, ℕ, Bool, true, false, List, [], ◌∷◌, ◌++◌}
use Rattle.std.specs.BTreeSet.{BTreeSet, contains}
use Rattle.std.specs.Ordering.{nat_cmp}
use Rattle.pth_base.specs.declared.mark.Mark.{Mark}
use Rattle.pth_turns.specs.Turns.{Account, InTurns, account_of, first_account}
use Rattle.pth_turns.specs.declared.judge.TurnJudge.{TurnJudge}

-- a set has t
abbrev pub has : BTreeSet ℕ → ℕ → Bool
has set t = contains nat_cmp set t

-- the account that a judge keeps
abbrev pub account_in : TurnJudge → Account
account_in j = record {
  turn = j.turn;
  moment = j.moment;
  running = j.running;
  canceled = j.canceled;
  made = j.made;
  ended = λ t. j.is_killed || has j.ended t;
  waiting = λ t. has j.waiting t;
}

-- a judge follows marks in turns
pub record Follows (j : TurnJudge) (marks : List Mark) : Type 0 where
  pub in_turns : InTurns marks
  pub account : account_in j ≡ account_of first_account marks

-- with one mark more it follows the marks, or they are not in turns
abbrev pub IsJudged : Bool → TurnJudge → List Mark → Mark → Type 0
IsJudged true j marks m = Follows j (marks ++ m ∷ [])
IsJudged false j marks m = InTurns (marks ++ m ∷ []) → ⊥
