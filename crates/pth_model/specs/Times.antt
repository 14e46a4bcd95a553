-- Moments and lengths of time, in microseconds: pth_timeout, pth_nap, pth_usleep, pth_sleep.
use Rattle.std.specs.Prelude.{ℕ, ◌+◌, ◌*◌, min, nat_le, ℤ, pos, negsuc, Bool, true, false}
use Rattle.pth_base.specs.Limits.{last_moment}
use Rattle.pth_base.specs.declared.errno.Errno.TheVariants.{EINVAL}
use Rattle.pth_numbered.specs.Operands.{number, is_zero}
use Rattle.pth_model.specs.declared.awaits.Awaits.TheVariants.{Moment}
use Rattle.pth_model.specs.Awaits.{moment_in}
use Rattle.pth_model.specs.declared.verdict.Verdict.TheVariants.{Blocks}
use Rattle.pth_model.specs.Verdict.{refused, says}
use Rattle.pth_numbered.specs.Clauses.{◌when◌otherwise◌}
use Rattle.pth_model.specs.State.{State, now_of}
use Rattle.pth_model.specs.Transition.{silent, nothing}
use Rattle.pth_model.specs.Row.{Row, ◌changing◌, ◌trying◌}

-- a longer time counts as this one
abbrev pub longest_time : ℕ
longest_time = 1000000000000000

abbrev pub is_negative : ℤ → Bool
is_negative (pos n) = false
is_negative (negsuc n) = true

-- a length that an operand gives in a unit of so many microseconds
abbrev pub length_of : (unit : ℕ) → ℤ → ℕ
length_of unit n = min (number n * unit) longest_time

-- the moment that an operand gives: none is later than the last
abbrev pub moment_of : ℤ → ℕ
moment_of n = min (number n) last_moment

-- the moment that lies a length of time after another
abbrev pub moment_after : ℕ → ℕ → ℕ
moment_after now length = min (now + length) last_moment

module _ {P S H : Type 0} (s : State P S H) where
  -- pth_timeout: the moment that is so far away
  abbrev pub timeout : ℤ → Row P S H
  timeout n =
      refused EINVAL when is_negative n otherwise
      says (moment_after (now_of s.control) (length_of 1 n))
      changing nothing

  -- a length of time is waited for, with an answer then; one of 0 is over at once
  abbrev pub rest : (unit : ℕ) → ℤ → (answer : ℕ) → Row P S H
  rest unit n answer = record {
    begin =
        refused EINVAL when is_negative n otherwise
        says answer when is_zero n otherwise
        Blocks (Moment (moment_after (now_of s.control) (length_of unit n)))
        trying silent;
    again = λ a.
        says answer when nat_le (moment_in a) (now_of s.control) otherwise
        Blocks (Moment (moment_in a))
        trying silent;
  }

  -- pth_nap
  abbrev pub nap : ℤ → Row P S H
  nap n = rest 1 n 1

  -- pth_usleep
  abbrev pub usleep : ℤ → Row P S H
  usleep n = rest 1 n 0

  -- pth_sleep: in seconds
  abbrev pub sleep : ℤ → Row P S H
  sleep n = rest 1000000 n 0
