-- Circles of threads that wait for each other.
use Rattle.std.specs.Prelude.{ℕ, zero, suc, ℤ, pos, ◌==◌, ◌++◌, nat_le, Bool, List, [], ◌∷◌, Option, Some, None, codes, flat_map, length, slice_get, option_and_then, option_map, if◌then◌else◌}
use Rattle.std.specs.List.{filter_map, find, list_all}
use Rattle.pth_audit.specs.Blocking.{another}
use Rattle.pth_base.specs.declared.mark.Mark.{Mark}
use Rattle.pth_explaining.specs.Holders.{holders}
use Rattle.pth_explaining.specs.Whom.{threads_text}
use Rattle.pth_explaining.specs.declared.cause.Cause.{Cause}
use Rattle.pth_explaining.specs.declared.cause.Cause.TheVariants as cause
use Rattle.pth_explaining.specs.declared.circles.Block.{Block}
use Rattle.pth_explaining.specs.declared.holders.Hold.TheVariants as hold
use Rattle.pth_explaining.specs.declared.waits.Wait.{Wait}

-- ---- who blocks on whom

-- who has to give a mutex or a lock up, or to end, before a wait ends that no event of a ring ends; of several the first
abbrev pub blocker_by : List Mark → List ℕ → Option ℤ → Cause → Option ℕ
blocker_by marks alive None (cause.Mutex m) = slice_get (holders marks alive (hold.Owns m)) 0
blocker_by marks alive None (cause.Retaken m) = slice_get (holders marks alive (hold.Owns m)) 0
blocker_by marks alive None (cause.Lock l) =
    slice_get (holders marks alive (hold.Writes l) ++ holders marks alive (hold.Reads l)) 0
blocker_by marks alive None (cause.End (pos t)) = Some t
blocker_by marks alive ring c = None

-- the other thread on which a waiting thread blocks
abbrev pub block_of : List Mark → List ℕ → Wait → Option Block
block_of marks alive w =
    option_map (λ t. record { thread = w.thread; on = t }) (another w.thread (blocker_by marks alive w.ring w.cause))

abbrev pub blocks_of : List Mark → List ℕ → List Wait → List Block
blocks_of marks alive waits = filter_map (block_of marks alive) waits

-- the thread on which t blocks
abbrev pub on_whom : List Block → ℕ → Option ℕ
on_whom blocks t = option_map (λ x. x.on) (find (λ x. x.thread == t) blocks)

-- ---- circles

module _ (next : ℕ → Option ℕ) where
  -- the threads from u on, to the one that blocks on t, if there are at most so many
  unfoldable pub way : (most t u : ℕ) → Option (List ℕ)
  way zero t u = None
  way (suc n) t u =
      option_map (λ ts. u ∷ ts) (option_and_then (λ v. if v == t then Some [] else way n t v) (next u))

  -- the circle in which t stands, from t on
  abbrev pub circle_from : (most t : ℕ) → Option (List ℕ)
  circle_from most t = way most t t

-- t is no later than each of these
abbrev pub is_least : ℕ → List ℕ → Bool
is_least t ts = list_all (λ u. nat_le t u) ts

-- a circle, if it begins with its least thread
abbrev pub if_least : ℕ → Option (List ℕ) → Option (List ℕ)
if_least t None = None
if_least t (Some ts) = if is_least t ts then Some ts else None

-- the circles of which one of some threads is the least
abbrev pub circles_from : List Block → List Block → List (List ℕ)
circles_from blocks some =
    filter_map (λ x. if_least x.thread (circle_from (on_whom blocks) (length blocks) x.thread)) some

-- each circle once, from its least thread on
abbrev pub circles_in : List Block → List (List ℕ)
circles_in blocks = circles_from blocks blocks

-- the line of a circle
abbrev pub circle_line : List ℕ → List ℕ
circle_line ts = codes "circle:" ++ threads_text ts ++ codes "\n"

-- a line for each circle
abbrev pub circle_lines : List Block → List ℕ
circle_lines blocks = flat_map circle_line (circles_in blocks)
