-- What is said of a wait.
use Rattle.std.specs.Prelude.{ℕ, ℤ, ◌==◌, ◌++◌, not, Bool, false, List, [], ◌∷◌, Option, Some, None, codes, flat_map, map}
use Rattle.std.specs.List.{filter}
use Rattle.pth_base.specs.declared.mark.Mark.{Mark}
use Rattle.pth_laws.specs.Marks.{is_same}
use Rattle.pth_print.specs.WordTexts.{number_word, tid_word}
use Rattle.pth_explaining.specs.Causes.{number_in, words_of}
use Rattle.pth_explaining.specs.Holders.{holders}
use Rattle.pth_explaining.specs.declared.cause.Cause.{Cause}
use Rattle.pth_explaining.specs.declared.cause.Cause.TheVariants as cause
use Rattle.pth_explaining.specs.declared.holders.Hold.TheVariants as hold
use Rattle.pth_explaining.specs.declared.waits.Wait.{Wait}

-- ---- threads

-- threads, each after a space
abbrev pub threads_text : List ℕ → List ℕ
threads_text ts = flat_map (λ t. codes " " ++ tid_word t) ts

-- words, and threads behind them; nothing if there are none
abbrev pub named_text : (words : List ℕ) → List ℕ → List ℕ
named_text words [] = []
named_text words (t ∷ ts) = words ++ threads_text (t ∷ ts)

-- who holds a mutex
abbrev pub owners_text : List ℕ → List ℕ
owners_text [] = codes ", which no thread holds"
owners_text (t ∷ ts) = codes ", held by" ++ threads_text (t ∷ ts)

-- who holds a lock
abbrev pub readers_text : List ℕ → List ℕ
readers_text [] = codes ", which no thread holds"
readers_text (t ∷ ts) = codes ", read by" ++ threads_text (t ∷ ts)

unfoldable pub lockers_text : (writers readers : List ℕ) → List ℕ
lockers_text [] rs = readers_text rs
lockers_text (t ∷ ts) rs = codes ", written by" ++ threads_text (t ∷ ts) ++ named_text (codes ", read by") rs

-- the threads of these without t
abbrev pub others : ℕ → List ℕ → List ℕ
others t ts = filter (λ u. not (u == t)) ts

-- two threads wait at the same condition or barrier
abbrev pub are_beside : Cause → Cause → Bool
are_beside (cause.Condition c) (cause.Condition d) = is_same c d
are_beside (cause.Barrier b) (cause.Barrier d) = is_same b d
are_beside c d = false

-- the threads that wait at the same one
abbrev pub waiters : Cause → List Wait → List ℕ
waiters c waits = map (λ w. w.thread) (filter (λ w. are_beside c w.cause) waits)

-- ---- the texts

abbrev pub number_text : Option ℤ → List ℕ
number_text None = []
number_text (Some n) = number_word n

-- which threads t waits for, or waits with, after these marks, with these threads alive and of these waits
abbrev pub whom_text : List Mark → List ℕ → List Wait → ℕ → Cause → List ℕ
whom_text marks alive waits t (cause.Mutex m) = owners_text (holders marks alive (hold.Owns m))
whom_text marks alive waits t (cause.Retaken m) = owners_text (holders marks alive (hold.Owns m))
whom_text marks alive waits t (cause.Lock l) =
    lockers_text (holders marks alive (hold.Writes l)) (holders marks alive (hold.Reads l))
whom_text marks alive waits t (cause.Condition c) =
    named_text (codes ", like") (others t (waiters (cause.Condition c) waits))
whom_text marks alive waits t (cause.Barrier b) =
    named_text (codes ", like") (others t (waiters (cause.Barrier b) waits))
whom_text marks alive waits t cause.AllEnds = named_text (codes ":") (others t alive)
whom_text marks alive waits t c = []

-- what t waits for
abbrev pub cause_text : List Mark → List ℕ → List Wait → ℕ → Cause → List ℕ
cause_text marks alive waits t c =
    words_of c ++ number_text (number_in c) ++ whom_text marks alive waits t c

-- an extra ring
abbrev pub ring_text : Option ℤ → List ℕ
ring_text None = []
ring_text (Some e) = codes " or an event of ring " ++ number_word e
