-- What the lines of a kernel stand for.
use Rattle.std.specs.Prelude.{ℕ, List, [], ◌∷◌, drop, Option, Some, None, option_and_then, option_map}
use Rattle.pth_kernel.specs.declared.trace.Entry.{Entry}
use Rattle.pth_kernel.specs.declared.trace.Entry.TheVariants as entry
use Rattle.pth_kernel.specs.declared.trace.Stamp.{Stamp}
use Rattle.pth_text.specs.Hex.{hex_bytes}
use Rattle.pth_spelling.specs.Keywords.{entry_word}
use Rattle.pth_spelling.specs.Starts.{begins}
use Rattle.pth_spelling.specs.declared.keyword.EntryWord.{EntryWord}
use Rattle.pth_spelling.specs.declared.keyword.EntryWord.TheVariants as entries
use Rattle.pth_spelling.specs.declared.keyword.Keyword.{Keyword}
use Rattle.pth_spelling.specs.declared.keyword.Keyword.TheVariants as key
use Rattle.pth_spelling.specs.WordMeanings.{descriptor_of}
use Rattle.pth_grammar.specs.KernelNumbers.{ticks_of, time_of, room_of}

-- ---- the clock, and what is open from the start

abbrev pub clock_by : Option Keyword → List (List ℕ) → Option ℕ
clock_by (Some key.Clock) (c ∷ []) = ticks_of c
clock_by _ _ = None

-- how many microseconds a turn takes, by a line that begins with `clock`
unfoldable pub clock_line : List (List ℕ) → Option ℕ
clock_line ws = clock_by (begins ws) (drop 1 ws)

abbrev pub opening_by : Option Keyword → List (List ℕ) → Option ℕ
opening_by (Some key.Open) (f ∷ []) = descriptor_of f
opening_by _ _ = None

-- the descriptor of a line that begins with `open`
unfoldable pub open_line : List (List ℕ) → Option ℕ
open_line ws = opening_by (begins ws) (drop 1 ws)

-- ---- what comes

-- an entry of one word
abbrev pub entry_alone : EntryWord → Option Entry
entry_alone entries.Eof = Some entry.Eof
entry_alone entries.Up = Some entry.Up
entry_alone entries.Refuse = Some entry.Refuse
entry_alone entries.Exc = Some entry.Exc
entry_alone entries.Err = Some entry.Fault
entry_alone _ = None

-- an entry with a word more
abbrev pub entry_with : EntryWord → List ℕ → Option Entry
entry_with entries.In w = option_map (λ bytes. entry.Arrive bytes) (hex_bytes w)
entry_with entries.Room w = option_map (λ n. entry.Room n) (room_of w)
entry_with entries.Conn w = option_map (λ g. entry.Conn (record { 0 = g })) (descriptor_of w)
entry_with _ w = None

abbrev pub entry_by : Option EntryWord → List (List ℕ) → Option Entry
entry_by (Some k) [] = entry_alone k
entry_by (Some k) (w ∷ []) = entry_with k w
entry_by _ _ = None

-- a time, a descriptor and an entry
abbrev pub stamp_of : List (List ℕ) → Option Stamp
stamp_of (t ∷ f ∷ e ∷ ws) =
    option_and_then (λ at. option_and_then (λ fd. option_map (λ what. record { at = at; fd = record { 0 = fd }; what = what }) (entry_by (entry_word e) ws)) (descriptor_of f)) (time_of t)
stamp_of _ = None

abbrev pub stamp_by : Option Keyword → List (List ℕ) → Option Stamp
stamp_by (Some key.At) ws = stamp_of ws
stamp_by _ ws = None

-- what comes by a line that begins with `at`
unfoldable pub stamp_line : List (List ℕ) → Option Stamp
stamp_line ws = stamp_by (begins ws) (drop 1 ws)
