-- The place that a snapshot names in its first four lines, and the part of a run that it is.
--
-- The way to a place always leads somewhere, so the place and the ways to miss it are cases of one part.
use Rattle.std.specs.Prelude.{◌≡◌, ◌≢◌, ◌+◌, ◌≤◌, ℕ, zero, suc, nat_le, ℤ, pos, negsuc, Bool, true, false, List, [], take, drop, codes, length, Option, Some, None, is_some, option_and_then, Result, Ok, Err, if◌then◌else◌}
use Rattle.std.specs.Str.{bytes_eq}
use Rattle.pth_base.specs.Limits.{most_steps}
use Rattle.pth_base.specs.Program.{Functions}
use Rattle.pth_base.specs.declared.outcome.Outcome.TheVariants.{Running}
use Rattle.pth_model.specs.Course.{Course}
use Rattle.pth_model.specs.Part.{Part, Move, Close, next_part}
use Rattle.pth_model.specs.Run.{run, GoesUntil, GoesTo, TurnsTo}
use Rattle.pth_model.specs.State.{Given, now_of}
use Rattle.pth_text.specs.LineEnd.{line_end_of}
use Rattle.pth_text.specs.Number.{numeral_value}
use Rattle.pth_snapshot.specs.declared.place.Kind.{Kind}
use Rattle.pth_snapshot.specs.declared.place.Kind.TheVariants.{Step, Open}
use Rattle.pth_snapshot.specs.declared.place.Place.{Place}

-- ---- the lines that name it

abbrev pub cut_by : List ℕ → Option ℕ → Option (List ℕ) × List ℕ
cut_by text None = (None, [])
cut_by text (Some i) = (Some (take i text), drop (i + 1) text)

-- the first line of a text without its LF, none if no LF ends it, and what follows it
abbrev pub cut : List ℕ → Option (List ℕ) × List ℕ
cut text = cut_by text (line_end_of text 0)

-- line i of a text, counted from 0
abbrev pub line_at : ℕ → List ℕ → Option (List ℕ)
line_at zero text = (cut text).0
line_at (suc i) text = line_at i (cut text).1

abbrev pub not_negative : ℤ → Option ℕ
not_negative (pos n) = Some n
not_negative (negsuc n) = None

-- what stands in a line behind a word with its space
abbrev pub behind : (word line : List ℕ) → Option (List ℕ)
behind word line = if bytes_eq (take (length word) line) word then Some (drop (length word) line) else None

-- the number behind a word: one that is not below 0, spelled without a sign and without a 0 in front
abbrev pub number_behind : (word line : List ℕ) → Option ℕ
number_behind word line = option_and_then (λ digits. option_and_then not_negative (numeral_value digits)) (behind word line)

-- a machine makes no more steps
abbrev pub few_steps : ℕ → Option ℕ
few_steps n = if nat_le n most_steps then Some n else None

-- the forms of the four lines: `pthsnap 1`, `steps S`, `place step` or `place open`, `now T`
abbrev pub is_heading : List ℕ → Bool
is_heading line = bytes_eq line (codes "pthsnap 1")

abbrev pub steps_in : List ℕ → Option ℕ
steps_in line = option_and_then few_steps (number_behind (codes "steps ") line)

abbrev pub kind_in : List ℕ → Option Kind
kind_in line = if bytes_eq line (codes "place step") then Some Step else if bytes_eq line (codes "place open") then Some Open else None

abbrev pub moment_in : List ℕ → Option ℕ
moment_in line = number_behind (codes "now ") line

abbrev pub heads : Option (List ℕ) → Bool
heads None = false
heads (Some line) = is_heading line

-- the place, or the number of the first of the lines that has not its form
abbrev pub named_by : Bool → Option ℕ → Option Kind → Option ℕ → Result Place ℕ
named_by false steps kind now = Err 1
named_by true None kind now = Err 2
named_by true (Some steps) None now = Err 3
named_by true (Some steps) (Some kind) None = Err 4
named_by true (Some steps) (Some kind) (Some now) = Ok (record { steps = steps; kind = kind; now = now })

-- what a text names by its first four lines
abbrev pub named_place : List ℕ → Result Place ℕ
named_place text =
    named_by
    (heads (line_at 0 text))
    (option_and_then steps_in (line_at 1 text))
    (option_and_then kind_in (line_at 2 text))
    (option_and_then moment_in (line_at 3 text))

-- ---- the part of a run

abbrev pub is_step : Kind → Bool
is_step Step = true
is_step Open = false

-- by what comes next: no Move, or the moment has come
abbrev pub has_come_by : (moment now : ℕ) → Part → Bool
has_come_by moment now Move = nat_le moment now
has_come_by moment now p = true

module _ {P S H : Type 0} (f : P → Functions S H) (g : Given P) where
  -- at part k idle time has come to a moment, or something is new or ready, or the run has ended
  abbrev pub has_come : (moment k : ℕ) → Bool
  has_come moment k = let c = run f g k in has_come_by moment (now_of c.state.control) (next_part c.state c.turn)

  -- to part k leads the step of this number with the Close that follows it at once; to part 0 the start. Where the run ends before or
  -- by this step, or another step follows it, k is the part behind it.
  abbrev pub OpensAt : (steps k : ℕ) → Type 0
  OpensAt zero k = k ≡ 0
  OpensAt (suc n) k = (h : ℕ) × GoesTo f g n 0 h × TurnsTo f g (suc n) h k

  -- to part i leads the way to a place: steps are made as `advance` makes them, or a turn is closed and time moves while it is earlier
  abbrev pub leads_by : Kind → Place → ℕ → Type 0
  leads_by Step p i = GoesTo f g p.steps 0 i
  leads_by Open p i = (k : ℕ) × OpensAt p.steps k × GoesUntil (has_come p.now) k i

  abbrev pub LeadsTo : Place → ℕ → Type 0
  LeadsTo p i = leads_by p.kind p i

  -- part i is the place: the run goes on there, and a thread runs exactly if a step is to come next
  pub record IsPlace (p : Place) (i : ℕ) : Type 0 where
    pub leads : LeadsTo p i
    pub goes : (run f g i).turn.outcome ≡ Running
    pub kind : is_some (run f g i).state.control.scheduler.running ≡ is_step p.kind

  -- the run has ended before the place, or there
  pub record EndsBefore (p : Place) : Type 0 where
    pub part : ℕ
    pub leads : LeadsTo p part
    pub ended : (run f g part).turn.outcome ≢ Running

  -- the run goes on, and another step follows where a Close was to follow
  pub record IsNotClosed (p : Place) : Type 0 where
    pub part : ℕ
    pub leads : LeadsTo p part
    pub goes : (run f g part).turn.outcome ≡ Running
    pub kind : is_some (run f g part).state.control.scheduler.running ≢ is_step p.kind

  -- a snapshot can be written at part i: the run goes on there, no Close comes next, and so many steps may be named
  pub record IsSavable (i : ℕ) : Type 0 where
    pub goes : (run f g i).turn.outcome ≡ Running
    pub no_close : (t : ℕ) → next_part (run f g i).state (run f g i).turn ≢ Close t
    pub few : (run f g i).turn.steps ≤ most_steps

-- ---- the place of a part

abbrev pub kind_of : Option ℕ → Kind
kind_of None = Open
kind_of (Some t) = Step

abbrev pub place_of : {P S H : Type 0} → Course P S H → Place
place_of c = record { steps = c.turn.steps; kind = kind_of c.state.control.scheduler.running; now = now_of c.state.control }
