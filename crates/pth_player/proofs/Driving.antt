-- What a drive has written of a run.
use Rattle.std.proofs.Common.{◌≡◌, ◌≢◌, ◌∙◌, ◌+◌, ◌-◌, ◌⊎◌, ◌<◌, ◌≤◌, ℕ, List, [], ◌++◌, Option, Result, Ok, Err, IsErr, IsErrAnd, OnOk, OnErr, ap, ap₂, sym, refl, subst, append-nil, append_assoc, arith, inl, inr, map, min, Bool, true, false, if◌then◌else◌}
use Rattle.std.proofs.lemmas.Bool.{cases_lt, true≢false}
use Rattle.std.proofs.KnownBytes.{Appends-nil, Appends-trans}
use Rattle.std.specs.Io.KnownBytes.{Appends}
use Rattle.pth_streams.specs.Faults.{CountsSink, Rose}
use Rattle.pth_base.specs.Program.{Functions}
use Rattle.pth_base.specs.declared.mark.Mark.{Mark}
use Rattle.pth_base.specs.declared.outcome.Outcome.{Outcome}
use Rattle.pth_base.specs.declared.outcome.Outcome.TheVariants as outcomes
use Rattle.pth_streams.specs.declared.sink.SinkErr.{SinkErr}
use Rattle.pth_streams.specs.declared.sink.SinkErr.TheVariants as sink
use Rattle.pth_model.specs.Course.{Course}
use Rattle.pth_model.specs.State.{Given, Turn}
use Rattle.pth_model.specs.Part.{Part, next_part, unless_ended}
use Rattle.pth_model.specs.Run.{run, stops, stops_by, GoesTo, IsBetween}
use Rattle.pth_model.proofs.Runs.{between-none, stops-later}
use Rattle.pth_model.specs.Living.{live}
use Rattle.pth_print.specs.EndLines.{end_line}
use Rattle.pth_base.specs.declared.ids.Tid.{Tid}
use Rattle.pth_sched.specs.MachineOf.{MachineOf}
use Rattle.pth_sched.specs.Running.{Stands, StandsAt, GoesOn}
use Rattle.pth_sched.proofs.Stopping.{run_stops}
use Rattle.pth_threads.specs.Threads.{number_of}
use Rattle.pth_command.specs.CommandLine.{Asked}
use Rattle.pth_player.specs.Drive.{Drives, IsRestTo, last_step}
use Rattle.pth_streams.specs.Pieces.{AppendsPart, AppendsPrefix, received}
use Rattle.pth_streams.specs.Pieces.{WritesPiece}
use Rattle.pth_player.specs.Transcript.{counts_of, ending_of, last_line, lines_of, shown_of}
use Rattle.pth_player.proofs.Beginnings.{shown_more, told_to}
use Rattle.pth_player.proofs.Results.{err_is}
use Rattle.pth_streams.proofs.Pieces.{none_of, part_is_prefix, part_then, prefix_then}

-- a fault that comes after none
rose_later : (a b c : ℕ) → b ≡ a → Rose b c → Rose a c
rose_later a b c same rose = subst (λ (n : ℕ). Rose n c) same rose

ended_by : (to steps : ℕ) (o : Outcome) (p : Part) → o ≢ outcomes.Running → stops_by to steps (unless_ended o p) ≡ true
ended_by to steps outcomes.Running p h = absurd (h refl)
ended_by to steps (outcomes.Ended v) p h = refl
ended_by to steps outcomes.Killed p h = refl
ended_by to steps outcomes.Stalled p h = refl
ended_by to steps outcomes.OutOfMemory p h = refl

-- the run goes no further after an outcome that ends it
ended_stops : {P S H : Type 0} (to : ℕ) (c : Course P S H) → c.turn.outcome ≢ outcomes.Running → stops to c ≡ true
unfolding stops next_part
ended_stops to c h = ended_by to c.turn.steps c.turn.outcome _ h

-- as many steps were made as at the part where the machine stands
steps_of : {P S H : Type 0} (f : P → Functions S H) (g : Given P) (i : ℕ) (m : MachineOf P S H) → StandsAt f g i m → m.turn.steps ≡ (run f g i).turn.steps
steps_of f g i m stands = ap (λ (x : Turn). x.steps) (sym stands.turn)

-- no more steps are asked for than are left
pub not_more : (n most left size : ℕ) → n ≤ most → most ≡ min left size → n ≤ left
not_more n most left size few is = omega arith

within : (start first made left n total : ℕ) → first ≡ start → made + left ≡ first + total → n ≤ left → made + n ≤ start + total
within start first made left n total same h few = omega arith

spent : (start first made left n total : ℕ) → first ≡ start → made + left ≡ first + total → n ≤ left → left - n ≡ 0 → made + n ≡ start + total
spent start first made left n total same h few e = omega arith

none_of_none : (audit b : Bool) → (if b then [] else lines_of audit []) ≡ []
none_of_none audit true = refl
none_of_none audit false = refl

-- three stretches of a text and its end
joined : (a b c e : List ℕ) → ((a ++ b) ++ c) ++ e ≡ a ++ (b ++ (c ++ e))
joined a b c e = append_assoc (a ++ b) c e ∙ append_assoc a b (c ++ e)

module _ {P S H : Type 0} (f : P → Functions S H) (g : Given P) (asked : Asked) (from : ℕ) where
  abbrev to : ℕ
  to = last_step f g asked from

  abbrev before : List Mark
  before = (run f g from).marks

  -- The machine stands at a later part of the run, before which the run does not stop. What was told up to there was written but
  -- for some last marks.
  pub record Underway (m : MachineOf P S H) (old new : Option (List ℕ)) (pending : List Mark) : Type 0 where
    pub at : ℕ
    pub stands : StandsAt f g at m
    pub later : from ≤ at
    pub going : (k : ℕ) → from ≤ k → k < at → stops to (run f g k) ≡ false
    pub done : List Mark
    pub written : Appends old new (shown_of asked done)
    pub all : IsBetween f g from at (done ++ pending)

  -- and a run to so many steps stops there
  abbrev pub Stopped : ℕ → MachineOf P S H → Option (List ℕ) → Option (List ℕ) → List Mark → Type 0
  Stopped last m old new pending = (u : Underway m old new pending) × (stops last (run f g u.at) ≡ true)

  none_shown : shown_of asked [] ≡ []
  none_shown = none_of_none asked.audit asked.summary

  -- where the run stops
  stop : (j : ℕ) × GoesTo f g to from j
  stop = run_stops f g to from

  -- nothing was written yet
  pub begins : (m : MachineOf P S H) (a : Option (List ℕ)) → StandsAt f g from m → Underway m a a []
  begins m a stands = record {
    at = from;
    stands = stands;
    later = omega arith;
    going = λ k low high. absurd (omega (arith, low, high));
    done = [];
    written = subst (Appends a a) (sym none_shown) (Appends-nil a);
    all = between-none f g from;
  }

  -- the lines of the last marks were written
  wrote : (m : MachineOf P S H) (last : ℕ) (a b c : Option (List ℕ)) (pending : List Mark) → Appends b c (shown_of asked pending) → Stopped last m a b pending → Stopped last m a c []
  wrote m last a b c pending w s = (
    record {
      at = s.0.at;
      stands = s.0.stands;
      later = s.0.later;
      going = s.0.going;
      done = s.0.done ++ pending;
      written = subst (Appends a c) (sym (shown_more asked s.0.done pending)) (Appends-trans a b c (shown_of asked s.0.done) (shown_of asked pending) s.0.written w);
      all = s.0.all ∙ ap (λ (l : List Mark). before ++ l) (sym (append-nil (s.0.done ++ pending)));
    },
    s.1,
  )

  module _ (m : MachineOf P S H) (a b : Option (List ℕ)) where
    -- the machine goes on, and what it tells is not yet written
    goes_on : (n : ℕ) (k : MachineOf P S H) (clear marks : List Mark) → m.turn.steps + n ≤ to → clear ≡ [] → (u : Underway m a b [])
        → GoesOn f g (m.turn.steps + n) u.at k clear marks → Stopped (m.turn.steps + n) k a b marks
    goes_on n k clear marks le none u go = (
      record {
        at = go.part;
        stands = go.stands;
        later = let low = u.later in let high = go.goes.later in omega (arith, low, high);
        going = λ i low high. elim (cases_lt i u.at) [
          | inl early ↦ u.going i low early
          | inr late ↦ stops-later (m.turn.steps + n) to (run f g i) le (go.goes.first i (omega (arith, late)) high)
        ];
        done = u.done;
        written = u.written;
        all = go.between ∙ ap (λ (l : List Mark). l ++ go.told) (u.all ∙ ap (λ (l : List Mark). before ++ l) (append-nil u.done))
            ∙ append_assoc before u.done go.told
            ∙ ap (λ (l : List Mark). before ++ (u.done ++ l)) (sym (go.appended ∙ ap (λ (l : List Mark). l ++ go.told) none));
      },
      go.goes.here,
    )

    -- after the next piece, whose marks are `seen` and not yet written
    pub piece : (first k : MachineOf P S H) (left n : ℕ) (clear marks seen : List Mark) → StandsAt f g from first → m.turn.steps + left ≡ first.turn.steps + asked.steps → n ≤ left
        → clear ≡ [] → seen ≡ marks → (u : Underway m a b []) → GoesOn f g (m.turn.steps + n) u.at k clear marks → Stopped (m.turn.steps + n) k a b seen
    piece first k left n clear marks seen stands made few none is u go =
        subst (Stopped (m.turn.steps + n) k a b) (sym is) (goes_on n k clear marks (within (run f g from).turn.steps first.turn.steps m.turn.steps left n asked.steps (steps_of f g from first stands) made few) none u go)

    -- and where its lines were written
    pub onward : (first k : MachineOf P S H) (left n : ℕ) (clear marks seen : List Mark) (c : Option (List ℕ)) → StandsAt f g from first → m.turn.steps + left ≡ first.turn.steps + asked.steps
        → n ≤ left → clear ≡ [] → seen ≡ marks → (u : Underway m a b []) → GoesOn f g (m.turn.steps + n) u.at k clear marks → Appends b c (shown_of asked seen)
        → Stopped (m.turn.steps + n) k a c []
    onward first k left n clear marks seen c stands made few none is u go w =
        wrote k (m.turn.steps + n) a b c seen w (piece first k left n clear marks seen stands made few none is u go)

    -- the run stops there for good
    pub at_end : (first : MachineOf P S H) (made left n : ℕ) (o : Outcome) (pending : List Mark) → StandsAt f g from first → made + left ≡ first.turn.steps + asked.steps → n ≤ left
        → o ≡ m.turn.outcome → (left - n ≡ 0) ⊎ (o ≢ outcomes.Running) → Stopped (made + n) m a b pending → Stopped to m a b pending
    at_end first made left n o pending stands so_far few is over s = (
      s.0,
      elim over [
        | inl none ↦ subst (λ (last : ℕ). stops last (run f g s.0.at) ≡ true) (spent (run f g from).turn.steps first.turn.steps made left n asked.steps (steps_of f g from first stands) so_far few none) s.1
        | inr halts ↦ ended_stops to (run f g s.0.at) (λ e. halts (is ∙ ap (λ (x : Turn). x.outcome) (sym s.0.stands.turn) ∙ e))
      ],
    )

    -- what the run tells from a later part on follows the marks up to there, and so do its lines
    further_by : (pending : List Mark) (u : Underway m a b pending) (told : List Mark) → IsBetween f g u.at stop.0 told
        → (rest : List ℕ) × (after : List ℕ) × IsRestTo f g asked from stop.0 rest × (shown_of asked u.done ++ (shown_of asked pending ++ after) ≡ rest)
    further_by pending u told between =
        let ending = ending_of asked (run f g stop.0) in
        let so_far = u.done ++ pending in (
          shown_of asked (so_far ++ told) ++ ending,
          shown_of asked told ++ ending,
          (stop.1, (so_far ++ told, between ∙ ap (λ (l : List Mark). l ++ told) u.all ∙ append_assoc before so_far told, refl)),
          sym (ap (λ (l : List ℕ). l ++ ending) (shown_more asked so_far told ∙ ap (λ (l : List ℕ). l ++ shown_of asked told) (shown_more asked u.done pending))
              ∙ joined (shown_of asked u.done) (shown_of asked pending) (shown_of asked told) ending),
        )

    -- the rest of the run's text goes on after these lines
    goes_further : (pending : List Mark) (u : Underway m a b pending)
        → (rest : List ℕ) × (after : List ℕ) × IsRestTo f g asked from stop.0 rest × (shown_of asked u.done ++ (shown_of asked pending ++ after) ≡ rest)
    goes_further pending u = elim (cases_lt stop.0 u.at) [
      | inl low ↦ absurd (true≢false (sym stop.1.here ∙ u.going stop.0 stop.1.later low))
      | inr high ↦ let t = told_to f g u.at stop.0 (omega (arith, high)) in further_by pending u t.0 t.1
    ]

    -- memory ended before the last marks were written
    pub cut_by_memory : (pending : List Mark) (i j : ℕ) (r : Result Outcome SinkErr) → Underway m a b pending → j ≡ i → IsErr r → IsErrAnd r (λ e. e ≡ sink.OutOfMemory)
        → Drives f g asked from (received a i) (received b j) r
    cut_by_memory pending i j r u stood h k =
        let t = goes_further pending u in
        subst (Drives f g asked from (received a i) (received b j)) (sym (err_is r sink.OutOfMemory h k)) (
          stop.0,
          t.0,
          t.2,
          subst (AppendsPrefix a b) t.3 (prefix_then a b b (shown_of asked u.done) (shown_of asked pending) t.1 u.written (none_of b (shown_of asked pending))),
          stood,
        )

    module _ (c : Option (List ℕ)) (i j k : ℕ) where
      cut_in_lines_by : (pending : List Mark) (x : SinkErr) → Underway m a b pending → j ≡ i → WritesPiece {T = Unit {0}} (received b j) (received c k) (shown_of asked pending) (Err x) → Drives f g asked from (received a i) (received c k) (Err x)
      cut_in_lines_by pending sink.Failed u stood w =
          let t = goes_further pending u in (
            stop.0,
            t.0,
            t.2,
            subst (AppendsPart a c) t.3 (part_then a b c (shown_of asked u.done) (shown_of asked pending) t.1 u.written w.0),
            rose_later i j k stood w.1,
          )
      cut_in_lines_by pending sink.OutOfMemory u stood w =
          let t = goes_further pending u in (
            stop.0,
            t.0,
            t.2,
            subst (AppendsPrefix a c) t.3 (prefix_then a b c (shown_of asked u.done) (shown_of asked pending) t.1 u.written w.0),
            w.1 ∙ stood,
          )

      -- the lines of the last marks were not written whole
      pub cut_in_lines : (pending : List Mark) (x : SinkErr) (r : Result Outcome SinkErr) → Underway m a b pending → j ≡ i → WritesPiece {T = Unit {0}} (received b j) (received c k) (shown_of asked pending) (Err x)
          → IsErr r → IsErrAnd r (λ e. e ≡ x) → Drives f g asked from (received a i) (received c k) r
      cut_in_lines pending x r u stood w is e = subst (Drives f g asked from (received a i) (received c k)) (sym (err_is r x is e)) (cut_in_lines_by pending x u stood w)

      -- at the end, where what is written last is that of the state
      module _ (o : Outcome) (r : Result (Unit {0}) SinkErr) (s : Stopped to m a b []) (is : o ≡ m.turn.outcome)
          (writes : (t : Course P S H) → Stands m t → WritesPiece (received b j) (received c k) (ending_of asked t) r) where
        abbrev last : Course P S H
        last = (run f g s.0.at)

        abbrev rest : List ℕ
        rest = shown_of asked (s.0.done ++ []) ++ ending_of asked last

        rest_is : IsRestTo f g asked from s.0.at rest
        rest_is = (record { later = s.0.later; here = s.1; first = s.0.going }, (s.0.done ++ [], s.0.all, refl))

        outcome_is : o ≡ last.turn.outcome
        outcome_is = is ∙ ap (λ (x : Turn). x.outcome) (sym s.0.stands.turn)

        text_is : shown_of asked s.0.done ++ ending_of asked last ≡ rest
        text_is = ap (λ (l : List Mark). shown_of asked l ++ ending_of asked last) (sym (append-nil s.0.done))

        cut_is : shown_of asked s.0.done ++ (ending_of asked last ++ []) ≡ rest
        cut_is = ap (λ (l : List ℕ). shown_of asked s.0.done ++ l) (append-nil (ending_of asked last)) ∙ text_is

        cut_in_end_by : (x : SinkErr) → j ≡ i → WritesPiece {T = Unit {0}} (received b j) (received c k) (ending_of asked last) (Err x) → Drives f g asked from (received a i) (received c k) (Err x)
        cut_in_end_by sink.Failed stood w = (
          s.0.at,
          rest,
          rest_is,
          subst (AppendsPart a c) cut_is (part_then a b c (shown_of asked s.0.done) (ending_of asked last) [] s.0.written w.0),
          rose_later i j k stood w.1,
        )
        cut_in_end_by sink.OutOfMemory stood w = (
          s.0.at,
          rest,
          rest_is,
          subst (AppendsPrefix a c) cut_is (prefix_then a b c (shown_of asked s.0.done) (ending_of asked last) [] s.0.written w.0),
          w.1 ∙ stood,
        )

        -- the end was not written whole
        pub cut_in_end : (x : SinkErr) (d : Result Outcome SinkErr) → j ≡ i → r ≡ Err x → IsErr d → IsErrAnd d (λ e. e ≡ x) → Drives f g asked from (received a i) (received c k) d
        cut_in_end x d stood w h e =
            subst (Drives f g asked from (received a i) (received c k)) (sym (err_is d x h e)) (cut_in_end_by x stood (subst (WritesPiece (received b j) (received c k) (ending_of asked last)) w (writes last s.0.stands)))

        -- all was written
        pub finished : (x : Unit {0}) → j ≡ i → r ≡ Ok x → Drives f g asked from (received a i) (received c k) (Ok o)
        finished x stood w =
            let wrote = subst (WritesPiece (received b j) (received c k) (ending_of asked last)) w (writes last s.0.stands) in (
              s.0.at,
              rest,
              rest_is,
              outcome_is,
              subst (Appends a c) text_is (Appends-trans a b c (shown_of asked s.0.done) (ending_of asked last) s.0.written wrote.0),
              wrote.1 ∙ stood,
            )

-- memory ran out before a piece was written
pub cut_before : (a : Option (List ℕ)) (f : ℕ) (text : List ℕ) (r : Result (Unit {0}) SinkErr) → IsErr r → IsErrAnd r (λ e. e ≡ sink.OutOfMemory) → WritesPiece (received a f) (received a f) text r
cut_before a f text r h k = subst (WritesPiece (received a f) (received a f) text) (sym (err_is r sink.OutOfMemory h k)) (none_of a text, refl)

-- as many steps as were asked for are made, and are left
pub still_left : (made now left n total : ℕ) → now ≡ made + n → made + left ≡ total → n ≤ left → now + (left - n) ≡ total
still_left made now left n total a b few = omega arith

piece_by : (a b : Option (List ℕ)) (f g : ℕ) (text : List ℕ) (r : Result (Unit {0}) SinkErr) → OnOk r (Appends a b text) → OnErr r (AppendsPart a b text) → CountsSink f g r → WritesPiece (received a f) (received b g) text r
piece_by a b f g text (Ok x) all part counts = (all, counts)
piece_by a b f g text (Err sink.Failed) all part counts = (part, counts)
piece_by a b f g text (Err sink.OutOfMemory) all part counts = (part_is_prefix a b text part, counts)

-- what is written of these bytes is written of the text that they are
pub piece_of : (a b : Option (List ℕ)) (f g : ℕ) (text : List ℕ) (r : Result (Unit {0}) SinkErr) {bytes : List ℕ} → bytes ≡ text → OnOk r (Appends a b bytes) → OnErr r (AppendsPart a b bytes)
    → CountsSink f g r → WritesPiece (received a f) (received b g) text r
piece_of a b f g text r {bytes} is all part counts = subst (λ (l : List ℕ). WritesPiece (received a f) (received b g) l r) is (piece_by a b f g bytes r all part counts)

-- what was made at the end is what is to be written there
pub ending_is : {P S H : Type 0} (asked : Asked) (m : MachineOf P S H) (c : Course P S H) (o : Outcome) (seen threads : List Tid) (clear counts text bytes : List ℕ) → Stands m c → o ≡ m.turn.outcome
    → seen ≡ threads → ((t : Course P S H) → Stands m t → map number_of threads ≡ live t.state) → clear ≡ [] → ((t : Course P S H) → Stands m t → counts ≡ clear ++ counts_of asked t)
    → text ≡ counts ++ end_line o asked.steps (map number_of seen) → bytes ≡ text → bytes ≡ ending_of asked c
ending_is asked m c o seen threads clear counts text bytes stands is same all none adds ends whole =
    let first : counts ≡ counts_of asked c = adds c stands ∙ ap (λ (l : List ℕ). l ++ counts_of asked c) none in
    let last : end_line o asked.steps (map number_of seen) ≡ last_line asked.steps c =
    ap₂ (λ (p : Outcome) (l : List ℕ). end_line p asked.steps l) (is ∙ ap (λ (x : Turn). x.outcome) (sym stands.turn)) (ap (map number_of) same ∙ all c stands) in
    whole ∙ ends ∙ ap₂ (λ (x y : List ℕ). x ++ y) first last
