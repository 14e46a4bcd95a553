-- What driving a machine writes.
use Rattle.std.specs.Prelude.{◌≡◌, ◌<◌, ◌+◌, ◌++◌, ℕ, List, length, Result, Ok, Err}
use Rattle.std.specs.Io.KnownBytes.{Appends}
use Rattle.pth_streams.specs.Faults.{Rose}
use Rattle.pth_base.specs.Program.{Functions}
use Rattle.pth_base.specs.declared.mark.Mark.{Mark}
use Rattle.pth_base.specs.declared.outcome.Outcome.{Outcome}
use Rattle.pth_streams.specs.declared.sink.SinkErr.{SinkErr}
use Rattle.pth_streams.specs.declared.sink.SinkErr.TheVariants as sink
use Rattle.pth_model.specs.State.{Given}
use Rattle.pth_model.specs.Run.{run, GoesTo, IsBetween}
use Rattle.pth_command.specs.CommandLine.{Asked}
use Rattle.pth_player.specs.Transcript.{ending_of, shown_of}
use Rattle.pth_streams.specs.Pieces.{AppendsPart, AppendsPrefix, Received}

module _ {P S H : Type 0} (f : P → Functions S H) (g : Given P) (asked : Asked) (i : ℕ) where
  -- the number of steps after which the run goes no further, if as many are made from part i on as are asked for
  abbrev pub last_step : ℕ
  last_step = (run f g i).turn.steps + asked.steps

  -- From part i on the run stops at part j, and this is the rest of its text: what is shown of the marks between the two, and
  -- what is written after all marks.
  abbrev pub IsRestTo : ℕ → List ℕ → Type 0
  IsRestTo j text =
      GoesTo f g last_step i j
      × ((told : List Mark) × IsBetween f g i j told × (text ≡ shown_of asked told ++ ending_of asked (run f g j)))

  -- The run stops with this outcome, and the rest of its text was written. If the sink failed a part of it was written, and one
  -- fault counted; if memory ended a beginning.
  abbrev pub Drives : Received → Received → Result Outcome SinkErr → Type 0
  Drives old new (Ok o) =
      (j : ℕ) × (rest : List ℕ) × IsRestTo j rest × (o ≡ (run f g j).turn.outcome)
      × Appends old.written new.written rest × (new.faults ≡ old.faults)
  Drives old new (Err sink.Failed) =
      (j : ℕ) × (rest : List ℕ) × IsRestTo j rest
      × AppendsPart old.written new.written rest × Rose old.faults new.faults
  Drives old new (Err sink.OutOfMemory) =
      (j : ℕ) × (rest : List ℕ) × IsRestTo j rest
      × AppendsPrefix old.written new.written rest × (new.faults ≡ old.faults)

-- From part i on a run to so many steps tells so few marks that with those in `old` there are fewer than `bound`.
abbrev pub TellsFewer : {P S H : Type 0} → (P → Functions S H) → Given P → (to i : ℕ) → List Mark → ℕ → Type 0
TellsFewer f g to i old bound =
    (j : ℕ) (told : List Mark) → GoesTo f g to i j → IsBetween f g i j told → length (old ++ told) < bound
