-- What comes of loading a snapshot.
use Rattle.std.specs.Prelude.{◌≡◌, ◌≢◌, ◌⊎◌, ◌<◌, ◌+◌, ℕ, zero, suc, List, [], ◌∷◌, Option, Some, None, Result, Ok, Err}
use Rattle.pth_base.specs.Program.{Functions}
use Rattle.pth_kernel.specs.Kernel.{KernelOf, kernel_of}
use Rattle.pth_line.specs.Script.{Sections, functions_of}
use Rattle.pth_operand.specs.declared.cells.Cells.{Cells}
use Rattle.pth_operand.specs.declared.frame.Frame.{Frame}
use Rattle.pth_model.specs.Run.{run}
use Rattle.pth_model.specs.State.{Given}
use Rattle.pth_sched.specs.MachineOf.{MachineOf}
use Rattle.pth_sched.specs.Running.{StandsAt}
use Rattle.pth_script.specs.declared.read.ReadErr.{ReadErr}
use Rattle.pth_script.specs.declared.read.ReadErr.TheVariants as read
use Rattle.pth_script.specs.Broken.{IsRefusal}
use Rattle.pth_script.specs.Follows.{IsReadAs}
use Rattle.pth_script.specs.TextRows.{TextRow, text_rows}
use Rattle.pth_text.specs.declared.rule.Breach.{Breach}
use Rattle.pth_text.specs.declared.rule.Breach.TheVariants.{Limit, Of}
use Rattle.pth_text.specs.declared.rule.Rule.{Rule}
use Rattle.pth_snapshot.specs.Dump.{dump}
use Rattle.pth_snapshot.specs.Place.{named_place, IsPlace, EndsBefore, IsNotClosed}
use Rattle.pth_snapshot.specs.declared.load.LoadErr.{LoadErr}
use Rattle.pth_snapshot.specs.declared.load.LoadErr.TheVariants as err
use Rattle.pth_snapshot.specs.declared.place.Place.{Place}

-- ---- texts

-- line i of some lines, counted from 0; none behind the last
abbrev pub row_at : List TextRow → ℕ → Option TextRow
row_at [] i = None
row_at (r ∷ rs) zero = Some r
row_at (r ∷ rs) (suc i) = row_at rs i

-- The first line in which two texts differ, counted from 1: by its bytes, by its LF, or as it is in one of them alone.
pub record DifferFirstAt (a b : List ℕ) (line : ℕ) : Type 0 where
  pub row : ℕ
  pub counted : row + 1 ≡ line
  pub above : (i : ℕ) → i < row → row_at (text_rows a) i ≡ row_at (text_rows b) i
  pub here : row_at (text_rows a) row ≢ row_at (text_rows b) row

-- ---- snapshots of a run

module _ {P S H : Type 0} (f : P → Functions S H) (g : Given P) (snap : List ℕ) where
  -- the machine stands at the place that the snapshot names, and the snapshot is the dump of what stands there
  pub record IsTakenUp (m : MachineOf P S H) : Type 0 where
    pub place : Place
    pub named : named_place snap ≡ Ok place
    pub part : ℕ
    pub is : IsPlace f g place part
    pub stands : StandsAt f g part m
    pub text : snap ≡ dump (run f g part)

  -- the snapshot names a place, at which its line is the first that is not as in the dump
  pub record DiffersFrom (p : Place) (line : ℕ) : Type 0 where
    pub part : ℕ
    pub is : IsPlace f g p part
    pub differ : DifferFirstAt snap (dump (run f g part)) line

  -- for a named place: the run ends before it, or no Close follows its step, or what stands there differs
  abbrev pub IsRefusedAt : Place → ℕ → Type 0
  IsRefusedAt p line = ((line ≡ 2) × EndsBefore f g p) ⊎ ((line ≡ 3) × IsNotClosed f g p) ⊎ DiffersFrom p line

  -- the line of a refused snapshot, in the first of four cases: one of its first four lines has not its form, or the above
  abbrev pub refused_by : Result Place ℕ → ℕ → Type 0
  refused_by (Err first) line = line ≡ first
  refused_by (Ok p) line = IsRefusedAt p line

  abbrev pub IsRefusedSnapshot : ℕ → Type 0
  IsRefusedSnapshot line = refused_by (named_place snap) line

-- ---- inputs

-- an input that is accepted gives a run this script, this kernel and this greatest base priority
pub record Gives (input : List ℕ) (g : Given Sections) : Type 0 where
  pub read : Sections × KernelOf × ℕ
  pub accepted : IsReadAs input (Ok read)
  pub given : g ≡ record { program = read.0; kernel = kernel_of read.1; top = read.2 }

-- what a line of the input breaks: none for a limit
abbrev pub breach_of : Option Rule → Breach
breach_of None = Limit
breach_of (Some r) = Of r

-- the error for a refused input
abbrev pub read_error : ReadErr → LoadErr
read_error (read.Refused line r) = err.Input line (Some r)
read_error (read.TooLarge line) = err.Input line None
read_error read.OutOfMemory = err.OutOfMemory

-- what loading answers of an input and a snapshot, by cases
abbrev pub IsLoaded : (input snap : List ℕ) → Result (MachineOf Sections Frame Cells) LoadErr → Type 0
IsLoaded input snap (Ok m) = (g : Given Sections) × Gives input g × IsTakenUp functions_of g snap m
IsLoaded input snap (Err (err.Input line rule)) = IsRefusal input line (breach_of rule)
IsLoaded input snap (Err (err.Refused line)) = (g : Given Sections) × Gives input g × IsRefusedSnapshot functions_of g snap line
IsLoaded input snap (Err err.OutOfMemory) = Unit {0}

-- want of memory, or a machine that stands at part i
abbrev pub IsFound : Given Sections → ℕ → Result (MachineOf Sections Frame Cells) LoadErr → Type 0
IsFound g i (Ok m) = StandsAt functions_of g i m
IsFound g i (Err e) = e ≡ err.OutOfMemory
