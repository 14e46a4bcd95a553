-- How a program answers words that ask for help.
use Rattle.std.specs.Prelude.{◌≡◌, ◌⊎◌, ◌||◌, ℕ, Bool, true, false, List, [], ◌∷◌, codes, if◌then◌else◌}
use Rattle.std.specs.Io.KnownBytes.{Appends}
use Rattle.std.specs.Str.{bytes_eq}
use Rattle.pth_streams.specs.Faults.{Rose}
use Rattle.pth_streams.specs.Pieces.{AppendsPart, AppendsPrefix, IsUnwritten, Received, WritesLine}
use Rattle.pth_print.specs.FaultLines.{fault_line}
use Rattle.pth_print.specs.declared.fault_line.Fault.{Fault}
use Rattle.pth_print.specs.declared.fault_line.Fault.TheVariants as fault

-- a word that asks for help
abbrev pub is_help : List ℕ → Bool
is_help word = bytes_eq word (codes "--help") || bytes_eq word (codes "-h")

-- one of the words before `--` asks for help
unfoldable pub asks_help : List (List ℕ) → Bool
asks_help [] = false
asks_help (w ∷ ws) = if bytes_eq w (codes "--") then false else (if is_help w then true else asks_help ws)

-- What a program with this name writes if it is asked for this help, by its status.
pub record Helps (program help : List ℕ) (status : ℕ) (old new err_old err_new : Received) : Type 0 where
  -- 0: the help was appended to `out`, and nothing to `err`
  pub whole : status ≡ 0 → Appends old.written new.written help × (new.faults ≡ old.faults) × IsUnwritten err_old err_new
  -- 5: a part of the help was appended, and one fault of `out` counted
  pub write : status ≡ 5 → AppendsPart old.written new.written help × Rose old.faults new.faults
      × WritesLine err_old err_new (fault_line program fault.WriteFault)
  -- 7: memory ran out; a beginning of the help was appended to `out`, and one of the line of a fault to `err`
  pub memory : status ≡ 7 → AppendsPrefix old.written new.written help
      × ((f : Fault) × AppendsPrefix err_old.written err_new.written (fault_line program f))
  -- no other status comes
  pub known : (status ≡ 0) ⊎ (status ≡ 5) ⊎ (status ≡ 7)
