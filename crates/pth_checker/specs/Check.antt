-- What `pth_check` writes.
use Rattle.std.specs.Prelude.{◌≡◌, ◌⊎◌, ℕ, List, Option, Some, None, codes}
use Rattle.pth_checker.specs.Judged.{IsRefusedAt, IsVerdict}
use Rattle.pth_checker.specs.VerdictLines.{verdict_line, verdict_status}
use Rattle.pth_checker.specs.Words.{asked_by}
use Rattle.pth_checker.specs.declared.verdict.Verdict.{Verdict}
use Rattle.pth_filter.specs.Filter.{Filter}
use Rattle.pth_filter.specs.Objects.{named}
use Rattle.pth_filter.specs.Output.{Output, refusal}
use Rattle.pth_print.specs.declared.fault_line.Fault.TheVariants as fault
use Rattle.pth_print.specs.declared.fault_line.Flaw.TheVariants.{NoTranscript}

-- the name of the program
abbrev pub program : List ℕ
program = codes "pth_check"

-- the output of a verdict: its line, and its status
abbrev pub verdict_output : Verdict → Output
verdict_output verdict = record { text = verdict_line verdict; fault = None; status = verdict_status verdict }

-- the output of a text: that of a verdict that holds of it, or the refusal of a line
abbrev pub IsTextOutput : List ℕ → Output → Type 0
IsTextOutput bytes out =
    ((verdict : Verdict) × IsVerdict bytes verdict × (out ≡ verdict_output verdict))
    ⊎ ((line : ℕ) × IsRefusedAt bytes line × (out ≡ refusal program (fault.Input line NoTranscript)))

-- the output for the name that the words give, if they are not refused, and the bytes that stand under it
abbrev pub IsOutput : Option (Option (List ℕ)) → List ℕ → Output → Type 0
IsOutput None bytes out = out ≡ refusal program fault.Words
IsOutput (Some name) bytes out = IsTextOutput bytes out

-- the program
abbrev pub check : Filter (Option (List ℕ))
check = record { name = program; asked = asked_by; object = λ name. named name; IsOutput = IsOutput }
