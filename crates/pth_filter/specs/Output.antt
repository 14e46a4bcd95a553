-- What a program writes, and its status.
use Rattle.std.specs.Prelude.{◌≡◌, ℕ, List, [], Option, Some}
use Rattle.pth_print.specs.FaultLines.{fault_line, fault_status}
use Rattle.pth_print.specs.declared.fault_line.Fault.{Fault}

-- what is written to standard output, the line of a fault, and the exit status
pub record Output : Type 0 where
  pub text : List ℕ
  pub fault : Option (List ℕ)
  pub status : ℕ

-- the output of a program if its words or what it reads are refused
abbrev pub refusal : (program : List ℕ) → Fault → Output
refusal program f = record { text = []; fault = Some (fault_line program f); status = fault_status f }

-- an output is one for an input, and there is no other
abbrev pub IsOnly : (Is : Output → Type 0) → Output → Type 0
IsOnly Is out = Is out × ((other : Output) → Is other → other ≡ out)
