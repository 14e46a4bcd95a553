-- The lines of verdicts, and the status of each.
use Rattle.std.specs.Prelude.{◌++◌, ℕ, List, codes, decimal}
use Rattle.pth_audit.specs.declared.verdict.AuditRule.TheVariants as rule
use Rattle.pth_checker.specs.declared.verdict.Law.{Law}
use Rattle.pth_checker.specs.declared.verdict.Law.TheVariants as law
use Rattle.pth_checker.specs.declared.verdict.Verdict.{Verdict}
use Rattle.pth_checker.specs.declared.verdict.Verdict.TheVariants.{Lawful, Unlawful}

-- the name of a law, behind the number of the line that breaks it
abbrev pub law_line : Law → List ℕ
law_line (law.Marks rule.InTime) = codes ": in time\n"
law_line (law.Marks rule.Orderly) = codes ": orderly\n"
law_line (law.Marks rule.Exclusive) = codes ": exclusive\n"
law_line (law.Marks rule.InOrder) = codes ": in order\n"
law_line law.Ending = codes ": ending\n"

-- the line of a verdict
abbrev pub verdict_line : Verdict → List ℕ
verdict_line (Lawful lines) = codes "lawful " ++ (decimal lines ++ codes "\n")
verdict_line (Unlawful line law) = codes "line " ++ (decimal line ++ law_line law)

-- the status of a verdict
abbrev pub verdict_status : Verdict → ℕ
verdict_status (Lawful lines) = 0
verdict_status (Unlawful line law) = 1
