use Rattle.std.proofs.Common.{◌≡◌, ◌∙◌, ℕ, nat_le, nat_lt, true, false, refl, arith}
use Rattle.std.proofs.lemmas.Bool.Decides.{nat_tests}
use Rattle.pth_model.specs.State.{now_of}
use Rattle.pth_sheet.specs.Events.{check_holds}
use Rattle.pth_sheet.proofs.Cases.{by_cases}
use Rattle.pth_sheet.proofs.Passes.{event_looked_at}
use Rattle.pth_sheet.proofs.occurrences.func_event_occurs.Goals as goal

-- a moment that is not past has come
not_before : (m n : ℕ) → nat_lt m n ≡ false → nat_le n m ≡ true
not_before m n h = grind (arith, nat_tests)

before : (m n : ℕ) → nat_lt m n ≡ true → nat_le n m ≡ false
before m n h = grind (arith, nat_tests)

pub returns : goal.returns
returns p c = λ s e interval check arg x of_func here awaited.
    event_looked_at p.P.Program.functions s e x here awaited
    ∙ by_cases (nat_lt (now_of s.control) x.next_look) (λ b0. rw (of_func, b0, before (now_of s.control) x.next_look b0) refl) (λ b0.
    by_cases (check_holds p.P.Program.functions s check arg) (λ b1. rw (of_func, b0, not_before (now_of s.control) x.next_look b0, b1) refl)
    (λ b1. rw (of_func, b0, not_before (now_of s.control) x.next_look b0, b1) refl))
