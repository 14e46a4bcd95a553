use Rattle.std.proofs.Common.{◌≡◌, ◌∙◌, drop, length, ap, arith, length-drop}
use Rattle.std.proofs.lemmas.Bool.Decides.{nat_tests}
use Rattle.pth_transcript.proofs.lines.Lines.has_all.Goals as goal

pub returns-clause-none : goal.returns-clause-none
returns-clause-none c = λ e.
    let none : length (drop c.self.inside.rest c.self.inside.bytes.items) ≡ 0 = ap (λ s. length s.unread) c.self.view_is ∙ ap length e in
    grind (arith, nat_tests, length-drop c.self.inside.rest c.self.inside.bytes.items)
