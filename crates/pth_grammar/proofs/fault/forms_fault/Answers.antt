use Rattle.std.proofs.Common.{◌≡◌, ◌∙◌, length, sym, arith}
use Rattle.std.proofs.lemmas.List.{length-map}
use Rattle.pth_spelling.specs.Texts.{texts}
use Rattle.pth_grammar.proofs.Fine.{fine_words}
use Rattle.pth_grammar.proofs.fault.forms_fault.Goals as goal

pub returns-then-are_fine : goal.returns-then-are_fine
returns-then-are_fine c =
    let same : length c.args.forms.now ≡ length (texts c.args.words.now) = omega (arith, length-map c.args.words.now (λ w. w.now)) in
    fine_words c.args.forms.now (texts c.args.words.now) same (sym c.are_fine.ensures ∙ c.if-are_fine.true)
