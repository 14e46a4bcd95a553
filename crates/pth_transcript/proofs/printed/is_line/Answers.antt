use Rattle.std.proofs.Common.{◌≡◌, ◌∙◌, ◌++◌, ℕ, Bool, List, [], ◌∷◌, sym, ap}
use Rattle.std.specs.Prelude.{IsTrue}
use Rattle.std.specs.Str.{bytes_eq}
use Rattle.std.proofs.lemmas.List.{append_cancel_right}
use Rattle.std.proofs.lemmas.Slice.Eq.{bytes_eq-Decides}
use Rattle.pth_transcript.proofs.printed.is_line.Goals as goal

-- the text without its LF is the line
same_rest : (text rest line : List ℕ) (last : ℕ) (test : Bool) → text ≡ rest ++ last ∷ [] → last ≡ 10 → test ≡ bytes_eq rest line
    → line ++ 10 ∷ [] ≡ text → IsTrue test
same_rest text rest line last test cut lf is e =
    let same : rest ≡ line = append_cancel_right rest line (10 ∷ []) (ap (λ (n : ℕ). rest ++ n ∷ []) (sym lf) ∙ sym cut ∙ sym e) in
    is ∙ (bytes_eq-Decides rest line).1 same

pub returns-then-last-eq10-clause-printed : goal.returns-then-last-eq10-clause-printed
returns-then-last-eq10-clause-printed c = λ e.
    same_rest c.args.text.now c.in-Some.rest.now c.args.line.now c.in-Some.last.now c.eq.result c.in-Some.ensures.cases.0 c.if-last-eq10.true c.eq.ensures e
