use Rattle.std.proofs.Common.{◌≡◌, ◌∙◌, ℕ, List, Some, None, sym, rules, tests}
use Rattle.std.specs.List.{position}
use Rattle.std.proofs.lemmas.Iterator.{YieldsList-from_slice}
use Rattle.std.proofs.lemmas.Iterator.Search.{position_from_yields_List}
use denote.Ref.{Bor}
use Rattle.pth_transcript.specs.Parted.{is_equals}
use Rattle.pth_transcript.proofs.Partings.{parted_at, parted_nowhere}
use Rattle.pth_transcript.proofs.split.at_equals.Goals as goal
use Rattle.pth_transcript.proofs.split.at_equals.Goals.{After-position}

found : (c : After-position) → c.position.result ≡ position (λ (w : Bor (List ℕ)). is_equals w.now) c.args.words.now
found c =
    position_from_yields_List (λ (w : Bor (List ℕ)). is_equals w.now) _ _ c.position.result c.position.ensures.ran
    (YieldsList-from_slice c.args.words.now c.iter.ensures.rest) (λ x b q k. search (rules, tests))

pub returns-in_err-at : goal.returns-in_err-at
returns-in_err-at c =
    let e = found (goal.at.returns-in_err-at c).After-position in
    let none : c.position.result ≡ None = search rules in
    let gone : c.from_residual.result ≡ None = search rules in
    rw gone (sym (parted_nowhere c.args.words.now (sym e ∙ none)))

pub returns : goal.returns
returns c =
    let e = found (goal.at.returns c).After-position in
    let some : c.position.result ≡ Some c.in_ok-at.at = search rules in
    sym (parted_at c.args.words.now c.in_ok-at.at (sym e ∙ some))
