use Rattle.std.proofs.Common.{rules, tests, ◌==◌, ◌≡◌, ◌∙◌, ap, drop}
use Rattle.std.specs.List.{position}
use Rattle.std.proofs.lemmas.Iterator.{YieldsList-from_slice}
use Rattle.std.proofs.lemmas.Iterator.Search.{position_from_yields_List}
use Rattle.pth_text.specs.Bytes.{code}
use Rattle.pth_text.proofs.LineEnds.{slice_to_end}
use Rattle.pth_text.proofs.line.line_end.Goals as goal
use Rattle.pth_text.proofs.line.line_end.Goals.{After-position}

found : (c : After-position) → c.position.result ≡ position (λ b. b == code "\n") (drop c.args.from c.args.bytes.now)
found c =
    let part = c.in_ok-rest.ensures.lookup.0 in
    position_from_yields_List (λ b. b == code "\n") _ _ c.position.result c.position.ensures.ran (YieldsList-from_slice c.in_ok-rest.rest.now c.iter.ensures.rest) (λ x b q k. search (rules, tests))
    ∙ ap (λ xs. position (λ b. b == code "\n") xs) (slice_to_end c.args.bytes.now _ c.args.from part.0 part.2)

pub returns-in_err-at : goal.returns-in_err-at
returns-in_err-at c = let e = found (goal.at.returns-in_err-at c).After-position in search rules

pub returns : goal.returns
returns c = let e = found (goal.at.returns c).After-position in search rules
