use Rattle.std.proofs.Common.{◌∙◌, arith, sym, ◌∷◌, true}
use Rattle.pth_script.specs.TextRows.{text_rows}
use Rattle.pth_script.proofs.Cuts.{row_found, rows_none, place_missing, place_found}
use Rattle.pth_script.proofs.rows.first_row.Goals as goal

pub split_at-requires-in-Some : goal.split_at-requires-in-Some
split_at-requires-in-Some c = let p = place_found c.args.bytes.now _ _ c.line_end.ensures c.in-Some.is in omega arith

pub returns-in-Some-clause-row : goal.returns-in-Some-clause-row
returns-in-Some-clause-row c = row_found c.args.bytes.now _ _ c.line_end.ensures c.in-Some.is ∙ sym (λ i. record { bytes = c.split_at.ensures.front i; ended = true } ∷ text_rows (c.split_at-in-Some.ensures.back i))

pub returns-in-None-clause-row : goal.returns-in-None-clause-row
returns-in-None-clause-row c = rows_none c.args.bytes.now (place_missing c.args.bytes.now _ c.line_end.ensures c.in-None.is) (omega arith)
