use Rattle.std.proofs.Common.{◌∙◌, ◌≤◌, ◌∷◌, [], ap, arith}
use Rattle.std.proofs.lemmas.Bool.Decides.{nat_tests}
use Rattle.pth_script.specs.TextRows.{TextRow, text_rows, size_of}
use Rattle.pth_script.specs.Limits.{text_limit}
use Rattle.pth_script.specs.Follows.{breach_error}
use Rattle.pth_script.proofs.RowRules.{text_limit_is}
use Rattle.pth_script.proofs.Headings.{read_range}
use Rattle.pth_script.proofs.Runs.{broke, passes_size, breaks, reads_on, row_size_is, refused_answers, starts_reading, ends_reading, makes_cut}
use Rattle.pth_script.proofs.read.read.Goals as goal

pub lines-init : goal.lines-init
lines-init c = ([], starts_reading c.new-reader.result c.args.bytes.now c.new-reader.ensures.follows (c.new-reader.ensures.makes (text_rows c.args.bytes.now)), omega arith, omega arith)

pub returns-then-bytes-after-gt-TEXT_LIMIT-clause-read : goal.returns-then-bytes-after-gt-TEXT_LIMIT-clause-read
returns-then-bytes-after-gt-TEXT_LIMIT-clause-read c =
    let i = c.lines.invariant in
    let row : TextRow = record { bytes = c.first_row-ended.result.0.now; ended = c.first_row-ended.result.1 } in
    let after = c.first_row-ended.result.2.now in
    let cut = c.first_row-ended.ensures.row in
    passes_size c.lines.reader i.0 c.args.bytes.now c.lines.line c.lines.rest.now i.1 row after cut (omega (arith, text_limit_is, row_size_is c.lines.reader i.0 c.args.bytes.now c.lines.line c.lines.rest.now i.1 row after cut))

pub returns-in-Err-Broken-clause-read : goal.returns-in-Err-Broken-clause-read
returns-in-Err-Broken-clause-read c =
    let i = c.lines.invariant in
    let row : TextRow = record { bytes = c.first_row-ended.result.0.now; ended = c.first_row-ended.result.1 } in
    let after = c.first_row-ended.result.2.now in
    let cut = c.first_row-ended.ensures.row in
    let small : size_of (row ∷ i.0) ≤ text_limit = omega (arith, text_limit_is, row_size_is c.lines.reader i.0 c.args.bytes.now c.lines.line c.lines.rest.now i.1 row after cut) in
    let taken = c.in-Err-Broken.ensures.takes i.0 i.1.follows small in
    refused_answers c.args.bytes.now c.lines.line c.in-Err-Broken.breach c.refused.result (c.refused.ensures ∙ ap (λ b. breach_error c.lines.line b) c.in-Err-Broken.breach-is)
    (breaks c.lines.reader i.0 c.args.bytes.now c.lines.line c.lines.rest.now i.1 row after cut c.in-Err-Broken.breach (broke c.in-Err-Broken.field-0 c.in-Err-Broken.breach c.row.new.self i.0 row c.in-Err-Broken.field-0-is taken))

pub lines-preserved : goal.lines-preserved
lines-preserved c =
    let i = c.lines.invariant in
    let row : TextRow = record { bytes = c.first_row-ended.result.0.now; ended = c.first_row-ended.result.1 } in
    let after = c.first_row-ended.result.2.now in
    let cut = c.first_row-ended.ensures.row in
    let small : size_of (row ∷ i.0) ≤ text_limit = omega (arith, text_limit_is, row_size_is c.lines.reader i.0 c.args.bytes.now c.lines.line c.lines.rest.now i.1 row after cut) in
    let taken = c.in-Ok.ensures.takes i.0 i.1.follows small in (
      row ∷ i.0,
      reads_on c.lines.reader i.0 c.args.bytes.now c.lines.line c.lines.rest.now i.1 row after cut c.row.new.self taken (c.in-Ok.ensures.drafts (text_rows after) _ (makes_cut c.lines.reader i.0 c.args.bytes.now c.lines.line c.lines.rest.now i.1 row after cut)),
      omega (arith, c.first_row-ended.ensures.shorter),
      omega arith,
    )

pub row-requires : goal.row-requires
row-requires c = c.lines.invariant.1.follows.kept

pub finish-requires : goal.finish-requires
finish-requires c = c.lines.invariant.1.follows.kept

pub returns-clause-read : goal.returns-clause-read
returns-clause-read c =
    let i = c.lines.invariant in
    ends_reading c.lines.reader i.0 c.args.bytes.now c.lines.line c.lines.rest.now i.1 (grind (arith, nat_tests)) _ c.finish.ensures

pub returns-clause-range : goal.returns-clause-range
returns-clause-range c =
    let i = c.lines.invariant in
    read_range c.args.bytes.now c.finish.result (ends_reading c.lines.reader i.0 c.args.bytes.now c.lines.line c.lines.rest.now i.1 (grind (arith, nat_tests)) _ c.finish.ensures)
