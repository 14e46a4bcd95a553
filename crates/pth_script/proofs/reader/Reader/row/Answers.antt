use Rattle.std.proofs.Common.{arith}
use Rattle.pth_script.specs.TextRows.{TextRow}
use Rattle.pth_script.proofs.RowRules.{long_row, too_long, line_limit_is}
use Rattle.pth_script.proofs.reader.Reader.row.Goals as goal

pub returns-then-bytes-gt-LINE_LIMIT : goal.returns-then-bytes-gt-LINE_LIMIT
returns-then-bytes-gt-LINE_LIMIT c =
    let row : TextRow = record { bytes = c.args.bytes.now; ended = c.args.ended } in
    record {
      takes = λ before f s. long_row before row (too_long before row (omega (arith, line_limit_is)));
      drafts = tt;
    }

pub first-requires-clause-short : goal.first-requires-clause-short
first-requires-clause-short c = omega (arith, line_limit_is)

pub second-requires-clause-short : goal.second-requires-clause-short
second-requires-clause-short c = omega (arith, line_limit_is)

pub below-requires-clause-short : goal.below-requires-clause-short
below-requires-clause-short c = omega (arith, line_limit_is)
