use Rattle.std.proofs.Common.{◌∙◌}
use Rattle.pth_streams.proofs.Pieces.{append_rest, is_not_empty, part_at, rest_within}
use Rattle.pth_base.proofs.Results.{on_err}
use Rattle.pth_streams.proofs.write_all.write_all.Goals as goal

pub returns-in_err-at-clause-part : goal.returns-in_err-at-clause-part
returns-in_err-at-clause-part g c =
    on_err c.from_residual.result (part_at _ _ _ c.args.bytes.now c.loop-at.at c.loop-at-test.true c.loop-at.invariant.written c.in_err-at.ensures.bytes)

pub loop-at-preserved : goal.loop-at-preserved
loop-at-preserved g c = record {
  within = rest_within _ _ _ c.loop-at.invariant.within c.in_ok-at.ensures.bound;
  written = append_rest _ _ _ _ _ _ c.loop-at.invariant.written c.in_ok-at.ensures.bytes;
  stood = c.in_ok-at.ensures.counts ∙ c.loop-at.invariant.stood;
  empty = λ none. absurd (is_not_empty _ _ c.loop-at-test.true none);
}
