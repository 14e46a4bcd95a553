use Rattle.std.proofs.Common.{◌∙◌, refl}
use Rattle.pth_filter.specs.Objects.{of_read}
use Rattle.pth_explaining.proofs.Along.{begins, ends, goes_on, stops}
use Rattle.pth_explaining.proofs.Objects.{of_same, others_none, others_of, stood_of}
use Rattle.pth_explaining.proofs.Results.{passed_on}
use Rattle.pth_explaining.specs.Why.{StopsAt}
use Rattle.pth_transcript.specs.Reading.{ComesTo, IsRefused}
use Rattle.pth_transcript.specs.Taking.{Takes}
use Rattle.pth_transcript.specs.Transcripts.{part_line}
use Rattle.pth_explaining.proofs.run.take_lines.Goals as goal

pub lines-init : goal.lines-init
lines-init g c = record {
  started = c.requires.started;
  same = refl;
  along = begins _ _ _ _ c.requires.fresh.0 c.requires.fresh.1 c.new-marks.ensures.items;
  stood = refl;
  other = others_none _ _ _;
}

pub returns-in_err-ending-clause-fault : goal.returns-in_err-ending-clause-fault
returns-in_err-ending-clause-fault g c =
    passed_on (StopsAt (of_read c.args.reader.now.of_file (g.S.Source.left c.args.input.now) (g.F.Files.left c.args.files.now)))
    c.from_residual.result c.in_err-ending.field-0.0 c.from_residual.ensures.1 (stops _ _ _ _ _ c.in_err-ending.field-0.0 c.lines.invariant.along
    (of_same _ _ c.lines.invariant.same (λ a b. ComesTo c.lines.reader.lines (IsRefused c.lines.reader.lines a b) c.in_err-ending.field-0.0) _ _ _ _ _ _ c.in_err-ending.ensures.fault))

pub returns-in-Ending-clause-taken : goal.returns-in-Ending-clause-taken
returns-in-Ending-clause-taken g c =
    ends _ _ _ _ _ _ _ _ c.lines.invariant.along
    (of_same _ _ c.lines.invariant.same (λ a b. Takes a b (part_line c.in_ok-ending.field-0)) _ _ _ _ _ _ c.in_ok-ending.ensures.takes) c.in-Ending.is
    c.in_ok-ending.ensures.told c.in_ok-ending.ensures.lines c.in_ok-ending.ensures.few

pub lines-preserved : goal.lines-preserved
lines-preserved g c = record {
  started = c.in_ok-ending.ensures.started;
  same = c.in_ok-ending.ensures.same ∙ c.lines.invariant.same;
  along = goes_on _ _ _ _ _ _ _ _ _ c.lines.invariant.along
      (of_same _ _ c.lines.invariant.same (λ a b. Takes a b (part_line c.in_ok-ending.field-0)) _ _ _ _ _ _ c.in_ok-ending.ensures.takes) c.in-Mark.is
      c.in_ok-ending.ensures.told c.in_ok-ending.ensures.lines c.in_ok-ending.ensures.few
      c.in-Ok.ensures;
  stood = stood_of _ _ c.lines.invariant.same _ _ _ _ _ _ c.in_ok-ending.ensures.counts c.lines.invariant.stood;
  other = others_of _ _ c.lines.invariant.same _ _ _ _ _ _ c.lines.invariant.other c.in_ok-ending.ensures.other;
}
