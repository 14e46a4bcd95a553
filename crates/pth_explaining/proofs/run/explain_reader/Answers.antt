use Rattle.std.proofs.Common.{◌≡◌, List, ℕ}
use Rattle.pth_base.specs.declared.mark.Mark.{Mark}
use Rattle.pth_filter.specs.Objects.{of_read}
use Rattle.pth_explaining.proofs.Along.{made, stops_behind}
use Rattle.pth_explaining.proofs.Objects.{of_same}
use Rattle.pth_explaining.proofs.Results.{not_made}
use Rattle.pth_explaining.specs.Explanation.{explanation}
use Rattle.pth_transcript.specs.Reading.{ComesTo}
use Rattle.pth_transcript.specs.Taking.{HasMore, IsOver}
use Rattle.pth_transcript.specs.declared.ending.Ending.{Ending}
use Rattle.pth_explaining.proofs.run.explain_reader.Goals as goal

pub returns-in_err-expect_end-clause-made : goal.returns-in_err-expect_end-clause-made
returns-in_err-expect_end-clause-made g c =
    not_made (λ (marks : List Mark) (e : Ending) (t : List ℕ). t ≡ explanation marks e)
    (of_read c.args.reader.now.of_file (g.S.Source.left c.args.input.now) (g.F.Files.left c.args.files.now))
    _ _ c.from_residual-in_err-expect_end.ensures.1 (stops_behind _ _ _ _ _ _ c.in_err-expect_end.field-0.0 c.in_ok-transcript.ensures.taken
    (of_same _ _ c.in_ok-transcript.ensures.same (λ a b. ComesTo c.take_lines.new.reader.lines (HasMore a b) c.in_err-expect_end.field-0.0) _ _ _ _ _ _ c.in_err-expect_end.ensures.fault))

pub returns-in-Ok-clause-made : goal.returns-in-Ok-clause-made
returns-in-Ok-clause-made g c =
    made _ _ _ _ _ (λ (marks : List Mark) (e : Ending) (t : List ℕ). t ≡ explanation marks e) _ c.in-Ok.text
    c.in_ok-transcript.ensures.taken (of_same _ _ c.in_ok-transcript.ensures.same IsOver _ _ _ _ _ _ c.in_ok-expect_end.ensures.over)
    c.in-Ok.ensures
