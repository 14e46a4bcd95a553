use Rattle.std.proofs.Common.{◌≡◌, ◌∙◌, List, ap}
use Rattle.pth_base.specs.declared.mark.Mark.{Mark}
use Rattle.pth_filter.specs.Objects.{of_read}
use Rattle.pth_drawing.proofs.Along.{made, stops_behind}
use Rattle.pth_drawing.proofs.Objects.{of_same}
use Rattle.pth_transcript.specs.Reading.{ComesTo}
use Rattle.pth_transcript.specs.Taking.{HasMore, IsOver}
use Rattle.pth_drawing.proofs.Results.{not_made}
use Rattle.pth_drawing.specs.Charts.{chart_seen}
use Rattle.pth_drawing.specs.Drawing.{chart}
use Rattle.pth_drawing.specs.Ends.{end_of}
use Rattle.pth_drawing.specs.declared.chart.End.{End}
use Rattle.pth_transcript.specs.declared.ending.Ending.{Ending}
use Rattle.pth_drawing.specs.declared.chart.Chart.{Chart}
use Rattle.pth_drawing.proofs.run.chart_of.Goals as goal

pub returns-in_err-expect_end-clause-made : goal.returns-in_err-expect_end-clause-made
returns-in_err-expect_end-clause-made g c =
    not_made (λ (marks : List Mark) (e : Ending) (x : Chart). chart_seen x ≡ chart c.args.choice.now.from c.args.choice.now.turns (end_of e) marks)
    (of_read c.args.reader.now.of_file (g.S.Source.left c.args.input.now) (g.F.Files.left c.args.files.now))
    _ _ c.from_residual-in_err-expect_end.ensures.1 (stops_behind _ _ _ _ _ _ _ _ c.in_err-expect_end.field-0.0 c.in_ok-drawing.ensures.drawn
    (of_same _ _ c.in_ok-drawing.ensures.same (λ a b. ComesTo c.draw_marks.new.reader.lines (HasMore a b) c.in_err-expect_end.field-0.0) _ _ _ _ _ _ c.in_err-expect_end.ensures.fault))

pub returns-in-Ok-clause-made : goal.returns-in-Ok-clause-made
returns-in-Ok-clause-made g c =
    made _ _ _ _ _ _ _ _ (λ (marks : List Mark) (e : Ending) (x : Chart). chart_seen x ≡ chart c.args.choice.now.from c.args.choice.now.turns (end_of e) marks) c.in-Ok.chart
    c.in_ok-drawing.ensures.drawn (of_same _ _ c.in_ok-drawing.ensures.same IsOver _ _ _ _ _ _ c.in_ok-expect_end.ensures.over)
    (λ marks e draws is. c.in-Ok.ensures _ marks draws ∙ ap (λ (l : End). chart c.args.choice.now.from c.args.choice.now.turns l marks) is)
