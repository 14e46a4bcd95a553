use Rattle.std.proofs.Common.{arith, subst, sym}
use Rattle.std.proofs.lemmas.List.{length-map}
use Rattle.pth_transcript.specs.Transcript.{marks_of}
use Rattle.pth_transcript.specs.declared.told.Told.{Told}
use Rattle.pth_drawing.proofs.Columns.{chart_within}
use Rattle.pth_drawing.specs.Bounds.{IsWithinColumns}
use Rattle.pth_drawing.specs.Ends.{end_of}
use Rattle.pth_drawing.proofs.run.read_picture.Goals as goal

pub add_picture-requires : goal.add_picture-requires
add_picture-requires g c =
    let made = c.in_ok-chart.ensures.made in
    subst IsWithinColumns (sym made.made) (chart_within c.args.choice.now.from c.args.choice.now.turns (end_of made.ending) (marks_of made.told) c.requires.few
    (omega (arith, made.transcript.few, length-map made.told (λ (t : Told). t.mark))))
