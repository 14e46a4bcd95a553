use Rattle.std.proofs.lemmas.Result.{IfOk-weaker}
use Rattle.pth_drawing.proofs.Charted.{charted}
use Rattle.pth_drawing.proofs.drawing.Drawing.chart.Goals as goal

pub returns : goal.returns
returns c = IfOk-weaker c.into_chart.result _ _ (λ x is turns marks f. charted c.args.self c.args.from turns c.args.end marks f x is) c.into_chart.ensures
