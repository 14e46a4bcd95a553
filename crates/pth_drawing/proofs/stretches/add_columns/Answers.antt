use Rattle.std.proofs.Common.{◌≡◌, ◌∙◌, ◌-◌, length, sym, ap, arith}
use Rattle.std.proofs.lemmas.List.{get_or_default}
use Rattle.pth_drawing.specs.Tracks.{leads_to}
use Rattle.pth_drawing.proofs.LastStretch.{lengthened, begun_after, begun_first}
use Rattle.pth_drawing.proofs.stretches.add_columns.Goals as goal
use Rattle.pth_drawing.proofs.stretches.add_columns.Goals.{else-n-gt0-via-then-n-gt0+else-leads_to, else-n-gt0-via-else-n-gt0}

pub returns-then-leads_to : goal.returns-then-leads_to
returns-then-leads_to c =
    let v = c.args.stretches.now in
    let n = c.len-n.result in
    let x = c.index.result.now in
    let y = c.index_mut.result.now in
    let len : n ≡ length v.items = omega (arith, v.ok.0) in
    let same : x ≡ y = c.index.ensures ∙ get_or_default v.items (n - 1) x y (omega arith) ∙ sym c.index_mut.ensures.value in
    lengthened c.args.shown c.args.first c.args.columns v.items n y c.if-n-gt0.true len c.index_mut.ensures.value
    (ap (leads_to c.args.shown c.args.first) (sym same) ∙ sym c.leads_to.ensures ∙ c.if-leads_to.true)

pub returns-in_ok-push : goal.returns-in_ok-push
returns-in_ok-push c =
    let v = c.args.stretches.now in
    let n = c.len-n.result in
    let len : n ≡ length v.items = omega (arith, v.ok.0) in
    c.in_ok-push.ensures.items ∙ elim c.else-n-gt0.branch [
      | else-n-gt0-via-then-n-gt0+else-leads_to w ↦ begun_after c.args.shown c.args.first c.args.columns v.items n w.index.result.now len w.index.ensures w.if-n-gt0.true (sym w.leads_to.ensures ∙ w.if-leads_to.false)
      | else-n-gt0-via-else-n-gt0 w ↦ begun_first c.args.shown c.args.first c.args.columns v.items (omega arith)
    ]
