use Rattle.std.proofs.Common.{◌≡◌, ◌+◌, List, [], ◌∷◌, ◌++◌, length, arith}
use Rattle.pth_line.specs.declared.line.Line.{Line}
use Rattle.pth_script.proofs.BodyLabels.{indexed_push}
use Rattle.pth_script.proofs.body.Body.push.Goals as goal

pub invariant_of-self-2 : goal.invariant_of-self-2
invariant_of-self-2 c =
    let lines : List Line = c.self.inside.lines.items in
    let after : c.len.result + 1 ≡ length lines + 1 = omega (arith, c.self.inside.lines.ok.0) in
    let marked = rw after at c.in_ok-mark.ensures.ok in
    let pushed : c.push.new.self.items ≡ lines ++ c.args.line ∷ [] = rw (c.unwrap.ensures, c.reserve.ensures.items) at c.push.ensures.items in
    rw pushed (indexed_push lines c.args.line c.self.inside.places c.mark.new.places c.self.invariant (rw (← c.self.view_is) at c.requires) marked)
