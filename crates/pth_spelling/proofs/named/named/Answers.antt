use Rattle.std.proofs.Common.{◌≡◌, ◌∙◌, List, ℕ, subst, sym, true, false}
use Rattle.std.specs.Str.{bytes_eq}
use Rattle.pth_spelling.proofs.Tables.{found, missing, passed}
use Rattle.pth_spelling.proofs.named.named.Goals as goal

pub returns-then-eq : goal.returns-then-eq
returns-then-eq g c =
    let same = subst (λ (text : List ℕ). true ≡ bytes_eq c.args.word.now text) c.as_bytes.ensures.value c.if-eq.ensures in
    sym (c.loop-row.invariant ∙ found c.args.table.now c.args.word.now c.loop-row.row-index c.row-item.result c.loop-row-test.true c.row-item.is same)

pub loop-row-preserved : goal.loop-row-preserved
loop-row-preserved g c =
    let other = subst (λ (text : List ℕ). false ≡ bytes_eq c.args.word.now text) c.as_bytes.ensures.value c.if-eq.ensures in
    c.loop-row.invariant ∙ passed c.args.table.now c.args.word.now c.loop-row.row-index c.row-item.result c.loop-row-test.true c.row-item.is other

pub returns : goal.returns
returns g c = sym (c.loop-row.invariant ∙ missing c.args.table.now c.args.word.now c.loop-row.row-index c.loop-row-test.false)
