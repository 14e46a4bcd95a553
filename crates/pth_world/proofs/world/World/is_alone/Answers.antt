use Rattle.std.proofs.Common.{◌≡◌, ◌∙◌, sym}
use Rattle.pth_world.proofs.QueueReads.{only_two, only_three, and_true, and_false, alone_true, alone_false}
use Rattle.pth_world.proofs.world.World.is_alone.Goals.{then-is_only, else-is_only, then-is_only-2, else-is_only-2}
use Rattle.pth_world.proofs.world.World.is_alone.Goals as goal

pub returns-then-is_only-3 : goal.returns-then-is_only-3
returns-then-is_only-3 g c k sh =
    let two : c.if-is_only.value ≡ only_two k c.args.t.0 = elim c.if-is_only.branch [
      | then-is_only w ↦ and_true _ _ _ (sym (c.is_only.ensures k sh) ∙ w.if-is_only.true) (w.value-is ∙ w.is_only-then-is_only.ensures k sh)
      | else-is_only w ↦ and_false _ _ _ (sym (c.is_only.ensures k sh) ∙ w.if-is_only.false) (w.value-is ∙ w.if-is_only.false)
    ] in
    let three : c.if-is_only-2.value ≡ only_three k c.args.t.0 = elim c.if-is_only-2.branch [
      | then-is_only-2 w ↦ and_true _ _ _ (sym two ∙ w.if-is_only-2.true) (w.value-is ∙ w.is_only-then-is_only-2.ensures k sh)
      | else-is_only-2 w ↦ and_false _ _ _ (sym two ∙ w.if-is_only-2.false) (w.value-is ∙ w.if-is_only-2.false)
    ] in
    alone_true k c.args.t.0 _ (sym three ∙ c.if-is_only-3.true) (c.is_only-then-is_only-3.ensures k sh)

pub returns-else-is_only-3 : goal.returns-else-is_only-3
returns-else-is_only-3 g c k sh =
    let two : c.if-is_only.value ≡ only_two k c.args.t.0 = elim c.if-is_only.branch [
      | then-is_only w ↦ and_true _ _ _ (sym (c.is_only.ensures k sh) ∙ w.if-is_only.true) (w.value-is ∙ w.is_only-then-is_only.ensures k sh)
      | else-is_only w ↦ and_false _ _ _ (sym (c.is_only.ensures k sh) ∙ w.if-is_only.false) (w.value-is ∙ w.if-is_only.false)
    ] in
    let three : c.if-is_only-2.value ≡ only_three k c.args.t.0 = elim c.if-is_only-2.branch [
      | then-is_only-2 w ↦ and_true _ _ _ (sym two ∙ w.if-is_only-2.true) (w.value-is ∙ w.is_only-then-is_only-2.ensures k sh)
      | else-is_only-2 w ↦ and_false _ _ _ (sym two ∙ w.if-is_only-2.false) (w.value-is ∙ w.if-is_only-2.false)
    ] in
    alone_false k c.args.t.0 _ (sym three ∙ c.if-is_only-3.false) c.if-is_only-3.false
