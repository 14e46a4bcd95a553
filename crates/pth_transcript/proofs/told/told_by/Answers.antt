use Rattle.std.proofs.Common.{◌∙◌, ◌-◌, length, take, drop, true, false, codes, sym, ap, subst}
use Rattle.std.specs.Prelude.{IfSome, option_map}
use Rattle.pth_spelling.specs.Texts.{texts}
use Rattle.pth_transcript.specs.MarkMeanings.{told_plain}
use Rattle.pth_transcript.specs.ReadableMarks.{IsReadableMark, IsReadableTold, IsToldBack, IsThreadMarkBack}
use Rattle.pth_transcript.proofs.LinesBack.{begun}
use Rattle.pth_transcript.proofs.ReadMarks.{unaudited_readable, turn_readable, woken_readable, moved_readable}
use Rattle.pth_transcript.proofs.ToldBack.{first_test, turn_told, wake_told, idle_told, thread_told}
use Rattle.pth_transcript.proofs.told.told_by.Goals as goal

pub returns-then-eq-clause-back : goal.returns-then-eq-clause-back
returns-then-eq-clause-back c =
    subst (λ ws. IsToldBack ws c.turn.result) (sym (begun c.args.words.now _ c.in-len1-up.len_at_least))
    (turn_told _ _ c.turn.result (first_test _ _ (codes "turn") _ true c.eq.ensures c.as_slice.ensures c.if-eq.true) c.turn.ensures)

pub returns-then-eq-2-clause-back : goal.returns-then-eq-2-clause-back
returns-then-eq-2-clause-back c =
    subst (λ ws. IsToldBack ws c.unaudited.result) (sym (begun c.args.words.now _ c.in-len1-up.len_at_least))
    (wake_told _ _ c.unaudited.result (first_test _ _ (codes "turn") _ false c.eq.ensures c.as_slice.ensures c.if-eq.false)
    (first_test _ _ (codes "wake") _ true c.eq-2.ensures c.as_slice-2.ensures c.if-eq-2.true)
    (c.unaudited.ensures ∙ ap (option_map told_plain) c.woke.ensures))

pub returns-then-eq-3-clause-back : goal.returns-then-eq-3-clause-back
returns-then-eq-3-clause-back c =
    subst (λ ws. IsToldBack ws c.unaudited-then-eq-3.result) (sym (begun c.args.words.now _ c.in-len1-up.len_at_least))
    (idle_told _ _ c.unaudited-then-eq-3.result (first_test _ _ (codes "turn") _ false c.eq.ensures c.as_slice.ensures c.if-eq.false)
    (first_test _ _ (codes "wake") _ false c.eq-2.ensures c.as_slice-2.ensures c.if-eq-2.false)
    (first_test _ _ (codes "idle") _ true c.eq-3.ensures c.as_slice-3.ensures c.if-eq-3.true)
    (c.unaudited-then-eq-3.ensures ∙ ap (option_map told_plain) c.moved.ensures))

pub returns-clause-back : goal.returns-clause-back
returns-clause-back c =
    subst (λ ws. IsToldBack ws c.unaudited-2.result) (sym (begun c.args.words.now _ c.in-len1-up.len_at_least))
    (thread_told _ _ c.in_ok-thread_mark.field-0 c.unaudited-2.result
    (first_test _ _ (codes "turn") _ false c.eq.ensures c.as_slice.ensures c.if-eq.false)
    (first_test _ _ (codes "wake") _ false c.eq-2.ensures c.as_slice-2.ensures c.if-eq-2.false)
    (first_test _ _ (codes "idle") _ false c.eq-3.ensures c.as_slice-3.ensures c.if-eq-3.false)
    (subst (λ ws. IsThreadMarkBack ws c.in_ok-thread_mark.field-0) (begun c.args.words.now _ c.in-len1-up.len_at_least) c.in_ok-thread_mark.ensures.back)
    c.unaudited-2.ensures)

pub returns-then-eq-clause-readable : goal.returns-then-eq-clause-readable
returns-then-eq-clause-readable c = subst (λ r. IfSome r IsReadableTold) (sym c.turn.ensures) (turn_readable (texts (take (length c.args.words.now - 1) (drop 1 c.args.words.now))))

pub returns-then-eq-2-clause-readable : goal.returns-then-eq-2-clause-readable
returns-then-eq-2-clause-readable c =
    subst (λ r. IfSome r IsReadableTold) (sym c.unaudited.ensures)
    (unaudited_readable c.woke.result (subst (λ r. IfSome r (IsReadableMark false)) (sym c.woke.ensures) (woken_readable (texts (take (length c.args.words.now - 1) (drop 1 c.args.words.now))))))

pub returns-then-eq-3-clause-readable : goal.returns-then-eq-3-clause-readable
returns-then-eq-3-clause-readable c =
    subst (λ r. IfSome r IsReadableTold) (sym c.unaudited-then-eq-3.ensures)
    (unaudited_readable c.moved.result (subst (λ r. IfSome r (IsReadableMark false)) (sym c.moved.ensures) (moved_readable (texts (take (length c.args.words.now - 1) (drop 1 c.args.words.now))))))

pub returns-clause-readable : goal.returns-clause-readable
returns-clause-readable c =
    subst (λ r. IfSome r IsReadableTold) (sym c.unaudited-2.ensures) (unaudited_readable c.in_ok-thread_mark.field-0 c.in_ok-thread_mark.ensures.readable)
