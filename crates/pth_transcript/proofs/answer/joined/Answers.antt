use Rattle.std.proofs.Common.{◌<◌, ◌∙◌, All, ap, subst, sym, Some}
use Rattle.std.proofs.lemmas.List.Elements.{All-nil}
use Rattle.pth_transcript.proofs.Pieces.{all_left, piece_taken, not_refused, piece_small, piece_added, all_read}
use Rattle.pth_transcript.proofs.answer.joined.Goals as goal

pub loop-piece-init : goal.loop-piece-init
loop-piece-init c = record {
  size = (cc);
  small = subst (All (λ b. b < 256)) (sym c.new-bytes.ensures.items) (All-nil (λ b. b < 256));
  left = all_left c.args.digits.now _ _ c.new-bytes.ensures.items (cc);
}

pub returns-in_default-clause-back : goal.returns-in_default-clause-back
returns-in_default-clause-back c = λ bs low e.
    let left = c.loop-piece.invariant.left bs low e in
    let step = c.in-Some.ensures.steps.1 in
    let taken = piece_taken bs _ _ _ _ _ left c.loop-piece.invariant.size step.0 step.1 step.2 in
    absurd (not_refused bs _ _ _ _ taken c.in_ok-more.ensures c.in_default.is)

pub loop-piece-preserved : goal.loop-piece-preserved
loop-piece-preserved c =
    let step = c.in-Some.ensures.steps.1 in
    let found = ap (λ x. Some x) c.as_slice.ensures ∙ sym c.in-Some-2.is ∙ c.in_ok-more.ensures in
    record {
      size = c.in-Some.ensures.steps.0 ∙ c.loop-piece.invariant.size;
      small = piece_small _ _ _ _ found c.in_ok-extend_from_slice.ensures.items c.loop-piece.invariant.small;
      left = λ bs low e.
          let left = c.loop-piece.invariant.left bs low e in
          let taken = piece_taken bs _ _ _ _ _ left c.loop-piece.invariant.size step.0 step.1 step.2 in
          piece_added bs _ _ _ _ _ taken found c.in_ok-extend_from_slice.ensures.items;
    }

pub returns-clause-readable : goal.returns-clause-readable
returns-clause-readable c =
    subst (All (λ b. b < 256)) (sym (c.in_ok-from_slice.ensures ∙ c.as_slice-2.ensures.value)) c.loop-piece.invariant.small

pub returns-clause-back : goal.returns-clause-back
returns-clause-back c = λ bs low e.
    let left = c.loop-piece.invariant.left bs low e in
    ap (λ x. Some x) (c.in_ok-from_slice.ensures ∙ c.as_slice-2.ensures.value ∙ all_read bs _ _ left c.in-None.ensures.steps.1.0)
