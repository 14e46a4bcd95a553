use Rattle.std.proofs.Common.{sym}
use Rattle.std.proofs.lemmas.Result.{err_from_is_err_and}
use Rattle.pth_sched.proofs.Keeping.{stop_rests}
use Rattle.pth_sched.proofs.Following.{made_less, reach-none, reach-more, reach-stop, reach-cut, lives_on}
use Rattle.pth_sched.proofs.schedule.Schedule.advance.Goals as goal

pub loop-self-init : goal.loop-self-init
loop-self-init g c = record {
  reaches = λ x i st. reach-none _ x _ i _ _ st;
  keeps = c.requires.keeps;
  within = c.requires.more;
}

pub loop-self-preserved : goal.loop-self-preserved
loop-self-preserved g c =
    let before = c.loop-self.invariant in
    record {
      reaches = λ x i st. (let r = before.reaches x i st in reach-more _ x _ i _ _ _ _ _ r (sym (c.loop-self-test.ensures.run _ r.stands)) (lives_on c.args.to _ _ r.stands (sym c.loop-self-test.ensures.stops)) c.in_ok-part.ensures.ok);
      keeps = record { going = c.in_ok-part.ensures.going; ranks = c.in_ok-part.ensures.ranks };
      within = c.in_ok-part.ensures.within c.args.to (sym c.loop-self-test.ensures.stops) before.within;
    }

pub returns-clause-goes_on : goal.returns-clause-goes_on
returns-clause-goes_on g c = λ x i st. (let r = c.loop-self.invariant.reaches x i st in reach-stop _ x _ i _ _ _ r (sym (c.loop-self-test.ensures.run _ r.stands)))

pub returns-in_err-part-clause-breaks_off : goal.returns-in_err-part-clause-breaks_off
returns-in_err-part-clause-breaks_off g c =
    let p = err_from_is_err_and c.from_residual.result c.from_residual.ensures.1 in
    rw p.1 (λ x i st. (let r = c.loop-self.invariant.reaches x i st in reach-cut _ x _ i _ _ _ _ r (sym (c.loop-self-test.ensures.run _ r.stands)) (lives_on c.args.to _ _ r.stands (sym c.loop-self-test.ensures.stops)) c.in_err-part.ensures.err))

pub loop-self-smaller : goal.loop-self-smaller
loop-self-smaller g c = made_less g.P.Program.functions _ _ c.loop-self.invariant.keeps.going.whole.sound c.in_ok-part.ensures.stands c.args.to (sym c.loop-self-test.ensures.stops)

pub returns-clause-rests : goal.returns-clause-rests
returns-clause-rests g c = stop_rests c.args.to _ (sym c.loop-self-test.ensures.stops) c.loop-self.invariant.keeps c.loop-self.invariant.within c.requires.few
