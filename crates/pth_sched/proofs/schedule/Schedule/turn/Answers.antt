use Rattle.std.proofs.Common.{◌≡◌, None, Some, sym, rules, arith}
use Rattle.std.proofs.lemmas.Result.{err_from_is_err_and, on_ok_weaker, on_err_weaker}
use Rattle.pth_sched.proofs.Following.{made_less}
use Rattle.pth_sched.proofs.Keeping.{on_ok_three, stop_rests}
use Rattle.pth_sched.proofs.Turning.{turn-none, turn-more, turn-stop, turn-cut, turn-close, close-cut}
use Rattle.pth_sched.proofs.schedule.Schedule.turn.Goals as goal

pub loop-self-init : goal.loop-self-init
loop-self-init g c = record {
  turns = λ x i st. turn-none _ x _ i _ _ st;
  keeps = c.requires.keeps;
  within = c.requires.more;
}

pub loop-self-preserved : goal.loop-self-preserved
loop-self-preserved g c =
    let before = c.loop-self.invariant in
    let on = sym c.loop-self-test.ensures.stops in
    let open_yet : c.loop-self.self.turn.gave ≡ None = search rules in
    record {
      turns = λ x i st. turn-more _ x _ i _ _ _ (before.turns x i st) on _ _ open_yet c.in_ok-part.ensures.ok;
      keeps = record { going = c.in_ok-part.ensures.going; ranks = c.in_ok-part.ensures.ranks };
      within = c.in_ok-part.ensures.within c.args.to on before.within;
    }

pub returns-clause-goes_on : goal.returns-clause-goes_on
returns-clause-goes_on g c = λ x i st. turn-stop _ x _ i _ _ _ (c.loop-self.invariant.turns x i st) (sym c.loop-self-test.ensures.stops)

pub returns-in_err-part-clause-breaks_off : goal.returns-in_err-part-clause-breaks_off
returns-in_err-part-clause-breaks_off g c =
    let p = err_from_is_err_and c.from_residual.result c.from_residual.ensures.1 in
    rw p.1 (λ x i st. turn-cut _ x _ i _ _ _ (c.loop-self.invariant.turns x i st) (sym c.loop-self-test.ensures.stops) _ c.in_err-part.ensures.err)

pub returns-in-Some-clause-goes_on : goal.returns-in-Some-clause-goes_on
returns-in-Some-clause-goes_on g c =
    let over : c.loop-self.self.turn.gave ≡ Some c.in-Some.t.0 = search rules in
    on_ok_weaker c.close.result (λ makes x i st. turn-close _ x _ i _ _ _ (c.loop-self.invariant.turns x i st) (sym c.loop-self-test.ensures.stops) _ over _ _ makes) c.close.ensures.ok

pub returns-in-Some-clause-breaks_off : goal.returns-in-Some-clause-breaks_off
returns-in-Some-clause-breaks_off g c =
    let over : c.loop-self.self.turn.gave ≡ Some c.in-Some.t.0 = search rules in
    on_err_weaker c.close.result (λ cuts x i st. close-cut _ x _ i _ _ _ (c.loop-self.invariant.turns x i st) (sym c.loop-self-test.ensures.stops) _ over _ cuts) c.close.ensures.err

pub loop-self-smaller : goal.loop-self-smaller
loop-self-smaller g c = made_less g.P.Program.functions _ _ c.loop-self.invariant.keeps.going.whole.sound c.in_ok-part.ensures.stands c.args.to (sym c.loop-self-test.ensures.stops)

pub returns-clause-rests : goal.returns-clause-rests
returns-clause-rests g c = stop_rests c.args.to _ (sym c.loop-self-test.ensures.stops) c.loop-self.invariant.keeps c.loop-self.invariant.within c.requires.few

pub returns-in-Some-clause-rests : goal.returns-in-Some-clause-rests
returns-in-Some-clause-rests g c =
    let within = c.loop-self.invariant.within in
    let most = c.requires.few in
    let steps = c.close.ensures.steps in
    on_ok_three c.close.result c.close.ensures.going c.close.ensures.ranks c.close.ensures.gave (λ going ranks gave. record { keeps = record { going = going; ranks = ranks }; few = omega arith; closed = λ goes nobody. gave })
