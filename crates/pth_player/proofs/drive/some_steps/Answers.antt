use Rattle.std.proofs.Common.{◌-◌, arith}
use Rattle.pth_player.proofs.Strides.{strides_joined, still_some, few_before}
use Rattle.pth_player.proofs.drive.some_steps.Goals as goal

pub strides-init : goal.strides-init
strides-init g c = record {
  within = (let most = c.min-asked.ensures in omega arith);
  some = λ one. (let most = c.min-asked.ensures in omega arith);
  goes_on = c.advance-outcome.ensures.goes_on;
  few_marks = λ long. (let most = c.min-asked.ensures in absurd (omega (arith, long)));
  running = λ on. (c.advance-outcome.ensures.running.0 on).0;
  outcome = c.advance-outcome.ensures.outcome;
}

pub overflow_sub-n : goal.overflow_sub-n
overflow_sub-n g c = c.strides.invariant.within

pub returns-then-is_over-clause-within : goal.returns-then-is_over-clause-within
returns-then-is_over-clause-within g c = c.strides.invariant.within

pub returns-then-is_over-clause-some : goal.returns-then-is_over-clause-some
returns-then-is_over-clause-some g c = c.strides.invariant.some

pub returns-then-is_over-clause-goes_on : goal.returns-then-is_over-clause-goes_on
returns-then-is_over-clause-goes_on g c = c.strides.invariant.goes_on

pub returns-then-is_over-clause-few_marks : goal.returns-then-is_over-clause-few_marks
returns-then-is_over-clause-few_marks g c = c.strides.invariant.few_marks

pub returns-then-is_over-clause-running : goal.returns-then-is_over-clause-running
returns-then-is_over-clause-running g c = c.strides.invariant.running

pub returns-then-is_over-clause-outcome : goal.returns-then-is_over-clause-outcome
returns-then-is_over-clause-outcome g c = c.strides.invariant.outcome

pub advance-outcome-requires-in-strides : goal.advance-outcome-requires-in-strides
advance-outcome-requires-in-strides g c = record {
  few = (
      let made = c.strides.invariant.running (c.is_over.ensures.going c.if-is_over.false) in
      let within = c.strides.invariant.within in
      let more = c.min-more.ensures in
      let few = c.requires.few in
      omega arith);
}

pub strides-smaller : goal.strides-smaller
strides-smaller g c =
    let some = still_some (c.args.n - c.strides.asked) c.is_over.result c.is_over.ensures.last c.if-is_over.false in
    let more = c.min-more.ensures in
    omega arith

pub strides-preserved : goal.strides-preserved
strides-preserved g c =
    let going = c.is_over.ensures.going c.if-is_over.false in
    let made = c.strides.invariant.running going in
    record {
      within = (
          let within = c.strides.invariant.within in
          let more = c.min-more.ensures in
          omega arith);
      some = λ one. (let some = c.strides.invariant.some one in omega arith);
      goes_on = λ lasts. strides_joined g.P.Program.functions c.args.machine.now c.strides.machine c.advance-outcome-in-strides.new.self c.strides.asked c.min-more.result _ _ _
          (c.strides.invariant.goes_on (λ e. cc)) made (c.advance-outcome-in-strides.ensures.goes_on lasts);
      few_marks = λ long given i stands.
          few_before g.P.Program.functions given c.args.machine.now.turn.steps c.strides.asked c.min-more.result i c.strides.machine c.args.marks.now c.strides.marks _
          (let most = c.min-more.ensures in omega arith) (c.strides.invariant.goes_on (λ e. cc) given i stands) c.as_slice.ensures c.if-as_slice-ge-MOST_MARKS.false;
      running = λ on. (let now = (c.advance-outcome-in-strides.ensures.running.0 on).0 in omega arith);
      outcome = c.advance-outcome-in-strides.ensures.outcome;
    }
