use Rattle.std.proofs.Common.{◌∙◌, Err, refl}
use Rattle.pth_streams.specs.declared.sink.SinkErr.TheVariants as sink
use Rattle.pth_player.proofs.Driving.{at_end, begins, cut_by_memory, cut_in_end, cut_in_lines, finished, not_more, onward, piece, still_left}
use Rattle.pth_player.proofs.drive.drive.Goals as goal

pub pieces-init : goal.pieces-init
pieces-init g c = record { way = λ given i stands. begins _ _ _ _ _ _ stands; stood = refl; made = refl }

pub returns-in-OutOfMemory : goal.returns-in-OutOfMemory
returns-in-OutOfMemory g c = record {
  written = λ given i stands.
      cut_by_memory _ _ _ _ _ _ _ _ (g.O.Sink.faults c.args.out.now) (g.O.Sink.faults c.pieces.out) (Err sink.OutOfMemory) (c.pieces.invariant.way given i stands) c.pieces.invariant.stood refl refl;
}

pub returns-in_err-write_marks : goal.returns-in_err-write_marks
returns-in_err-write_marks g c = record {
  written = λ given i stands.
      let few = not_more _ _ _ _ c.some_steps-outcome.ensures.within c.min.ensures in
      let u = c.pieces.invariant.way given i stands in
      let go = c.some_steps-outcome.ensures.goes_on c.in_default.not-OutOfMemory given u.at u.stands in
      let s = piece _ _ _ _ c.pieces.machine _ _ c.args.machine.now _ _ _ _ _ _ stands c.pieces.invariant.made few c.clear.ensures c.as_slice.ensures u go in
      cut_in_lines _ _ _ _ _ _ _ _ _ _ _ _ _ _ s.0 c.pieces.invariant.stood c.in_err-write_marks.ensures c.from_residual.ensures.0 c.from_residual.ensures.1;
}

pub returns-in_err-write_ending : goal.returns-in_err-write_ending
returns-in_err-write_ending g c = record {
  written = λ given i stands.
      let few = not_more _ _ _ _ c.some_steps-outcome.ensures.within c.min.ensures in
      let u = c.pieces.invariant.way given i stands in
      let go = c.some_steps-outcome.ensures.goes_on c.in_default.not-OutOfMemory given u.at u.stands in
      let s = onward _ _ _ _ c.pieces.machine _ _ c.args.machine.now _ _ _ _ _ _ _ stands c.pieces.invariant.made few c.clear.ensures c.as_slice.ensures u go c.in_ok-write_marks.ensures.0 in
      let last = at_end _ _ _ _ _ _ _ _ _ _ _ _ _ stands c.pieces.invariant.made few c.some_steps-outcome.ensures.outcome (c.is_over.ensures.over c.if-is_over.true) s in
      let stood = c.in_ok-write_marks.ensures.1 ∙ c.pieces.invariant.stood in
      cut_in_end _ _ _ _ _ _ _ _ _ _ _ _ _ last c.some_steps-outcome.ensures.outcome c.write_ending.ensures _ _ stood c.in_err-write_ending.was c.from_residual-in_err-write_ending.ensures.0 c.from_residual-in_err-write_ending.ensures.1;
}

pub returns-then-is_over : goal.returns-then-is_over
returns-then-is_over g c = record {
  written = λ given i stands.
      let few = not_more _ _ _ _ c.some_steps-outcome.ensures.within c.min.ensures in
      let u = c.pieces.invariant.way given i stands in
      let go = c.some_steps-outcome.ensures.goes_on c.in_default.not-OutOfMemory given u.at u.stands in
      let s = onward _ _ _ _ c.pieces.machine _ _ c.args.machine.now _ _ _ _ _ _ _ stands c.pieces.invariant.made few c.clear.ensures c.as_slice.ensures u go c.in_ok-write_marks.ensures.0 in
      let last = at_end _ _ _ _ _ _ _ _ _ _ _ _ _ stands c.pieces.invariant.made few c.some_steps-outcome.ensures.outcome (c.is_over.ensures.over c.if-is_over.true) s in
      finished _ _ _ _ _ _ _ _ (g.O.Sink.faults c.args.out.now) _ _ _ _ last c.some_steps-outcome.ensures.outcome c.write_ending.ensures _ (c.in_ok-write_marks.ensures.1 ∙ c.pieces.invariant.stood) c.in_ok-write_ending.was;
}

pub pieces-preserved : goal.pieces-preserved
pieces-preserved g c = record {
  way = λ given i stands.
      let few = not_more _ _ _ _ c.some_steps-outcome.ensures.within c.min.ensures in
      let u = c.pieces.invariant.way given i stands in
      let go = c.some_steps-outcome.ensures.goes_on c.in_default.not-OutOfMemory given u.at u.stands in
      let s = onward _ _ _ _ c.pieces.machine _ _ c.args.machine.now _ _ _ _ _ _ _ stands c.pieces.invariant.made few c.clear.ensures c.as_slice.ensures u go c.in_ok-write_marks.ensures.0 in
      s.0;
  stood = c.in_ok-write_marks.ensures.1 ∙ c.pieces.invariant.stood;
  made = (
      let few = not_more _ _ _ _ c.some_steps-outcome.ensures.within c.min.ensures in
      still_left _ _ _ _ _ (c.some_steps-outcome.ensures.running (c.is_over.ensures.going c.if-is_over.false)) c.pieces.invariant.made few);
}
