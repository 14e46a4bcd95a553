use Rattle.std.proofs.Common.{◌∙◌, subst, sym}
use Rattle.pth_checker.specs.Session.{ComesTo}
use Rattle.pth_checker.proofs.Heard.{err_is, goes_on_as, heard_of_same, other_then, stood_then}
use Rattle.pth_filter.specs.Objects.{of_read}
use Rattle.pth_checker.proofs.session.Session.judge.Goals as goal

pub returns-in_err-verdict-clause-comes_to : goal.returns-in_err-verdict-clause-comes_to
returns-in_err-verdict-clause-comes_to g c = λ content told heard.
    let more = c.loop-verdict.invariant.heard content told heard in
    subst (ComesTo content) (sym (err_is c.from_residual.result c.in_err-verdict.field-0.0 c.from_residual.ensures.0 c.from_residual.ensures.1))
    (c.in_err-verdict.ensures.goes_on content more.0 (heard_of_same content _ _ c.loop-verdict.self more.0 _ _ c.loop-verdict.invariant.of_file more.1))

pub returns-in-Some-clause-comes_to : goal.returns-in-Some-clause-comes_to
returns-in-Some-clause-comes_to g c = λ content told heard.
    let more = c.loop-verdict.invariant.heard content told heard in
    goes_on_as content (of_read c.loop-verdict.self.reader.of_file (g.S.Source.left c.step.new.input) (g.F.Files.left c.step.new.files)) c.step.new.self _ _ c.in-Some.is
    (c.in_ok-verdict.ensures.goes_on content more.0 (heard_of_same content _ _ c.loop-verdict.self more.0 _ _ c.loop-verdict.invariant.of_file more.1))

pub loop-verdict-preserved : goal.loop-verdict-preserved
loop-verdict-preserved g c = record {
  heard = λ content told heard.
      let more = c.loop-verdict.invariant.heard content told heard in
      let next = goes_on_as content (of_read c.loop-verdict.self.reader.of_file (g.S.Source.left c.step.new.input) (g.F.Files.left c.step.new.files)) c.step.new.self _ _ c.in_default.is
      (c.in_ok-verdict.ensures.goes_on content more.0 (heard_of_same content _ _ c.loop-verdict.self more.0 _ _ c.loop-verdict.invariant.of_file more.1)) in
      (next.0, heard_of_same content _ _ c.step.new.self next.0 _ _ (sym c.loop-verdict.invariant.of_file) next.1);
  of_file = (c.in_ok-verdict.ensures.steps c.in_default.is).of_file ∙ c.loop-verdict.invariant.of_file;
  judged = (c.in_ok-verdict.ensures.steps c.in_default.is).judged;
  started = (c.in_ok-verdict.ensures.steps c.in_default.is).started;
  stood = stood_then _ _ _ _ _ _ _ c.loop-verdict.invariant.of_file c.loop-verdict.invariant.stood c.in_ok-verdict.ensures.counts;
  other = other_then _ _ _ _ _ _ _ _ c.loop-verdict.invariant.of_file c.loop-verdict.invariant.other c.in_ok-verdict.ensures.other;
}
