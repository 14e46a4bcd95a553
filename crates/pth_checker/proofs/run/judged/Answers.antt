use Rattle.std.proofs.Common.{[], None, subst, sym}
use Rattle.pth_checker.proofs.Heard.{err_is}
use Rattle.pth_checker.proofs.Judging.{judged_none}
use Rattle.pth_checker.proofs.Opened.{heard_whole}
use Rattle.pth_checker.specs.Words.{name_of}
use Rattle.pth_streams.specs.Inputs.{inputs}
use Rattle.pth_transcript.specs.Reading.{CountsFault}
use Rattle.pth_filter.specs.Objects.{content_under}
use Rattle.pth_checker.proofs.run.judged.Goals as goal

pub returns-in_err-session-clause-counts : goal.returns-in_err-session-clause-counts
returns-in_err-session-clause-counts g c =
    subst (CountsFault _ _) (sym (err_is c.from_residual.result c.in_err-session.field-0.0 c.from_residual.ensures.0 c.from_residual.ensures.1))
    (c.in_err-session.ensures.counts (g.S.Source.faults c.args.input.now))

pub returns-clause-comes_to : goal.returns-clause-comes_to
returns-clause-comes_to g c =
    let name = name_of c.args.name in
    let ins = inputs (g.S.Source.left c.args.input.now) (g.S.Source.faults c.args.input.now) (g.F.Files.left c.args.files.now) (g.F.Files.held c.args.files.now) (g.F.Files.faults c.args.files.now) in
    let content = content_under name ins in
    c.judge.ensures.comes_to content [] (heard_whole name ins c.in_ok-session.session (g.F.Files.left c.open.new.files)
    c.in_ok-session.ensures.whole c.in_ok-session.ensures.of_file (c.in_ok-session.ensures.heard content))

pub judge-requires-clause-judged : goal.judge-requires-clause-judged
judge-requires-clause-judged g c = judged_none c.in_ok-session.session (c.in_ok-session.ensures.heard None)
