use Rattle.std.proofs.Common.{ℕ, Ok, Err, Some, subst, sym}
use Rattle.pth_checker.proofs.Heard.{err_is}
use Rattle.pth_checker.proofs.Running.{none, told, unjudged, untold}
use Rattle.pth_checker.specs.Check.{check}
use Rattle.pth_checker.specs.Words.{name_of}
use Rattle.pth_filter.specs.Answers.{Ran}
use Rattle.pth_print.specs.declared.fault_line.Fault.{Fault}
use Rattle.pth_streams.specs.Inputs.{inputs}
use Rattle.pth_streams.specs.Pieces.{received}
use Rattle.pth_streams.specs.Scene.{scene}
use Rattle.pth_checker.proofs.run.run_for.Goals as goal

pub returns-in_err-verdict-clause-ran : goal.returns-in_err-verdict-clause-ran
returns-in_err-verdict-clause-ran g c =
    let ins = inputs (g.S.Source.left c.args.input.now) (g.S.Source.faults c.args.input.now) (g.F.Files.left c.args.files.now) (g.F.Files.held c.args.files.now) (g.F.Files.faults c.args.files.now) in
    let later = inputs (g.S.Source.left c.judged.new.input) (g.S.Source.faults c.judged.new.input) (g.F.Files.left c.judged.new.files) (g.F.Files.held c.judged.new.files) (g.F.Files.faults c.judged.new.files) in
    let out = received (g.O.Sink.written c.args.out.now) (g.O.Sink.faults c.args.out.now) in
    subst (Ran check (Some (name_of c.args.name)) (scene ins out) (scene later out))
    (sym (err_is c.from_residual.result c.in_err-verdict.field-0.0 c.from_residual.ensures.0 c.from_residual.ensures.1))
    (unjudged (name_of c.args.name) ins later out out c.in_err-verdict.field-0.0 c.in_err-verdict.ensures.comes_to c.in_err-verdict.ensures.counts (none out))

pub returns-in-Ok-clause-ran : goal.returns-in-Ok-clause-ran
returns-in-Ok-clause-ran g c =
    let ins = inputs (g.S.Source.left c.args.input.now) (g.S.Source.faults c.args.input.now) (g.F.Files.left c.args.files.now) (g.F.Files.held c.args.files.now) (g.F.Files.faults c.args.files.now) in
    let later = inputs (g.S.Source.left c.judged.new.input) (g.S.Source.faults c.judged.new.input) (g.F.Files.left c.judged.new.files) (g.F.Files.held c.judged.new.files) (g.F.Files.faults c.judged.new.files) in
    let out = received (g.O.Sink.written c.args.out.now) (g.O.Sink.faults c.args.out.now) in
    let after = received (g.O.Sink.written c.write_verdict.new.out) (g.O.Sink.faults c.write_verdict.new.out) in
    subst (λ (n : ℕ). Ran check (Some (name_of c.args.name)) (scene ins out) (scene later after) (Ok n)) (sym c.status.ensures)
    (told (name_of c.args.name) ins later out after c.in_ok-verdict.verdict c.in_ok-verdict.ensures.comes_to c.in_ok-verdict.ensures.counts c.in-Ok.ensures)

pub returns-in-Err-clause-ran : goal.returns-in-Err-clause-ran
returns-in-Err-clause-ran g c =
    let ins = inputs (g.S.Source.left c.args.input.now) (g.S.Source.faults c.args.input.now) (g.F.Files.left c.args.files.now) (g.F.Files.held c.args.files.now) (g.F.Files.faults c.args.files.now) in
    let later = inputs (g.S.Source.left c.judged.new.input) (g.S.Source.faults c.judged.new.input) (g.F.Files.left c.judged.new.files) (g.F.Files.held c.judged.new.files) (g.F.Files.faults c.judged.new.files) in
    let out = received (g.O.Sink.written c.args.out.now) (g.O.Sink.faults c.args.out.now) in
    let after = received (g.O.Sink.written c.write_verdict.new.out) (g.O.Sink.faults c.write_verdict.new.out) in
    subst (λ (f : Fault). Ran check (Some (name_of c.args.name)) (scene ins out) (scene later after) (Err f)) (sym c.fault_of_write.ensures)
    (untold (name_of c.args.name) ins later out after c.in_ok-verdict.verdict c.in_ok-verdict.ensures.comes_to c.in_ok-verdict.ensures.counts c.in-Err.e c.in-Err.ensures)
