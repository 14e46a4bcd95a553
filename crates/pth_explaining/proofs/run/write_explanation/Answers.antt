use Rattle.std.proofs.Common.{List, ℕ, Some, Err, subst, sym}
use Rattle.std.specs.Io.KnownBytes.{Appends}
use Rattle.pth_explaining.proofs.Results.{answers_error}
use Rattle.pth_explaining.proofs.Running.{none, unexplained, unfinished, written_whole}
use Rattle.pth_explaining.specs.Why.{why}
use Rattle.pth_explaining.specs.Words.{name_of}
use Rattle.pth_filter.specs.Answers.{Ran}
use Rattle.pth_print.specs.declared.fault_line.Fault.{Fault}
use Rattle.pth_streams.specs.Inputs.{inputs}
use Rattle.pth_streams.specs.Pieces.{AppendsPart, received}
use Rattle.pth_streams.specs.Scene.{scene}
use Rattle.pth_explaining.proofs.run.write_explanation.Goals as goal

pub returns-in_err-text-clause-ran : goal.returns-in_err-text-clause-ran
returns-in_err-text-clause-ran g c =
    let ins = inputs (g.S.Source.left c.args.input.now) (g.S.Source.faults c.args.input.now) (g.F.Files.left c.args.files.now) (g.F.Files.held c.args.files.now) (g.F.Files.faults c.args.files.now) in
    let later = inputs (g.S.Source.left c.explain_named.new.input) (g.S.Source.faults c.explain_named.new.input) (g.F.Files.left c.explain_named.new.files) (g.F.Files.held c.explain_named.new.files) (g.F.Files.faults c.explain_named.new.files) in
    let out = received (g.O.Sink.written c.args.out.now) (g.O.Sink.faults c.args.out.now) in
    answers_error (Ran why (Some (name_of c.args.name)) (scene ins out) (scene later out)) c.from_residual.result c.in_err-text.field-0.0
    c.from_residual.ensures.1
    (unexplained (name_of c.args.name) ins later out out c.in_err-text.field-0.0 c.in_err-text.ensures.made c.in_err-text.ensures.counts (none out))

pub returns-in-Ok-clause-ran : goal.returns-in-Ok-clause-ran
returns-in-Ok-clause-ran g c =
    let ins = inputs (g.S.Source.left c.args.input.now) (g.S.Source.faults c.args.input.now) (g.F.Files.left c.args.files.now) (g.F.Files.held c.args.files.now) (g.F.Files.faults c.args.files.now) in
    let later = inputs (g.S.Source.left c.explain_named.new.input) (g.S.Source.faults c.explain_named.new.input) (g.F.Files.left c.explain_named.new.files) (g.F.Files.held c.explain_named.new.files) (g.F.Files.faults c.explain_named.new.files) in
    let out = received (g.O.Sink.written c.args.out.now) (g.O.Sink.faults c.args.out.now) in
    let after = received (g.O.Sink.written c.write_all.new.out) (g.O.Sink.faults c.write_all.new.out) in
    written_whole (name_of c.args.name) ins later out after c.in_ok-text.text c.in_ok-text.ensures.made c.in_ok-text.ensures.counts
    (subst (λ (t : List ℕ). Appends out.written after.written t) c.as_slice.ensures c.in-Ok.ensures.whole) c.in-Ok.ensures.counts

pub returns-clause-ran : goal.returns-clause-ran
returns-clause-ran g c =
    let ins = inputs (g.S.Source.left c.args.input.now) (g.S.Source.faults c.args.input.now) (g.F.Files.left c.args.files.now) (g.F.Files.held c.args.files.now) (g.F.Files.faults c.args.files.now) in
    let later = inputs (g.S.Source.left c.explain_named.new.input) (g.S.Source.faults c.explain_named.new.input) (g.F.Files.left c.explain_named.new.files) (g.F.Files.held c.explain_named.new.files) (g.F.Files.faults c.explain_named.new.files) in
    let out = received (g.O.Sink.written c.args.out.now) (g.O.Sink.faults c.args.out.now) in
    let after = received (g.O.Sink.written c.write_all.new.out) (g.O.Sink.faults c.write_all.new.out) in
    subst (λ (f : Fault). Ran why (Some (name_of c.args.name)) (scene ins out) (scene later after) (Err f)) (sym c.fault_of_write.ensures)
    (unfinished (name_of c.args.name) ins later out after c.in_ok-text.text c.in_ok-text.ensures.made c.in_ok-text.ensures.counts c.in-Err.e
    (subst (λ (t : List ℕ). AppendsPart out.written after.written t) c.as_slice.ensures c.in-Err.ensures.part) c.in-Err.ensures.counts)
