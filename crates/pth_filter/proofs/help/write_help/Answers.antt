use Rattle.std.proofs.Common.{List, ℕ, Err, subst}
use Rattle.pth_streams.specs.Faults.{CountsSink}
use Rattle.pth_streams.specs.Pieces.{AppendsPart, received}
use Rattle.pth_streams.specs.declared.sink.SinkErr.{SinkErr}
use Rattle.pth_filter.proofs.GivenHelp.{failed, ran_out}
use Rattle.pth_filter.proofs.help.write_help.Goals as goal

pub returns-in-Err-Failed : goal.returns-in-Err-Failed
returns-in-Err-Failed g c =
    let old = received (g.O.Sink.written c.args.out.now) (g.O.Sink.faults c.args.out.now) in
    let new = received (g.O.Sink.written c.write_all.new.out) (g.O.Sink.faults c.write_all.new.out) in
    failed c.args.program.now c.args.help.now old new
    (received (g.E.Sink.written c.args.err.now) (g.E.Sink.faults c.args.err.now))
    (received (g.E.Sink.written c.report_fault.new.err) (g.E.Sink.faults c.report_fault.new.err)) c.report_fault.result
    (subst (λ (t : List ℕ). AppendsPart old.written new.written t) c.as_bytes.ensures.value c.in-Err-Failed.ensures.part)
    (subst (λ (e : SinkErr). CountsSink {T = Unit {0}} old.faults new.faults (Err e)) c.in-Err-Failed.field-0-is c.in-Err-Failed.ensures.counts)
    c.report_fault.ensures

pub returns-in-Err-OutOfMemory : goal.returns-in-Err-OutOfMemory
returns-in-Err-OutOfMemory g c =
    let old = received (g.O.Sink.written c.args.out.now) (g.O.Sink.faults c.args.out.now) in
    let new = received (g.O.Sink.written c.write_all.new.out) (g.O.Sink.faults c.write_all.new.out) in
    ran_out c.args.program.now c.args.help.now old new
    (received (g.E.Sink.written c.args.err.now) (g.E.Sink.faults c.args.err.now))
    (received (g.E.Sink.written c.report_fault-in-Err-OutOfMemory.new.err) (g.E.Sink.faults c.report_fault-in-Err-OutOfMemory.new.err))
    c.report_fault-in-Err-OutOfMemory.result
    (subst (λ (t : List ℕ). AppendsPart old.written new.written t) c.as_bytes.ensures.value c.in-Err-OutOfMemory.ensures.part)
    c.report_fault-in-Err-OutOfMemory.ensures
