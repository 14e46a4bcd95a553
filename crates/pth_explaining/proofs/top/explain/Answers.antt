use Rattle.std.proofs.Common.{map, string_bytes}
use Rattle.pth_explaining.specs.Why.{why}
use Rattle.pth_filter.proofs.Answering.{answers}
use Rattle.pth_streams.specs.Inputs.{inputs}
use Rattle.pth_streams.specs.Pieces.{received}
use Rattle.pth_streams.specs.Scene.{scene}
use Rattle.pth_explaining.proofs.top.explain.Goals as goal

pub returns-clause-answers : goal.returns-clause-answers
returns-clause-answers g c =
    let i = inputs (g.S.Source.left c.args.input.now) (g.S.Source.faults c.args.input.now) (g.F.Files.left c.args.files.now) (g.F.Files.held c.args.files.now) (g.F.Files.faults c.args.files.now) in
    let j = inputs (g.S.Source.left c.run-ran.new.input) (g.S.Source.faults c.run-ran.new.input) (g.F.Files.left c.run-ran.new.files) (g.F.Files.held c.run-ran.new.files) (g.F.Files.faults c.run-ran.new.files) in
    let before = received (g.E.Sink.written c.args.err.now) (g.E.Sink.faults c.args.err.now) in
    let after = received (g.E.Sink.written c.finish.new.err) (g.E.Sink.faults c.finish.new.err) in
    let old = scene i (received (g.O.Sink.written c.args.out.now) (g.O.Sink.faults c.args.out.now)) in
    let new = scene j (received (g.O.Sink.written c.run-ran.new.out) (g.O.Sink.faults c.run-ran.new.out)) in
    answers why (record { words = map string_bytes c.args.words.now.items; old = old; new = new; err_old = before; err_new = after; status = c.finish.result }) c.run-ran.result c.run-ran.ensures.ran c.finish.ensures
