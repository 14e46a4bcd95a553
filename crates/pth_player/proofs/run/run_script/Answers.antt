use Rattle.std.proofs.Common.{Ok, Err}
use Rattle.pth_command.specs.CommandLine.{asked_of}
use Rattle.pth_player.proofs.Reading.{read_stood}
use Rattle.pth_player.proofs.Runs.{drove, told_as, unmade, unread}
use Rattle.pth_streams.specs.Inputs.{inputs}
use Rattle.pth_streams.specs.Scene.{scene}
use Rattle.pth_player.specs.Output.{given_script}
use Rattle.pth_player.specs.Play.{IsRead}
use Rattle.pth_streams.specs.Pieces.{received}
use Rattle.pth_player.proofs.run.run_script.Goals as goal

pub returns-in_err-read-clause-ran : goal.returns-in_err-read-clause-ran
returns-in_err-read-clause-ran g c =
    let ins = inputs (g.S.Source.left c.args.input.now) (g.S.Source.faults c.args.input.now) (g.F.Files.left c.args.files.now) (g.F.Files.held c.args.files.now) (g.F.Files.faults c.args.files.now) in
    let later = inputs (g.S.Source.left c.read_script.new.input) (g.S.Source.faults c.read_script.new.input) (g.F.Files.left c.read_script.new.files) (g.F.Files.held c.read_script.new.files) (g.F.Files.faults c.read_script.new.files) in
    unread (asked_of c.args.choice.now) ins later (received (g.O.Sink.written c.args.out.now) (g.O.Sink.faults c.args.out.now)) IsRead _ _ c.in_err-read.ensures.script c.from_residual.ensures.0 c.from_residual.ensures.1

pub returns-in_default-clause-ran : goal.returns-in_default-clause-ran
returns-in_default-clause-ran g c =
    let ins = inputs (g.S.Source.left c.args.input.now) (g.S.Source.faults c.args.input.now) (g.F.Files.left c.args.files.now) (g.F.Files.held c.args.files.now) (g.F.Files.faults c.args.files.now) in
    let later = inputs (g.S.Source.left c.read_script.new.input) (g.S.Source.faults c.read_script.new.input) (g.F.Files.left c.read_script.new.files) (g.F.Files.held c.read_script.new.files) (g.F.Files.faults c.read_script.new.files) in
    unmade (asked_of c.args.choice.now) ins later (received (g.O.Sink.written c.args.out.now) (g.O.Sink.faults c.args.out.now)) (read_stood _ ins later c.in_ok-read.ensures.script.0)

pub returns-in-Ok-drive-clause-ran : goal.returns-in-Ok-drive-clause-ran
returns-in-Ok-drive-clause-ran g c =
    let ins = inputs (g.S.Source.left c.args.input.now) (g.S.Source.faults c.args.input.now) (g.F.Files.left c.args.files.now) (g.F.Files.held c.args.files.now) (g.F.Files.faults c.args.files.now) in
    let later = inputs (g.S.Source.left c.read_script.new.input) (g.S.Source.faults c.read_script.new.input) (g.F.Files.left c.read_script.new.files) (g.F.Files.held c.read_script.new.files) (g.F.Files.faults c.read_script.new.files) in
    let read = c.in_ok-read.read in
    drove (asked_of c.args.choice.now) ins later (received (g.O.Sink.written c.args.out.now) (g.O.Sink.faults c.args.out.now)) (received (g.O.Sink.written c.drive.new.out) (g.O.Sink.faults c.drive.new.out)) c.requires.runs read c.in_ok-read.ensures.script (Ok c.in-Ok-drive.outcome)
    (c.in-Ok-drive.ensures.written (given_script read) 0 c.in-Ok.ensures.stands)

pub returns-clause-ran : goal.returns-clause-ran
returns-clause-ran g c =
    let ins = inputs (g.S.Source.left c.args.input.now) (g.S.Source.faults c.args.input.now) (g.F.Files.left c.args.files.now) (g.F.Files.held c.args.files.now) (g.F.Files.faults c.args.files.now) in
    let later = inputs (g.S.Source.left c.read_script.new.input) (g.S.Source.faults c.read_script.new.input) (g.F.Files.left c.read_script.new.files) (g.F.Files.held c.read_script.new.files) (g.F.Files.faults c.read_script.new.files) in
    let read = c.in_ok-read.read in
    told_as (asked_of c.args.choice.now) (scene ins (received (g.O.Sink.written c.args.out.now) (g.O.Sink.faults c.args.out.now))) (scene later (received (g.O.Sink.written c.drive.new.out) (g.O.Sink.faults c.drive.new.out))) c.in-Err.e _ c.fault_of_write.ensures
    (drove (asked_of c.args.choice.now) ins later (received (g.O.Sink.written c.args.out.now) (g.O.Sink.faults c.args.out.now)) (received (g.O.Sink.written c.drive.new.out) (g.O.Sink.faults c.drive.new.out)) c.requires.runs read c.in_ok-read.ensures.script (Err c.in-Err.e)
    (c.in-Err.ensures.written (given_script read) 0 c.in-Ok.ensures.stands))
