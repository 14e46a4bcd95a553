use Rattle.std.proofs.Common.{Ok, Err}
use Rattle.pth_command.specs.CommandLine.{asked_of}
use Rattle.pth_script.specs.Upgrade.{IsUpgrade}
use Rattle.pth_player.proofs.Driving.{piece_of}
use Rattle.pth_player.proofs.Runs.{told_as, unread, wrote_upgrade}
use Rattle.pth_streams.specs.Inputs.{inputs}
use Rattle.pth_streams.specs.Scene.{scene}
use Rattle.pth_streams.specs.Pieces.{received}
use Rattle.pth_player.proofs.run.upgrade_script.Goals as goal

pub returns-in_err-text-clause-ran : goal.returns-in_err-text-clause-ran
returns-in_err-text-clause-ran g c =
    let ins = inputs (g.S.Source.left c.args.input.now) (g.S.Source.faults c.args.input.now) (g.F.Files.left c.args.files.now) (g.F.Files.held c.args.files.now) (g.F.Files.faults c.args.files.now) in
    let later = inputs (g.S.Source.left c.read_upgrade.new.input) (g.S.Source.faults c.read_upgrade.new.input) (g.F.Files.left c.read_upgrade.new.files) (g.F.Files.held c.read_upgrade.new.files) (g.F.Files.faults c.read_upgrade.new.files) in
    unread (asked_of c.args.choice.now) ins later (received (g.O.Sink.written c.args.out.now) (g.O.Sink.faults c.args.out.now)) IsUpgrade _ _ c.in_err-text.ensures.upgrade c.from_residual.ensures.0 c.from_residual.ensures.1

pub returns-in-Ok-clause-ran : goal.returns-in-Ok-clause-ran
returns-in-Ok-clause-ran g c =
    let ins = inputs (g.S.Source.left c.args.input.now) (g.S.Source.faults c.args.input.now) (g.F.Files.left c.args.files.now) (g.F.Files.held c.args.files.now) (g.F.Files.faults c.args.files.now) in
    let later = inputs (g.S.Source.left c.read_upgrade.new.input) (g.S.Source.faults c.read_upgrade.new.input) (g.F.Files.left c.read_upgrade.new.files) (g.F.Files.held c.read_upgrade.new.files) (g.F.Files.faults c.read_upgrade.new.files) in
    let piece = piece_of _ _ _ _ _ (Ok tt) c.as_slice.ensures c.in-Ok.ensures.whole c.in-Ok.ensures.part c.in-Ok.ensures.counts in
    wrote_upgrade (asked_of c.args.choice.now) ins later (received (g.O.Sink.written c.args.out.now) (g.O.Sink.faults c.args.out.now)) (received (g.O.Sink.written c.write_all.new.out) (g.O.Sink.faults c.write_all.new.out)) c.requires.upgrades c.in_ok-text.text c.in_ok-text.ensures.upgrade (Ok tt) piece

pub returns-clause-ran : goal.returns-clause-ran
returns-clause-ran g c =
    let ins = inputs (g.S.Source.left c.args.input.now) (g.S.Source.faults c.args.input.now) (g.F.Files.left c.args.files.now) (g.F.Files.held c.args.files.now) (g.F.Files.faults c.args.files.now) in
    let later = inputs (g.S.Source.left c.read_upgrade.new.input) (g.S.Source.faults c.read_upgrade.new.input) (g.F.Files.left c.read_upgrade.new.files) (g.F.Files.held c.read_upgrade.new.files) (g.F.Files.faults c.read_upgrade.new.files) in
    let piece = piece_of _ _ _ _ _ (Err c.in-Err.e) c.as_slice.ensures c.in-Err.ensures.whole c.in-Err.ensures.part c.in-Err.ensures.counts in
    told_as (asked_of c.args.choice.now) (scene ins (received (g.O.Sink.written c.args.out.now) (g.O.Sink.faults c.args.out.now))) (scene later (received (g.O.Sink.written c.write_all.new.out) (g.O.Sink.faults c.write_all.new.out))) c.in-Err.e _ c.fault_of_write.ensures
    (wrote_upgrade (asked_of c.args.choice.now) ins later (received (g.O.Sink.written c.args.out.now) (g.O.Sink.faults c.args.out.now)) (received (g.O.Sink.written c.write_all.new.out) (g.O.Sink.faults c.write_all.new.out)) c.requires.upgrades c.in_ok-text.text c.in_ok-text.ensures.upgrade (Err c.in-Err.e) piece)
