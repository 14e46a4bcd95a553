use Rattle.pth_command.specs.CommandLine.{asked_of}
use Rattle.pth_player.proofs.Driving.{cut_before, ending_is, piece_of}
use Rattle.pth_player.proofs.drive.write_ending.Goals as goal

pub returns-in_err-live : goal.returns-in_err-live
returns-in_err-live g c = λ s stands. cut_before _ _ _ c.from_residual.result c.from_residual.ensures.0 c.from_residual.ensures.1

pub returns-in_err-add_counts : goal.returns-in_err-add_counts
returns-in_err-add_counts g c = λ s stands. cut_before _ _ _ c.from_residual-in_err-add_counts.result c.from_residual-in_err-add_counts.ensures.0 c.from_residual-in_err-add_counts.ensures.1

pub returns-in_err-end_line : goal.returns-in_err-end_line
returns-in_err-end_line g c = λ s stands. cut_before _ _ _ c.from_residual-in_err-end_line.result c.from_residual-in_err-end_line.ensures.0 c.from_residual-in_err-end_line.ensures.1

pub returns : goal.returns
returns g c = λ s stands.
    let is = ending_is (asked_of c.args.choice.now) c.args.machine.now s c.args.outcome _ _ _ _ _ _ stands c.requires.outcome c.deref.ensures.value c.in_ok-live.ensures.live c.clear.ensures c.in_ok-add_counts.ensures c.in_ok-end_line.ensures.ok c.as_slice.ensures in
    piece_of _ _ _ _ _ c.write_all.result is c.write_all.ensures.whole c.write_all.ensures.part c.write_all.ensures.counts
