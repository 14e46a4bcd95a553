use Rattle.std.proofs.Common.{Some}
use Rattle.pth_command.specs.CommandLine.{asked_of}
use Rattle.pth_script.specs.Upgrade.{IsUpgrade}
use Rattle.pth_player.proofs.Reading.{as_upgraded, read_is, unread_is}
use Rattle.pth_player.proofs.Results.{kept}
use Rattle.pth_streams.specs.Inputs.{inputs}
use Rattle.pth_player.specs.Objects.{asked_object}
use Rattle.pth_filter.specs.Faults.{fault_of_read}
use Rattle.pth_player.specs.Play.{ReadsBytes}
use Rattle.pth_player.proofs.script.read_upgrade.Goals as goal

pub returns-in_err-bytes-clause-upgrade : goal.returns-in_err-bytes-clause-upgrade
returns-in_err-bytes-clause-upgrade g c =
    let old = inputs (g.S.Source.left c.args.input.now) (g.S.Source.faults c.args.input.now) (g.F.Files.left c.args.files.now) (g.F.Files.held c.args.files.now) (g.F.Files.faults c.args.files.now) in
    let new = inputs (g.S.Source.left c.read_bytes.new.input) (g.S.Source.faults c.read_bytes.new.input) (g.F.Files.left c.read_bytes.new.files) (g.F.Files.held c.read_bytes.new.files) (g.F.Files.faults c.read_bytes.new.files) in
    unread_is IsUpgrade (asked_object (Some (asked_of c.args.choice.now))) old new c.read_bytes.result c.map_err.result _ c.from_residual.result c.read_bytes.ensures.counts c.map_err.ensures.cases c.in_err-bytes.was
    c.from_residual.ensures.0 c.from_residual.ensures.1

pub returns-clause-upgrade : goal.returns-clause-upgrade
returns-clause-upgrade g c =
    let object = asked_object (Some (asked_of c.args.choice.now)) in
    let old = inputs (g.S.Source.left c.args.input.now) (g.S.Source.faults c.args.input.now) (g.F.Files.left c.args.files.now) (g.F.Files.held c.args.files.now) (g.F.Files.faults c.args.files.now) in
    let new = inputs (g.S.Source.left c.read_bytes.new.input) (g.S.Source.faults c.read_bytes.new.input) (g.F.Files.left c.read_bytes.new.files) (g.F.Files.held c.read_bytes.new.files) (g.F.Files.faults c.read_bytes.new.files) in
    let taken = kept (λ v. ReadsBytes object old new v.items) fault_of_read c.read_bytes.result c.map_err.result c.in_ok-bytes.bytes c.in_ok-bytes.was c.read_bytes.ensures.bytes c.map_err.ensures.cases in
    read_is IsUpgrade object old new _ _ _ c.upgrade.result taken c.deref.ensures.value (as_upgraded _ c.upgrade.result c.upgrade.ensures.upgraded) c.map_err-2.ensures.cases
