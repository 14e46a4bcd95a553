use Rattle.std.proofs.Common.{IfOk, Some, option_map, subst, sym}
use Rattle.pth_streams.specs.Inputs.{inputs}
use Rattle.pth_filter.specs.Objects.{OthersUntouched}
use Rattle.pth_command.specs.CommandLine.{asked_of}
use Rattle.pth_player.specs.Objects.{ObjectCounts, asked_object}
use Rattle.pth_player.specs.Play.{ReadsBytes}
use Rattle.pth_player.proofs.Reading.{named_object, workload_bytes}
use Rattle.pth_player.proofs.Runs.{others_refl, stood_refl}
use Rattle.pth_player.proofs.script.read_bytes.Goals as goal

pub returns-in_default-clause-bytes : goal.returns-in_default-clause-bytes
returns-in_default-clause-bytes g c =
    let name = option_map (λ n. n.now) c.args.choice.now.file in
    let old = inputs (g.S.Source.left c.args.input.now) (g.S.Source.faults c.args.input.now) (g.F.Files.left c.args.files.now) (g.F.Files.held c.args.files.now) (g.F.Files.faults c.args.files.now) in
    let new = inputs (g.S.Source.left c.read_named.new.input) (g.S.Source.faults c.read_named.new.input) (g.F.Files.left c.read_named.new.files) (g.F.Files.held c.read_named.new.files) (g.F.Files.faults c.read_named.new.files) in
    subst (λ object. IfOk c.read_named.result (λ v. ReadsBytes object old new v.items)) (sym (named_object c.args.choice.now.generate name c.in_default.not-Some)) c.read_named.ensures.bytes

pub returns-in_default-clause-counts : goal.returns-in_default-clause-counts
returns-in_default-clause-counts g c =
    let name = option_map (λ n. n.now) c.args.choice.now.file in
    let old = inputs (g.S.Source.left c.args.input.now) (g.S.Source.faults c.args.input.now) (g.F.Files.left c.args.files.now) (g.F.Files.held c.args.files.now) (g.F.Files.faults c.args.files.now) in
    let new = inputs (g.S.Source.left c.read_named.new.input) (g.S.Source.faults c.read_named.new.input) (g.F.Files.left c.read_named.new.files) (g.F.Files.held c.read_named.new.files) (g.F.Files.faults c.read_named.new.files) in
    subst (λ object. ObjectCounts object old new c.read_named.result) (sym (named_object c.args.choice.now.generate name c.in_default.not-Some)) c.read_named.ensures.counts

pub returns-in_default-clause-others : goal.returns-in_default-clause-others
returns-in_default-clause-others g c =
    let name = option_map (λ n. n.now) c.args.choice.now.file in
    subst (λ object. OthersUntouched object c.args.input.now c.read_named.new.input c.args.files.now c.read_named.new.files) (sym (named_object c.args.choice.now.generate name c.in_default.not-Some)) c.read_named.ensures.others

pub returns-in-Ok-clause-bytes : goal.returns-in-Ok-clause-bytes
returns-in-Ok-clause-bytes g c = workload_bytes c.in-Some.threads c.args.choice.now.generate (option_map (λ n. n.now) c.args.choice.now.file) (inputs (g.S.Source.left c.args.input.now) (g.S.Source.faults c.args.input.now) (g.F.Files.left c.args.files.now) (g.F.Files.held c.args.files.now) (g.F.Files.faults c.args.files.now)) _ c.in-Some.is c.requires c.in-Ok.ensures

pub returns-in-Ok-clause-counts : goal.returns-in-Ok-clause-counts
returns-in-Ok-clause-counts g c = stood_refl (asked_object (Some (asked_of c.args.choice.now))) (inputs (g.S.Source.left c.args.input.now) (g.S.Source.faults c.args.input.now) (g.F.Files.left c.args.files.now) (g.F.Files.held c.args.files.now) (g.F.Files.faults c.args.files.now))

pub returns-in-Ok-clause-others : goal.returns-in-Ok-clause-others
returns-in-Ok-clause-others g c = others_refl (asked_object (Some (asked_of c.args.choice.now))) c.args.input.now c.args.files.now

pub returns-in-Err-clause-counts : goal.returns-in-Err-clause-counts
returns-in-Err-clause-counts g c = stood_refl (asked_object (Some (asked_of c.args.choice.now))) (inputs (g.S.Source.left c.args.input.now) (g.S.Source.faults c.args.input.now) (g.F.Files.left c.args.files.now) (g.F.Files.held c.args.files.now) (g.F.Files.faults c.args.files.now))

pub returns-in-Err-clause-others : goal.returns-in-Err-clause-others
returns-in-Err-clause-others g c = others_refl (asked_object (Some (asked_of c.args.choice.now))) c.args.input.now c.args.files.now
