use Rattle.std.proofs.Common.{Option, map, string_bytes, subst, sym}
use Rattle.pth_command.specs.CommandLine.{Asked, asked_by, asked_of}
use Rattle.pth_player.proofs.Runs.{is_asked, others_refl, ran_for, unasked}
use Rattle.pth_streams.specs.Inputs.{inputs}
use Rattle.pth_filter.specs.Objects.{OthersUntouched}
use Rattle.pth_player.specs.Objects.{asked_object}
use Rattle.pth_streams.specs.Pieces.{received}
use Rattle.pth_player.proofs.run.run.Goals as goal

pub returns-in_err-choice-clause-ran : goal.returns-in_err-choice-clause-ran
returns-in_err-choice-clause-ran g c =
    let ins = inputs (g.S.Source.left c.args.input.now) (g.S.Source.faults c.args.input.now) (g.F.Files.left c.args.files.now) (g.F.Files.held c.args.files.now) (g.F.Files.faults c.args.files.now) in
    unasked (asked_by (map string_bytes c.args.words.now.items)) ins (received (g.O.Sink.written c.args.out.now) (g.O.Sink.faults c.args.out.now)) c.read_words.result c.map_err.result _ c.from_residual.result
    c.read_words.ensures.answers c.map_err.ensures.cases c.in_err-choice.was c.from_residual.ensures.0 c.from_residual.ensures.1

pub returns-in_err-choice-clause-others : goal.returns-in_err-choice-clause-others
returns-in_err-choice-clause-others g c = others_refl (asked_object (asked_by (map string_bytes c.args.words.now.items))) c.args.input.now c.args.files.now

pub returns-then-choice-clause-ran : goal.returns-then-choice-clause-ran
returns-then-choice-clause-ran g c =
    let asked = asked_by (map string_bytes c.args.words.now.items) in
    let is = is_asked asked c.read_words.result c.map_err.result c.in_ok-choice.choice c.read_words.ensures.answers c.map_err.ensures.cases c.in_ok-choice.was in
    ran_for asked (asked_of c.in_ok-choice.choice) _ _ _ is c.upgrade_script.ensures.ran

pub returns-then-choice-clause-others : goal.returns-then-choice-clause-others
returns-then-choice-clause-others g c =
    let is = is_asked (asked_by (map string_bytes c.args.words.now.items)) c.read_words.result c.map_err.result c.in_ok-choice.choice c.read_words.ensures.answers c.map_err.ensures.cases c.in_ok-choice.was in
    subst (λ (o : Option Asked). OthersUntouched (asked_object o) c.args.input.now c.upgrade_script.new.input c.args.files.now c.upgrade_script.new.files) (sym is) c.upgrade_script.ensures.others

pub returns-else-choice-clause-ran : goal.returns-else-choice-clause-ran
returns-else-choice-clause-ran g c =
    let asked = asked_by (map string_bytes c.args.words.now.items) in
    let is = is_asked asked c.read_words.result c.map_err.result c.in_ok-choice.choice c.read_words.ensures.answers c.map_err.ensures.cases c.in_ok-choice.was in
    ran_for asked (asked_of c.in_ok-choice.choice) _ _ _ is c.run_script.ensures.ran

pub returns-else-choice-clause-others : goal.returns-else-choice-clause-others
returns-else-choice-clause-others g c =
    let is = is_asked (asked_by (map string_bytes c.args.words.now.items)) c.read_words.result c.map_err.result c.in_ok-choice.choice c.read_words.ensures.answers c.map_err.ensures.cases c.in_ok-choice.was in
    subst (λ (o : Option Asked). OthersUntouched (asked_object o) c.args.input.now c.run_script.new.input c.args.files.now c.run_script.new.files) (sym is) c.run_script.ensures.others
