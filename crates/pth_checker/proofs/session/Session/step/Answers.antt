use Rattle.std.proofs.Common.{refl}
use Rattle.pth_checker.proofs.Heard.{goes_wrong, not_read, read_as, read_of_same}
use Rattle.pth_checker.proofs.Judging.{judged_read}
use Rattle.pth_filter.specs.Objects.{of_read}
use Rattle.pth_transcript.specs.declared.reader.Part.TheVariants as part
use Rattle.pth_checker.proofs.session.Session.step.Goals as goal

pub returns-in_err-told-clause-goes_on : goal.returns-in_err-told-clause-goes_on
returns-in_err-told-clause-goes_on g c = λ content told heard.
    goes_wrong content _ _ c.from_residual.result c.in_err-told.field-0.0 c.from_residual.ensures.0 c.from_residual.ensures.1
    (not_read content _ c.args.self.now told c.in_err-told.field-0.0 _ heard c.in_err-told.ensures.fault)

pub returns-in-Mark-clause-goes_on : goal.returns-in-Mark-clause-goes_on
returns-in-Mark-clause-goes_on g c = λ content told heard.
    c.judge_mark.ensures.goes_on content _ told
    (read_as content _ _ c.args.self.now _ told c.in_ok-told.field-0 (part.Mark c.in-Mark.told) c.in-Mark.is heard c.in_ok-told.ensures.takes c.in_ok-told.ensures.lines c.in_ok-told.ensures.few refl c.in_ok-told.ensures.told)

pub returns-in_err-judge_ending-in-Ending-clause-goes_on :
    goal.returns-in_err-judge_ending-in-Ending-clause-goes_on
returns-in_err-judge_ending-in-Ending-clause-goes_on g c = λ content told heard.
    let result = c.from_residual-in_err-judge_ending-in-Ending in
    let fault = c.in_err-judge_ending-in-Ending in
    let file = c.args.self.now.reader.of_file in
    let before = of_read file (g.S.Source.left c.args.input.now) (g.F.Files.left c.args.files.now) in
    let input = g.S.Source.left c.next.new.input in
    let files = g.F.Files.left c.next.new.files in
    let left = of_read file (g.S.Source.left c.judge_ending.new.input) (g.F.Files.left c.judge_ending.new.files) in
    goes_wrong content left c.judge_ending.new.self result.result fault.field-0.0 result.ensures.0 result.ensures.1
    (fault.ensures.comes_to content told (read_of_same content input files _ told (part.Ending c.in-Ending.ending) file c.next.new.self.of_file c.in_ok-told.ensures.same
    (read_as content before (of_read file input files) c.args.self.now _ told c.in_ok-told.field-0 (part.Ending c.in-Ending.ending) c.in-Ending.is heard c.in_ok-told.ensures.takes c.in_ok-told.ensures.lines c.in_ok-told.ensures.few refl c.in_ok-told.ensures.told)))

pub returns-in_ok-judge_ending-in-Ending-clause-goes_on :
    goal.returns-in_ok-judge_ending-in-Ending-clause-goes_on
returns-in_ok-judge_ending-in-Ending-clause-goes_on g c = λ content told heard.
    let file = c.args.self.now.reader.of_file in
    let before = of_read file (g.S.Source.left c.args.input.now) (g.F.Files.left c.args.files.now) in
    let input = g.S.Source.left c.next.new.input in
    let files = g.F.Files.left c.next.new.files in
    c.in_ok-judge_ending-in-Ending.ensures.comes_to content told (read_of_same content input files _ told (part.Ending c.in-Ending.ending) file c.next.new.self.of_file c.in_ok-told.ensures.same
    (read_as content before (of_read file input files) c.args.self.now _ told c.in_ok-told.field-0 (part.Ending c.in-Ending.ending) c.in-Ending.is heard c.in_ok-told.ensures.takes c.in_ok-told.ensures.lines c.in_ok-told.ensures.few refl c.in_ok-told.ensures.told))

pub judge_mark-requires : goal.judge_mark-requires
judge_mark-requires g c = judged_read c.args.self.now _ c.requires.judged refl c.in_ok-told.ensures.lines
