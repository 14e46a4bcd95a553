use Rattle.std.proofs.Common.{◌∙◌, sym, subst, arith}
use Rattle.pth_spelling.specs.Texts.{texts}
use Rattle.pth_grammar.specs.declared.section.Section.TheVariants as sec
use Rattle.pth_grammar.specs.declared.kernel_part.KernelPart.TheVariants as part
use Rattle.pth_script.specs.Drafts.{draft_parts, Takes}
use Rattle.pth_script.specs.KernelDrafts.{IsKernelInOrder}
use Rattle.pth_script.proofs.TakenParts.{part_of, clock_line_taken, open_low, open_rises, nothing_came, open_line_taken, stamp_fine, stamp_line_taken}
use Rattle.pth_script.proofs.TakingParts.{with_clock}
use Rattle.pth_script.proofs.draft.Draft.take_part.Goals as goal

pub take_stamp-requires-clause-fine : goal.take_stamp-requires-clause-fine
take_stamp-requires-clause-fine c =
    let p = part_of c.args.self.now.section c.requires.section in
    stamp_fine (draft_parts c.args.self.now) (texts c.args.words.now) c.requires.kept p.0 p.1 c.requires.fine c.in-Some.stamp (sym c.requires.stamp ∙ c.in-Some.is)

pub returns-in-Some : goal.returns-in-Some
returns-in-Some c =
    let d = draft_parts c.args.self.now in
    let ws = texts c.args.words.now in
    let p = part_of c.args.self.now.section c.requires.section in
    let taken = c.in_ok-take_stamp.ensures.taken in
    subst (λ k. Takes d (record d { section = sec.Kernel part.Entries; kernel = k }) ws) (sym taken)
    (stamp_line_taken d ws c.requires.kept p.0 p.1 c.requires.fine c.in-Some.stamp (sym c.requires.stamp ∙ c.in-Some.is) c.take_stamp.new.self.rules (subst IsKernelInOrder taken c.in_ok-take_stamp.ensures.kept))

pub open-requires-clause-within : goal.open-requires-clause-within
open-requires-clause-within c =
    let p = part_of c.args.self.now.section c.requires.section in
    let low = open_low (draft_parts c.args.self.now) (texts c.args.words.now) c.requires.kept p.0 p.1 c.requires.fine c.in-Some-open_line.f (sym c.open_line.ensures ∙ c.in-Some-open_line.is) in
    omega (arith, low)

pub open-requires-clause-rises : goal.open-requires-clause-rises
open-requires-clause-rises c =
    let p = part_of c.args.self.now.section c.requires.section in
    open_rises (draft_parts c.args.self.now) (texts c.args.words.now) c.requires.kept p.0 p.1 c.requires.fine c.in-Some-open_line.f (sym c.open_line.ensures ∙ c.in-Some-open_line.is)

pub open-requires-clause-nothing : goal.open-requires-clause-nothing
open-requires-clause-nothing c =
    let p = part_of c.args.self.now.section c.requires.section in
    nothing_came (draft_parts c.args.self.now) (texts c.args.words.now) c.requires.kept p.0 p.1 c.requires.fine c.in-Some-open_line.f (sym c.open_line.ensures ∙ c.in-Some-open_line.is)

pub returns-in-Some-open_line : goal.returns-in-Some-open_line
returns-in-Some-open_line c =
    let d = draft_parts c.args.self.now in
    let ws = texts c.args.words.now in
    let p = part_of c.args.self.now.section c.requires.section in
    let opened = c.open.ensures.opened in
    subst (λ k. Takes d (record d { section = sec.Kernel part.Opens; kernel = k }) ws) (sym opened)
    (open_line_taken d ws c.requires.kept p.0 p.1 c.requires.fine c.in-Some-open_line.f (sym c.open_line.ensures ∙ c.in-Some-open_line.is) c.open.new.self.rules (subst IsKernelInOrder opened c.open.ensures.kept))

pub returns : goal.returns
returns c =
    let d = draft_parts c.args.self.now in
    let ws = texts c.args.words.now in
    let p = part_of c.args.self.now.section c.requires.section in
    subst (λ o. Takes d (record d { section = sec.Kernel part.Opens; kernel = with_clock d.kernel o }) ws) (sym c.clock_line-self.ensures)
    (clock_line_taken d ws c.requires.kept p.0 p.1 c.requires.fine (sym c.requires.stamp ∙ c.in_default.is) (sym c.open_line.ensures ∙ c.in_default-open_line.is))
