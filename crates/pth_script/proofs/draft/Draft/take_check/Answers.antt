use Rattle.std.proofs.Common.{◌∙◌, sym, subst}
use Rattle.pth_spelling.specs.Texts.{texts}
use Rattle.pth_script.specs.Drafts.{draft_parts, Takes}
use Rattle.pth_grammar.specs.declared.section.Section.TheVariants as sec
use Rattle.pth_script.proofs.Taken.{check_line_taken, check_is_read}
use Rattle.pth_script.proofs.draft.Draft.take_check.Goals as goal

pub returns-in_ok-push : goal.returns-in_ok-push
returns-in_ok-push c =
    let ws = texts c.args.words.now in
    let d = draft_parts c.args.self.now in
    subst (λ t. Takes d (record d { section = sec.Checks; checks = t }) ws) (sym c.in_ok-push.ensures.items) (check_line_taken d ws c.requires.kept c.requires.handler c.requires.body c.requires.kernel c.requires.fine c.in-Some.check c.requires.begins (sym c.check_line.ensures ∙ c.in-Some.is))

pub returns-in_default : goal.returns-in_default
returns-in_default c = absurd (check_is_read (draft_parts c.args.self.now) (texts c.args.words.now) c.requires.kept c.requires.handler c.requires.body c.requires.kernel c.requires.fine c.requires.begins (sym c.check_line.ensures ∙ c.in_default.is))
