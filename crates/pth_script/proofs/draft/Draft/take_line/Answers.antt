use Rattle.std.proofs.Common.{◌∙◌, ap, sym, subst}
use Rattle.std.proofs.lemmas.Result.{on_ok_weaker}
use Rattle.pth_spelling.specs.Texts.{texts}
use Rattle.pth_script.specs.Drafts.{draft_parts, Takes, IsClosed}
use Rattle.pth_script.specs.Seen.{is_end}
use Rattle.pth_script.proofs.Taken.{body_line_taken, body_end_taken, line_is_read, new_label}
use Rattle.pth_script.proofs.draft.Draft.take_line.Goals as goal

pub returns-then-is_end : goal.returns-then-is_end
returns-then-is_end c =
    let ws = texts c.args.words.now in
    let d = draft_parts c.args.self.now in
    let e = ap is_end (sym (c.keyword.ensures (texts c.args.words.now) c.requires.start)) ∙ sym c.is_end.ensures ∙ c.if-is_end.true in
    on_ok_weaker c.close_body.result (λ (h : IsClosed d (draft_parts c.close_body.new.self)). body_end_taken d ws c.requires.kept c.requires.section (draft_parts c.close_body.new.self) h e) c.close_body.ensures

pub push-requires : goal.push-requires
push-requires c = new_label (draft_parts c.args.self.now) (texts c.args.words.now) c.requires.kept c.requires.section c.in-Some.line c.requires.fine (sym c.in_ok-line.ensures ∙ c.in-Some.is)

pub returns-in_ok-push : goal.returns-in_ok-push
returns-in_ok-push c =
    let ws = texts c.args.words.now in
    let d = draft_parts c.args.self.now in
    subst (λ t. Takes d (record d { body = t }) ws) (sym c.in_ok-push.ensures.ok) (body_line_taken d ws c.requires.kept c.requires.section c.in-Some.line (sym c.in_ok-line.ensures ∙ c.in-Some.is))

pub returns-in_default : goal.returns-in_default
returns-in_default c =
    let e = ap is_end (sym (c.keyword.ensures (texts c.args.words.now) c.requires.start)) ∙ sym c.is_end.ensures ∙ c.if-is_end.false in
    absurd (line_is_read (draft_parts c.args.self.now) (texts c.args.words.now) c.requires.kept c.requires.section c.requires.fine e (sym c.in_ok-line.ensures ∙ c.in_default.is))
