use Rattle.std.proofs.Common.{◌≡◌, ◌∙◌, ap, sym, subst}
use Rattle.std.proofs.lemmas.Result.{on_ok_weaker}
use Rattle.pth_spelling.specs.Texts.{texts}
use Rattle.pth_script.specs.Drafts.{draft_parts, Takes, handler_closed}
use Rattle.pth_script.specs.Seen.{is_end}
use Rattle.pth_script.proofs.Taken.{act_line_taken, handler_end_taken, act_is_read}
use Rattle.pth_script.proofs.draft.Draft.take_act.Goals as goal

pub returns-then-is_end : goal.returns-then-is_end
returns-then-is_end c =
    let ws = texts c.args.words.now in
    let d = draft_parts c.args.self.now in
    let e = ap is_end (sym (c.keyword.ensures (texts c.args.words.now) c.requires.start)) ∙ sym c.is_end.ensures ∙ c.if-is_end.true in
    on_ok_weaker c.close_handler.result (λ (h : draft_parts c.close_handler.new.self ≡ handler_closed d). subst (λ p. Takes d p ws) (sym h) (handler_end_taken d ws c.requires.kept c.requires.section e)) c.close_handler.ensures

pub returns-in_ok-push : goal.returns-in_ok-push
returns-in_ok-push c =
    let ws = texts c.args.words.now in
    let d = draft_parts c.args.self.now in
    let e = ap is_end (sym (c.keyword.ensures (texts c.args.words.now) c.requires.start)) ∙ sym c.is_end.ensures ∙ c.if-is_end.false in
    let reads = sym c.act_line.ensures ∙ c.in-Some.is in
    subst (λ t. Takes d (record d { acts = t }) ws) (sym c.in_ok-push.ensures.ok) (act_line_taken d ws c.requires.kept c.requires.section c.in-Some.act c.requires.fine e reads)

pub returns-in_default : goal.returns-in_default
returns-in_default c =
    let e = ap is_end (sym (c.keyword.ensures (texts c.args.words.now) c.requires.start)) ∙ sym c.is_end.ensures ∙ c.if-is_end.false in
    absurd (act_is_read (draft_parts c.args.self.now) (texts c.args.words.now) c.requires.kept c.requires.section c.requires.fine e (sym c.act_line.ensures ∙ c.in_default.is))
