use Rattle.std.proofs.Common.{◌∙◌, ap, sym}
use Rattle.pth_spelling.specs.Texts.{texts}
use Rattle.pth_script.specs.Drafts.{draft_parts}
use Rattle.pth_script.specs.Seen.{is_check, is_handler, is_kernel}
use Rattle.pth_script.proofs.Taken.{handler_open_taken, kernel_open_taken, body_open_taken}
use Rattle.pth_script.proofs.draft.Draft.take_opening.Goals as goal

pub returns-then-is_handler : goal.returns-then-is_handler
returns-then-is_handler c =
    let h = ap is_handler (sym c.requires.keyword) ∙ sym c.is_handler.ensures ∙ c.if-is_handler.true in
    handler_open_taken (draft_parts c.args.self.now) (texts c.args.words.now) c.requires.kept c.requires.handler c.requires.body c.requires.kernel c.requires.fine h

pub returns-then-is_kernel : goal.returns-then-is_kernel
returns-then-is_kernel c =
    let h = ap is_kernel (sym c.requires.keyword) ∙ sym c.is_kernel.ensures ∙ c.if-is_kernel.true in
    kernel_open_taken (draft_parts c.args.self.now) (texts c.args.words.now) c.requires.kept c.requires.handler c.requires.body c.requires.kernel c.requires.fine h

pub returns-else-is_kernel : goal.returns-else-is_kernel
returns-else-is_kernel c =
    let handler = ap is_handler (sym c.requires.keyword) ∙ sym c.is_handler.ensures ∙ c.if-is_handler.false in
    let check = ap is_check (sym c.requires.keyword) ∙ sym c.is_check.ensures ∙ c.if-is_check.false in
    let kernel = ap is_kernel (sym c.requires.keyword) ∙ sym c.is_kernel.ensures ∙ c.if-is_kernel.false in
    body_open_taken (draft_parts c.args.self.now) (texts c.args.words.now) c.requires.kept c.requires.handler c.requires.body c.requires.kernel c.requires.fine (record { handler = handler; check = check; kernel = kernel })
