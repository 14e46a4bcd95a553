use Rattle.std.proofs.Common.{◌∙◌, ap, sym}
use Rattle.std.specs.Prelude.{reverse}
use Rattle.pth_script.specs.Drafts.{draft_parts, seen_of_draft}
use Rattle.pth_script.specs.Seen.{is_early}
use Rattle.pth_script.proofs.draft.Draft.is_early.Goals as goal

pub returns-in-Some : goal.returns-in-Some
returns-in-Some c =
    let k = c.args.self.now.kernel in
    c.is_before_last.ensures k.live.0 (reverse k.trace) c.requires.kernel.knows.knows ∙ ap (λ o. is_early o (seen_of_draft (draft_parts c.args.self.now))) (sym c.in-Some.is)
