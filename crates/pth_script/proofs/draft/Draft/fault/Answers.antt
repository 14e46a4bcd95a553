use Rattle.std.proofs.Common.{arith}
use Rattle.std.proofs.lemmas.Grind.{common_steps}
use Rattle.pth_spelling.specs.Texts.{texts}
use Rattle.pth_script.specs.Drafts.{draft_parts, seen_of_draft}
use Rattle.pth_script.proofs.Said.{said_rule}
use Rattle.pth_script.proofs.draft.Draft.fault.Goals as goal

pub returns-then-passes_limit : goal.returns-then-passes_limit
returns-then-passes_limit c = let e = said_rule c.args.ended (seen_of_draft (draft_parts c.args.self.now)) (texts c.args.words.now) in grind (arith, common_steps)

pub returns-then-not-ended : goal.returns-then-not-ended
returns-then-not-ended c = let e = said_rule c.args.ended (seen_of_draft (draft_parts c.args.self.now)) (texts c.args.words.now) in grind (arith, common_steps)

pub returns-in-Some : goal.returns-in-Some
returns-in-Some c = let e = said_rule c.args.ended (seen_of_draft (draft_parts c.args.self.now)) (texts c.args.words.now) in grind (arith, common_steps)

pub returns-in-Some-place_fault : goal.returns-in-Some-place_fault
returns-in-Some-place_fault c = let e = said_rule c.args.ended (seen_of_draft (draft_parts c.args.self.now)) (texts c.args.words.now) in grind (arith, common_steps)

pub returns-in-Some-stamp_fault : goal.returns-in-Some-stamp_fault
returns-in-Some-stamp_fault c = let e = said_rule c.args.ended (seen_of_draft (draft_parts c.args.self.now)) (texts c.args.words.now) in grind (arith, common_steps)

pub returns : goal.returns
returns c = let e = said_rule c.args.ended (seen_of_draft (draft_parts c.args.self.now)) (texts c.args.words.now) in grind (arith, common_steps)
