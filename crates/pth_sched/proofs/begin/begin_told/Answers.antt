use Rattle.std.proofs.Common.{refl, rules, SFits, w64, to_z-of_z}
use Rattle.pth_model.specs.Calls.{begun}
use Rattle.pth_model.specs.Resources.{told}
use Rattle.pth_world.proofs.Telling.{quiet_leads}
use Rattle.pth_world.specs.StateOf.{state_of}
use Rattle.pth_sched.proofs.Begins.{is_plain_call}
use Rattle.pth_sched.proofs.begin.begin_told.Goals as goal

pub returns-in_ok-note-in-Note-clause-goes : goal.returns-in_ok-note-in-Note-clause-goes
unfolding begun told
returns-in_ok-note-in-Note-clause-goes g c =
    let fits : SFits w64 c.in-Note.value = search rules in
    record { next = λ s st. rw c.in-Note.is refl; leads = λ s st. rw c.in-Note.is (quiet_leads _ s _ _ _ (λ x. refl) st (rw to_z-of_z at c.in_ok-note-in-Note.ensures.ok)); cut = tt }

pub begin_plain-requires-clause-plain : goal.begin_plain-requires-clause-plain
begin_plain-requires-clause-plain g c =
    is_plain_call (state_of c.args.w.now) c.args.call.now c.requires.never c.in_default.not-Kill c.requires.no_yield c.requires.not_plain c.in_default.not-Note c.in_default.not-CleanupPop c.in_default.not-Once c.in_default.not-Cancel c.in_default.not-Abort c.in_default.not-CancelPoint
