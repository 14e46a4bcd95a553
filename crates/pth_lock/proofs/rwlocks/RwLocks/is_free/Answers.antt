use Rattle.std.proofs.Common.{◌∙◌, ap, to_z-of_z, sym}
use Rattle.pth_lock.specs.RwLocks.{lock_free_answer}
use Rattle.pth_lock.proofs.Holdings.{free_answered, sound, old}
use Rattle.pth_lock.proofs.rwlocks.RwLocks.is_free.Goals as goal

pub returns-clause-answer : goal.returns-clause-answer
returns-clause-answer c =
    rw (← c.self.view_is)
    (free_answered _ c.in_ok-holders.holders _ c.in_ok-holders.ensures.known (c.self.invariant.held _) c.args.write c.is_open.result (sym c.is_open.ensures)
    ∙ ap (lock_free_answer (old c.self.inside.locks c.self.inside.sets c.self.invariant) c.args.write) (to_z-of_z c.ranges.l))

pub returns-clause-sound : goal.returns-clause-sound
returns-clause-sound c = rw (← c.self.view_is) (sound c.self.inside.locks c.self.inside.sets c.self.invariant)

pub returns-in_err-holders-clause-sound : goal.returns-in_err-holders-clause-sound
returns-in_err-holders-clause-sound c = rw (← c.self.view_is) (sound c.self.inside.locks c.self.inside.sets c.self.invariant)
