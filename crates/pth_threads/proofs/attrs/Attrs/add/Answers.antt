use Rattle.pth_threads.proofs.Objects.{kept_added, made_added}
use Rattle.pth_threads.proofs.attrs.Attrs.add.Goals.{in-Ok, in-Err-TooMany, in-Err-OutOfMemory}
use Rattle.pth_threads.proofs.attrs.Attrs.add.Goals as goal

pub invariant_of-self : goal.invariant_of-self
invariant_of-self c = kept_added (record { objects = c.self.inside.objects; top = c.self.inside.top }) c.add.new.self c.args.object c.add.result c.self.invariant (rw (← c.self.view_is) at c.requires.allowed) c.add.ensures.ok c.add.ensures.err

pub returns-clause-makes : goal.returns-clause-makes
returns-clause-makes c =
    let h = made_added (record { objects = c.self.inside.objects; top = c.self.inside.top }) c.add.new.self c.args.object c.add.result c.add.ensures.was_kept c.add.ensures.ok in
    elim c.match-add.branch [
      | in-Ok w ↦ rw w.result-is (rw (← c.self.view_is) (rw w.in-Ok.is at h))
      | in-Err-TooMany w ↦ rw w.result-is tt
      | in-Err-OutOfMemory w ↦ rw w.result-is tt
    ]
