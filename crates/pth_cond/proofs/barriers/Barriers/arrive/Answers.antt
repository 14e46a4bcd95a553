use Rattle.std.proofs.Common.{◌∙◌, ap, to_z-of_z}
use Rattle.pth_lock.specs.Objects.{object_named}
use Rattle.pth_cond.specs.Barriers.{arrived}
use Rattle.pth_cond.proofs.BarrierTables.{kept_back, kept_sound, barriers_changed}
use Rattle.pth_cond.proofs.barriers.Barriers.arrive.Goals as goal
use Rattle.pth_cond.proofs.barriers.Barriers.arrive.Goals.{in-Some-barriers, in-None}

pub returns-clause-changes : goal.returns-clause-changes
returns-clause-changes c =
    let named = c.in-Some.ensures.named ∙ ap object_named (to_z-of_z c.ranges.b) in
    elim c.match-barriers-place.branch [
      | in-Some-barriers w ↦ rw (w.result-is, w.self-inside-is, ← c.self.view_is) (barriers_changed c.self.inside.barriers c.self.invariant c.in-Some.place c.in-Some.ensures.low c.args.b named _ w.in-Some-barriers.barrier _ (arrived c.args.t.0) w.in-Some-barriers.is w.arrive.ensures.changes)
      | in-None w ↦ rw w.result-is tt
    ]

pub invariant_of-self-2 : goal.invariant_of-self-2
invariant_of-self-2 c = elim c.match-barriers-place.branch [
  | in-Some-barriers w ↦ rw w.self-inside-is (kept_sound c.self.inside.barriers c.self.invariant c.in-Some.place c.in-Some.ensures.low _ w.arrive.ensures.sound)
  | in-None w ↦ rw w.self-inside-is (kept_back c.self.inside.barriers c.self.invariant c.in-Some.place c.in-Some.ensures.low _ w.in-None.is)
]
