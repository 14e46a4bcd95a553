use Rattle.std.proofs.Common.{◌∙◌, ap, to_z-of_z}
use Rattle.pth_lock.specs.Objects.{object_named}
use Rattle.pth_cond.specs.Barriers.{Barrier, answered}
use Rattle.pth_cond.proofs.BarrierTables.{kept_back, kept_sound, barriers_changed, none_changed, past_changed}
use Rattle.pth_cond.proofs.barriers.Barriers.answer.Goals as goal
use Rattle.pth_cond.proofs.barriers.Barriers.answer.Goals.{in-Some-barriers, in-None}

pub returns-in_default-clause-changes : goal.returns-in_default-clause-changes
returns-in_default-clause-changes c =
    let high = rw (to_z-of_z c.ranges.b) at c.in_default.ensures.none in
    rw (← c.self.view_is) (past_changed c.self.inside.barriers c.self.invariant c.args.b _ high)

pub returns-clause-changes : goal.returns-clause-changes
returns-clause-changes c =
    let named = c.in-Some.ensures.named ∙ ap object_named (to_z-of_z c.ranges.b) in
    let change = λ (y : Barrier). record y { arrivals = answered c.args.t.0 c.args.round y.arrivals } in
    elim c.match-barriers-place.branch [
      | in-Some-barriers w ↦ rw (w.self-inside-is, ← c.self.view_is) (barriers_changed c.self.inside.barriers c.self.invariant c.in-Some.place c.in-Some.ensures.low c.args.b named _ w.in-Some-barriers.barrier _ change w.in-Some-barriers.is w.answer.ensures.changes)
      | in-None w ↦ rw (w.self-inside-is, ← c.self.view_is) (none_changed c.self.inside.barriers c.self.invariant c.in-Some.place c.in-Some.ensures.low c.args.b named _ change w.in-None.is)
    ]

pub invariant_of-self-2 : goal.invariant_of-self-2
invariant_of-self-2 c = elim c.match-barriers-place.branch [
  | in-Some-barriers w ↦ rw w.self-inside-is (kept_sound c.self.inside.barriers c.self.invariant c.in-Some.place c.in-Some.ensures.low _ w.answer.ensures.sound)
  | in-None w ↦ rw w.self-inside-is (kept_back c.self.inside.barriers c.self.invariant c.in-Some.place c.in-Some.ensures.low _ w.in-None.is)
]
