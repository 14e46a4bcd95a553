use Rattle.std.proofs.Common.{◌∙◌, ℕ, pos, ◌≤ℤ◌, [], None, ap, to_z-of_z, rules}
use Rattle.pth_lock.specs.Objects.{object_named}
use Rattle.pth_cond.proofs.BarrierTables.{barriers_initialised, kept_sound, size_is}
use Rattle.pth_cond.proofs.barriers.Barriers.init.Goals as goal

pub returns-clause-changes : goal.returns-clause-changes
returns-clause-changes c =
    let named = c.in-Some.ensures.named ∙ ap object_named (to_z-of_z c.ranges.b) in
    let some : pos 1 ≤ℤ c.args.n = search rules in
    let size = size_is c.args.n some in
    let made = rw (to_z-of_z c.ranges.n) at c.in_ok-barrier.ensures.empty in
    rw (← c.self.view_is) (barriers_initialised c.self.inside.barriers c.self.invariant c.in-Some.place c.in-Some.ensures.low c.args.b named None c.args.n c.in_ok-barrier.barrier (made ∙ ap (λ (k : ℕ). record { size = k; round = 1; arrivals = [] }) size))

pub invariant_of-self : goal.invariant_of-self
invariant_of-self c = kept_sound c.self.inside.barriers c.self.invariant c.in-Some.place c.in-Some.ensures.low c.in_ok-barrier.barrier c.in_ok-barrier.ensures.sound
