use Rattle.std.proofs.Common.{◌≡◌, ◌≢◌, ℕ, ◌<◌, ◌≤◌, length, arith, min}
use Rattle.pth_numbered.proofs.Slots.{below_end}
use Rattle.pth_numbered.specs.Numbered.{NumberedOf, IsKept, number_at}
use Rattle.pth_numbered.proofs.numbered.Numbered.slots_end.Goals as goal

-- a bound of the slab's slots is one of the slots in use, and so is the lesser of it and the limit
past : {A : Type 0} (x : NumberedOf A) (all least : ℕ) → IsKept x → length x.slots ≤ all → least ≡ min all x.limit → (u : ℕ) → number_at x u ≢ 0 → u < least
past x all least kept within is u used =
    let a : u < length x.slots = below_end x u used in
    let b : u < x.limit = kept.low u used in
    rw is (omega (arith, a, b, within))

pub returns-clause-past : goal.returns-clause-past
returns-clause-past g c = rw (← c.self.view_is) (past _ c.capacity.result c.min.result c.self.invariant c.capacity.ensures.slots c.min.ensures)
