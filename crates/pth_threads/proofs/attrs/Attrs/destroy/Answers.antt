use Rattle.std.proofs.Common.{◌≡◌, ℕ, subst, arith}
use Rattle.std.proofs.lemmas.Int.{ints}
use mir.Syntax.{w64}
use mir.Val.{to_z, of_z}
use Rattle.pth_threads.specs.Attributes.{Drops}
use Rattle.pth_threads.proofs.Objects.{dropped, kept_dropped}
use Rattle.pth_threads.proofs.attrs.Attrs.destroy.Goals as goal

pub invariant_of-self : goal.invariant_of-self
invariant_of-self c = kept_dropped (record { objects = c.self.inside.objects; top = c.self.inside.top }) c.remove.new.self c.in-Some.slot.0 c.remove.ensures.removes c.self.invariant

pub returns-clause-changes : goal.returns-clause-changes
returns-clause-changes c =
    let is : to_z w64 (of_z w64 c.args.a) ≡ c.args.a = omega (arith, ints) in
    let P : ℕ → Type 0 = λ n. Drops (record { objects = c.self.inside.objects; top = c.self.inside.top }) (record { objects = c.remove.new.self; top = c.self.inside.top }) n in
    rw (← c.self.view_is) (subst P (rw (← c.self.view_is, is) at c.in-Some.ensures.named) (dropped (record { objects = c.self.inside.objects; top = c.self.inside.top }) c.remove.new.self c.in-Some.slot.0 c.remove.ensures.removes (rw (← c.self.view_is) at c.in-Some.ensures.kept) (rw (← c.self.view_is) at c.in-Some.ensures.used)))
