use Rattle.std.proofs.Common.{◌∙◌, ◌<◌, ℕ, Option, sym, ap, arith}
use Rattle.std.specs.Option.{ok_or}
use Rattle.pth_base.specs.declared.errno.Errno.TheVariants.{EAGAIN}
use Rattle.pth_store.specs.Keys.{key_limit}
use Rattle.pth_store.proofs.Calls.{free-is, shown-created}
use Rattle.pth_store.proofs.keys.Keys.create.Goals as goal

pub returns-in-Some-clause-answer : goal.returns-in-Some-clause-answer
returns-in-Some-clause-answer c = rw (← c.self.view_is) (ap (λ (o : Option ℕ). ok_or o EAGAIN) (sym c.in-Some.is ∙ c.find_free.ensures.place ∙ free-is c.self.inside.keys c.self.invariant.many))

pub returns-in-Some-clause-changes : goal.returns-in-Some-clause-changes
returns-in-Some-clause-changes c = let many = c.self.invariant.many in let low : c.in-Some.k < key_limit = omega (arith, c.in-Some.ensures.low) in rw (← c.self.view_is) (shown-created c.self.inside.keys _ c.self.invariant c.in-Some.k low c.args.h c.in-Some.ensures.free)

pub returns-in-None-clause-answer : goal.returns-in-None-clause-answer
returns-in-None-clause-answer c = rw (← c.self.view_is) (ap (λ (o : Option ℕ). ok_or o EAGAIN) (sym c.in-None.is ∙ c.find_free.ensures.place ∙ free-is c.self.inside.keys c.self.invariant.many))
