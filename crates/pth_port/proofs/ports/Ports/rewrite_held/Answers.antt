use Rattle.std.proofs.Common.{refl, SFits, w64, to_z-of_z}
use Rattle.pth_port.specs.Ports.{rewritten}
use Rattle.pth_port.proofs.Changes.{names_same}
use Rattle.pth_port.proofs.HeldMessages.{changed_mail, changed_kept}
use Rattle.pth_port.proofs.ports.Ports.rewrite_held.Goals as goal

pub invariant_of-self : goal.invariant_of-self
invariant_of-self c = changed_kept _ _ c.self.invariant c.args.n (rw (← c.self.view_is) at c.requires) refl refl refl _ (λ l. refl) (λ l. refl) c.rewrite.ensures.stored_messages c.rewrite.ensures.count

pub returns-clause-mail : goal.returns-clause-mail
returns-clause-mail c =
    let fits : SFits w64 c.args.value = c.ranges.value in
    rw (← c.self.view_is) (changed_mail _ _ c.self.invariant c.args.n (rw (← c.self.view_is) at c.requires) refl refl refl (rewritten c.args.value) (λ l. refl) (λ l. refl) (rw to_z-of_z at c.rewrite.ensures.stored_messages) c.rewrite.ensures.count)

pub returns-clause-names : goal.returns-clause-names
returns-clause-names c = rw (← c.self.view_is) (names_same _ _ c.self.invariant c.args.n _ refl refl c.rewrite.ensures.stored_messages)
