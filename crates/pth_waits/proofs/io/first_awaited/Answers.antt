use Rattle.std.proofs.Common.{Option, Some, ap, inl, inr, rules, ℕ, SFits, w64, to_z-of_z}
use Rattle.pth_model.specs.declared.awaits.Awaits.TheVariants.{Selection}
use Rattle.pth_waits.proofs.io.first_awaited.Goals as goal

pub returns-in-Select-clause-awaits : goal.returns-in-Select-clause-awaits
returns-in-Select-clause-awaits g c s st =
    let l : SFits w64 c.in-Select.l = search rules in
    let deadline = ap (λ (m : Option ℕ). Some (Selection c.in-Select.r c.in-Select.writes c.in-Select.x m)) ((rw to_z-of_z at c.select_deadline.ensures.deadline) s st) in
    elim c.in-Select.is [ inl is ↦ rw is deadline | inr (e, is) ↦ rw is deadline ]
