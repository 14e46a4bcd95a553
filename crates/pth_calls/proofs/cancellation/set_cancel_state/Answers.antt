use Rattle.std.proofs.Common.{◌≡◌, ◌∙◌, pos, sym, SFits, w64, to_z, of_z, to_z-of_z, rules}
use Rattle.pth_calls.proofs.Canceling.{sets_answered, stays_answered, unset_answered}
use Rattle.pth_calls.proofs.cancellation.set_cancel_state.Goals as goal

pub returns-then-state-ne0-clause-answered : goal.returns-then-state-ne0-clause-answered
returns-then-state-ne0-clause-answered g c =
    let n : SFits w64 c.args.n = search rules in
    let fits : SFits w64 c.from-before.result = search rules in
    let before : to_z w64 (of_z w64 c.from-before.result) ≡ pos c.in-Some-entry.it.now.cancel = rw to_z-of_z c.from-before.ensures in
    let state = sym (simp to_z-of_z at c.cancel_state_of.ensures) ∙ c.in-Some.is in
    sets_answered c.args.w.now c.args.t.0 c.args.n _ c.in-Some.state c.in-Some-entry.it.now c.set_field.new.self
    (state, before, λ k sh. c.in-Some-entry.ensures.entry k sh) c.if-state-ne0.true (λ k sh. c.set_field.ensures.shows k sh) c.set_field.ensures.store

pub returns-clause-answered : goal.returns-clause-answered
returns-clause-answered g c =
    let n : SFits w64 c.args.n = search rules in
    let fits : SFits w64 c.from-before.result = search rules in
    let before : to_z w64 (of_z w64 c.from-before.result) ≡ pos c.in-Some-entry.it.now.cancel = rw to_z-of_z c.from-before.ensures in
    let state = sym (simp to_z-of_z at c.cancel_state_of.ensures) ∙ c.in-Some.is in
    stays_answered c.args.w.now c.args.t.0 c.args.n _ c.in-Some.state c.in-Some-entry.it.now
    (state, before, λ k sh. c.in-Some-entry.ensures.entry k sh) c.if-state-ne0.false

pub returns-in_default-clause-answered : goal.returns-in_default-clause-answered
returns-in_default-clause-answered g c =
    let n : SFits w64 c.args.n = search rules in
    unset_answered c.args.w.now c.args.t.0 c.args.n _ (sym c.in_default.is ∙ rw to_z-of_z at c.cancel_state_of.ensures)
