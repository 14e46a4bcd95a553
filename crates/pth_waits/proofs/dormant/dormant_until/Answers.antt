use Rattle.std.proofs.Common.{◌<◌, ◌∙◌, ℕ, sym, subst, rules, SFits, w64, to_z-of_z, arith}
use Rattle.pth_threads.specs.Threads.{tid_at}
use Rattle.pth_model.specs.State.{now_of}
use Rattle.pth_waits.specs.Dormant.{IsDormant, after_now}
use Rattle.pth_waits.proofs.Dormancy.{dormant_away, dormant_bare, dormant_beside, dormant_pending}
use Rattle.pth_waits.proofs.Undue.{undue_dormant}
use Rattle.pth_waits.proofs.dormant.dormant_until.Goals as goal

pub returns-in-Some-clause-dormant : goal.returns-in-Some-clause-dormant
returns-in-Some-clause-dormant g c = λ s st some.
    let fits : SFits w64 c.in-Some.e = search rules in
    let t = tid_at c.args.w.now.threads.records c.args.slot.0 in
    let a = c.awaited_in-awaited in
    let unasked = sym (c.may_be_canceled_at.ensures s.control st.control) ∙ c.if-may_be_canceled_at.false in
    let pending = rw to_z-of_z at c.ring_until.ensures.pending in
    subst (λ (u : ℕ). 0 < u → IsDormant s u t) (sym c.min.ensures)
    (λ least. dormant_beside s t c.awaits_until-until.result a.result (a.ensures.awaited s.control st.control) (c.awaits_until-until.ensures.away s st (omega arith)) unasked c.ring_until.result _ c.in-Some.is (pending s st (omega arith))) some

pub returns-in-Some-clause-later : goal.returns-in-Some-clause-later
returns-in-Some-clause-later g c = λ s st q.
    let fits : SFits w64 c.in-Some.e = search rules in
    let t = tid_at c.args.w.now.threads.records c.args.slot.0 in
    let a = c.awaited_in-awaited.result in
    let is = c.awaited_in-awaited.ensures.awaited s.control st.control in
    let awaits = c.awaits_until-until.ensures.later s st (dormant_away s t (after_now s.control) a is q) in
    let ring = (rw to_z-of_z at c.ring_until.ensures.later) s st (dormant_pending s t (after_now s.control) a is q _ c.in-Some.is) in
    subst (λ (u : ℕ). now_of s.control < u) (sym c.min.ensures) (omega (arith, awaits, ring))

pub returns-in-None-clause-dormant : goal.returns-in-None-clause-dormant
returns-in-None-clause-dormant g c = λ s st some.
    let t = tid_at c.args.w.now.threads.records c.args.slot.0 in
    let a = c.awaited_in-awaited in
    let unasked = sym (c.may_be_canceled_at.ensures s.control st.control) ∙ c.if-may_be_canceled_at.false in
    dormant_bare s t c.awaits_until-until.result a.result (a.ensures.awaited s.control st.control) (c.awaits_until-until.ensures.away s st some) unasked c.in-None.is

pub returns-in-None-clause-later : goal.returns-in-None-clause-later
returns-in-None-clause-later g c = λ s st q.
    let t = tid_at c.args.w.now.threads.records c.args.slot.0 in
    let a = c.awaited_in-awaited in
    c.awaits_until-until.ensures.later s st (dormant_away s t (after_now s.control) a.result (a.ensures.awaited s.control st.control) q)

pub returns-in-Some-clause-told : goal.returns-in-Some-clause-told
returns-in-Some-clause-told g c = λ s st undue.
    returns-in-Some-clause-later g c s st (undue_dormant c.args.w.now c.requires.whole s st c.args.slot.0 c.requires.used g.P.Program.functions undue)

pub returns-in-None-clause-told : goal.returns-in-None-clause-told
returns-in-None-clause-told g c = λ s st undue.
    returns-in-None-clause-later g c s st (undue_dormant c.args.w.now c.requires.whole s st c.args.slot.0 c.requires.used g.P.Program.functions undue)

pub returns-then-may_be_canceled_at-clause-told : goal.returns-then-may_be_canceled_at-clause-told
returns-then-may_be_canceled_at-clause-told g c = λ s st undue.
    let q = undue_dormant c.args.w.now c.requires.whole s st c.args.slot.0 c.requires.used g.P.Program.functions undue in
    let asked = sym (c.may_be_canceled_at.ensures s.control st.control) ∙ c.if-may_be_canceled_at.true in
    absurd (cc (sym q.unasked ∙ asked))
