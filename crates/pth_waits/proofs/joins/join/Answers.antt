use Rattle.std.proofs.Common.{◌≡◌, ◌∙◌, Some, None, option_map, ap, sym, refl, rules, SFits, w64, to_z-of_z}
use Rattle.pth_base.specs.declared.answer.Answer.TheVariants.{Int}
use Rattle.pth_base.specs.declared.call.Call.TheVariants.{Join}
use Rattle.pth_model.specs.Awaits.{death_of}
use Rattle.pth_model.specs.Resources.{told, answer_told}
use Rattle.pth_model.specs.Row.{refuses}
use Rattle.pth_model.specs.ThreadControl.{to_join, takes_joined, join_attempt, joined}
use Rattle.pth_model.specs.State.{State}
use Rattle.pth_model.specs.declared.verdict.Verdict.TheVariants.{Blocks, Says}
use Rattle.pth_world.proofs.Telling.{has_still}
use Rattle.pth_threads.specs.Threads.{number_of}
use Rattle.pth_world.specs.Shows.{StandsFor}
use Rattle.pth_end.proofs.Answers.{passed_changes, refused_changes}
use Rattle.pth_waits.proofs.Attempting.{blocked_still, changed_tries, none_ready, refused_ready}
use Rattle.pth_waits.proofs.Blocking.{quiet_once}
use Rattle.pth_waits.proofs.Joining.{joined_held}
use Rattle.pth_waits.proofs.joins.join.Goals as goal

pub returns-in-Some-clause-tries : goal.returns-in-Some-clause-tries
returns-in-Some-clause-tries g c a =
    let n : SFits w64 c.args.n = search rules in
    let w = c.args.w.now in
    let t = c.args.t.0 in
    let verdict = simp to_z-of_z at (rw c.in-Some.is at c.refusal.ensures) in
    changed_tries w w t (record { call = Join c.args.n; awaits = a }) (λ s. join_attempt s t c.args.n) _ verdict
    (λ s st. refused_changes w s (join_attempt s t c.args.n) (ap refuses (verdict s st)) st)
    (λ u st. refused_ready w t (Join c.args.n) None c.in-Some.errno u refl st)
    tt
    (λ idle. absurd idle)
    (blocked_still w w t refl)

pub returns-in-Some-to_join-clause-tries : goal.returns-in-Some-to_join-clause-tries
unfolding told answer_told
returns-in-Some-to_join-clause-tries g c a =
    let n : SFits w64 c.args.n = search rules in
    let value : SFits w64 c.take.result = search rules in
    let w = c.args.w.now in
    let v = c.take.new.w in
    let t = c.args.t.0 in
    let other = c.in-Some-to_join.other.0 in
    let takes : (s : State g.row.P.Denot g.row.P-State.Denot g.row.P-Shared.Denot) → StandsFor w s → to_join s.control c.args.n ≡ Some other = λ s st. sym ((simp to_z-of_z at c.to_join.ensures.takes) s.control st.control) ∙ ap (option_map number_of) c.in-Some-to_join.is in
    let joins = simp to_z-of_z at (rw c.in_default.is at c.refusal.ensures) in
    let says : (s : State g.row.P.Denot g.row.P-State.Denot g.row.P-Shared.Denot) → StandsFor w s → (join_attempt s t c.args.n).verdict ≡ Says (Int c.take.result) = λ s st. joins s st ∙ ap (joined s.control c.args.n) (takes s st) ∙ c.take.ensures.value s.control c.args.n st.control in
    changed_tries w v t (record { call = Join c.args.n; awaits = a }) (λ s. join_attempt s t c.args.n) _
    (λ s st. rw to_z-of_z (says s st))
    (λ s st. passed_changes v s (join_attempt s t c.args.n) (takes_joined (to_join s.control c.args.n)) (ap refuses (says s st)) refl (rw (takes s st) (c.take.ensures.shows s.control st.control)) (has_still w v s c.take.ensures.store st.store))
    (λ u st. quiet_once v u _ (λ x. refl) st)
    tt
    (λ idle. absurd idle)
    (joined_held w v t other c.requires.whole c.requires.runs c.in-Some-to_join.ensures.dead c.take.ensures.shows)

pub returns-in-None-clause-tries : goal.returns-in-None-clause-tries
returns-in-None-clause-tries g c a =
    let n : SFits w64 c.args.n = search rules in
    let w = c.args.w.now in
    let t = c.args.t.0 in
    let takes : (s : State g.row.P.Denot g.row.P-State.Denot g.row.P-Shared.Denot) → StandsFor w s → to_join s.control c.args.n ≡ None = λ s st. sym ((simp to_z-of_z at c.to_join.ensures.takes) s.control st.control) ∙ ap (option_map number_of) c.in-None.is in
    let joins = simp to_z-of_z at (rw c.in_default.is at c.refusal.ensures) in
    let death : c.death_of.result ≡ death_of c.args.n = simp to_z-of_z at c.death_of.ensures in
    let blocks : (s : State g.row.P.Denot g.row.P-State.Denot g.row.P-Shared.Denot) → StandsFor w s → (join_attempt s t c.args.n).verdict ≡ Blocks c.death_of.result = λ s st. joins s st ∙ ap (joined s.control c.args.n) (takes s st) ∙ ap Blocks (sym death) in
    changed_tries w w t (record { call = Join c.args.n; awaits = a }) (λ s. join_attempt s t c.args.n) (Blocks c.death_of.result)
    blocks
    (λ s st. passed_changes w s (join_attempt s t c.args.n) (takes_joined (to_join s.control c.args.n)) (ap refuses (blocks s st)) refl (rw (takes s st) st.control) st.store)
    (λ u st. none_ready w t (Join c.args.n) c.death_of.result u refl st)
    death
    (λ idle s st. rw (blocks s st, takes s st) refl)
    (blocked_still w w t refl)
