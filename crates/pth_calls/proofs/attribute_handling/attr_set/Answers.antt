use Rattle.std.proofs.Common.{◌≡◌, ◌∙◌, ℕ, sym, subst, pos, refl, SFits, w64, to_z-of_z, rules}
use Rattle.pth_base.specs.declared.answer.Answer.TheVariants.{Int}
use Rattle.pth_model.specs.AttributeHandling.{object, sets_value}
use Rattle.pth_threads.specs.Attributes.{set_answer}
use Rattle.pth_end.proofs.Deciding.{decided, for_states}
use Rattle.pth_calls.proofs.attribute_handling.attr_set.Goals as goal

pub returns-clause-answered : goal.returns-clause-answered
returns-clause-answered g c =
    let fits : SFits w64 c.args.a = search rules in
    let answer = rw to_z-of_z at c.attr_set.ensures.answer in
    let shows = rw to_z-of_z at (c.attr_set.ensures.shows c.requires.whole.sound) in
    decided c.args.w.now c.attr_set.new.self (λ (u : Unit {0}). Int (pos 1))
    (λ s. set_answer s.control.top s.control.threads.known (object s.control c.args.a) c.args.v.now)
    (λ s. sets_value c.args.a c.args.v.now (object s.control c.args.a))
    (λ u. refl) c.attr_set.result c.answer_of.result c.answer_of.ensures
    (λ s st.
    let top : s.control.top ≡ c.args.w.now.attributes.top = st.control.threads.top ∙ sym c.requires.whole.top in
    subst (λ (n : ℕ). c.attr_set.result ≡ set_answer n s.control.threads.known (object s.control c.args.a) c.args.v.now) (sym top) (rw (st.control.threads.known, st.control.attributes.objects) answer))
    (for_states c.args.w.now c.attr_set.new.self c.attr_set.result (λ k. sets_value c.args.a c.args.v.now (object k c.args.a) k) shows)
    c.attr_set.ensures.refused c.attr_set.ensures.store
