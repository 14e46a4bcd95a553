use Rattle.std.proofs.Common.{◌≡◌, pos, refl, sym, subst, arith, rules, SFits, w64, to_z, of_z, to_z-of_z}
use Rattle.std.proofs.lemmas.Result.{IfOk-weaker}
use Rattle.pth_base.specs.declared.answer.Answer.TheVariants.{Int}
use Rattle.pth_model.specs.AttributeHandling.{attr_of}
use Rattle.pth_world.specs.Leading.{IsAnswered}
use Rattle.pth_calls.proofs.Bound.{bound_answered, bound_refused}
use Rattle.pth_world.proofs.Frames.{refused_frame, still_frame}
use Rattle.pth_end.proofs.Handled.{if_answered}
use Rattle.pth_calls.proofs.Framing.{object_made_frame}
use Rattle.pth_world.specs.Numbering.{Object, one_of}
use Rattle.pth_calls.proofs.attribute_handling.attr_of.Goals as goal

pub attr_of-requires : goal.attr_of-requires
attr_of-requires g c = let few = c.requires.few Object in omega arith

pub returns-in-None-clause-frame : goal.returns-in-None-clause-frame
returns-in-None-clause-frame g c = still_frame (one_of Object) c.args.w.now _ refl c.requires.whole

pub returns-in-Ok-clause-frame : goal.returns-in-Ok-clause-frame
returns-in-Ok-clause-frame g c = object_made_frame c.args.w.now c.requires.whole c.attr_of.new.self c.attr_of.ensures.same c.in-Ok.ensures.makes.made c.in-Ok.ensures.makes.top

pub returns-in-Err-clause-frame : goal.returns-in-Err-clause-frame
returns-in-Err-clause-frame g c = if_answered c.refused.result (refused_frame (one_of Object) c.args.w.now c.attr_of.new.self _ refl c.requires.whole c.in-Err.ensures.refused)

pub returns-in-Ok-clause-answered : goal.returns-in-Ok-clause-answered
returns-in-Ok-clause-answered g c =
    let n : SFits w64 c.args.n = search rules in
    let fits : SFits w64 c.from.result = search rules in
    let number : to_z w64 (of_z w64 c.from.result) ≡ pos c.in-Ok.object.0 = rw to_z-of_z c.from.ensures in
    let known = simp to_z-of_z at c.in-Some.ensures in
    subst (λ z. IsAnswered c.args.w.now c.attr_of.new.self (Int z) (λ s. (attr_of s c.args.n).begin)) (sym number)
    (bound_answered c.args.w.now c.args.n c.in-Some.it.now known.entry known.here known.number c.attr_of.new.self c.in-Ok.object c.attr_of.ensures.same c.in-Ok.ensures.makes c.in-Ok.ensures.answer)

pub returns-in-Err-clause-answered : goal.returns-in-Err-clause-answered
returns-in-Err-clause-answered g c =
    let n : SFits w64 c.args.n = search rules in
    let known = simp to_z-of_z at c.in-Some.ensures in
    IfOk-weaker c.refused.result _ _ (λ a says. bound_refused c.args.w.now c.args.n c.in-Some.it.now known.entry known.here known.number c.attr_of.new.self c.in-Err.refusal a c.in-Err.ensures.refused c.in-Err.ensures.answer says) c.refused.ensures
