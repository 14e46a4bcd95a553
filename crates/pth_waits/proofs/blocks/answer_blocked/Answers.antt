use Rattle.std.proofs.Common.{◌≡◌, ◌∙◌, Option, Some, IsSome, ap, sym, subst}
use Rattle.std.proofs.lemmas.Result.{on_ok_weaker}
use Rattle.pth_model.specs.declared.blocked.Blocked.{Blocked}
use Rattle.pth_world.proofs.StateOf.{stands_for_state}
use Rattle.pth_world.specs.Store.{StoreOf, store_of}
use Rattle.pth_world.specs.World.{WorldOf}
use Rattle.pth_waits.proofs.Blocking.{answers_leads, unblocked_frame}
use Rattle.pth_waits.proofs.blocks.answer_blocked.Goals as goal

pub unreachable-requires : goal.unreachable-requires
unreachable-requires g c =
    let st = stands_for_state c.args.w.now c.requires.whole.sound in
    cc (subst (λ (o : Option Blocked). IsSome o) (sym (c.unblock.ensures.blocked _ st.control) ∙ c.in-None.is) (c.requires.some _ st.control))

pub returns-clause-ok : goal.returns-clause-ok
returns-clause-ok g c = on_ok_weaker c.answer_call.result (λ told s b has once.
    let held : Some b ≡ Some c.in-Some.blocked = sym has ∙ sym (c.unblock.ensures.blocked s.control once.control) ∙ c.in-Some.is in
    let is : b ≡ c.in-Some.blocked = cc in
    let stored = ap (λ (z : WorldOf _ _ _). z.store) c.unblock.ensures.same in
    let still = ap (λ (y : StoreOf). store_of y) (sym stored) in
    rw is (answers_leads g.P.Program.functions _ s c.args.t.0 c.in-Some.blocked.call c.args.answer _ _ ((rw is at once).store ∙ still) (c.unblock.ensures.shows s.control once.control) told)) c.answer_call.ensures.ok

pub returns-clause-frame : goal.returns-clause-frame
returns-clause-frame g c =
    let u = c.unblock.ensures in
    on_ok_weaker c.answer_call.result (λ told. unblocked_frame c.args.w.now c.unblock.new.self _ c.requires.runs (u.whole c.requires.whole) u.made u.same) c.answer_call.ensures.ok
