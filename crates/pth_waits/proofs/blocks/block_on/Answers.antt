use Rattle.std.proofs.Common.{◌≡◌, ◌∙◌, Option, Some, None, IsSome, IfSome, false, ap, sym, subst}
use Rattle.std.proofs.lemmas.Result.{on_ok_weaker}
use Rattle.pth_model.specs.declared.blocked.Blocked.{Blocked}
use Rattle.pth_model.specs.State.{Control}
use Rattle.pth_world.proofs.StateOf.{stands_for_state}
use Rattle.pth_world.specs.Frame.{Frame}
use Rattle.pth_world.specs.Numbering.{no_numbers}
use Rattle.pth_world.specs.Shows.{Shows}
use Rattle.pth_world.specs.Store.{store_of}
use Rattle.pth_world.specs.WellFormed.{MayAwaitAs, WellFormed}
use Rattle.pth_world.specs.World.{WorldOf}
use Rattle.pth_waits.proofs.Blocking.{blocked_twice, progress_frame, waits_on_leads}
use Rattle.pth_waits.proofs.blocks.block_on.Goals as goal

pub unreachable-requires : goal.unreachable-requires
unreachable-requires g c =
    let st = stands_for_state c.args.w.now c.requires.whole.sound in
    cc (subst (λ (o : Option Blocked). IsSome o) (sym (c.take_blocked.ensures.blocked _ st.control) ∙ c.in-None.is) (c.requires.some _ st.control))

pub returns-clause-ok : goal.returns-clause-ok
returns-clause-ok g c = on_ok_weaker c.push.result (λ told s b has st.
    let t = c.args.t.0 in
    let now : Blocked = record { call = c.in-Some.blocked.call; awaits = c.args.awaits } in
    let held : Some b ≡ Some c.in-Some.blocked = sym has ∙ sym (c.take_blocked.ensures.blocked s.control st.control) ∙ c.in-Some.is in
    let is : b ≡ c.in-Some.blocked = cc in
    let shows = subst (λ (k : Control _ _ _). Shows c.block.new.self k) (blocked_twice s.control t (Some now) None) (c.block.ensures.shows _ (c.take_blocked.ensures.shows s.control st.control)) in
    rw is (waits_on_leads _ s t now _ _ ((rw is at st).store ∙ sym (ap (λ (z : WorldOf _ _ _). store_of z.store) c.block.ensures.same ∙ ap (λ (z : WorldOf _ _ _). store_of z.store) c.take_blocked.ensures.same)) shows told)) (rw c.in_ok-copy.ensures at c.push.ensures.ok)

pub returns-clause-frame : goal.returns-clause-frame
returns-clause-frame g c = on_ok_weaker c.push.result (λ told.
    let t = c.args.t.0 in
    let st = stands_for_state c.args.w.now c.requires.whole.sound in
    let is = sym (c.take_blocked.ensures.blocked _ st.control) ∙ c.in-Some.is in
    let may = subst (λ (o : Option Blocked). IfSome o (λ d. MayAwaitAs t d.call c.args.awaits)) is (c.requires.may _ st.control) in
    let whole = c.block.ensures.whole (c.take_blocked.ensures.whole c.requires.whole) may in
    let p = c.block.new.self.threads.progress in
    let same = c.block.ensures.same ∙ ap (λ (v : WorldOf _ _ _). record v { threads = record v.threads { progress = p } }) c.take_blocked.ensures.same in
    subst (λ (v : WorldOf _ _ _). Frame c.args.w.now v no_numbers (Some t) false) (sym same)
    (progress_frame c.args.w.now p (Some t) c.requires.runs (subst (λ (v : WorldOf _ _ _). WellFormed v) same whole))) c.push.ensures.ok
