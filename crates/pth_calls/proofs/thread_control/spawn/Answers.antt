use Rattle.std.proofs.Common.{◌≡◌, ◌∙◌, Ok, refl, ap, sym, rules, SFits, w64, to_z-of_z}
use Rattle.pth_base.specs.declared.errno.Errno.TheVariants.{EAGAIN}
use Rattle.pth_numbered.specs.Operands.{number, is_below}
use Rattle.pth_model.specs.State.{State}
use Rattle.pth_model.specs.ThreadControl.{spawn, spawns, values_for, or_first}
use Rattle.pth_world.specs.Numbering.{Thread, one_of}
use Rattle.pth_world.specs.Shows.{StandsFor}
use Rattle.pth_world.specs.World.{WorldOf}
use Rattle.pth_end.proofs.Answers.{passed_answered, refused_answered}
use Rattle.pth_calls.proofs.Spawning.{body_named, spawns_same, no_room, is_made, or_first_is}
use Rattle.pth_world.proofs.Frames.{still_frame}
use Rattle.pth_calls.proofs.Framing.{spawned_frame}
use Rattle.pth_calls.proofs.thread_control.spawn.Goals as goal

pub returns-then-not-has_room-clause-answered : goal.returns-then-not-has_room-clause-answered
returns-then-not-has_room-clause-answered g c =
    let attr : SFits w64 c.args.attr = search rules in
    let p = g.P.Program.functions in
    let n = c.args.number in
    refused_answered c.args.w.now EAGAIN (λ s. (spawn p s c.args.t.0 n c.args.arg c.args.attr).begin) (λ s st. (
    let body = body_named c.in-Some.body.0 (number n) (is_below n (p s.control.program).bodies) (search rules) in
    let values : Ok c.in-Ok.of ≡ values_for s.control c.args.t.0 c.args.attr = sym c.in-Ok.is ∙ (rw to_z-of_z at c.values_for.ensures.values) s st in
    no_room p s c.args.t.0 n c.args.arg c.args.attr c.in-Ok.of body.0 values (sym (c.has_room.ensures.room s.control st.control) ∙ c.if-not-has_room.true)))

pub returns-in-Ok-spawn-clause-answered : goal.returns-in-Ok-spawn-clause-answered
returns-in-Ok-spawn-clause-answered g c =
    let f : SFits w64 c.args.arg = search rules in
    let attr : SFits w64 c.args.attr = search rules in
    let p = g.P.Program.functions in
    let n = c.args.number in
    let values : (s : State _ _ _) → StandsFor c.args.w.now s → Ok c.in-Ok.of ≡ values_for s.control c.args.t.0 c.args.attr = λ s st. sym c.in-Ok.is ∙ (rw to_z-of_z at c.values_for.ensures.values) s st in
    passed_answered c.args.w.now c.spawn.new.self _ (λ s. (spawn p s c.args.t.0 n c.args.arg c.args.attr).begin)
    (λ s. spawns p (number n) c.args.arg (or_first (values_for s.control c.args.t.0 c.args.attr))) refl
    (λ s st. (
    let body = body_named c.in-Some.body.0 (number n) (is_below n (p s.control.program).bodies) (search rules) in
    is_made p s c.args.t.0 n c.args.arg c.args.attr c.in-Ok.of body.0 (values s st) (sym (c.has_room.ensures.room s.control st.control) ∙ c.if-not-has_room.false) ∙ search rules))
    (λ s. refl)
    (λ s st. (
    let body = body_named c.in-Some.body.0 (number n) (is_below n (p s.control.program).bodies) (search rules) in
    spawns_same p _ s.control _ _ c.args.arg _ _ body.1 (or_first_is (values_for s.control c.args.t.0 c.args.attr) c.in-Ok.of (values s st)) ((rw to_z-of_z at c.in-Ok-spawn.ensures.shows) s.control st.control)))
    (ap (λ (z : WorldOf _ _ _). z.store) c.in-Ok-spawn.ensures.same)

pub returns-in_default-clause-frame : goal.returns-in_default-clause-frame
returns-in_default-clause-frame g c = still_frame (one_of Thread) c.args.w.now _ c.requires.runs c.requires.whole

pub returns-in-Err-clause-frame : goal.returns-in-Err-clause-frame
returns-in-Err-clause-frame g c = still_frame (one_of Thread) c.args.w.now _ c.requires.runs c.requires.whole

pub returns-then-not-has_room-clause-frame : goal.returns-then-not-has_room-clause-frame
returns-then-not-has_room-clause-frame g c = still_frame (one_of Thread) c.args.w.now _ c.requires.runs c.requires.whole

pub returns-in-Ok-spawn-clause-frame : goal.returns-in-Ok-spawn-clause-frame
returns-in-Ok-spawn-clause-frame g c = spawned_frame c.args.w.now c.spawn.new.self _ c.requires.runs c.in-Ok-spawn.ensures.whole c.in-Ok-spawn.ensures.made c.in-Ok-spawn.ensures.ranks c.in-Ok-spawn.ensures.same
