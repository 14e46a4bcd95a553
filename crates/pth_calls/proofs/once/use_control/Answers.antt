use Rattle.std.proofs.Common.{◌≡◌, ◌∙◌, Ok, true, false, sym, ap, append-nil, SFits, w64, to_z-of_z, rules, Some}
use Rattle.std.proofs.lemmas.Result.{err_from_is_err_and}
use Rattle.pth_numbered.specs.Operands.{number, is_below}
use Rattle.pth_model.specs.State.{once_limit}
use Rattle.pth_world.proofs.Moves.{runner_alive}
use Rattle.pth_world.specs.Numbering.{no_numbers}
use Rattle.pth_world.specs.World.{WorldOf}
use Rattle.pth_calls.proofs.Storing.{is_first, is_again, is_none_such, no_verdict, first_effect, again_effect, no_effect, use_stands}
use Rattle.pth_world.proofs.Frames.{frame_then}
use Rattle.pth_end.proofs.Handled.{handled_frame, used_frame}
use Rattle.pth_calls.proofs.once.use_control.Goals as goal

pub run_told_handler-requires-clause-alive : goal.run_told_handler-requires-clause-alive
run_told_handler-requires-clause-alive g c =
    let threads = ap (λ (z : WorldOf _ _ _). z.threads) c.once.ensures.same in
    rw threads (runner_alive c.args.w.now c.args.t.0 c.requires.whole c.requires.runs)

pub returns-in_err-run_told_handler-in-Ok-true-clause-goes : goal.returns-in_err-run_told_handler-in-Ok-true-clause-goes
returns-in_err-run_told_handler-in-Ok-true-clause-goes g c =
    let f = g.P.Program.functions in
    let o : SFits w64 c.args.o = search rules in
    let h : SFits w64 c.args.h = search rules in
    let v : SFits w64 c.args.v = search rules in
    let once = simp to_z-of_z at c.once.ensures in
    let is : c.once.result ≡ Ok true = search rules in
    let ran = simp (to_z-of_z, c.handler_named.ensures) at c.in_err-run_told_handler-in-Ok-true.ensures.goes.cut in
    let p = err_from_is_err_and c.from_residual.result c.from_residual.ensures.1 in
    rw p.1 (record {
      leads = tt;
      cut = λ s st. (
          let first = is_first (is_below c.args.o once_limit) (s.control.used (number c.args.o)) (sym is ∙ once.answer s.control st.control) in
          let used = use_stands c.args.w.now c.once.new.self s (number c.args.o) (once.first is s.control st.control) (ap (λ (z : WorldOf _ _ _). z.store) c.once.ensures.same) st in
          rw (first_effect f s c.args.t.0 c.args.o c.args.h c.args.v first.0 first.1) (ran _ used));
    })

pub returns-in_ok-run_told_handler-in-Ok-true-clause-goes : goal.returns-in_ok-run_told_handler-in-Ok-true-clause-goes
returns-in_ok-run_told_handler-in-Ok-true-clause-goes g c =
    let f = g.P.Program.functions in
    let o : SFits w64 c.args.o = search rules in
    let h : SFits w64 c.args.h = search rules in
    let v : SFits w64 c.args.v = search rules in
    let once = simp to_z-of_z at c.once.ensures in
    let is : c.once.result ≡ Ok true = search rules in
    let ran = simp (to_z-of_z, c.handler_named.ensures) at c.in_ok-run_told_handler-in-Ok-true.ensures.goes.leads in
    record {
      leads = λ s st. (
          let first = is_first (is_below c.args.o once_limit) (s.control.used (number c.args.o)) (sym is ∙ once.answer s.control st.control) in
          let used = use_stands c.args.w.now c.once.new.self s (number c.args.o) (once.first is s.control st.control) (ap (λ (z : WorldOf _ _ _). z.store) c.once.ensures.same) st in
          let l = ran _ used in
          rw (first_effect f s c.args.t.0 c.args.o c.args.h c.args.v first.0 first.1) (record { stands = l.stands; tells = l.tells }));
      cut = tt;
    }

pub returns-in-Ok-false-clause-goes : goal.returns-in-Ok-false-clause-goes
returns-in-Ok-false-clause-goes g c =
    let o : SFits w64 c.args.o = search rules in
    let once = simp to_z-of_z at c.once.ensures in
    let is : c.once.result ≡ Ok false = search rules in
    let same = once.still (λ other. absurd (cc (is, other))) in
    record {
      leads = λ s st. (
          let again = is_again (is_below c.args.o once_limit) (s.control.used (number c.args.o)) (sym is ∙ once.answer s.control st.control) in
          rw (again_effect g.P.Program.functions s c.args.t.0 c.args.o c.args.h c.args.v again.0 again.1, same) (record { stands = st; tells = sym (append-nil _) }));
      cut = tt;
    }

pub returns-in-Err-clause-verdict : goal.returns-in-Err-clause-verdict
returns-in-Err-clause-verdict g c s st =
    let o : SFits w64 c.args.o = search rules in
    let once = simp to_z-of_z at c.once.ensures in
    let none = is_none_such (is_below c.args.o once_limit) (s.control.used (number c.args.o)) c.in-Err.e (sym c.in-Err.is ∙ once.answer s.control st.control) in
    rw none.1 (no_verdict g.P.Program.functions s c.args.t.0 c.args.o c.args.h c.args.v none.0)

pub returns-in-Err-clause-goes : goal.returns-in-Err-clause-goes
returns-in-Err-clause-goes g c =
    let o : SFits w64 c.args.o = search rules in
    let once = simp to_z-of_z at c.once.ensures in
    let same = once.still (λ other. absurd (cc (c.in-Err.is, other))) in
    record {
      leads = λ s st. (
          let none = is_none_such (is_below c.args.o once_limit) (s.control.used (number c.args.o)) c.in-Err.e (sym c.in-Err.is ∙ once.answer s.control st.control) in
          rw (no_effect g.P.Program.functions s c.args.t.0 c.args.o c.args.h c.args.v none.0, same) (record { stands = st; tells = sym (append-nil _) }));
      cut = tt;
    }

pub returns-in_ok-run_told_handler-in-Ok-true-clause-frame : goal.returns-in_ok-run_told_handler-in-Ok-true-clause-frame
returns-in_ok-run_told_handler-in-Ok-true-clause-frame g c =
    let t = c.args.t.0 in
    let used = used_frame c.args.w.now (Some c.args.t.0) c.requires.runs c.once.new.self (c.once.ensures.whole c.requires.whole) c.once.ensures.same in
    let ran = handled_frame c.once.new.self (Some t) used.runs c.run_told_handler.new.w c.in_ok-run_told_handler-in-Ok-true.ensures.handled in
    frame_then no_numbers c.args.w.now c.once.new.self c.run_told_handler.new.w (Some t) (Some t) false used ran

pub returns-in-Ok-false-clause-frame : goal.returns-in-Ok-false-clause-frame
returns-in-Ok-false-clause-frame g c = used_frame c.args.w.now (Some c.args.t.0) c.requires.runs c.once.new.self (c.once.ensures.whole c.requires.whole) c.once.ensures.same

pub returns-in-Err-clause-frame : goal.returns-in-Err-clause-frame
returns-in-Err-clause-frame g c = used_frame c.args.w.now (Some c.args.t.0) c.requires.runs c.once.new.self (c.once.ensures.whole c.requires.whole) c.once.ensures.same
