use Rattle.std.proofs.Common.{◌∙◌, ap, SFits, w64, to_z-of_z, rules}
use Rattle.std.proofs.lemmas.Result.{err_from_is_err_and, on_ok_weaker, on_err_weaker}
use Rattle.pth_base.proofs.Cuts.{cut_none}
use Rattle.pth_model.specs.Ending.{dies, gives_all, runs_destructors}
use Rattle.pth_world.proofs.Stores.{alive_known}
use Rattle.pth_world.specs.Store.{store_of}
use Rattle.pth_world.specs.World.{WorldOf}
use Rattle.pth_end.proofs.Chains.{cut_one, cut_second}
use Rattle.pth_end.proofs.Ends.{dies_leads, end_frame, end_leads, cut_cleaning, cut_giving, cut_later, cut_undone, cut_waiting, leaving}
use Rattle.pth_end.proofs.WaitUndone.{alive_by}
use Rattle.pth_end.proofs.Handled.{handled_then, if_answered}
use Rattle.pth_laws.proofs.Consistent.{consistent_ended}
use Rattle.pth_model.specs.Ending.{ending}
use Rattle.pth_world.specs.StateOf.{state_of}
use Rattle.pth_end.proofs.Wholes.{led_whole}
use Rattle.pth_end.proofs.ending.end_thread.Goals as goal

pub run_cleanups-requires-clause-alive : goal.run_cleanups-requires-clause-alive
run_cleanups-requires-clause-alive g c = alive_by c.args.w.now.threads c.undo_wait.new.w.threads c.args.t.0 c.in_ok-undo_wait.ensures.records c.requires.alive

pub forget-requires-clause-known : goal.forget-requires-clause-known
forget-requires-clause-known g c =
    let records = ap (λ (z : WorldOf _ _ _). z.threads.records) c.in_ok-give_all.ensures.handled.same ∙ ap (λ (z : WorldOf _ _ _). z.threads.records) c.in_ok-run_destructors.ensures.handled.same ∙ ap (λ (z : WorldOf _ _ _). z.threads.records) c.in_ok-run_cleanups.ensures.handled.same ∙ c.in_ok-undo_wait.ensures.records in
    rw records (alive_known c.args.w.now.threads c.args.t.0 c.requires.alive)

pub leave-requires-clause-known : goal.leave-requires-clause-known
leave-requires-clause-known g c =
    let records = ap (λ (z : WorldOf _ _ _). z.threads.records) c.forget.ensures.keeps.same ∙ ap (λ (z : WorldOf _ _ _). z.threads.records) c.in_ok-give_all.ensures.handled.same ∙ ap (λ (z : WorldOf _ _ _). z.threads.records) c.in_ok-run_destructors.ensures.handled.same ∙ ap (λ (z : WorldOf _ _ _). z.threads.records) c.in_ok-run_cleanups.ensures.handled.same ∙ c.in_ok-undo_wait.ensures.records in
    rw records (alive_known c.args.w.now.threads c.args.t.0 c.requires.alive)

pub returns-in_err-undo_wait-clause-goes : goal.returns-in_err-undo_wait-clause-goes
returns-in_err-undo_wait-clause-goes g c =
    let p = err_from_is_err_and c.from_residual.result c.from_residual.ensures.1 in
    rw p.1 (record { leads = tt; cut = λ s st. cut_waiting g.P.Program.functions c.args.t.0 c.args.value s _ _ (c.in_err-undo_wait.ensures.goes.cut s st) })

pub returns-in_err-run_cleanups-clause-goes : goal.returns-in_err-run_cleanups-clause-goes
returns-in_err-run_cleanups-clause-goes g c =
    let f = g.P.Program.functions in
    let p = err_from_is_err_and c.from_residual-in_err-run_cleanups.result c.from_residual-in_err-run_cleanups.ensures.1 in
    rw p.1 (record {
      leads = tt;
      cut = λ s st. (
          let undone = c.in_ok-undo_wait.ensures.goes.leads s st in
          cut_undone f c.args.t.0 c.args.value c.undo_wait.new.w s _ _ _ undone (cut_cleaning f c.args.t.0 c.args.value s _ _ (c.in_err-run_cleanups.ensures.goes.cut _ undone.stands)));
    })

pub returns-in_err-run_destructors-clause-goes : goal.returns-in_err-run_destructors-clause-goes
returns-in_err-run_destructors-clause-goes g c =
    let f = g.P.Program.functions in
    let p = err_from_is_err_and c.from_residual-in_err-run_destructors.result c.from_residual-in_err-run_destructors.ensures.1 in
    rw p.1 (record {
      leads = tt;
      cut = λ s st. (
          let undone = c.in_ok-undo_wait.ensures.goes.leads s st in
          let cleaned = c.in_ok-run_cleanups.ensures.goes.leads _ undone.stands in
          cut_undone f c.args.t.0 c.args.value c.undo_wait.new.w s _ _ _ undone (cut_later f c.args.t.0 c.args.value c.run_cleanups.new.w s _ _ _ cleaned (cut_one _ (runs_destructors f c.args.t.0) (leaving f c.args.t.0 c.args.value) _ _ (c.in_err-run_destructors.ensures.goes.cut _ cleaned.stands))));
    })

pub returns-in_err-give_all-clause-goes : goal.returns-in_err-give_all-clause-goes
returns-in_err-give_all-clause-goes g c =
    let f = g.P.Program.functions in
    let p = err_from_is_err_and c.from_residual-in_err-give_all.result c.from_residual-in_err-give_all.ensures.1 in
    rw p.1 (record {
      leads = tt;
      cut = λ s st. (
          let undone = c.in_ok-undo_wait.ensures.goes.leads s st in
          let cleaned = c.in_ok-run_cleanups.ensures.goes.leads _ undone.stands in
          let destructed = c.in_ok-run_destructors.ensures.goes.leads _ cleaned.stands in
          cut_undone f c.args.t.0 c.args.value c.undo_wait.new.w s _ _ _ undone (cut_later f c.args.t.0 c.args.value c.run_cleanups.new.w s _ _ _ cleaned (cut_giving f c.args.t.0 c.args.value c.run_destructors.new.w s _ _ _ destructed
          (cut_one _ (gives_all c.args.t.0) (dies c.args.t.0 c.args.value) _ _ (c.in_err-give_all.ensures.goes.cut _ destructed.stands)))));
    })

pub returns-clause-goes : goal.returns-clause-goes
returns-clause-goes g c =
    let v : SFits w64 c.args.value = search rules in
    let f = g.P.Program.functions in
    let left = simp to_z-of_z at c.leave.ensures.shows in
    record {
      leads = on_ok_weaker c.push.result (λ told s st.
          let undone = c.in_ok-undo_wait.ensures.goes.leads s st in
          let cleaned = c.in_ok-run_cleanups.ensures.goes.leads _ undone.stands in
          let destructed = c.in_ok-run_destructors.ensures.goes.leads _ cleaned.stands in
          let gave = c.in_ok-give_all.ensures.goes.leads _ destructed.stands in
          let stored = ap (λ (z : WorldOf _ _ _). store_of z.store) c.leave.ensures.moves.same ∙ c.forget.ensures.changes in
          let died = dies_leads f c.args.t.0 c.args.value c.give_all.new.w c.leave.new.self _ _ _ gave.stands (left _ (c.forget.ensures.keeps.shows _ gave.stands.control)) stored told in
          end_leads f c.args.t.0 c.args.value c.undo_wait.new.w c.run_cleanups.new.w c.run_destructors.new.w c.give_all.new.w c.leave.new.self s _ _ _ _ _ _ undone cleaned destructed gave died) (simp to_z-of_z at c.push.ensures.ok);
      cut = on_err_weaker c.push.result (λ same s st.
          let undone = c.in_ok-undo_wait.ensures.goes.leads s st in
          let cleaned = c.in_ok-run_cleanups.ensures.goes.leads _ undone.stands in
          let destructed = c.in_ok-run_destructors.ensures.goes.leads _ cleaned.stands in
          let gave = c.in_ok-give_all.ensures.goes.leads _ destructed.stands in
          cut_undone f c.args.t.0 c.args.value c.undo_wait.new.w s _ _ _ undone (cut_later f c.args.t.0 c.args.value c.run_cleanups.new.w s _ _ _ cleaned (cut_giving f c.args.t.0 c.args.value c.run_destructors.new.w s _ _ _ destructed
          (cut_second c.give_all.new.w _ (gives_all c.args.t.0) (dies c.args.t.0 c.args.value) _ _ _ gave (cut_none _ _ _ same))))) c.push.ensures.err;
    }

pub returns-clause-frame : goal.returns-clause-frame
returns-clause-frame g c =
    let a = c.undo_wait.new.w in
    let undone = c.in_ok-undo_wait.ensures.frame in
    let cleaned = handled_then a _ _ c.in_ok-run_cleanups.ensures.handled c.in_ok-run_destructors.ensures.handled in
    let handled = handled_then a _ _ cleaned c.in_ok-give_all.ensures.handled in
    if_answered c.push.result (end_frame c.args.w.now a c.args.t.0 c.give_all.new.w c.forget.new.self c.leave.new.self undone handled c.forget.ensures.keeps c.leave.ensures.moves)

pub returns-clause-keeps : goal.returns-clause-keeps
returns-clause-keeps g c =
    let f = g.P.Program.functions in
    let w = c.args.w.now in
    led_whole w c.leave.new.self (ending f c.args.t.0 c.args.value) _ _ c.push.result c.requires.whole (on_ok_weaker c.push.result (λ frame. frame.whole) (returns-clause-frame g c)) (returns-clause-goes g c)
    (λ waits. consistent_ended f c.args.t.0 c.args.value (state_of w) waits)
