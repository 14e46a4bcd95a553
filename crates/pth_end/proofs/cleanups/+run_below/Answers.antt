use Rattle.std.proofs.Common.{◌∙◌, ◌+◌, List, drop, sym, ap, subst, arith, rules, SFits, w64, to_z-of_z}
use Rattle.std.proofs.lemmas.Result.{err_from_is_err_and, on_ok_weaker, on_err_weaker}
use Rattle.pth_base.specs.Cut.{IsCut}
use Rattle.pth_model.specs.Acts.{runs_handler}
use Rattle.pth_model.specs.Ending.{runs_each}
use Rattle.pth_store.specs.Cleanups.{PushedHandler, Stacks}
use Rattle.pth_world.proofs.Stores.{alive_known}
use Rattle.pth_world.specs.Leading.{Leads}
use Rattle.pth_world.specs.Store.{store_of}
use Rattle.pth_end.proofs.Cleaning.{none_runs, one_runs, one_cut, rest_cut}
use Rattle.pth_end.proofs.Handled.{handled_none, handled_then, still_alive}
use Rattle.pth_end.proofs.Stacks.{drop_some, drop_none, stands_low}
use Rattle.pth_end.proofs.cleanups.+run_below.Goals as goal

pub cleanup_below-requires : goal.cleanup_below-requires
cleanup_below-requires g t c = alive_known c.args.w.now.threads c.args.t.0 c.requires.alive

pub returns-in_default-clause-goes : goal.returns-in_default-clause-goes
returns-in_default-clause-goes g t c =
    let stack = (store_of c.args.w.now.store).cleanups c.args.t.0 in
    record { leads = λ s st. none_runs g.P.Program.functions c.args.t.0 s (drop c.args.n stack) c.args.w.now _ (drop_none stack c.args.n (sym c.cleanup_below.ensures.answer ∙ c.in_default.is)) st; cut = tt }

pub returns-in_err-run_told_handler-clause-goes : goal.returns-in_err-run_told_handler-clause-goes
returns-in_err-run_told_handler-clause-goes g t c =
    let stack = (store_of c.args.w.now.store).cleanups c.args.t.0 in
    let x : SFits w64 c.in-Some.arg = search rules in
    let ran = simp to_z-of_z at c.in_err-run_told_handler.ensures.goes.cut in
    let p = err_from_is_err_and c.from_residual.result c.from_residual.ensures.1 in
    rw p.1 (record {
      leads = tt;
      cut = λ s st. one_cut g.P.Program.functions c.args.t.0 s (drop c.args.n stack) (c.in-Some.h, c.in-Some.arg) _ (drop_some stack c.args.n _ (sym c.cleanup_below.ensures.answer ∙ c.in-Some.is)) _ _ (ran s st);
    })

pub run_below-requires : goal.run_below-requires
run_below-requires g t c κs within =
    let stack = (store_of c.args.w.now.store).cleanups c.args.t.0 in
    let low = stands_low stack c.args.n _ (sym c.cleanup_below.ensures.answer ∙ c.in-Some.is) in
    let few = c.cleanup_below.ensures.few in
    (omega arith, (within.0, (within.1.0, (within.1.1, (c.in_ok-run_told_handler.ensures.handled.whole, (still_alive _ _ c.args.t.0 c.in_ok-run_told_handler.ensures.handled c.requires.alive, omega arith))))))

pub returns-clause-goes : goal.returns-clause-goes
returns-clause-goes g t c =
    let x : SFits w64 c.in-Some.arg = search rules in
    let ran = simp to_z-of_z at c.in_ok-run_told_handler.ensures.goes.leads in
    let f = g.P.Program.functions in
    let stack = (store_of c.args.w.now.store).cleanups c.args.t.0 in
    let is = drop_some stack c.args.n _ (sym c.cleanup_below.ensures.answer ∙ c.in-Some.is) in
    let same = ap (λ (x : Stacks). drop (c.args.n + 1) (x c.args.t.0)) c.in_ok-run_told_handler.ensures.handled.cleanups in
    record {
      leads = on_ok_weaker c.run_below.result (λ rest s st.
          let first = ran s st in
          let later = rest (runs_handler f c.args.t.0 c.in-Some.h c.in-Some.arg s).state first.stands in
          one_runs f c.args.t.0 s (drop c.args.n stack) (c.in-Some.h, c.in-Some.arg) (drop (c.args.n + 1) stack) is c.run_told_handler.new.w c.run_below.new.w _ _ _ first
          (subst (λ (l : List PushedHandler). Leads c.run_below.new.w c.run_told_handler.new.marks c.run_below.new.marks (runs_each f c.args.t.0 l (runs_handler f c.args.t.0 c.in-Some.h c.in-Some.arg s).state)) same later)) c.run_below.ensures.goes.leads;
      cut = on_err_weaker c.run_below.result (λ cut s st.
          let first = ran s st in
          let later = cut (runs_handler f c.args.t.0 c.in-Some.h c.in-Some.arg s).state first.stands in
          rest_cut f c.args.t.0 s (drop c.args.n stack) (c.in-Some.h, c.in-Some.arg) (drop (c.args.n + 1) stack) is c.run_told_handler.new.w _ _ _ first
          (subst (λ (l : List PushedHandler). IsCut c.run_told_handler.new.marks c.run_below.new.marks (runs_each f c.args.t.0 l (runs_handler f c.args.t.0 c.in-Some.h c.in-Some.arg s).state).marks) same later)) c.run_below.ensures.goes.cut;
    }

pub returns-in_default-clause-handled : goal.returns-in_default-clause-handled
returns-in_default-clause-handled g t c = handled_none c.args.w.now c.requires.whole

pub returns-clause-handled : goal.returns-clause-handled
returns-clause-handled g t c = on_ok_weaker c.run_below.result (λ rest. handled_then _ _ _ c.in_ok-run_told_handler.ensures.handled rest) c.run_below.ensures.handled
