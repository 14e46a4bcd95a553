use Rattle.std.proofs.Common.{◌<◌, ◌-◌, ◌∙◌, sym, arith, rules}
use Rattle.std.proofs.lemmas.Result.{err_from_is_err_and, on_ok_weaker, on_err_weaker}
use Rattle.pth_end.proofs.Destructing.{none_runs, no_more, one_runs, one_cut, rest_cut, one_less}
use Rattle.pth_end.proofs.Handled.{handled_none, handled_then, still_alive}
use Rattle.pth_end.proofs.destructors.+run_from.Goals as goal

pub returns-then-left-eq0-clause-goes : goal.returns-then-left-eq0-clause-goes
returns-then-left-eq0-clause-goes g t c = record { leads = λ s st. no_more g.P.Program.functions c.args.t.0 c.args.w.now s st c.args.round c.args.left _ (search rules); cut = tt }

pub returns-in_default-clause-goes : goal.returns-in_default-clause-goes
returns-in_default-clause-goes g t c = record { leads = λ s st. none_runs g.P.Program.functions c.args.t.0 c.args.w.now s st c.args.round c.args.left _ (sym c.next_destructor.ensures.next ∙ c.in_default.is); cut = tt }

pub returns-in_err-run_destructor-clause-goes : goal.returns-in_err-run_destructor-clause-goes
returns-in_err-run_destructor-clause-goes g t c =
    let some : 0 < c.args.left = omega arith in
    let p = err_from_is_err_and c.from_residual.result c.from_residual.ensures.1 in
    rw p.1 (record {
      leads = tt;
      cut = λ s st. one_cut g.P.Program.functions c.args.t.0 c.args.w.now s st c.args.round c.in-Some.due c.args.left (c.args.left - 1) (one_less c.args.left some) (sym c.next_destructor.ensures.next ∙ c.in-Some.is) _ _ (c.in_err-run_destructor.ensures.goes.cut s st);
    })

pub run_from-requires : goal.run_from-requires
run_from-requires g t c κs within =
    (omega arith, (within.0, (within.1.0, (within.1.1, (c.in_ok-run_destructor.ensures.handled.whole, (still_alive _ _ c.args.t.0 c.in_ok-run_destructor.ensures.handled c.requires.alive, c.in-Some.ensures.few))))))

pub returns-clause-goes : goal.returns-clause-goes
returns-clause-goes g t c =
    let some : 0 < c.args.left = omega arith in
    record {
      leads = on_ok_weaker c.run_from.result (λ rest s st.
          let first = c.in_ok-run_destructor.ensures.goes.leads s st in
          one_runs g.P.Program.functions c.args.t.0 c.args.w.now s st c.args.round c.in-Some.due c.args.left (c.args.left - 1) (one_less c.args.left some) (sym c.next_destructor.ensures.next ∙ c.in-Some.is) c.run_destructor.new.w c.run_from.new.w _ _ _ first (rest _ first.stands)) c.run_from.ensures.goes.leads;
      cut = on_err_weaker c.run_from.result (λ cut s st.
          let first = c.in_ok-run_destructor.ensures.goes.leads s st in
          rest_cut g.P.Program.functions c.args.t.0 c.args.w.now s st c.args.round c.in-Some.due c.args.left (c.args.left - 1) (one_less c.args.left some) (sym c.next_destructor.ensures.next ∙ c.in-Some.is) c.run_destructor.new.w _ _ _ first (cut _ first.stands)) c.run_from.ensures.goes.cut;
    }

pub returns-then-left-eq0-clause-handled : goal.returns-then-left-eq0-clause-handled
returns-then-left-eq0-clause-handled g t c = handled_none c.args.w.now c.requires.whole

pub returns-in_default-clause-handled : goal.returns-in_default-clause-handled
returns-in_default-clause-handled g t c = handled_none c.args.w.now c.requires.whole

pub returns-clause-handled : goal.returns-clause-handled
returns-clause-handled g t c = on_ok_weaker c.run_from.result (λ rest. handled_then _ _ _ c.in_ok-run_destructor.ensures.handled rest) c.run_from.ensures.handled
