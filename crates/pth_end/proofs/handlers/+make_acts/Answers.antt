use Rattle.std.proofs.Common.{◌<◌, inl, inr, ap, arith, rules, SFits, w64, to_z-of_z}
use Rattle.std.proofs.lemmas.Bool.{cases_lt}
use Rattle.std.proofs.lemmas.Result.{err_from_is_err_and, on_ok_weaker, on_err_weaker}
use Rattle.pth_world.specs.World.{WorldOf}
use Rattle.pth_end.proofs.Handled.{handled_shared, handled_then, still_alive}
use Rattle.pth_end.proofs.Looking.{looked_stands, no_act, act_then, act_cut, rest_cut}
use Rattle.pth_end.proofs.handlers.+make_acts.Goals as goal

pub returns-in_default-clause-goes : goal.returns-in_default-clause-goes
returns-in_default-clause-goes g t c =
    let x : SFits w64 c.args.arg = search rules in
    let act = simp to_z-of_z at c.act.ensures in
    record {
      leads = λ s st. no_act g.P.Program.functions c.args.w.now c.act.new.self c.args.t.0 c.args.h c.args.arg c.args.index c.requires.index c.act.result act.act s st (act.shows s.control st.control) (ap (λ (z : WorldOf _ _ _). z.store) c.act.ensures.same) _ c.in_default.is;
      cut = tt;
    }

pub returns-in_default-clause-handled : goal.returns-in_default-clause-handled
returns-in_default-clause-handled g t c = handled_shared c.args.w.now c.act.new.self (c.act.ensures.whole c.requires.whole) c.act.ensures.same

pub returns-in_err-make_act-clause-goes : goal.returns-in_err-make_act-clause-goes
returns-in_err-make_act-clause-goes g t c =
    let x : SFits w64 c.args.arg = search rules in
    let act = simp to_z-of_z at c.act.ensures in
    let stored = ap (λ (z : WorldOf _ _ _). z.store) c.act.ensures.same in
    let p = err_from_is_err_and c.from_residual.result c.from_residual.ensures.1 in
    rw p.1 (record {
      leads = tt;
      cut = λ s st. (
          let stands = looked_stands g.P.Program.functions c.args.w.now c.act.new.self c.args.t.0 c.args.h c.args.arg c.args.index c.requires.index c.act.result act.act s st (act.shows s.control st.control) stored in
          act_cut g.P.Program.functions c.args.w.now c.act.new.self c.args.t.0 c.args.h c.args.arg c.args.index c.requires.index c.act.result act.act s st (act.shows s.control st.control) stored c.in-Some.act c.in-Some.is _ _ (c.in_err-make_act.ensures.goes.cut _ stands));
    })

pub make_acts-requires : goal.make_acts-requires
make_acts-requires g t c κs within =
    let few : c.args.index < 64 = elim (cases_lt c.args.index 64) [ inl low ↦ low | inr high ↦ absurd (cc (c.in-Some.ensures.ends high)) ] in
    (omega arith, (within.0, (within.1.0, (within.1.1, (c.in_ok-make_act.ensures.handled.whole, (still_alive _ _ c.args.t.0 c.in_ok-make_act.ensures.handled search rules, omega arith))))))

pub returns-clause-goes : goal.returns-clause-goes
returns-clause-goes g t c =
    let x : SFits w64 c.args.arg = search rules in
    let act = simp to_z-of_z at c.act.ensures in
    let stored = ap (λ (z : WorldOf _ _ _). z.store) c.act.ensures.same in
    record {
      leads = on_ok_weaker c.make_acts.result (λ rest s st.
          let stands = looked_stands g.P.Program.functions c.args.w.now c.act.new.self c.args.t.0 c.args.h c.args.arg c.args.index c.requires.index c.act.result act.act s st (act.shows s.control st.control) stored in
          let first = c.in_ok-make_act.ensures.goes.leads _ stands in
          act_then g.P.Program.functions c.args.w.now c.act.new.self c.args.t.0 c.args.h c.args.arg c.args.index c.requires.index c.act.result act.act s st (act.shows s.control st.control) stored c.in-Some.act c.in-Some.is c.make_act.new.w c.make_acts.new.w _ _ _ first (rest _ first.stands)) (simp to_z-of_z at c.make_acts.ensures.goes.leads);
      cut = on_err_weaker c.make_acts.result (λ cut s st.
          let stands = looked_stands g.P.Program.functions c.args.w.now c.act.new.self c.args.t.0 c.args.h c.args.arg c.args.index c.requires.index c.act.result act.act s st (act.shows s.control st.control) stored in
          let first = c.in_ok-make_act.ensures.goes.leads _ stands in
          rest_cut g.P.Program.functions c.args.w.now c.act.new.self c.args.t.0 c.args.h c.args.arg c.args.index c.requires.index c.act.result act.act s st (act.shows s.control st.control) stored c.in-Some.act c.in-Some.is c.make_act.new.w _ _ _ first (cut _ first.stands)) (simp to_z-of_z at c.make_acts.ensures.goes.cut);
    }

pub returns-clause-handled : goal.returns-clause-handled
returns-clause-handled g t c =
    let looked = handled_shared c.args.w.now c.act.new.self (c.act.ensures.whole c.requires.whole) c.act.ensures.same in
    on_ok_weaker c.make_acts.result (λ rest. handled_then _ _ _ (handled_then _ _ _ looked c.in_ok-make_act.ensures.handled) rest) c.make_acts.ensures.handled
