use Rattle.std.proofs.Common.{IfOk, arith, false, refl, subst, sym}
use Rattle.pth_world.specs.World.{WorldOf}
use Rattle.pth_world.specs.Shows.{StandsFor}
use Rattle.pth_world.specs.Leading.{StandsWhere}
use Rattle.pth_model.specs.Calls.{begun}
use Rattle.std.proofs.lemmas.Result.{IfOk-weaker}
use Rattle.pth_world.proofs.Frames.{frame_more}
use Rattle.pth_world.specs.Frame.{Frame, runs_after, yields_after}
use Rattle.pth_world.specs.Numbering.{no_numbers, one_of_each}
use Rattle.pth_waits.proofs.Carried.{begun_goes, carried_frame, goes_as}
use Rattle.pth_end.proofs.Keeping.{begun_where_whole}
use Rattle.pth_sched.proofs.begin.begin.Goals as goal

pub carry_out-requires-clause-may : goal.carry_out-requires-clause-may
carry_out-requires-clause-may g c = (rw c.in-Some.is at c.in_ok-verdict.ensures.attempts).may

pub returns-in-Some-clause-goes : goal.returns-in-Some-clause-goes
returns-in-Some-clause-goes g c =
    begun_goes g.P.Program.functions c.args.w.now c.attempt.new.w c.args.t.0 c.args.call c.in-Some.verdict (rw c.in-Some.is at c.in_ok-verdict.ensures.called) (rw c.in-Some.is at c.in_ok-verdict.ensures.attempts) _ _ _ _ c.carry_out.ensures.goes

pub returns-in-Some-clause-frame : goal.returns-in-Some-clause-frame
returns-in-Some-clause-frame g c = IfOk-weaker c.carry_out.result _ _ (λ n frame. frame_more no_numbers one_of_each c.args.w.now c.carry_out.new.w (runs_after c.args.t.0 n) (yields_after n) (λ k. omega arith) frame)
    (carried_frame c.args.w.now c.attempt.new.w c.carry_out.new.w c.args.t.0 _ c.carry_out.result c.in_ok-verdict.ensures.frame c.carry_out.ensures.frame)

pub begin_at_once-requires-clause-never : goal.begin_at_once-requires-clause-never
begin_at_once-requires-clause-never g c = c.in_ok-verdict.ensures.never c.in-None.is

pub returns-in-None-clause-goes : goal.returns-in-None-clause-goes
returns-in-None-clause-goes g c =
    let w = c.args.w.now in
    let v = c.attempt.new.w in
    let same = c.in_ok-verdict.ensures.same c.in-None.is in
    let f = g.P.Program.functions in
    goes_as (StandsFor v) (StandsWhere w c.args.t.0 false) (begun f c.args.t.0 c.args.call) (begun f c.args.t.0 c.args.call) _ _ _ _
    (λ s st. (s, subst (λ (u : WorldOf _ _ _). StandsFor u s) (sym same) st.0, refl)) c.begin_at_once.ensures.goes

pub returns-in-Some-clause-keeps : goal.returns-in-Some-clause-keeps
returns-in-Some-clause-keeps g c =
    begun_where_whole g.P.Program.functions c.args.w.now c.carry_out.new.w c.args.t.0 c.requires.whole c.requires.runs c.args.call one_of_each (runs_after c.args.t.0) yields_after _ _ c.carry_out.result (returns-in-Some-clause-frame g c) (returns-in-Some-clause-goes g c)

pub returns-in-None-clause-keeps : goal.returns-in-None-clause-keeps
returns-in-None-clause-keeps g c =
    let same = c.in_ok-verdict.ensures.same c.in-None.is in
    begun_where_whole g.P.Program.functions c.args.w.now c.begin_at_once.new.w c.args.t.0 c.requires.whole c.requires.runs c.args.call one_of_each (runs_after c.args.t.0) yields_after _ _ c.begin_at_once.result (subst (λ (u : WorldOf _ _ _). IfOk c.begin_at_once.result (λ n. Frame u c.begin_at_once.new.w one_of_each (runs_after c.args.t.0 n) (yields_after n))) same c.begin_at_once.ensures.frame) (returns-in-None-clause-goes g c)
