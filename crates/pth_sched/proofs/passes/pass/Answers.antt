use Rattle.std.proofs.Common.{◌∙◌, length, ap, sym, subst, arith}
use Rattle.std.proofs.lemmas.List.{length-map}
use Rattle.std.proofs.lemmas.Result.{on_ok_weaker, on_err_weaker}
use Rattle.pth_threads.specs.Threads.{number_of}
use Rattle.pth_world.specs.WellFormed.{WellFormed}
use Rattle.pth_world.specs.World.{WorldOf}
use Rattle.pth_world.specs.StateOf.{state_of}
use Rattle.pth_world.proofs.Events.{events_whole}
use Rattle.pth_world.proofs.StateOf.{stands_for_state}
use Rattle.pth_sched.specs.Passing.{WaitOnce}
use Rattle.pth_sched.proofs.Waking.{to_wake_once, once_seen, pass_leads, pass_cut, wakes_seen, wakes_then}
use Rattle.pth_model.specs.Pass.{pass}
use Rattle.pth_laws.proofs.Consistent.{consistent_passed}
use Rattle.pth_end.proofs.Wholes.{led_whole}
use Rattle.pth_sched.proofs.passes.pass.Goals as goal

pub wake_all-requires-clause-whole : goal.wake_all-requires-clause-whole
wake_all-requires-clause-whole g c = subst (λ (w : WorldOf _ _ _). WellFormed w) (sym c.go_over.ensures.same) (events_whole c.args.w.now c.go_over.new.w.events c.requires.whole)

pub wake_all-requires-clause-wait : goal.wake_all-requires-clause-wait
wake_all-requires-clause-wait g c =
    let state = state_of c.args.w.now in
    let stands = stands_for_state c.args.w.now c.requires.whole.sound in
    let listed = c.waking.ensures ∙ c.go_over.ensures.listed state stands in
    subst (WaitOnce c.go_over.new.w) (sym listed) (once_seen c.args.w.now c.go_over.new.w c.go_over.ensures.same _ (to_wake_once c.args.w.now c.requires.whole.sound g.P.Program.functions state stands))

pub returns-clause-goes : goal.returns-clause-goes
returns-clause-goes g c =
    record {
      leads = on_ok_weaker c.wake_all.result (λ leads s st. pass_leads g.P.Program.functions c.args.w.now c.go_over.new.w s st _ _ _ (c.waking.ensures ∙ c.go_over.ensures.listed s st) (c.go_over.ensures.shows s st) (ap (λ w. w.store) c.go_over.ensures.same) c.wake_all.new.w leads) c.wake_all.ensures.goes.leads;
      cut = on_err_weaker c.wake_all.result (λ cut s st. pass_cut g.P.Program.functions c.args.w.now c.go_over.new.w s st _ _ _ (c.waking.ensures ∙ c.go_over.ensures.listed s st) (c.go_over.ensures.shows s st) (ap (λ w. w.store) c.go_over.ensures.same) cut) c.wake_all.ensures.goes.cut;
    }

pub returns-clause-wanted : goal.returns-clause-wanted
returns-clause-wanted g c =
    on_err_weaker c.wake_all.result (λ some s st none.
    let listed = ap length (c.waking.ensures ∙ c.go_over.ensures.listed s st ∙ none) in
    omega (arith, some, listed, length-map c.waking.result.now number_of)) c.wake_all.ensures.wanted

pub returns-clause-only_wakes : goal.returns-clause-only_wakes
returns-clause-only_wakes g c = on_ok_weaker c.wake_all.result (wakes_then _ _ _ (wakes_seen _ _ c.requires.whole c.go_over.ensures.made c.go_over.ensures.same)) c.wake_all.ensures.only_wakes

pub returns-clause-keeps : goal.returns-clause-keeps
returns-clause-keeps g c =
    let f = g.P.Program.functions in
    let w = c.args.w.now in
    led_whole w c.wake_all.new.w (pass f) _ _ c.wake_all.result c.requires.whole (on_ok_weaker c.wake_all.result (λ wakes. wakes.whole) (returns-clause-only_wakes g c)) (returns-clause-goes g c) (λ waits. consistent_passed f (state_of w) waits)
