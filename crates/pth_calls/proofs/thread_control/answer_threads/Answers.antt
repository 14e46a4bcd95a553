use Rattle.std.proofs.Common.{refl, rules, SFits, w64, to_z-of_z}
use Rattle.pth_model.specs.Rows.{row_of}
use Rattle.pth_model.specs.Transition.{nothing}
use Rattle.pth_end.proofs.Answers.{if_ok_all, passed_answered}
use Rattle.pth_calls.proofs.Plains.{quiet_thread_call}
use Rattle.pth_calls.proofs.thread_control.answer_threads.Goals as goal

pub returns-in-Spawn-clause-answered : goal.returns-in-Spawn-clause-answered
unfolding row_of
returns-in-Spawn-clause-answered g c =
    let b : SFits w64 c.in-Spawn.b = search rules in
    let v : SFits w64 c.in-Spawn.v = search rules in
    let a : SFits w64 c.in-Spawn.a = search rules in
    rw c.in-Spawn.is (simp to_z-of_z at c.spawn.ensures.answered)

pub returns-in-Spawn-clause-quiet : goal.returns-in-Spawn-clause-quiet
returns-in-Spawn-clause-quiet g c = if_ok_all c.spawn.result _ (λ a. quiet_thread_call c.args.t c.args.call.now a c.requires.threads)

pub returns-in-SelfTid-clause-answered : goal.returns-in-SelfTid-clause-answered
unfolding row_of
returns-in-SelfTid-clause-answered g c = rw c.in-SelfTid.is (passed_answered c.args.w.now c.args.w.now _ _ (λ s. nothing) refl (λ s st. search rules) (λ s. refl) (λ s st. st.control) refl)

pub returns-in-SelfTid-clause-quiet : goal.returns-in-SelfTid-clause-quiet
returns-in-SelfTid-clause-quiet g c = quiet_thread_call c.args.t c.args.call.now _ c.requires.threads

pub returns-in-Suspend-clause-answered : goal.returns-in-Suspend-clause-answered
unfolding row_of
returns-in-Suspend-clause-answered g c =
    let n : SFits w64 c.in-Suspend.n = search rules in
    rw c.in-Suspend.is (simp to_z-of_z at c.suspend.ensures.answered)

pub returns-in-Suspend-clause-quiet : goal.returns-in-Suspend-clause-quiet
returns-in-Suspend-clause-quiet g c = quiet_thread_call c.args.t c.args.call.now _ c.requires.threads

pub returns-in-Resume-clause-answered : goal.returns-in-Resume-clause-answered
unfolding row_of
returns-in-Resume-clause-answered g c =
    let n : SFits w64 c.in-Resume.n = search rules in
    rw c.in-Resume.is (simp to_z-of_z at c.resume.ensures.answered)

pub returns-in-Resume-clause-quiet : goal.returns-in-Resume-clause-quiet
returns-in-Resume-clause-quiet g c = quiet_thread_call c.args.t c.args.call.now _ c.requires.threads
