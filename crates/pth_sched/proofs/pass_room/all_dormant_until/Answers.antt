use Rattle.std.proofs.Common.{◌≡◌, ◌<◌, ◌+◌, ℕ, All, take, min, ap, sym, subst, arith}
use Rattle.std.proofs.lemmas.List.{take_all}
use Rattle.std.proofs.lemmas.List.Elements.{All-map, All-more, All-weaker}
use Rattle.pth_base.specs.declared.ids.Slot.{Slot}
use Rattle.pth_kernel.specs.Kernel.{Kernel}
use Rattle.pth_model.specs.State.{now_of}
use Rattle.pth_threads.specs.Threads.{tid_at}
use Rattle.pth_waits.specs.Dormant.{IsDormant, after_now}
use Rattle.pth_waits.proofs.Dormancy.{dormant_sooner}
use Rattle.pth_sched.proofs.Waiting.{at_slot, of_waiting}
use Rattle.pth_sched.proofs.pass_room.all_dormant_until.Goals as goal

pub returns-then-until-time-clause-later : goal.returns-then-until-time-clause-later
returns-then-until-time-clause-later g c = λ s st all.
    let w = c.args.w.now in
    let k = s.control in
    let name = λ (x : Slot). tid_at w.threads.records x.0 in
    let before = c.loop-slot.invariant.later s st all in
    let own = c.dormant_until.ensures.later s st (at_slot w c.requires.whole k st.control (IsDormant s (after_now k)) all name c.args.slots.now (c.requires.waiting k st.control) c.loop-slot.slot-index c.loop-slot-test.true) in
    let now : now_of k ≡ w.kernel.now = ap (λ (z : Kernel). z.now) st.control.kernel in
    absurd (omega (arith, before, own, now, c.if-until-time.true, c.time.ensures.now, c.min-until.ensures))

pub loop-slot-preserved : goal.loop-slot-preserved
loop-slot-preserved g c = record {
  dormant = λ s st some. (
      let name = λ (x : Slot). tid_at c.args.w.now.threads.records x.0 in
      let i = c.loop-slot.slot-index in
      let until = c.loop-slot.until in
      let own = c.dormant_until.result in
      subst (λ (u : ℕ). 0 < u → All (λ (x : Slot). IsDormant s u (name x)) (take (i + 1) c.args.slots.now)) (sym c.min-until.ensures)
      (λ m. All-more (λ (x : Slot). IsDormant s (min until own) (name x)) c.args.slots.now i (record { 0 = 0 }) c.loop-slot-test.true
      (All-weaker (λ (x : Slot). IsDormant s until (name x)) (λ (x : Slot). IsDormant s (min until own) (name x)) (λ x q. dormant_sooner s (name x) until (min until own) (omega arith) q) (take i c.args.slots.now) (c.loop-slot.invariant.dormant s st (omega arith)))
      (dormant_sooner s _ own (min until own) (omega arith) (c.dormant_until.ensures.dormant s st (omega arith)))) some);
  later = λ s st all. (
      let w = c.args.w.now in
      let k = s.control in
      let name = λ (x : Slot). tid_at w.threads.records x.0 in
      let before = c.loop-slot.invariant.later s st all in
      let own = c.dormant_until.ensures.later s st (at_slot w c.requires.whole k st.control (IsDormant s (after_now k)) all name c.args.slots.now (c.requires.waiting k st.control) c.loop-slot.slot-index c.loop-slot-test.true) in
      subst (λ (u : ℕ). now_of k < u) (sym c.min-until.ensures) (omega (arith, before, own)));
}

pub returns-clause-dormant : goal.returns-clause-dormant
returns-clause-dormant g c = λ s st some.
    let name = λ (x : Slot). tid_at c.args.w.now.threads.records x.0 in
    let until = c.loop-slot.until in
    let all : take c.loop-slot.slot-index c.args.slots.now ≡ c.args.slots.now = take_all c.loop-slot.slot-index c.args.slots.now (omega arith) in
    of_waiting c.args.w.now c.requires.whole s.control st.control (IsDormant s until)
    (subst (All (IsDormant s until)) (c.requires.waiting s.control st.control)
    (All-map (IsDormant s until) name c.args.slots.now (subst (All (λ (x : Slot). IsDormant s until (name x))) all (c.loop-slot.invariant.dormant s st some))))
