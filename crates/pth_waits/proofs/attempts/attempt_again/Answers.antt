use Rattle.std.proofs.Common.{◌≡◌, ◌∙◌, false, is_some, Some, option_copied, ap, sym, subst, refl, rules, SFits, w64, to_z-of_z}
use Rattle.pth_base.specs.declared.call.Call.TheVariants.{BarrierReach, Exit, Join, MutexAcquire, Nap, RwAcquire, Sleep, Usleep, Wait}
use Rattle.pth_model.specs.declared.blocked.Blocked.{Blocked}
use Rattle.pth_model.specs.Resources.{answer_told, told}
use Rattle.pth_model.specs.Awaits.{is_await, is_awaiting, round_in}
use Rattle.pth_model.specs.Rows.{row_of}
use Rattle.pth_world.specs.Leading.{Tries}
use Rattle.pth_waits.proofs.Attempted.{descriptors_else, tries_as, tries_at}
use Rattle.pth_waits.proofs.Resting.{rest_tries}
use Rattle.pth_waits.proofs.attempts.attempt_again.Goals as goal

pub returns-in-Join-clause-tries : goal.returns-in-Join-clause-tries
unfolding row_of
returns-in-Join-clause-tries g c k b sh has =
    let n : SFits w64 c.in-Join.n = search rules in
    let same : Some c.in-Some.blocked.now ≡ Some b = ap (λ o. option_copied o) (sym c.in-Some.is) ∙ c.blocked.ensures.blocked k sh ∙ has in
    let e : b ≡ c.in-Some.blocked.now = cc in
    let is : b.call ≡ Join c.in-Join.n = ap (λ (x : Blocked). x.call) e ∙ c.in-Join.is in
    tries_at _ _ c.args.t.0 b (Join c.in-Join.n) (λ d a s. (row_of g.P.Program.functions s c.args.t.0 d).again a) _ is (simp to_z-of_z at c.join.ensures.tries)

pub returns-in-Exit-clause-tries : goal.returns-in-Exit-clause-tries
unfolding row_of
returns-in-Exit-clause-tries g c k b sh has =
    let n : SFits w64 c.in-Exit.value = search rules in
    let same : Some c.in-Some.blocked.now ≡ Some b = ap (λ o. option_copied o) (sym c.in-Some.is) ∙ c.blocked.ensures.blocked k sh ∙ has in
    let e : b ≡ c.in-Some.blocked.now = cc in
    let is : b.call ≡ Exit c.in-Exit.value = ap (λ (x : Blocked). x.call) e ∙ c.in-Exit.is in
    tries_at _ _ c.args.t.0 b (Exit c.in-Exit.value) (λ d a s. (row_of g.P.Program.functions s c.args.t.0 d).again a) _ is (simp to_z-of_z at c.exit.ensures.tries)

pub returns-in-Wait-clause-tries : goal.returns-in-Wait-clause-tries
unfolding row_of
returns-in-Wait-clause-tries g c k b sh has =
    let n : SFits w64 c.in-Wait.e = search rules in
    let same : Some c.in-Some.blocked.now ≡ Some b = ap (λ o. option_copied o) (sym c.in-Some.is) ∙ c.blocked.ensures.blocked k sh ∙ has in
    let e : b ≡ c.in-Some.blocked.now = cc in
    let is : b.call ≡ Wait c.in-Wait.e = ap (λ (x : Blocked). x.call) e ∙ c.in-Wait.is in
    tries_at _ _ c.args.t.0 b (Wait c.in-Wait.e) (λ d a s. (row_of g.P.Program.functions s c.args.t.0 d).again a) _ is (simp to_z-of_z at c.wait_again.ensures.tries)

pub returns-in-Nap-clause-tries : goal.returns-in-Nap-clause-tries
unfolding row_of told answer_told
returns-in-Nap-clause-tries g c k b sh has =
    let same : Some c.in-Some.blocked.now ≡ Some b = ap (λ o. option_copied o) (sym c.in-Some.is) ∙ c.blocked.ensures.blocked k sh ∙ has in
    let e : b ≡ c.in-Some.blocked.now = cc in
    let is : b.call ≡ Nap c.in-Nap.field-0 = ap (λ (x : Blocked). x.call) e ∙ c.in-Nap.is in
    let awaits : b.awaits ≡ c.in-Some.blocked.now.awaits = ap (λ (x : Blocked). x.awaits) e in
    tries_as _ _ c.args.t.0 b (Nap c.in-Nap.field-0) (λ d a s. (row_of g.P.Program.functions s c.args.t.0 d).again a) _ is
    (rest_tries c.args.w.now c.args.t.0 (Nap c.in-Nap.field-0) refl (λ a x. refl) (λ a is. is) 1 c.in-Nap.field-0 1 _ b.awaits (λ s st. rw awaits (c.rest_again.ensures.verdict s 1 c.in-Nap.field-0 st)) c.rest_again.ensures.rests)

pub returns-in-Usleep-clause-tries : goal.returns-in-Usleep-clause-tries
unfolding row_of told answer_told
returns-in-Usleep-clause-tries g c k b sh has =
    let same : Some c.in-Some.blocked.now ≡ Some b = ap (λ o. option_copied o) (sym c.in-Some.is) ∙ c.blocked.ensures.blocked k sh ∙ has in
    let e : b ≡ c.in-Some.blocked.now = cc in
    let is : b.call ≡ Usleep c.in-Usleep.field-0 = ap (λ (x : Blocked). x.call) e ∙ c.in-Usleep.is in
    let awaits : b.awaits ≡ c.in-Some.blocked.now.awaits = ap (λ (x : Blocked). x.awaits) e in
    tries_as _ _ c.args.t.0 b (Usleep c.in-Usleep.field-0) (λ d a s. (row_of g.P.Program.functions s c.args.t.0 d).again a) _ is
    (rest_tries c.args.w.now c.args.t.0 (Usleep c.in-Usleep.field-0) refl (λ a x. refl) (λ a is. is) 1 c.in-Usleep.field-0 0 _ b.awaits (λ s st. rw awaits (c.rest_again-in-Usleep.ensures.verdict s 1 c.in-Usleep.field-0 st)) c.rest_again-in-Usleep.ensures.rests)

pub returns-in-Sleep-clause-tries : goal.returns-in-Sleep-clause-tries
unfolding row_of told answer_told
returns-in-Sleep-clause-tries g c k b sh has =
    let same : Some c.in-Some.blocked.now ≡ Some b = ap (λ o. option_copied o) (sym c.in-Some.is) ∙ c.blocked.ensures.blocked k sh ∙ has in
    let e : b ≡ c.in-Some.blocked.now = cc in
    let is : b.call ≡ Sleep c.in-Sleep.field-0 = ap (λ (x : Blocked). x.call) e ∙ c.in-Sleep.is in
    let awaits : b.awaits ≡ c.in-Some.blocked.now.awaits = ap (λ (x : Blocked). x.awaits) e in
    tries_as _ _ c.args.t.0 b (Sleep c.in-Sleep.field-0) (λ d a s. (row_of g.P.Program.functions s c.args.t.0 d).again a) _ is
    (rest_tries c.args.w.now c.args.t.0 (Sleep c.in-Sleep.field-0) refl (λ a x. refl) (λ a is. is) 1000000 c.in-Sleep.field-0 0 _ b.awaits (λ s st. rw awaits (c.rest_again-in-Sleep.ensures.verdict s 1000000 c.in-Sleep.field-0 st)) c.rest_again-in-Sleep.ensures.rests)

pub returns-in-MutexAcquire-clause-tries : goal.returns-in-MutexAcquire-clause-tries
unfolding row_of
returns-in-MutexAcquire-clause-tries g c k b sh has =
    let m : SFits w64 c.in-MutexAcquire.m = search rules in
    let same : Some c.in-Some.blocked.now ≡ Some b = ap (λ o. option_copied o) (sym c.in-Some.is) ∙ c.blocked.ensures.blocked k sh ∙ has in
    let e : b ≡ c.in-Some.blocked.now = cc in
    let is : b.call ≡ MutexAcquire c.in-MutexAcquire.m c.in-MutexAcquire.v c.in-MutexAcquire.e = ap (λ (x : Blocked). x.call) e ∙ c.in-MutexAcquire.is in
    tries_at _ _ c.args.t.0 b (MutexAcquire c.in-MutexAcquire.m c.in-MutexAcquire.v c.in-MutexAcquire.e) (λ d a s. (row_of g.P.Program.functions s c.args.t.0 d).again a) _ is
    ((simp to_z-of_z at c.acquire_mutex_again.ensures.tries) c.in-MutexAcquire.v c.in-MutexAcquire.e)

pub returns-in-RwAcquire-clause-tries : goal.returns-in-RwAcquire-clause-tries
unfolding row_of
returns-in-RwAcquire-clause-tries g c k b sh has =
    let l : SFits w64 c.in-RwAcquire.l = search rules in
    let same : Some c.in-Some.blocked.now ≡ Some b = ap (λ o. option_copied o) (sym c.in-Some.is) ∙ c.blocked.ensures.blocked k sh ∙ has in
    let e : b ≡ c.in-Some.blocked.now = cc in
    let is : b.call ≡ RwAcquire c.in-RwAcquire.l c.in-RwAcquire.write c.in-RwAcquire.v c.in-RwAcquire.e = ap (λ (x : Blocked). x.call) e ∙ c.in-RwAcquire.is in
    tries_at _ _ c.args.t.0 b (RwAcquire c.in-RwAcquire.l c.in-RwAcquire.write c.in-RwAcquire.v c.in-RwAcquire.e) (λ d a s. (row_of g.P.Program.functions s c.args.t.0 d).again a) _ is
    ((simp to_z-of_z at c.acquire_lock_again.ensures.tries) c.in-RwAcquire.v c.in-RwAcquire.e)

pub returns-in-BarrierReach-clause-tries : goal.returns-in-BarrierReach-clause-tries
unfolding row_of
returns-in-BarrierReach-clause-tries g c k b sh has =
    let x : SFits w64 c.in-BarrierReach.b = search rules in
    let same : Some c.in-Some.blocked.now ≡ Some b = ap (λ o. option_copied o) (sym c.in-Some.is) ∙ c.blocked.ensures.blocked k sh ∙ has in
    let e : b ≡ c.in-Some.blocked.now = cc in
    let is : b.call ≡ BarrierReach c.in-BarrierReach.b = ap (λ (x : Blocked). x.call) e ∙ c.in-BarrierReach.is in
    let round : round_in b.awaits ≡ c.round.result = ap (λ (x : Blocked). round_in x.awaits) e ∙ sym c.round.ensures in
    tries_as _ _ c.args.t.0 b (BarrierReach c.in-BarrierReach.b) (λ d a s. (row_of g.P.Program.functions s c.args.t.0 d).again a) _ is ((simp to_z-of_z at c.reach_barrier_again.ensures.tries) b.awaits round)

pub returns-in_ok-io_again-in_default-call : goal.returns-in_ok-io_again-in_default-call
returns-in_ok-io_again-in_default-call g c =
    let t = c.args.t.0 in
    let held = c.in-Some.blocked.now in
    let may = c.in-Some.ensures.may c.requires.whole in
    let d = c.in_default-call in
    record {
      tries = λ k b sh has.
          let same : Some held ≡ Some b = ap (λ o. option_copied o) (sym c.in-Some.is) ∙ c.blocked.ensures.blocked k sh ∙ has in
          let e : held ≡ b = cc in
          let other : is_await held.call ≡ false = ap (λ (x : Blocked). is_await x.call) e ∙ ap is_awaiting (sym has) ∙ c.requires.other k sh in
          subst (λ (x : Blocked). Tries c.args.w.now c.io_again.new.w t x (λ s. (row_of g.P.Program.functions s t x.call).again x.awaits) c.in_ok-io_again-in_default-call.field-0) e
          (c.in_ok-io_again-in_default-call.ensures.tries held.call (λ s. descriptors_else s t held.call held.awaits may d.not-Join d.not-Exit d.not-Nap d.not-Usleep d.not-Sleep d.not-Wait d.not-MutexAcquire d.not-RwAcquire d.not-BarrierReach other) may);
      blocked = λ k sh. ap is_some (ap (λ o. option_copied o) (sym c.in-Some.is) ∙ c.blocked.ensures.blocked k sh);
      same = λ none. absurd (cc none);
      frame = c.in_ok-io_again-in_default-call.ensures.frame;
    }
