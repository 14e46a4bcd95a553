use Rattle.std.proofs.Common.{◌≡◌, true, false, refl, rules, SFits, w64, to_z-of_z}
use Rattle.pth_base.specs.declared.call.Call.TheVariants.{Exit}
use Rattle.pth_model.specs.declared.awaits.Awaits.TheVariants.{Alone}
use Rattle.pth_model.specs.ThreadEnds.{exit_attempt, must_wait}
use Rattle.pth_waits.proofs.Attempting.{none_ready, quiet_tries}
use Rattle.pth_waits.proofs.thread_ends.exit.Goals as goal

pub returns-then-must_wait : goal.returns-then-must_wait
returns-then-must_wait g c =
    let w = c.args.w.now in
    let t = c.args.t.0 in
    record {
      tries = λ a. quiet_tries w w t (record { call = Exit c.args.value; awaits = a }) (λ s. exit_attempt s t c.args.value) _ (λ s. refl)
          (λ s st. (let waits : must_wait s.control t ≡ true = search rules in rw waits refl))
          (λ s st. none_ready w t (Exit c.args.value) Alone s refl st)
          (c.must_wait.ensures.main c.if-must_wait.true, refl)
          refl;
    }

pub returns-else-must_wait : goal.returns-else-must_wait
returns-else-must_wait g c =
    let f : SFits w64 c.args.value = search rules in
    let w = c.args.w.now in
    let t = c.args.t.0 in
    record {
      tries = λ a. quiet_tries w w t (record { call = Exit c.args.value; awaits = a }) (λ s. exit_attempt s t c.args.value) _ (λ s. refl)
          (λ s st. (let alone : must_wait s.control t ≡ false = search rules in rw (alone, to_z-of_z) refl))
          (λ s st. st)
          tt
          refl;
    }
