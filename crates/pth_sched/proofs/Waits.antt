-- How long ready threads wait, asked of a machine.
use Rattle.std.proofs.Common.{◌≡◌, ◌∙◌, ℕ, ◌≤◌, Option, Some, None, IfSome, option_map, sym, ap, subst}
use Rattle.pth_base.specs.Program.{Functions}
use Rattle.pth_queue.specs.declared.queue.Queue.TheVariants.{Ready}
use Rattle.pth_model.specs.Allowance.{allowed, standing_of, waited}
use Rattle.pth_model.specs.Run.{run}
use Rattle.pth_model.specs.Standing.{Standing}
use Rattle.pth_model.specs.State.{Given}
use Rattle.pth_laws.proofs.InTime.{run_ready_in_time}
use Rattle.pth_laws.proofs.Ranged.{run_top}
use Rattle.pth_tables.proofs.TrailsCounted.{found-is}

some_same : {A : Type 0} {x y : A} → Some x ≡ Some y → x ≡ y
some_same e = cc

in_time_by : (w a : Standing → ℕ) (o : Option Standing) (r : Option ℕ) → r ≡ option_map a o → ((s : Standing) → o ≡ Some s → w s ≤ a s) → IfSome r (λ n. (s : Standing) → o ≡ Some s → w s ≤ n)
in_time_by w a o None is each = tt
in_time_by w a None (Some n) is each = absurd (cc is)
in_time_by w a (Some x) (Some n) is each = λ s at. subst (λ m. w s ≤ m) (ap a (sym (some_same at)) ∙ sym (some_same is)) (each s at)

-- who is ready has waited at most what is allowed
pub asked_in_time : {P S H : Type 0} (f : P → Functions S H) (g : Given P) (i t : ℕ) (r : Option ℕ) → let k = (run f g i).state.control in r ≡ option_map (allowed k.top k.threads.trail) (standing_of t (k.threads.standing Ready)) → IfSome r (λ n. (s : Standing) → standing_of t (k.threads.standing Ready) ≡ Some s → waited k.threads.trail s ≤ n)
asked_in_time f g i t r is =
    let k = (run f g i).state.control in
    let ready = k.threads.standing Ready in
    in_time_by (waited k.threads.trail) (allowed k.top k.threads.trail) (standing_of t ready) r is
    (λ s at. subst (λ n. waited k.threads.trail s ≤ allowed n k.threads.trail s) (sym (run_top f g i)) (run_ready_in_time f g i s (found-is t ready s at).1))
