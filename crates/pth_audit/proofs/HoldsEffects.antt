-- What a mark does is what the law's sentences say of it.
use Rattle.std.proofs.Common.{◌≡◌, ℕ, zero, suc, ◌==◌, ◌&&◌, not, Bool, true, false, if◌then◌else◌, ℤ, pos, refl, sym, ◌∙◌, ap}
use Rattle.pth_base.specs.declared.act.Act.TheVariants as act
use Rattle.pth_base.specs.declared.answer.Answer.TheVariants.{Int}
use Rattle.pth_base.specs.declared.call.Call.TheVariants as call
use Rattle.pth_base.specs.declared.mark.Mark.{Mark}
use Rattle.pth_base.specs.declared.mark.Mark.TheVariants as mark
use Rattle.pth_base.proofs.Tables.{same_means}
use Rattle.pth_laws.specs.Exclusive.{awaits_after, takes_level, gives, gives_up, enters, leaves}
use Rattle.pth_laws.specs.Marks.{is_same, is_end_of}
use Rattle.pth_audit.specs.declared.holds.Effect.{Effect}
use Rattle.pth_audit.specs.declared.holds.Effect.TheVariants as effect
use Rattle.pth_audit.specs.Success.{is_one}
use Rattle.pth_audit.specs.Holds.{effect_of, step_of, takes_by, gives_by, gives_up_by, enters_by, leaves_by, awaits_by}

abbrev pub ends_by : Effect → ℕ → Bool
ends_by (effect.Ends u) t = u == t
ends_by d t = false

-- ---- an effect that is none, by a test

off_if : (p : Effect → Bool) (b : Bool) (d : Effect) → p effect.Nothing ≡ false → p d ≡ false → p (if b then d else effect.Nothing) ≡ false
off_if p true d nothing off = off
off_if p false d nothing off = nothing

off_unless : (p : Effect → Bool) (b : Bool) (d : Effect) → p effect.Nothing ≡ false → p d ≡ false → p (if b then effect.Nothing else d) ≡ false
off_unless p true d nothing off = nothing
off_unless p false d nothing off = off

-- ---- u's own flag stands for each thread's, where a mark is u's

of_u : (f : ℕ → Bool) (u t : ℕ) (q : Bool) → (f t && (q && (u == t))) ≡ (f u && (q && (u == t)))
of_u f u t q = by_test (u == t) refl
  where
    apart : (p r q : Bool) → (p && (q && false)) ≡ (r && (q && false))
    apart true true q = refl
    apart false false q = refl
    apart true false true = refl
    apart true false false = refl
    apart false true true = refl
    apart false true false = refl

    by_test : (b : Bool) → (u == t) ≡ b → (f t && (q && b)) ≡ (f u && (q && b))
    by_test true same = ap (λ (v : ℕ). f v && (q && true)) (sym (same_means u t same))
    by_test false other = apart (f t) (f u) q

take_by : (b : Bool) (d : Effect) (t : ℕ) (i : ℤ) → (b && takes_by d t i) ≡ takes_by (if b then d else effect.Nothing) t i
take_by true d t i = refl
take_by false d t i = refl

give_by : (b : Bool) (d : Effect) (t : ℕ) (i : ℤ) → (not b && gives_by d t i) ≡ gives_by (if b then effect.Nothing else d) t i
give_by true d t i = refl
give_by false d t i = refl

-- ---- what a mark does to each thread and object

module _ (f : ℕ → Bool) where
  pub takes_is : (m : Mark) (t : ℕ) (i : ℤ) → takes_level t i (f t) m ≡ takes_by (effect_of f m) t i
  takes_is (mark.Answered u (call.MutexAcquire m v e) (Int (pos (suc zero)))) t i = refl
  takes_is (mark.Answered u (call.CondAwait c m e) a) t i = of_u f u.0 t (is_same i m) ∙ take_by (f u.0) (effect.Takes u.0 m) t i
  takes_is (mark.Answered u (call.MutexRelease m) a) t i = sym (off_if (λ d. takes_by d t i) (is_one a) (effect.Gives u.0 m) refl refl)
  takes_is (mark.Answered u (call.RwAcquire l true v e) a) t i = sym (off_if (λ d. takes_by d t i) (is_one a) (effect.Enters u.0 l true) refl refl)
  takes_is (mark.Answered u (call.RwAcquire l false v e) a) t i = sym (off_if (λ d. takes_by d t i) (is_one a) (effect.Enters u.0 l false) refl refl)
  takes_is (mark.Answered u (call.RwRelease l) a) t i = sym (off_if (λ d. takes_by d t i) (is_one a) (effect.Leaves u.0 l) refl refl)
  takes_is (mark.Acted u (act.Release m) a) t i = sym (off_if (λ d. takes_by d t i) (is_one a) (effect.Gives u.0 m) refl refl)
  takes_is (mark.Waits u (call.CondAwait c m e)) t i = sym (off_unless (λ d. takes_by d t i) (f u.0) (effect.Gives u.0 m) refl refl)
  takes_is m t i = refl

  pub gives_is : (m : Mark) (t : ℕ) (i : ℤ) → gives t i (f t) m ≡ gives_by (effect_of f m) t i
  gives_is (mark.Answered u (call.MutexRelease m) (Int (pos (suc zero)))) t i = refl
  gives_is (mark.Acted u (act.Release m) (Int (pos (suc zero)))) t i = refl
  gives_is (mark.Waits u (call.CondAwait c m e)) t i = of_u (λ v. not (f v)) u.0 t (is_same i m) ∙ give_by (f u.0) (effect.Gives u.0 m) t i
  gives_is (mark.Answered u (call.MutexAcquire m v e) a) t i = sym (off_if (λ d. gives_by d t i) (is_one a) (effect.Takes u.0 m) refl refl)
  gives_is (mark.Answered u (call.CondAwait c m e) a) t i = sym (off_if (λ d. gives_by d t i) (f u.0) (effect.Takes u.0 m) refl refl)
  gives_is (mark.Answered u (call.RwAcquire l true v e) a) t i = sym (off_if (λ d. gives_by d t i) (is_one a) (effect.Enters u.0 l true) refl refl)
  gives_is (mark.Answered u (call.RwAcquire l false v e) a) t i = sym (off_if (λ d. gives_by d t i) (is_one a) (effect.Enters u.0 l false) refl refl)
  gives_is (mark.Answered u (call.RwRelease l) a) t i = sym (off_if (λ d. gives_by d t i) (is_one a) (effect.Leaves u.0 l) refl refl)
  gives_is m t i = refl

  pub gives_up_is : (m : Mark) (t : ℕ) (i : ℤ) → gives_up t i m ≡ gives_up_by (effect_of f m) t i
  gives_up_is (mark.Answered u (call.MutexAcquire m v e) a) t i = sym (off_if (λ d. gives_up_by d t i) (is_one a) (effect.Takes u.0 m) refl refl)
  gives_up_is (mark.Answered u (call.CondAwait c m e) a) t i = sym (off_if (λ d. gives_up_by d t i) (f u.0) (effect.Takes u.0 m) refl refl)
  gives_up_is (mark.Answered u (call.MutexRelease m) a) t i = sym (off_if (λ d. gives_up_by d t i) (is_one a) (effect.Gives u.0 m) refl refl)
  gives_up_is (mark.Answered u (call.RwAcquire l true v e) a) t i = sym (off_if (λ d. gives_up_by d t i) (is_one a) (effect.Enters u.0 l true) refl refl)
  gives_up_is (mark.Answered u (call.RwAcquire l false v e) a) t i = sym (off_if (λ d. gives_up_by d t i) (is_one a) (effect.Enters u.0 l false) refl refl)
  gives_up_is (mark.Answered u (call.RwRelease l) a) t i = sym (off_if (λ d. gives_up_by d t i) (is_one a) (effect.Leaves u.0 l) refl refl)
  gives_up_is (mark.Acted u (act.Release m) a) t i = sym (off_if (λ d. gives_up_by d t i) (is_one a) (effect.Gives u.0 m) refl refl)
  gives_up_is (mark.Waits u (call.CondAwait c m e)) t i = sym (off_unless (λ d. gives_up_by d t i) (f u.0) (effect.Gives u.0 m) refl refl)
  gives_up_is m t i = refl

  pub enters_is : (m : Mark) (t : ℕ) (l : ℤ) (write : Bool) → enters t l write m ≡ enters_by (effect_of f m) t l write
  enters_is (mark.Answered u (call.RwAcquire k true v e) (Int (pos (suc zero)))) t l write = refl
  enters_is (mark.Answered u (call.RwAcquire k false v e) (Int (pos (suc zero)))) t l write = refl
  enters_is (mark.Answered u (call.MutexAcquire m v e) a) t l write = sym (off_if (λ d. enters_by d t l write) (is_one a) (effect.Takes u.0 m) refl refl)
  enters_is (mark.Answered u (call.CondAwait c m e) a) t l write = sym (off_if (λ d. enters_by d t l write) (f u.0) (effect.Takes u.0 m) refl refl)
  enters_is (mark.Answered u (call.MutexRelease m) a) t l write = sym (off_if (λ d. enters_by d t l write) (is_one a) (effect.Gives u.0 m) refl refl)
  enters_is (mark.Answered u (call.RwRelease k) a) t l write = sym (off_if (λ d. enters_by d t l write) (is_one a) (effect.Leaves u.0 k) refl refl)
  enters_is (mark.Acted u (act.Release m) a) t l write = sym (off_if (λ d. enters_by d t l write) (is_one a) (effect.Gives u.0 m) refl refl)
  enters_is (mark.Waits u (call.CondAwait c m e)) t l write = sym (off_unless (λ d. enters_by d t l write) (f u.0) (effect.Gives u.0 m) refl refl)
  enters_is m t l write = refl

  pub leaves_is : (m : Mark) (t : ℕ) (l : ℤ) → leaves t l m ≡ leaves_by (effect_of f m) t l
  leaves_is (mark.Answered u (call.RwRelease k) (Int (pos (suc zero)))) t l = refl
  leaves_is (mark.Answered u (call.MutexAcquire m v e) a) t l = sym (off_if (λ d. leaves_by d t l) (is_one a) (effect.Takes u.0 m) refl refl)
  leaves_is (mark.Answered u (call.CondAwait c m e) a) t l = sym (off_if (λ d. leaves_by d t l) (f u.0) (effect.Takes u.0 m) refl refl)
  leaves_is (mark.Answered u (call.MutexRelease m) a) t l = sym (off_if (λ d. leaves_by d t l) (is_one a) (effect.Gives u.0 m) refl refl)
  leaves_is (mark.Answered u (call.RwAcquire k true v e) a) t l = sym (off_if (λ d. leaves_by d t l) (is_one a) (effect.Enters u.0 k true) refl refl)
  leaves_is (mark.Answered u (call.RwAcquire k false v e) a) t l = sym (off_if (λ d. leaves_by d t l) (is_one a) (effect.Enters u.0 k false) refl refl)
  leaves_is (mark.Acted u (act.Release m) a) t l = sym (off_if (λ d. leaves_by d t l) (is_one a) (effect.Gives u.0 m) refl refl)
  leaves_is (mark.Waits u (call.CondAwait c m e)) t l = sym (off_unless (λ d. leaves_by d t l) (f u.0) (effect.Gives u.0 m) refl refl)
  leaves_is m t l = refl

  pub ends_is : (m : Mark) (t : ℕ) → is_end_of t m ≡ ends_by (effect_of f m) t
  ends_is (mark.Answered u (call.MutexAcquire m v e) a) t = sym (off_if (λ d. ends_by d t) (is_one a) (effect.Takes u.0 m) refl refl)
  ends_is (mark.Answered u (call.CondAwait c m e) a) t = sym (off_if (λ d. ends_by d t) (f u.0) (effect.Takes u.0 m) refl refl)
  ends_is (mark.Answered u (call.MutexRelease m) a) t = sym (off_if (λ d. ends_by d t) (is_one a) (effect.Gives u.0 m) refl refl)
  ends_is (mark.Answered u (call.RwAcquire l true v e) a) t = sym (off_if (λ d. ends_by d t) (is_one a) (effect.Enters u.0 l true) refl refl)
  ends_is (mark.Answered u (call.RwAcquire l false v e) a) t = sym (off_if (λ d. ends_by d t) (is_one a) (effect.Enters u.0 l false) refl refl)
  ends_is (mark.Answered u (call.RwRelease l) a) t = sym (off_if (λ d. ends_by d t) (is_one a) (effect.Leaves u.0 l) refl refl)
  ends_is (mark.Acted u (act.Release m) a) t = sym (off_if (λ d. ends_by d t) (is_one a) (effect.Gives u.0 m) refl refl)
  ends_is (mark.Waits u (call.CondAwait c m e)) t = sym (off_unless (λ d. ends_by d t) (f u.0) (effect.Gives u.0 m) refl refl)
  ends_is m t = refl

pub awaits_is : (m : Mark) (t : ℕ) (b : Bool) → awaits_by (step_of m) t b ≡ awaits_after t b m
awaits_is (mark.Answered u (call.CondAwait c k e) a) t b = refl
awaits_is (mark.Waits u (call.CondAwait c k e)) t b = refl
awaits_is m t b = refl
