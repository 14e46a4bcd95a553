-- Calls that a part decides: refused with its error, or answered as its result says.
use Rattle.std.proofs.Common.{◌≡◌, ◌∙◌, ℕ, ℤ, pos, Bool, false, List, Result, Ok, Err, OnOk, OnErr, refl, sym, ap, subst}
use Rattle.pth_base.specs.declared.answer.Answer.{Answer}
use Rattle.pth_base.specs.declared.answer.Answer.TheVariants.{Int}
use Rattle.pth_base.specs.declared.errno.Errno.{Errno}
use Rattle.pth_cond.specs.Conditions.{Condition, ConditionTable, conditions_of}
use Rattle.pth_model.specs.Changes.{with_conditions}
use Rattle.pth_model.specs.Row.{Row, refuses, unless_refused, effect_of, ◌trying◌, ◌changing◌}
use Rattle.pth_model.specs.State.{State, Control}
use Rattle.pth_model.specs.Transition.{Change, changes, nothing}
use Rattle.pth_model.specs.declared.verdict.Verdict.{Verdict}
use Rattle.pth_model.specs.declared.verdict.Verdict.TheVariants.{Says}
use Rattle.pth_model.specs.Verdict.{says, by_result, done}
use Rattle.pth_world.specs.Leading.{Changed, IsAnswered}
use Rattle.pth_world.specs.Shows.{Shows, StandsFor}
use Rattle.pth_world.specs.Store.{store_of}
use Rattle.pth_world.proofs.Conditions.{seated_shows}
use Rattle.pth_world.proofs.Telling.{has_still}
use Rattle.pth_world.specs.World.{WorldOf}

-- the result r is that of the call, from world w to world v
module _ {P S H A : Type 0} (w v : WorldOf P S H) (say : A → Answer) (r : State P S H → Result A Errno) (g : State P S H → Change P S H) where
  abbrev said : A → Verdict
  said x = Says (say x)

  -- no value that it says is an error
  abbrev IsPlain : Type 0
  IsPlain = (x : A) → refuses (said x) ≡ false

  effect_by : IsPlain → (s : State P S H) (q : Result A Errno) → OnOk q (Shows v (g s s.control)) → OnErr q (Shows v s.control) → s.resources.store ≡ store_of v.store → Changed v (effect_of (by_result said q trying changes (g s)) s)
  effect_by plain s (Ok x) shows same has =
      let Q : Bool → Type 0 = λ b. Changed v (unless_refused b (changes (g s)) s) in
      subst Q (sym (plain x)) (record { shows = shows; store = has; silent = refl })
  effect_by plain s (Err e) shows same has = record { shows = same; store = has; silent = refl }

  pub decided : IsPlain → (q : Result A Errno) (a : Answer) → by_result said q ≡ Says a → ((s : State P S H) → StandsFor w s → q ≡ r s) → OnOk q ((s : State P S H) → StandsFor w s → Shows v (g s s.control)) → OnErr q (v ≡ w) → OnOk q (v.store ≡ w.store) → IsAnswered w v a (λ s. by_result said (r s) trying changes (g s))
  decided plain q a says is ok same stored = record {
    verdict = λ s st. ap (by_result said) (sym (is s st)) ∙ says;
    effect = λ s st. subst (λ (x : Result A Errno). Changed v (effect_of (by_result said x trying changes (g s)) s)) (is s st) (effect_by plain s q (ok_at s st q ok) (err_at s st q same) (has_still w v s (store_at q same stored) st.store));
  }
    where
      store_at : (x : Result A Errno) → OnErr x (v ≡ w) → OnOk x (v.store ≡ w.store) → v.store ≡ w.store
      store_at (Ok x) h k = k
      store_at (Err e) h k = ap (λ (z : WorldOf P S H). z.store) h

      ok_at : (s : State P S H) → StandsFor w s → (x : Result A Errno) → OnOk x ((u : State P S H) → StandsFor w u → Shows v (g u u.control)) → OnOk x (Shows v (g s s.control))
      ok_at s st (Ok x) h = h s st
      ok_at s st (Err e) h = tt

      err_at : (s : State P S H) → StandsFor w s → (x : Result A Errno) → OnErr x (v ≡ w) → OnErr x (Shows v s.control)
      err_at s st (Ok x) h = tt
      err_at s st (Err e) h = subst (λ (z : WorldOf P S H). Shows z s.control) (sym h) st.control

-- a call that only says a number
pub number_said : {P S H : Type 0} (w : WorldOf P S H) (row : State P S H → Row P S H) (n : ℕ) (x : ℤ) → x ≡ pos n → ((s : State P S H) → StandsFor w s → row s ≡ (says n changing nothing)) → IsAnswered w w (Int x) (λ s. (row s).begin)
number_said {P} {S} {H} w row n x is said = record {
  verdict = λ s st. ap (λ (r : Row P S H). r.begin.verdict) (said s st) ∙ ap (λ (z : ℤ). Says (Int z)) (sym is);
  effect = λ s st. subst (λ (r : Row P S H). Changed w (effect_of r.begin s)) (sym (said s st)) (record { shows = st.control; store = st.store; silent = refl });
}

-- what holds of every control that is shown holds of every state
pub for_states : {P S H A : Type 0} (w v : WorldOf P S H) (q : Result A Errno) (g : Control P S H → Control P S H) → OnOk q ((k : Control P S H) → Shows w k → Shows v (g k)) → OnOk q ((s : State P S H) → StandsFor w s → Shows v (g s.control))
for_states w v (Ok x) g h = λ s st. h s.control st.control
for_states w v (Err e) g h = tt

-- a call that only changes conditions
pub seated_answered : {P S H : Type 0} (w : WorldOf P S H) (x : List Condition) (answer : ConditionTable → Result (Unit {0}) Errno) (g : ConditionTable → ConditionTable) (r : Result (Unit {0}) Errno) (a : Answer)
    → r ≡ answer (conditions_of w.conditions) → by_result done r ≡ Says a → OnOk r (conditions_of x ≡ g (conditions_of w.conditions)) → OnErr r (x ≡ w.conditions)
    → IsAnswered w (record w { conditions = x }) a (λ s. by_result done (answer s.control.conditions) trying changes (with_conditions g))
seated_answered {P} {S} {H} w x answer g r a is says changed same =
    decided w (record w { conditions = x }) (λ y. Int (pos 1)) (λ s. answer s.control.conditions) (λ s. with_conditions g) (λ y. refl) r a says
    (λ s st. is ∙ sym (ap answer st.control.conditions)) (seats r changed) (kept r same) (stays r)
  where
    seats : (q : Result (Unit {0}) Errno) → OnOk q (conditions_of x ≡ g (conditions_of w.conditions)) → OnOk q ((s : State P S H) → StandsFor w s → Shows (record w { conditions = x }) (with_conditions g s.control))
    seats (Ok u) is = λ s st. seated_shows w x g s.control st.control is
    seats (Err e) is = tt

    kept : (q : Result (Unit {0}) Errno) → OnErr q (x ≡ w.conditions) → OnErr q (record w { conditions = x } ≡ w)
    kept (Ok u) same = tt
    kept (Err e) same = ap (λ (y : List Condition). record w { conditions = y }) same

    stays : (q : Result (Unit {0}) Errno) → OnOk q (w.store ≡ w.store)
    stays (Ok u) = refl
    stays (Err e) = tt
