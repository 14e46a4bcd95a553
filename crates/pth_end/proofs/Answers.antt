-- Attempts at calls that are answered, and how they lead where their rows say.
use Rattle.std.proofs.Common.{◌≡◌, refl, ◌∙◌, ap, sym, subst, Bool, true, false, List, [], ◌∷◌, ◌++◌, Result, Ok, Err, IfOk}
use Rattle.pth_base.specs.declared.answer.Answer.{Answer}
use Rattle.pth_base.specs.declared.answer.Answer.TheVariants.{Fail}
use Rattle.pth_base.specs.declared.errno.Errno.{Errno}
use Rattle.pth_base.specs.declared.mark.Mark.{Mark}
use Rattle.pth_model.specs.State.{State}
use Rattle.pth_model.specs.Transition.{Transition, Piece, Change, changes, tells, ◌and_then◌}
use Rattle.pth_model.specs.Row.{Attempt, effect_of, refuses, unless_refused}
use Rattle.pth_model.specs.declared.verdict.Verdict.TheVariants.{Says}
use Rattle.pth_model.specs.Verdict.{refused}
use Rattle.pth_world.specs.World.{WorldOf}
use Rattle.pth_world.specs.Shows.{Shows, StandsFor}
use Rattle.pth_world.specs.Store.{store_of}
use Rattle.pth_world.proofs.Telling.{has_still}
use Rattle.pth_base.specs.declared.memory.OutOfMemory.{OutOfMemory}
use Rattle.pth_world.specs.Leading.{Leads, Changed, IsAnswered, IsTold, IsQuiet}

-- what holds of every answer
pub if_ok_all : {T E : Type 0} (r : Result T E) (P : T → Type 0) → ((x : T) → P x) → IfOk r P
if_ok_all (Ok x) P h = h x
if_ok_all (Err e) P h = tt

module _ {P S H : Type 0} where
  -- a refused attempt changes nothing
  pub refused_changes : (w : WorldOf P S H) (s : State P S H) (a : Attempt P S H) → refuses a.verdict ≡ true → StandsFor w s → Changed w (effect_of a s)
  refused_changes w s a isnt st =
      let Q : Bool → Type 0 = λ b. Changed w (unless_refused b a.effect s) in
      subst Q (sym isnt) (record { shows = st.control; store = st.store; silent = refl })

  -- another one does what its effect says
  pub passed_changes : (v : WorldOf P S H) (s : State P S H) (a : Attempt P S H) (g : Change P S H) → refuses a.verdict ≡ false → a.effect s ≡ changes g s → Shows v (g s.control) → s.resources.store ≡ store_of v.store → Changed v (effect_of a s)
  passed_changes v s a g passes is sh has =
      let Q : Bool → Type 0 = λ b. Changed v (unless_refused b a.effect s) in
      let R : Transition P S H → Type 0 = λ x. Changed v x in
      subst Q (sym passes) (subst R (sym is) (record { shows = sh; store = has; silent = refl }))

  pub refused_answered : (w : WorldOf P S H) (e : Errno) (attempt : State P S H → Attempt P S H) → ((s : State P S H) → StandsFor w s → (attempt s).verdict ≡ refused e) → IsAnswered w w (Fail e) attempt
  refused_answered w e attempt is = record { verdict = is; effect = λ s st. refused_changes w s (attempt s) (ap refuses (is s st)) st }

  pub passed_answered : (w v : WorldOf P S H) (a : Answer) (attempt : State P S H → Attempt P S H) (g : State P S H → Change P S H) → refuses (Says a) ≡ false → ((s : State P S H) → StandsFor w s → (attempt s).verdict ≡ Says a) → ((s : State P S H) → (attempt s).effect s ≡ changes (g s) s) → ((s : State P S H) → StandsFor w s → Shows v (g s s.control)) → v.store ≡ w.store → IsAnswered w v a attempt
  passed_answered w v a attempt g passes is does sh stored = record {
    verdict = is;
    effect = λ s st. passed_changes v s (attempt s) (g s) (ap refuses (is s st) ∙ passes) (does s) (sh s st) (has_still w v s stored st.store);
  }

  -- a change, and then a mark that changes nothing of what threads have
  pub changed_leads : (v : WorldOf P S H) (s : State P S H) (a : Piece P S H) (m : Mark) (old new : List Mark) → IsQuiet m → Changed v (a s) → new ≡ old ++ m ∷ [] → Leads v old new ((a and_then tells m) s)
  changed_leads v s a m old new quiet ch appended = record {
    stands = record { control = ch.shows; store = quiet (a s).state.resources ∙ ch.store };
    tells = appended ∙ ap (λ (ms : List Mark). old ++ (ms ++ m ∷ [])) (sym ch.silent);
  }

  -- a call that changes nothing of what threads have, once it is answered
  pub answered_told : (w v : WorldOf P S H) (m : Mark) (a : Answer) (attempt : State P S H → Attempt P S H) → IsQuiet m → IsAnswered w v a attempt → IsTold w v m a attempt
  answered_told w v m a attempt quiet is = record {
    verdict = is.verdict;
    silent = λ s st. (is.effect s st).silent;
    stands = λ s st. (changed_leads v s (effect_of (attempt s)) m [] _ quiet (is.effect s st) refl).stands;
  }

  pub each_told : (w v : WorldOf P S H) (m : Answer → Mark) (r : Result Answer OutOfMemory) (attempt : State P S H → Attempt P S H) → IfOk r (λ a. IsQuiet (m a)) → IfOk r (λ a. IsAnswered w v a attempt) → IfOk r (λ a. IsTold w v (m a) a attempt)
  each_told w v m (Ok a) attempt quiet is = answered_told w v (m a) a attempt quiet is
  each_told w v m (Err e) attempt quiet is = tt
