-- Acts, and the looks at a handler that find them.
use Rattle.std.proofs.Common.{◌≡◌, ◌∙◌, ◌+◌, ◌-◌, ◌≤◌, ℕ, suc, ℤ, pos, Bool, true, false, List, [], ◌∷◌, ◌++◌, Result, Ok, Err, IfOk, OnOk, OnErr, refl, ap, sym, subst, arith}
use Rattle.pth_base.specs.Program.{Functions, Acted as ActOf}
use Rattle.pth_base.specs.declared.act.Act.{Act}
use Rattle.pth_base.specs.declared.act.Act.TheVariants as act
use Rattle.pth_base.specs.declared.answer.Answer.TheVariants.{Int, Fail}
use Rattle.pth_base.specs.declared.errno.Errno.{Errno}
use Rattle.pth_base.specs.declared.ids.HandlerId.{HandlerId}
use Rattle.pth_base.specs.declared.mark.Mark.{Mark}
use Rattle.pth_base.specs.declared.mark.Mark.TheVariants.{Acted, Answered, Handler}
use Rattle.pth_base.specs.declared.refusal.Refusal.TheVariants as refusal
use Rattle.pth_lock.specs.Mutexes.{mutex_released}
use Rattle.pth_lock.specs.Objects.{object_named}
use Rattle.pth_model.specs.Acts.{acts, acts_from, answer_in, goes_on_after, row_of_act}
use Rattle.pth_model.specs.Changes.{shares}
use Rattle.pth_model.specs.Row.{Attempt, refuses, unless_refused, effect_of, ◌trying◌}
use Rattle.pth_model.specs.State.{Control, State}
use Rattle.pth_model.specs.Transition.{changes, controlled, nothing, tells, tid, ◌and_then◌}
use Rattle.pth_model.specs.declared.verdict.Verdict.{Verdict}
use Rattle.pth_model.specs.declared.verdict.Verdict.TheVariants.{Says}
use Rattle.pth_model.specs.Verdict.{by_result, done}
use Rattle.pth_store.specs.Keys.{key_named, with_key_value}
use Rattle.pth_store.specs.Storing.{AnswersWithMemory}
use Rattle.pth_base.specs.declared.answer.Answer.{Answer}
use Rattle.pth_base.specs.declared.answer.Answer.TheVariants as answer
use Rattle.pth_base.specs.declared.call.Call.{Call}
use Rattle.pth_base.specs.declared.call.Call.TheVariants as call
use Rattle.pth_base.specs.declared.ids.Tid.{Tid}
use Rattle.pth_base.specs.declared.memory.OutOfMemory.{OutOfMemory}
use Rattle.pth_base.specs.declared.refusal.Refusal.{Refusal}
use Rattle.std.proofs.lemmas.Result.{IfOk-weaker}
use Rattle.pth_model.specs.Awaits.{is_await}
use Rattle.pth_model.specs.Resources.{told, answer_told, act_told}
use Rattle.pth_model.specs.Store.{Resources, Store, with_keys, with_mutexes}
use Rattle.pth_world.proofs.Telling.{quiet-refused, quiet_tells, tells_stands, Tells}
use Rattle.pth_world.specs.Leading.{IsQuiet, IsTold, Leads}
use Rattle.pth_world.specs.Shows.{Shows, StandsFor}
use Rattle.pth_world.specs.Store.{store_of}
use Rattle.pth_world.specs.World.{WorldOf}
use Rattle.pth_end.specs.Saying.{SaysRefusal}

-- what a part that takes memory answers
pub done_answered : (r : Result (Unit {0}) Errno) (u : Unit {0}) → AnswersWithMemory r (Ok u) → Ok tt ≡ r
done_answered (Ok x) u answers = refl
done_answered (Err e) u answers = absurd (cc answers)

pub error_answered : (r : Result (Unit {0}) Errno) (e : Errno) → AnswersWithMemory r (Err (refusal.Fail e)) → Err e ≡ r
error_answered (Ok x) e answers = absurd (cc answers)
error_answered (Err d) e answers = let same : e ≡ d = cc answers in ap (λ (x : Errno). Err x) same

-- what does nothing, refused or not, and then is told
pub nothing_told : {P S H : Type 0} (s : State P S H) (b : Bool) (m : Mark) → (unless_refused b (changes nothing) and_then tells m) s ≡ tells m s
nothing_told s true m = refl
nothing_told s false m = refl

module _ {P S H : Type 0} (w v : WorldOf P S H) where
  no_word : (s : State P S H) (b : Bool) → (unless_refused b (changes nothing) s).marks ≡ []
  no_word s true = refl
  no_word s false = refl

  -- a row that only answers, whose mark tells what threads have
  pub stored_told : (m : Mark) (a : Answer) (verdict : State P S H → Verdict) → ((s : State P S H) → StandsFor w s → verdict s ≡ Says a) → ((k : Control P S H) → Shows w k → Shows v k) → Tells w m v → IsTold w v m a (λ s. verdict s trying changes nothing)
  stored_told m a verdict is shows tell = record {
    verdict = is;
    silent = λ s st. no_word s (refuses (verdict s));
    stands = λ s st. subst (λ x. StandsFor v x.state) (sym (nothing_told s (refuses (verdict s)) m)) (tells_stands w v m s tell st (shows s.control st.control));
  }

-- a note, or a shared value that is set
pub noted : {P S H : Type 0} (w : WorldOf P S H) (m : Mark) → IsQuiet m → IsTold w w m answer.None (λ s. Says answer.None trying changes nothing)
noted w m quiet = stored_told w w m answer.None (λ s. Says answer.None) (λ s st. refl) (λ k sh. sh) (quiet_tells w w m quiet refl)

module _ {P S H : Type 0} (w v : WorldOf P S H) where
  -- what a mark tells another tells that says the same of what threads have
  pub told_as : (m n : Mark) (a : Answer) (attempt : State P S H → Attempt P S H) → ((x : Resources) → told x m ≡ told x n) → IsTold w v m a attempt → IsTold w v n a attempt
  told_as m n a attempt same is = record {
    verdict = is.verdict;
    silent = is.silent;
    stands = λ s st. let leads = is.stands s st in record { control = leads.control; store = ap (λ (x : Resources). x.store) (sym (same (effect_of (attempt s) s).state.resources)) ∙ leads.store };
  }

  pub each_told_as : (m n : Answer → Mark) (r : Result Answer OutOfMemory) (attempt : State P S H → Attempt P S H) → ((a : Answer) (x : Resources) → told x (m a) ≡ told x (n a)) → IfOk r (λ a. IsTold w v (m a) a attempt) → IfOk r (λ a. IsTold w v (n a) a attempt)
  each_told_as m n r attempt same = IfOk-weaker r (λ a. IsTold w v (m a) a attempt) (λ a. IsTold w v (n a) a attempt) (λ a. told_as (m a) (n a) a attempt (same a))

  -- a thread makes an act: it does what its row says, and its mark is told
  pub acted_leads : (t : ℕ) (x : Act) (a : Answer) → IsTold w v (Acted (tid t) x a) a (λ s. (row_of_act s t x).begin) → (s : State P S H) → StandsFor w s → (old new : List Mark) → new ≡ old ++ Acted (tid t) x a ∷ [] → Leads v old new (acts t x s)
  unfolding acts
  acted_leads t x a is s st old new appended =
      let row = (row_of_act s t x).begin in
      subst (λ (y : Answer). Leads v old new ((effect_of row and_then tells (Acted (tid t) x y)) s)) (sym (ap answer_in (is.verdict s st)))
      (record { stands = is.stands s st; tells = appended ∙ ap (λ (ms : List Mark). old ++ (ms ++ Acted (tid t) x a ∷ [])) (sym (is.silent s st)) })

-- how many looks are left
pub one_look : (i : ℕ) → i ≤ 64 → 65 - i ≡ suc (65 - (i + 1))
one_look i low = omega arith

module _ {P S H : Type 0} (f : P → Functions S H) (t : ℕ) (h : HandlerId) (v : ℤ) (s : State P S H) where
  abbrev pub look : ℕ → ActOf H
  look i = (f s.control.program).act h.0 v i s.control.shared

  -- a look, and then the rest
  step : (n i : ℕ) → acts_from f t h v (suc n) i s ≡ goes_on_after t (look i).act (acts_from f t h v n (i + 1)) (controlled (shares (look i).shared) s)
  unfolding acts_from
  step n i = refl

  pub acts_are : (i : ℕ) → i ≤ 64 → acts_from f t h v (65 - i) i s ≡ goes_on_after t (look i).act (acts_from f t h v (65 - (i + 1)) (i + 1)) (controlled (shares (look i).shared) s)
  acts_are i low = ap (λ (n : ℕ). acts_from f t h v n i s) (one_look i low) ∙ step (65 - (i + 1)) i

-- ---- what marks of acts tell

-- a note, a shared value that is set, and a condition that is notified change nothing of what threads have
pub quiet_note : (t : Tid) (n : ℤ) → IsQuiet (Acted t (act.Note n) answer.None)
unfolding told act_told
quiet_note t n = λ x. refl

pub quiet_set : (t : Tid) (n : ℕ) (v : ℤ) → IsQuiet (Acted t (act.Set n v) answer.None)
unfolding told act_told
quiet_set t n v = λ x. refl

pub quiet_notify : (t : Tid) (c v : ℤ) (a : Answer) → IsQuiet (Acted t (act.Notify c v) a)
unfolding told act_told
quiet_notify t c v a = λ x. refl

-- an act that sets a value, releases a mutex or puts a message tells what the call does
pub acted_key_set : (t : Tid) (k v : ℤ) (a : Answer) (x : Resources) → told x (Answered t (call.KeySet k v) a) ≡ told x (Acted t (act.SetKey k v) a)
unfolding told act_told
acted_key_set t k v a x = refl

pub acted_release : (t : Tid) (m : ℤ) (a : Answer) (x : Resources) → told x (Answered t (call.MutexRelease m) a) ≡ told x (Acted t (act.Release m) a)
unfolding told act_told
acted_release t m a x = refl

pub acted_put : (t : Tid) (p v : ℤ) (a : Answer) (x : Resources) → told x (Answered t (call.PortPut p v (pos 0)) a) ≡ told x (Acted t (act.Put p v) a)
unfolding told act_told
acted_put t p v a x = refl

-- that a handler runs changes nothing of it
pub quiet_handler : (t : Tid) (h : HandlerId) (v : ℤ) → IsQuiet (Handler t h v)
unfolding told
quiet_handler t h v = λ x. refl

-- ---- calls that have nothing to say, by the answer of what is stored, and what they change there

-- a refused call changes nothing
pub refused_tells : {P S H : Type 0} (w v : WorldOf P S H) (t : Tid) (c : Call) (e : Errno) → is_await c ≡ false → v ≡ w → Tells w (Answered t c (Fail e)) v
refused_tells w v t c e other same = quiet_tells w v (Answered t c (Fail e)) (quiet-refused t c e other) (ap (λ (z : WorldOf _ _ _). z.store) same)

-- the call's answer 1 tells that what is stored has changed so
abbrev pub DoneTells : Tid → Call → (Store → Store) → Type 0
DoneTells t c g = (k : Resources) → (told k (Answered t c (Int (pos 1)))).store ≡ g k.store

module _ {P S H : Type 0} (w v : WorldOf P S H) (t : Tid) (shows : (k : Control P S H) → Shows w k → Shows v k) where
  -- what the world has stored is what the states have for which it stands
  pub stored_by : {A : Type 0} (r : Store → A) (a : A) → r (store_of w.store) ≡ a → (s : State P S H) → StandsFor w s → r s.resources.store ≡ a
  stored_by r a is s st = ap r st.store ∙ is

  -- a call that changes nothing by itself, and says what is stored; the mark tells what it changes
  module _ {A : Type 0} (c : Call) (answer : Store → Result A Errno) (say : A → Verdict) where
    abbrev answering : State P S H → Attempt P S H
    answering s = by_result say (answer s.resources.store) trying changes nothing

    said : (a : Answer) → by_result say (answer (store_of w.store)) ≡ Says a → Tells w (Answered t c a) v → IsTold w v (Answered t c a) a answering
    said a says tell = stored_told w v (Answered t c a) a (λ s. by_result say (answer s.resources.store)) (stored_by (λ x. by_result say (answer x)) _ says) shows tell

    pub value_told : (x : A) (a : Answer) (g : Store → Store) → answer (store_of w.store) ≡ Ok x → say x ≡ Says a → ((k : Resources) → (told k (Answered t c a)).store ≡ g k.store) → store_of v.store ≡ g (store_of w.store) → IsTold w v (Answered t c a) a answering
    value_told x a g is says tell changes = said a (ap (by_result say) is ∙ says) (λ k has. tell k ∙ ap g has ∙ sym changes)

    pub error_told : (e : Errno) → answer (store_of w.store) ≡ Err e → is_await c ≡ false → v ≡ w → IsTold w v (Answered t c (Fail e)) (Fail e) answering
    error_told e is other same = said (Fail e) (ap (by_result say) is) (refused_tells w v t c e other same)

  module _ (c : Call) (answer : Store → Result (Unit {0}) Errno) (g : Store → Store) (one : DoneTells t c g) (other : is_await c ≡ false) where
    abbrev saying : State P S H → Attempt P S H
    saying s = by_result done (answer s.resources.store) trying changes nothing

    pub done_told : (r : Result (Unit {0}) Errno) (a : Answer) → r ≡ answer (store_of w.store) → by_result done r ≡ Says a → OnOk r (store_of v.store ≡ g (store_of w.store)) → OnErr r (v ≡ w) → IsTold w v (Answered t c a) a saying
    done_told (Ok u) a is says changes same = let first : Int (pos 1) ≡ a = cc says in subst (λ (b : Answer). IsTold w v (Answered t c b) b saying) first (value_told c answer done u (Int (pos 1)) g (sym is) refl one changes)
    done_told (Err e) a is says changes same = let fails : Fail e ≡ a = cc says in subst (λ (b : Answer). IsTold w v (Answered t c b) b saying) fails (error_told c answer done e (sym is) other same)

    -- one that takes memory
    pub memory_done : (u : Unit {0}) → AnswersWithMemory (answer (store_of w.store)) (Ok u) → store_of v.store ≡ g (store_of w.store) → IsTold w v (Answered t c (Int (pos 1))) (Int (pos 1)) saying
    memory_done u answers changes = value_told c answer done u (Int (pos 1)) g (sym (done_answered _ u answers)) refl one changes

    pub memory_refused : (e : Refusal) (r : Result Answer OutOfMemory) → AnswersWithMemory (answer (store_of w.store)) (Err e) → IfOk r (λ a. SaysRefusal e a) → v ≡ w → IfOk r (λ a. IsTold w v (Answered t c a) a saying)
    memory_refused (refusal.Fail e) (Ok a) answers says same = subst (λ (b : Answer). IsTold w v (Answered t c b) b saying) (sym says) (error_told c answer done e (sym (error_answered _ e answers)) other same)
    memory_refused refusal.OutOfMemory (Ok a) answers says same = absurd says
    memory_refused e (Err o) answers says same = tt

-- a value is set, or a mutex released
pub set_tells : (t : Tid) (k x : ℤ) → DoneTells t (call.KeySet k x) (with_keys (with_key_value t.0 (key_named k) x))
unfolding told answer_told
set_tells t k x y = refl

pub release_tells : (t : Tid) (m : ℤ) → DoneTells t (call.MutexRelease m) (with_mutexes (mutex_released t.0 (object_named m)))
unfolding told answer_told
release_tells t m x = refl
