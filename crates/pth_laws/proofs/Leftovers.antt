-- Who has ended has nothing stored: no mark of another thread stores anything for it.
use Rattle.std.proofs.Common.{◌≡◌, ◌≢◌, ℕ, zero, suc, ◌==◌, Bool, true, false, if◌then◌else◌, ℤ, pos, List, [], ◌∷◌, All, Option, Some, None, refl, sym, ◌∙◌, ap, subst}
use Rattle.std.specs.List.{list_any}
use Rattle.std.proofs.lemmas.List.Elements.{All-head, All-tail}
use Rattle.std.proofs.lemmas.Bool.{true≢false, or_parts}
use Rattle.pth_base.specs.Table.{put}
use Rattle.pth_base.specs.declared.act.Act.{Act}
use Rattle.pth_base.specs.declared.act.Act.TheVariants as act
use Rattle.pth_base.specs.declared.answer.Answer.{Answer}
use Rattle.pth_base.specs.declared.answer.Answer.TheVariants as answer
use Rattle.pth_base.specs.declared.call.Call.{Call}
use Rattle.pth_base.specs.declared.call.Call.TheVariants as call
use Rattle.pth_base.specs.declared.mark.Mark.{Mark}
use Rattle.pth_base.specs.declared.mark.Mark.TheVariants as mark
use Rattle.pth_base.proofs.Tables.{same_means, same_fails, put_by, put_here, put_other}
use Rattle.pth_store.specs.Cleanups.{PushedHandler}
use Rattle.pth_port.specs.Mail.{Mail, PortNames}
use Rattle.pth_store.specs.Keys.{key_named}
use Rattle.pth_model.specs.Resources.{told, answer_told, act_told, on_one, on_int, on_msg, wait_told, end_told}
use Rattle.pth_model.specs.Kill.{store_of_only}
use Rattle.pth_model.specs.Store.{Resources, Store, HasNothing}
use Rattle.pth_lock.specs.Objects.{object_named}
use Rattle.pth_lock.specs.Mutexes.{MutexTable}
use Rattle.pth_lock.specs.RwLocks.{LockTables}
use Rattle.pth_model.proofs.Nothing.{NoMutex, NoLock, no_mutex_initialised, no_mutex_taken, no_mutex_released, no_mutex_left, no_mutex_only, no_mutex_more, no_lock_initialised, no_lock_taken, no_lock_released, no_lock_left, no_lock_only, no_lock_more}
use Rattle.pth_laws.proofs.Book.{Book, is_kill, after, book_of}
use Rattle.pth_laws.proofs.Laws.{EachMark, HasNotEnded, IsLawful}
use Rattle.pth_laws.specs.Marks.{thread_of}

-- ---- one mark

module _ (t : ℕ) where
  abbrev Nothing : Resources → Type 0
  Nothing k = HasNothing k.store t

  on_one_nothing : (a : Answer) (k g : Resources) → Nothing k → Nothing g → Nothing (on_one a k g)
  on_one_nothing (answer.Int (pos (suc zero))) k g h x = x
  on_one_nothing a k g h x = h

  on_int_nothing : (a : Answer) (k : Resources) (g : ℤ → Resources) → Nothing k → ((n : ℤ) → Nothing (g n)) → Nothing (on_int a k g)
  on_int_nothing (answer.Int n) k g h x = x n
  on_int_nothing a k g h x = h

  on_msg_nothing : (a : Answer) (k g : Resources) → Nothing k → Nothing g → Nothing (on_msg a k g)
  on_msg_nothing (answer.Msg id v) k g h x = x
  on_msg_nothing a k g h x = h

  test_nothing : (b : Bool) (k g : Resources) → Nothing k → Nothing g → Nothing (if b then k else g)
  test_nothing true k g h x = h
  test_nothing false k g h x = x

  -- another thread's stack, or value, is another
  other_cleanups : (s : Store) (u : ℕ) (cs : List PushedHandler) → t ≢ u → s.cleanups t ≡ [] → put s.cleanups u cs t ≡ []
  other_cleanups s u cs apart none = put_other s.cleanups u cs t apart ∙ none

  other_values : (s : Store) (u key : ℕ) (v : ℤ) → t ≢ u → ((k : ℕ) → s.keys.values k t ≡ pos 0) → (k : ℕ) → put s.keys.values key (put (s.keys.values key) u v) k t ≡ pos 0
  other_values s u key v apart none k = put_by (λ (row : ℕ → ℤ). row t ≡ pos 0) s.keys.values key (put (s.keys.values key) u v) k (λ here. put_other (s.keys.values key) u v t apart ∙ none key) (λ other. none k)

  -- the values under a key are all 0
  unset_values : (s : Store) (key : ℕ) → ((k : ℕ) → s.keys.values k t ≡ pos 0) → (k : ℕ) → put s.keys.values key (λ i. pos 0) k t ≡ pos 0
  unset_values s key none k = put_by (λ (row : ℕ → ℤ). row t ≡ pos 0) s.keys.values key (λ i. pos 0) k (λ here. refl) (λ other. none k)

  only_nothing : (u : ℕ) (s : Store) → HasNothing s t → HasNothing (store_of_only u s) t
  only_nothing u s h = record { cleanups = none_by (t == u); values = λ k. zero_by (t == u) k; mutexes = no_mutex_only t u s.mutexes h.mutexes; locks = no_lock_only t s.rw_locks u h.locks }
    where
      none_by : (b : Bool) → (if b then s.cleanups t else []) ≡ []
      none_by true = h.cleanups
      none_by false = refl

      zero_by : (b : Bool) (k : ℕ) → (if b then s.keys.values k t else pos 0) ≡ pos 0
      zero_by true k = h.values k
      zero_by false k = refl

  -- mutexes, or locks, become others, of which t has none
  other_mutexes : (s : Store) (x : MutexTable) → HasNothing s t → NoMutex t x → HasNothing (record s { mutexes = x }) t
  other_mutexes s x h none = record { cleanups = h.cleanups; values = h.values; mutexes = none; locks = h.locks }

  other_locks : (s : Store) (x : LockTables) → HasNothing s t → NoLock t x → HasNothing (record s { rw_locks = x }) t
  other_locks s x h none = record { cleanups = h.cleanups; values = h.values; mutexes = h.mutexes; locks = none }

  -- no thread has a port for itself
  other_ports : (s : Store) (x : PortNames) (q : Mail) → HasNothing s t → HasNothing (record s { ports = x; mail = q }) t
  other_ports s x q h = record { cleanups = h.cleanups; values = h.values; mutexes = h.mutexes; locks = h.locks }

  -- a call of another thread is answered
  answer_nothing : (k : Resources) (u : ℕ) (c : Call) (a : Answer) → t ≢ u → Nothing k → Nothing (answer_told k u c a)
  unfolding answer_told
  answer_nothing k u (call.CleanupPush h v) a apart none = on_one_nothing a k _ none (record { cleanups = other_cleanups k.store u _ apart none.cleanups; values = none.values; mutexes = none.mutexes; locks = none.locks })
  answer_nothing k u (call.CleanupPop v) a apart none = on_one_nothing a k _ none (record { cleanups = other_cleanups k.store u _ apart none.cleanups; values = none.values; mutexes = none.mutexes; locks = none.locks })
  answer_nothing k u (call.KeyCreate h) a apart none = on_int_nothing a k _ none (λ key. record { cleanups = none.cleanups; values = unset_values k.store (key_named key) none.values; mutexes = none.mutexes; locks = none.locks })
  answer_nothing k u (call.KeyDelete key) a apart none = on_one_nothing a k _ none (record { cleanups = none.cleanups; values = unset_values k.store (key_named key) none.values; mutexes = none.mutexes; locks = none.locks })
  answer_nothing k u (call.KeySet key v) a apart none = on_one_nothing a k _ none (record { cleanups = none.cleanups; values = other_values k.store u (key_named key) v apart none.values; mutexes = none.mutexes; locks = none.locks })
  answer_nothing k u (call.MutexInit m) a apart none = on_int_nothing a k _ none (λ n. other_mutexes k.store _ none (no_mutex_initialised t (object_named m) k.store.mutexes none.mutexes))
  answer_nothing k u (call.MutexAcquire m v e) a apart none = on_int_nothing a k _ none (λ n. other_mutexes k.store _ none (no_mutex_taken t u (object_named m) k.store.mutexes apart none.mutexes))
  answer_nothing k u (call.MutexRelease m) a apart none = on_int_nothing a k _ none (λ n. other_mutexes k.store _ none (no_mutex_released t u (object_named m) k.store.mutexes apart none.mutexes))
  answer_nothing k u (call.RwInit l) a apart none = on_int_nothing a k _ none (λ n. other_locks k.store _ none (no_lock_initialised t k.store.rw_locks (object_named l) none.locks))
  answer_nothing k u (call.RwAcquire l write v e) a apart none = on_int_nothing a k _ none (λ n. other_locks k.store _ none (no_lock_taken t k.store.rw_locks u write (object_named l) apart none.locks))
  answer_nothing k u (call.RwRelease l) a apart none = on_int_nothing a k _ none (λ n. other_locks k.store _ none (no_lock_released t k.store.rw_locks u (object_named l) none.locks))
  answer_nothing k u (call.CondAwait c m e) a apart none = test_nothing (k.awaits u) _ k (other_mutexes k.store _ none (no_mutex_taken t u (object_named m) k.store.mutexes apart none.mutexes)) none
  answer_nothing k u (call.PortCreate name) a apart none = on_int_nothing a k _ none (λ n. other_ports k.store _ _ none)
  answer_nothing k u (call.PortPut p v r) a apart none = on_int_nothing a k _ none (λ n. other_ports k.store _ _ none)
  answer_nothing k u (call.PortGet p) a apart none = on_msg_nothing a k _ none (other_ports k.store _ _ none)
  answer_nothing k u (call.Reply m v) a apart none = on_int_nothing a k _ none (λ n. other_ports k.store _ _ none)
  answer_nothing k u (call.PortDestroy p) a apart none = on_int_nothing a k _ none (λ n. other_ports k.store _ _ none)
  answer_nothing k u call.Kill a apart none = on_int_nothing a k _ none (λ n. only_nothing u k.store none)
  answer_nothing k u c a apart none = none

  act_nothing : (k : Resources) (u : ℕ) (x : Act) (a : Answer) → t ≢ u → Nothing k → Nothing (act_told k u x a)
  unfolding act_told
  act_nothing k u (act.Release m) a apart none = answer_nothing k u (call.MutexRelease m) a apart none
  act_nothing k u (act.Put p v) a apart none = answer_nothing k u (call.PortPut p v (pos 0)) a apart none
  act_nothing k u (act.SetKey key v) a apart none = answer_nothing k u (call.KeySet key v) a apart none
  act_nothing k u x a apart none = none

  wait_nothing : (k : Resources) (u : ℕ) (c : Call) → t ≢ u → Nothing k → Nothing (wait_told k u c)
  wait_nothing k u (call.CondAwait c m e) apart none = test_nothing (k.awaits u) k _ none (other_mutexes k.store _ none (no_mutex_released t u (object_named m) k.store.mutexes apart none.mutexes))
  wait_nothing k u c apart none = none

  -- any mark of another thread, and the end of this one
  told_nothing : (k : Resources) (m : Mark) → thread_of m ≢ Some t → Nothing k → Nothing (told k m)
  unfolding told
  told_nothing k (mark.Answered u c a) apart none = answer_nothing k u.0 c a (λ same. apart (ap Some (sym same))) none
  told_nothing k (mark.Acted u x a) apart none = act_nothing k u.0 x a (λ same. apart (ap Some (sym same))) none
  told_nothing k (mark.Waits u c) apart none = wait_nothing k u.0 c (λ same. apart (ap Some (sym same))) none
  told_nothing k (mark.Took u m) apart none = other_mutexes k.store _ none (no_mutex_taken t u.0 m k.store.mutexes (λ same. apart (ap Some (sym same))) none.mutexes)
  told_nothing k (mark.GaveMutex u m) apart none = other_mutexes k.store _ none (no_mutex_initialised t m k.store.mutexes none.mutexes)
  told_nothing k (mark.GaveLock u l) apart none = other_locks k.store _ none (no_lock_released t k.store.rw_locks u.0 l none.locks)
  told_nothing k (mark.Destructor u key v) apart none = record { cleanups = none.cleanups; values = other_values k.store u.0 key (pos 0) (λ same. apart (ap Some (sym same))) none.values; mutexes = none.mutexes; locks = none.locks }
  told_nothing k (mark.Ended u v) apart none = record { cleanups = other_cleanups k.store u.0 [] (λ same. apart (ap Some (sym same))) none.cleanups; values = λ key. put_other (k.store.keys.values key) u.0 (pos 0) t (λ same. apart (ap Some (sym same))) ∙ none.values key; mutexes = no_mutex_left t u.0 k.store.mutexes none.mutexes; locks = no_lock_left t k.store.rw_locks u.0 none.locks }
  told_nothing k m apart none = none

ended_nothing : (k : Resources) (t : ℕ) → HasNothing (end_told k t).store t
ended_nothing k t = record { cleanups = put_here k.store.cleanups t []; values = λ key. put_here (k.store.keys.values key) t (pos 0); mutexes = no_mutex_more t k.store.mutexes; locks = no_lock_more t k.store.rw_locks }

-- ---- all marks

abbrev pub AreEmpty : Book → Type 0
AreEmpty b = (t : ℕ) → b.ended t ≡ true → HasNothing b.resources.store t

no_mark_of : (b : Book) (o : Option ℕ) (t : ℕ) → HasNotEnded b o → b.ended t ≡ true → o ≢ Some t
no_mark_of b None t h over same = absurd (cc same)
no_mark_of b (Some u) t h over same = let here : u ≡ t = cc in true≢false (sym over ∙ ap b.ended (sym here) ∙ h)

after_empty : (b : Book) (m : Mark) → HasNotEnded b (thread_of m) → is_kill m ≡ false → AreEmpty b → AreEmpty (after b m)
unfolding told
after_empty b (mark.Ended u v) h on empty t over = by_same (t == u.0) refl
  where
    by_same : (x : Bool) → (t == u.0) ≡ x → HasNothing (end_told b.resources u.0).store t
    by_same true same = subst (λ (i : ℕ). HasNothing (end_told b.resources u.0).store i) (sym (same_means t u.0 same)) (ended_nothing b.resources u.0)
    by_same false apart =
        let before : b.ended t ≡ true = sym (put_other b.ended u.0 true t (same_fails t u.0 apart)) ∙ over in
        told_nothing t b.resources (mark.Ended u v) (no_mark_of b (Some u.0) t h before) (empty t before)
after_empty b (mark.Answered u call.Kill (answer.Int n)) h on empty t over = absurd (true≢false on)
after_empty b m h on empty t over = told_nothing t b.resources m (no_mark_of b (thread_of m) t h over) (empty t over)

-- of a run that goes on
pub each_empty : (b : Book) (ms : List Mark) → EachMark IsLawful b ms → list_any is_kill ms ≡ false → AreEmpty b → AreEmpty (book_of b ms)
each_empty b [] law on empty = empty
each_empty b (m ∷ ms) law on empty = let (first, rest) = or_parts (is_kill m) (list_any is_kill ms) on in each_empty (after b m) ms law.1 rest (after_empty b m law.0.0.0 first empty)

-- a thread that no mark is of has nothing more afterwards
pub unmarked_nothing : (t : ℕ) (b : Book) (ms : List Mark) → All (λ m. thread_of m ≢ Some t) ms → HasNothing b.resources.store t → HasNothing (book_of b ms).resources.store t
unmarked_nothing t b [] none h = h
unmarked_nothing t b (m ∷ ms) none h = unmarked_nothing t (after b m) ms (All-tail (λ x. thread_of x ≢ Some t) m ms none) (told_nothing t b.resources m (All-head (λ x. thread_of x ≢ Some t) m ms none) h)
