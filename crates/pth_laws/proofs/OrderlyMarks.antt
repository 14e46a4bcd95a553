-- Marks that keep the laws of the walk are orderly: what the book has of the marks before a mark is what a sentence reads in them.
use Rattle.std.proofs.Common.{◌≡◌, ℕ, zero, suc, ◌+◌, ◌==◌, ◌&&◌, ◌||◌, nat_lt, ℤ, pos, negsuc, Bool, true, false, if◌then◌else◌, List, [], ◌∷◌, ◌++◌, fold, Option, Some, None, refl, sym, ◌∙◌, ap, ap₂, subst, append_assoc, arith}
use Rattle.std.specs.List.{list_any, list_all}
use Rattle.std.proofs.Math.Bool.{or-false, or_assoc}
use Rattle.std.proofs.lemmas.Bool.{true≢false, false≢true, and_parts, or_parts}
use Rattle.std.proofs.lemmas.Bool.Decides.{nat_tests}
use Rattle.std.proofs.lemmas.List.{append-nil}
use Rattle.std.proofs.lemmas.List.Folds.{list_any-append}
use Rattle.pth_base.specs.Table.{put}
use Rattle.pth_base.specs.declared.act.Act.TheVariants as act
use Rattle.pth_base.specs.declared.answer.Answer.{Answer}
use Rattle.pth_base.specs.declared.answer.Answer.TheVariants.{Int, Msg}
use Rattle.pth_base.specs.declared.call.Call.{Call}
use Rattle.pth_base.specs.declared.call.Call.TheVariants as call
use Rattle.pth_base.specs.declared.ids.HandlerId.{HandlerId}
use Rattle.pth_base.specs.declared.ids.Tid.{Tid}
use Rattle.pth_base.specs.declared.mark.Mark.{Mark}
use Rattle.pth_base.specs.declared.mark.Mark.TheVariants as mark
use Rattle.pth_base.proofs.Tables.{same_means}
use Rattle.pth_store.specs.Cleanups.{PushedHandler, without_top}
use Rattle.pth_store.specs.Keys.{Tables, first_live}
use Rattle.pth_model.specs.declared.destructors.Due.{Due}
use Rattle.pth_model.specs.declared.destructors.DestructorRound.{DestructorRound}
use Rattle.pth_model.specs.Ending.{round_limit, first_round, due, due_by, next_destructor}
use Rattle.pth_model.specs.Resources.{handler, on_one, on_int, on_msg, told, answer_told, act_told, told_all}
use Rattle.pth_model.specs.Store.{Resources, no_resources}
use Rattle.pth_model.proofs.Told.{told_more}
use Rattle.pth_laws.specs.Marks.{thread_of, is_end_of, is_cancellation_of, is_call_of, is_of_block, block_at_end, before_block}
use Rattle.pth_laws.specs.Orderly.{pending_after, pending_handlers, handlers_in, AreHandlersFirst, Stage, first_stage, IsNext, IsSequence, IsOrderlyAt, Orderly}
use Rattle.pth_laws.proofs.Book.{Book, BlockRun, Open, Closed, empty_book, book_of, after, is_kill, block_after, ended_after, canceled_after, ran_nothing, ran_by, is_before_destructors, is_value, with_handler, with_destructor}
use Rattle.pth_laws.proofs.KeyMarks.{KeysFit, StageFits, keys_fit_none, keys_fit_after, keys_fit_along, next_said, stage_said, none_next_said}
use Rattle.pth_laws.proofs.Laws.{EachMark, HasNotEnded, IsEndOrderly, IsUncanceled, IsInItsOrder, IsOrderlyMark, IsLawful}
use Rattle.pth_laws.proofs.NextDue.{next_is as due_next, none_is as due_none}
use Rattle.pth_laws.proofs.Prefixes.{each_before, each_later, each_at, none_of}

-- ---- tests

pub same_either_way : (m n : ℕ) → (m == n) ≡ (n == m)
same_either_way m n = grind (arith, nat_tests)

pub or_true : (b : Bool) → (b || true) ≡ true
or_true true = refl
or_true false = refl

not_zero : (n : ℕ) → (n + 1 == 0) ≡ false
not_zero n = grind (arith, nat_tests)

value_means : (v w : ℤ) → is_value v w ≡ true → v ≡ w
value_means (pos m) (pos n) h = ap pos (grind (arith, nat_tests))
value_means (pos m) (negsuc n) h = absurd (false≢true h)
value_means (negsuc m) (pos n) h = absurd (false≢true h)
value_means (negsuc m) (negsuc n) h = ap negsuc (grind (arith, nat_tests))

pub value_self : (v : ℤ) → is_value v v ≡ true
value_self (pos n) = grind (arith, nat_tests)
value_self (negsuc n) = grind (arith, nat_tests)

-- a list has not all of a kind: where the later ones are, the first is not
first_fails : (a b : Bool) → (a && b) ≡ false → b ≡ true → a ≡ false
first_fails true b h all = absurd (true≢false (sym all ∙ h))
first_fails false b h all = refl

-- ---- who has ended, and who was canceled

-- a flag of each thread that its marks of one kind set
flag_along : (flag : Book → ℕ → Bool) (sets : ℕ → Mark → Bool) → ((b : Book) (m : Mark) (t : ℕ) → flag (after b m) t ≡ (flag b t || sets t m))
    → (t : ℕ) (b : Book) (ms : List Mark) → flag (book_of b ms) t ≡ (flag b t || list_any (sets t) ms)
flag_along flag sets one t b [] = sym (or-false (flag b t))
flag_along flag sets one t b (m ∷ ms) =
    flag_along flag sets one t (after b m) ms ∙ (ap (λ x. x || list_any (sets t) ms) (one b m t) ∙ or_assoc (flag b t) (sets t m) (list_any (sets t) ms))

flagged : (e : ℕ → Bool) (u t : ℕ) → put e u true t ≡ (e t || (u == t))
unfolding put
flagged e u t = rw (same_either_way t u) (by_test (u == t) (e t))
  where
    by_test : (a b : Bool) → (if a then true else b) ≡ (b || a)
    by_test true true = refl
    by_test true false = refl
    by_test false b = sym (or-false b)

-- t ends, or all do
abbrev pub ends : ℕ → Mark → Bool
ends t m = is_end_of t m || is_kill m

ended_more : (e : ℕ → Bool) (m : Mark) (t : ℕ) → ended_after e m t ≡ (e t || ends t m)
ended_more e (mark.Ended u v) t = flagged e u.0 t ∙ ap (λ b. e t || b) (sym (or-false (u.0 == t)))
ended_more e (mark.Answered u call.Kill (Int n)) t = sym (or_true (e t))
ended_more e m t = sym (or-false (e t))

canceled_more : (e : ℕ → Bool) (m : Mark) (t : ℕ) → canceled_after e m t ≡ (e t || is_cancellation_of t m)
canceled_more e (mark.Canceled u c) t = flagged e u.0 t
canceled_more e m t = sym (or-false (e t))

-- ---- what threads have

resources_along : (b : Book) (ms : List Mark) → (book_of b ms).resources ≡ told_all b.resources ms
resources_along b [] = refl
resources_along b (m ∷ ms) = resources_along (after b m) ms

-- ---- the handlers that are pending

module _ (t : ℕ) where
  -- l has the same handlers of t as k
  abbrev Keeps : Resources → Resources → Type 0
  Keeps k l = l.store.cleanups t ≡ k.store.cleanups t

  kept_int : (k : Resources) (a : Answer) (g : ℤ → Resources) → ((n : ℤ) → Keeps k (g n)) → Keeps k (on_int a k g)
  kept_int k (Int n) g h = h n
  kept_int k a g h = refl

  kept_one : (k : Resources) (a : Answer) (l : Resources) → Keeps k l → Keeps k (on_one a k l)
  kept_one k (Int (pos (suc zero))) l h = h
  kept_one k a l h = refl

  kept_msg : (k : Resources) (a : Answer) (l : Resources) → Keeps k l → Keeps k (on_msg a k l)
  kept_msg k (Msg n v) l h = h
  kept_msg k a l h = refl

  kept_if : (b : Bool) (k x y : Resources) → Keeps k x → Keeps k y → Keeps k (if b then x else y)
  kept_if true k x y hx hy = hx
  kept_if false k x y hx hy = hy

  -- u's handlers change
  changed : (f : ℕ → List PushedHandler) (u : ℕ) (g : List PushedHandler → List PushedHandler) → put f u (g (f u)) t ≡ (if u == t then g (f t) else f t)
  unfolding put
  changed f u g = rw (same_either_way t u) (by_test (u == t) refl)
    where
      by_test : (b : Bool) → (u == t) ≡ b → (if b then g (f u) else f t) ≡ (if b then g (f t) else f t)
      by_test true e = ap (λ (i : ℕ). g (f i)) (same_means u t e)
      by_test false e = refl

  answered_more : (k : Resources) (u : Tid) (c : Call) (a : Answer) → is_kill (mark.Answered u c a) ≡ false → (answer_told k u.0 c a).store.cleanups t ≡ pending_after t (k.store.cleanups t) (mark.Answered u c a)
  unfolding answer_told
  answered_more k u (call.CleanupPush h v) (Int (pos (suc zero))) on = changed k.store.cleanups u.0 (λ cs. (handler h, v) ∷ cs)
  answered_more k u (call.CleanupPush h v) a on = refl
  answered_more k u (call.CleanupPop v) (Int (pos (suc zero))) on = changed k.store.cleanups u.0 without_top
  answered_more k u (call.CleanupPop v) a on = refl
  answered_more k u (call.KeyCreate h) a on = kept_int k a _ (λ n. refl)
  answered_more k u (call.KeyDelete key) a on = kept_one k a _ refl
  answered_more k u (call.KeySet key v) a on = kept_one k a _ refl
  answered_more k u (call.MutexInit m) a on = kept_int k a _ (λ n. refl)
  answered_more k u (call.MutexAcquire m v e) a on = kept_int k a _ (λ n. refl)
  answered_more k u (call.MutexRelease m) a on = kept_int k a _ (λ n. refl)
  answered_more k u (call.RwInit l) a on = kept_int k a _ (λ n. refl)
  answered_more k u (call.RwAcquire l write v e) a on = kept_int k a _ (λ n. refl)
  answered_more k u (call.RwRelease l) a on = kept_int k a _ (λ n. refl)
  answered_more k u (call.CondAwait c m e) a on = kept_if (k.awaits u.0) k _ k refl refl
  answered_more k u (call.PortCreate name) a on = kept_int k a _ (λ n. refl)
  answered_more k u (call.PortPut p v r) a on = kept_int k a _ (λ n. refl)
  answered_more k u (call.PortGet p) a on = kept_msg k a _ refl
  answered_more k u (call.Reply m v) a on = kept_int k a _ (λ n. refl)
  answered_more k u (call.PortDestroy p) a on = kept_int k a _ (λ n. refl)
  answered_more k u call.Kill (Int n) on = absurd (true≢false on)
  answered_more k u call.Kill a on = refl
  answered_more k u c a on = refl

  pending_more : (k : Resources) (m : Mark) → is_kill m ≡ false → (told k m).store.cleanups t ≡ pending_after t (k.store.cleanups t) m
  unfolding told act_told
  pending_more k (mark.Answered u c a) on = answered_more k u c a on
  pending_more k (mark.Acted u (act.Release m) a) on = answered_more k u (call.MutexRelease m) a refl
  pending_more k (mark.Acted u (act.Put p v) a) on = answered_more k u (call.PortPut p v (pos 0)) a refl
  pending_more k (mark.Acted u (act.SetKey key v) a) on = answered_more k u (call.KeySet key v) a refl
  pending_more k (mark.Acted u x a) on = refl
  pending_more k (mark.Waits u (call.CondAwait c m e)) on = kept_if (k.awaits u.0) k k _ refl refl
  pending_more k (mark.Waits u c) on = refl
  pending_more k (mark.Ended u v) on = changed k.store.cleanups u.0 (λ cs. [])
  pending_more k m on = refl

  pending_along : (k : Resources) (ms : List Mark) → list_any is_kill ms ≡ false → (told_all k ms).store.cleanups t ≡ fold (pending_after t) (k.store.cleanups t) ms
  pending_along k [] on = refl
  pending_along k (m ∷ ms) on =
      let (first, rest) = or_parts (is_kill m) (list_any is_kill ms) on in
      pending_along (told k m) ms rest ∙ ap (λ cs. fold (pending_after t) cs ms) (pending_more k m first)

-- ---- the block

pub parts : (t : ℕ) (ms : List Mark) → before_block t ms ++ block_at_end t ms ≡ ms
unfolding before_block block_at_end
parts t [] = refl
parts t (m ∷ ms) = by_test (parts t ms) (list_all (is_of_block t) (m ∷ ms))
  where
    by_test : before_block t ms ++ block_at_end t ms ≡ ms → (c : Bool) → (if c then [] else m ∷ before_block t ms) ++ (if c then m ∷ ms else block_at_end t ms) ≡ m ∷ ms
    by_test rest true = refl
    by_test rest false = ap (λ (xs : List Mark). m ∷ xs) rest

with_destructor-handlers : (o : Option Due) (key : ℕ) (v : ℤ) (x : BlockRun) → (with_destructor o key v x).handlers ≡ x.handlers
unfolding with_destructor
with_destructor-handlers None key v x = refl
with_destructor-handlers (Some d) key v x = refl

module _ (t : ℕ) where
  -- what t ran in its block, after one mark more of the block
  abbrev ran_after : Resources → BlockRun → Mark → BlockRun
  ran_after k x (mark.Handler u h v) = with_handler (h, v) x
  ran_after k x (mark.Destructor u key v) = with_destructor (next_destructor k.store.keys t x.round) key v x
  ran_after k x m = x

  abbrev ran_along : Resources → BlockRun → List Mark → BlockRun
  ran_along k x [] = x
  ran_along k x (m ∷ ms) = ran_along (told k m) (ran_after k x m) ms

  opened : (u : ℕ) (g : ℕ → BlockRun) → (u == t) ≡ true → ran_by (Open u (g u)) t ≡ g t
  unfolding ran_by
  opened u g e = rw e (ap g (same_means u t e))

  unopened : (u : ℕ) (x : BlockRun) → (u == t) ≡ false → ran_by (Open u x) t ≡ ran_nothing
  unfolding ran_by
  unopened u x e = rw e refl

  within_more : (b : Book) (m : Mark) → is_of_block t m ≡ true → ran_by (block_after b m) t ≡ ran_after b.resources (ran_by b.block t) m
  within_more b (mark.Withdrew u n) e = opened u.0 (ran_by b.block) e
  within_more b (mark.Handler u h v) e = opened u.0 (λ i. with_handler (h, v) (ran_by b.block i)) e
  within_more b (mark.Destructor u key v) e = opened u.0 (λ i. with_destructor (next_destructor b.resources.store.keys i (ran_by b.block i).round) key v (ran_by b.block i)) e
  within_more b (mark.Acted u x a) e = opened u.0 (ran_by b.block) e
  within_more b (mark.GaveMutex u m) e = opened u.0 (ran_by b.block) e
  within_more b (mark.GaveLock u l) e = opened u.0 (ran_by b.block) e
  within_more b m e = absurd (false≢true e)

  outside_more : (b : Book) (m : Mark) → is_of_block t m ≡ false → ran_by (block_after b m) t ≡ ran_nothing
  unfolding ran_by
  outside_more b (mark.Withdrew u n) e = unopened u.0 _ e
  outside_more b (mark.Handler u h v) e = unopened u.0 _ e
  outside_more b (mark.Destructor u key v) e = unopened u.0 _ e
  outside_more b (mark.Acted u x a) e = unopened u.0 _ e
  outside_more b (mark.GaveMutex u m) e = unopened u.0 _ e
  outside_more b (mark.GaveLock u l) e = unopened u.0 _ e
  outside_more b m e = refl

  within_along : (b : Book) (ms : List Mark) → list_all (is_of_block t) ms ≡ true → ran_by (book_of b ms).block t ≡ ran_along b.resources (ran_by b.block t) ms
  within_along b [] all = refl
  within_along b (m ∷ ms) all =
      let (first, rest) = and_parts _ _ all in
      within_along (after b m) ms rest ∙ ap (λ x. ran_along (told b.resources m) x ms) (within_more b m first)

  -- where these are all of t's block, it ran nothing of it before them
  abbrev IsNew : Book → List Mark → Type 0
  IsNew b ms = list_all (is_of_block t) ms ≡ true → ran_by b.block t ≡ ran_nothing

  block_along : (b : Book) (ms : List Mark) → IsNew b ms → ran_by (book_of b ms).block t ≡ ran_along (told_all b.resources (before_block t ms)) ran_nothing (block_at_end t ms)
  unfolding before_block block_at_end
  block_along b [] new = new refl
  block_along b (m ∷ ms) new = by_test (block_along (after b m) ms) (list_all (is_of_block t) (m ∷ ms)) refl
    where
      by_test : (IsNew (after b m) ms → ran_by (book_of b (m ∷ ms)).block t ≡ ran_along (told_all (told b.resources m) (before_block t ms)) ran_nothing (block_at_end t ms))
          → (c : Bool) → list_all (is_of_block t) (m ∷ ms) ≡ c
          → ran_by (book_of b (m ∷ ms)).block t ≡ ran_along (told_all b.resources (if c then [] else m ∷ before_block t ms)) ran_nothing (if c then m ∷ ms else block_at_end t ms)
      by_test rest true e = within_along b (m ∷ ms) e ∙ ap (λ x. ran_along b.resources x (m ∷ ms)) (new e)
      by_test rest false e = rest (λ all. outside_more b m (first_fails (is_of_block t m) (list_all (is_of_block t) ms) e all))

  -- marks of t's block leave it open
  opens : (b : Book) (m : Mark) → is_of_block t m ≡ true → block_after b m ≡ Closed → ⊥
  opens b (mark.Withdrew u n) e closed = cc
  opens b (mark.Handler u h v) e closed = cc
  opens b (mark.Destructor u key v) e closed = cc
  opens b (mark.Acted u x a) e closed = cc
  opens b (mark.GaveMutex u m) e closed = cc
  opens b (mark.GaveLock u l) e closed = cc
  opens b m e closed = false≢true e

  opens_along : (b : Book) (m : Mark) (ms : List Mark) → list_all (is_of_block t) (m ∷ ms) ≡ true → (book_of b (m ∷ ms)).block ≡ Closed → ⊥
  opens_along b m [] all closed = opens b m (and_parts _ _ all).0 closed
  opens_along b m (n ∷ ms) all closed = opens_along (after b m) n ms (and_parts (is_of_block t m) (list_all (is_of_block t) (n ∷ ms)) all).1 closed

  -- where no block is open, the marks do not end within one
  pub closed_along : (b : Book) (ms : List Mark) → (book_of b ms).block ≡ Closed → block_at_end t ms ≡ []
  unfolding block_at_end
  closed_along b [] closed = refl
  closed_along b (m ∷ ms) closed = by_test (closed_along (after b m) ms closed) (list_all (is_of_block t) (m ∷ ms)) refl
    where
      by_test : block_at_end t ms ≡ [] → (c : Bool) → list_all (is_of_block t) (m ∷ ms) ≡ c → (if c then m ∷ ms else block_at_end t ms) ≡ []
      by_test rest true e = absurd (opens_along b m ms e closed)
      by_test rest false e = rest

  handlers_along : (k : Resources) (x : BlockRun) (ms : List Mark) → (ran_along k x ms).handlers ≡ x.handlers ++ handlers_in ms
  unfolding handlers_in with_handler
  handlers_along k x [] = sym (append-nil x.handlers)
  handlers_along k x (mark.Handler u h v ∷ ms) = handlers_along (told k (mark.Handler u h v)) (with_handler (h, v) x) ms ∙ append_assoc x.handlers ((h, v) ∷ []) (handlers_in ms)
  handlers_along k x (mark.Destructor u key v ∷ ms) =
      let o = next_destructor k.store.keys t x.round in
      handlers_along (told k (mark.Destructor u key v)) (with_destructor o key v x) ms ∙ ap (λ cs. cs ++ handlers_in ms) (with_destructor-handlers o key v x)
  handlers_along k x (m ∷ ms) = handlers_along (told k m) x ms

-- ---- the destructors of a block

due_later : (n : ℕ) (o : ℕ × HandlerId × ℤ) (d : Due) → Some (due n o) ≡ Some d → is_before_destructors d.round ≡ false
due_later n o d h = let same : due n o ≡ d = cc in subst (λ (e : Due). is_before_destructors e.round ≡ false) same (not_zero o.0)

due_by-later : (r : DestructorRound) (o p : Option (ℕ × HandlerId × ℤ)) (d : Due) → due_by r o p ≡ Some d → is_before_destructors d.round ≡ false
due_by-later r (Some o) p d h = due_later r.number o d h
due_by-later r None (Some o) d h = by_test (nat_lt r.number round_limit) h
  where
    by_test : (b : Bool) → (if b then Some (due (r.number + 1) o) else None) ≡ Some d → is_before_destructors d.round ≡ false
    by_test true same = due_later (r.number + 1) o d same
    by_test false same = absurd (cc same)
due_by-later r None None d h = absurd (cc h)

next_later : (x : Tables) (t : ℕ) (r : DestructorRound) (d : Due) → next_destructor x t r ≡ Some d → is_before_destructors d.round ≡ false
unfolding next_destructor
next_later x t r d h = due_by-later r (first_live x t r.from) (first_live x t 0) d h

-- before the destructors, handlers come first; later none comes
record AreInOrder (r : DestructorRound) (ms : List Mark) : Type 0 where
  first : is_before_destructors r ≡ true → AreHandlersFirst ms
  later : is_before_destructors r ≡ false → handlers_in ms ≡ []

-- from these resources and this round on, each destructor that runs is t's next one, with its key and its value, and after the last
-- none is due
unfoldable IsDueSequence : ℕ → Resources → DestructorRound → List Mark → Type 0
IsDueSequence t k r [] = next_destructor k.store.keys t r ≡ None
IsDueSequence t k r (mark.Destructor u key v ∷ ms) = (d : Due) × (next_destructor k.store.keys t r ≡ Some d) × (d.key ≡ key) × (d.value ≡ v) × IsDueSequence t (told k (mark.Destructor u key v)) d.round ms
IsDueSequence t k r (m ∷ ms) = IsDueSequence t (told k m) r ms

module _ (t : ℕ) where
  -- what the book asks of t's block after these marks
  record EndsFine (k : Resources) (x : BlockRun) (ms : List Mark) : Type 0 where
    fine : (ran_along t k x ms).is_fine ≡ true
    none : next_destructor (told_all k ms).store.keys t (ran_along t k x ms).round ≡ None

  -- and before them
  record GoesOnFine (k : Resources) (x : BlockRun) (ms : List Mark) : Type 0 where
    fine : x.is_fine ≡ true
    order : AreInOrder x.round ms
    sequence : IsDueSequence t k x.round ms

  handler_more : (k : Resources) (x : BlockRun) (u : Tid) (h : HandlerId) (v : ℤ) (ms : List Mark) → GoesOnFine (told k (mark.Handler u h v)) (with_handler (h, v) x) ms → GoesOnFine k x (mark.Handler u h v ∷ ms)
  unfolding with_handler AreHandlersFirst handlers_in IsDueSequence
  handler_more k x u h v ms g =
      let (fine, before) = and_parts _ _ g.fine in
      record { fine = fine; order = record { first = g.order.first; later = λ e. absurd (true≢false (sym before ∙ e)) }; sequence = g.sequence }

  destructor_more : (k : Resources) (x : BlockRun) (u : Tid) (key : ℕ) (v : ℤ) (ms : List Mark)
      → GoesOnFine (told k (mark.Destructor u key v)) (with_destructor (next_destructor k.store.keys t x.round) key v x) ms → GoesOnFine k x (mark.Destructor u key v ∷ ms)
  unfolding with_destructor AreHandlersFirst handlers_in IsDueSequence
  destructor_more k x u key v ms g = by_next (next_destructor k.store.keys t x.round) refl g
    where
      by_next : (o : Option Due) → next_destructor k.store.keys t x.round ≡ o → GoesOnFine (told k (mark.Destructor u key v)) (with_destructor o key v x) ms → GoesOnFine k x (mark.Destructor u key v ∷ ms)
      by_next None e g = absurd (false≢true g.fine)
      by_next (Some d) e g =
          let (fine, test) = and_parts _ _ g.fine in
          let (key_is, value_is) = and_parts _ _ test in
          let none = g.order.later (next_later k.store.keys t x.round d e) in
          record { fine = fine; order = record { first = λ _. none; later = λ _. none }; sequence = (d, e, same_means d.key key key_is, value_means d.value v value_is, g.sequence) }

  fine_more : (k : Resources) (x : BlockRun) (m : Mark) (ms : List Mark) → GoesOnFine (told k m) (ran_after t k x m) ms → GoesOnFine k x (m ∷ ms)
  unfolding AreHandlersFirst handlers_in IsDueSequence
  fine_more k x (mark.Handler u h v) ms g = handler_more k x u h v ms g
  fine_more k x (mark.Destructor u key v) ms g = destructor_more k x u key v ms g
  fine_more k x m ms g = record { fine = g.fine; order = record { first = g.order.first; later = g.order.later }; sequence = g.sequence }

  fine_along : (k : Resources) (x : BlockRun) (ms : List Mark) → EndsFine k x ms → GoesOnFine k x ms
  unfolding AreHandlersFirst handlers_in IsDueSequence
  fine_along k x [] e = record { fine = e.fine; order = record { first = λ _. tt; later = λ _. refl }; sequence = e.none }
  fine_along k x (m ∷ ms) e = fine_more k x m ms (fine_along (told k m) (ran_after t k x m) ms (record { fine = e.fine; none = e.none }))

  -- the destructors that are due are the next ones by the marks
  due_more : (b : Book) (before : List Mark) (s : Stage) (r : DestructorRound) (u : Tid) (key : ℕ) (v : ℤ) (ms : List Mark) → KeysFit t b.resources.store.keys before → StageFits s r
      → ((r2 : DestructorRound) (s2 : Stage) → StageFits s2 r2 → IsDueSequence t (told b.resources (mark.Destructor u key v)) r2 ms → IsSequence t (before ++ mark.Destructor u key v ∷ []) s2 ms)
      → IsDueSequence t b.resources r (mark.Destructor u key v ∷ ms) → IsSequence t before s (mark.Destructor u key v ∷ ms)
  unfolding IsDueSequence IsSequence
  due_more b before s r u key v ms f fits rest due =
      let d = due.0 in
      let next = due_next b.resources.store.keys t r d due.1 in
      let same : pos d.key ≡ pos key = ap pos due.2 in (
        d.round.number,
        subst (λ (z : ℤ). IsNext t before s (pos key) z d.round.number) due.3 (subst (λ (z : ℤ). IsNext t before s z d.value d.round.number) same (next_said t b.resources.store.keys before f s r d fits next)),
        rest d.round (record { rounds = d.round.number; last = Some (pos key) })
            (subst (λ (z : ℤ). StageFits (record { rounds = d.round.number; last = Some z }) d.round) same (stage_said t b.resources.store.keys before f r d next)) due.4,
      )

  sequence_said : (b : Book) (before ms : List Mark) (s : Stage) (r : DestructorRound) → list_any is_kill ms ≡ false → EachMark IsLawful b ms → KeysFit t b.resources.store.keys before → StageFits s r → IsDueSequence t b.resources r ms → IsSequence t before s ms
  unfolding IsDueSequence IsSequence
  sequence_said b before [] s r on law f fits due = none_next_said t b.resources.store.keys before f s r fits (due_none b.resources.store.keys t r due)
  sequence_said b before (mark.Destructor u key v ∷ ms) s r on law f fits due =
      let m = mark.Destructor u key v in
      due_more b before s r u key v ms f fits
      (λ r2 s2 fits2 due2. sequence_said (after b m) (before ++ m ∷ []) ms s2 r2 on law.1 (keys_fit_after t b before m refl law.0.1 f) fits2 due2) due
  sequence_said b before (m ∷ ms) s r on law f fits due =
      let (first, rest) = or_parts (is_kill m) (list_any is_kill ms) on in
      sequence_said (after b m) (before ++ m ∷ []) ms s r rest law.1 (keys_fit_after t b before m first law.0.1 f) fits due

-- ---- one mark, by the marks before it

step_uncanceled : (b : Book) (t : ℕ) (m : Mark) → is_call_of t m ≡ true → IsInItsOrder b m → IsUncanceled b t
step_uncanceled b t (mark.Answered u c a) e h = subst (IsUncanceled b) (same_means u.0 t e) h.0
step_uncanceled b t (mark.Waits u c) e h = subst (IsUncanceled b) (same_means u.0 t e) h
step_uncanceled b t (mark.Noted u v) e h = subst (IsUncanceled b) (same_means u.0 t e) h
step_uncanceled b t m e h = absurd (false≢true e)

module _ (before : List Mark) where
  abbrev book : Book
  book = book_of empty_book before

  pub ended_is : (t : ℕ) → book.ended t ≡ list_any (ends t) before
  ended_is t = flag_along (λ b. b.ended) ends (λ b. ended_more b.ended) t empty_book before

  pub canceled_is : (t : ℕ) → book.canceled t ≡ list_any (is_cancellation_of t) before
  canceled_is t = flag_along (λ b. b.canceled) is_cancellation_of (λ b. canceled_more b.canceled) t empty_book before

  -- where a thread has not ended, nobody killed the run
  pub unkilled : (t : ℕ) → book.ended t ≡ false → list_any is_kill before ≡ false
  unkilled t up = none_of is_kill (ends t) (λ m h. (or_parts (is_end_of t m) (is_kill m) h).1) before (sym (ended_is t) ∙ up)

  pub not_ended : (t : ℕ) → book.ended t ≡ false → list_any (is_end_of t) before ≡ false
  not_ended t up = none_of (is_end_of t) (ends t) (λ m h. (or_parts (is_end_of t m) (is_kill m) h).0) before (sym (ended_is t) ∙ up)

  -- in a run that nobody killed a thread has ended where it has an end
  pub ended_told : (t : ℕ) → list_any is_kill before ≡ false → book.ended t ≡ list_any (is_end_of t) before
  ended_told t on = ended_is t ∙ same before on
    where
      same : (ms : List Mark) → list_any is_kill ms ≡ false → list_any (ends t) ms ≡ list_any (is_end_of t) ms
      same [] on = refl
      same (m ∷ ms) on =
          let (first, rest) = or_parts (is_kill m) (list_any is_kill ms) on in
          ap₂ (λ (x y : Bool). x || y) (ap (λ (b : Bool). is_end_of t m || b) first ∙ or-false (is_end_of t m)) (same ms rest)

  -- where nobody killed the run
  module _ (on : list_any is_kill before ≡ false) (t : ℕ) where
    abbrev start : Resources
    start = told_all no_resources (before_block t before)

    abbrev block : List Mark
    block = block_at_end t before

    resources_are : book.resources ≡ told_all start block
    resources_are = resources_along empty_book before ∙ (ap (told_all no_resources) (sym (parts t before)) ∙ told_more no_resources (before_block t before) block)

    pub pending_are : book.resources.store.cleanups t ≡ pending_handlers t before
    pending_are = ap (λ (k : Resources). k.store.cleanups t) (resources_along empty_book before) ∙ pending_along t no_resources before on

    run_is : ran_by book.block t ≡ ran_along t start ran_nothing block
    unfolding ran_by
    run_is = block_along t empty_book before (λ all. refl)

    handlers_are : (ran_by book.block t).handlers ≡ handlers_in block
    handlers_are = ap (λ (x : BlockRun). x.handlers) run_is ∙ handlers_along t start ran_nothing block

    next_is : next_destructor book.resources.store.keys t (ran_by book.block t).round ≡ next_destructor (told_all start block).store.keys t (ran_along t start ran_nothing block).round
    next_is = ap₂ (λ (k : Resources) (x : BlockRun). next_destructor k.store.keys t x.round) resources_are run_is

    end_fine : (v : ℤ) → IsEndOrderly book t v → GoesOnFine t start ran_nothing block
    end_fine v h = fine_along t start ran_nothing block (record { fine = ap (λ (x : BlockRun). x.is_fine) (sym run_is) ∙ h.destructors; none = sym next_is ∙ h.all })

    end_sequence : EachMark IsLawful empty_book before → (v : ℤ) → IsEndOrderly book t v → IsSequence t (before_block t before) first_stage block
    end_sequence law v h =
        let first = before_block t before in
        let b = book_of empty_book first in
        let all : EachMark IsLawful empty_book (first ++ block) = subst (EachMark IsLawful empty_book) (sym (parts t before)) law in
        let none : list_any is_kill (first ++ block) ≡ false = subst (λ (ms : List Mark). list_any is_kill ms ≡ false) (sym (parts t before)) on in
        let (none_first, none_block) = or_parts (list_any is_kill first) (list_any is_kill block) (sym (list_any-append is_kill first block) ∙ none) in
        sequence_said t b first block first_stage first_round none_block (each_later IsLawful empty_book first block all)
        (keys_fit_along t empty_book [] first none_first (each_before IsLawful empty_book first block all) (keys_fit_none t))
        (record { rounds = refl; last = refl })
        (subst (λ (k : Resources). IsDueSequence t k first_round block) (sym (resources_along empty_book first)) (end_fine v h).sequence)

  to_orderly : (m : Mark) → EachMark IsLawful empty_book before → IsOrderlyMark book m → IsOrderlyAt before m
  to_orderly m law h = record {
    no_mark_after_end = λ t is. not_ended t (up t is);
    no_call_after_cancellation = λ t is. sym (canceled_is t) ∙ step_uncanceled book t m is h.1;
    canceled_ends_with_minus_one = λ t v is canceled. (ended t v is).value (canceled_is t.0 ∙ canceled);
    pop_runs_last_pending = λ t v is some.
        let none = unkilled t.0 (up t.0 (ap thread_of is)) in
        rw (handlers_are none t.0, pending_are none t.0) at ((subst (IsInItsOrder book) is h.1).1 some);
    end_runs_all_pending = λ t v is. let none = unkilled t.0 (up t.0 (ap thread_of is)) in sym (handlers_are none t.0) ∙ ((ended t v is).handlers ∙ pending_are none t.0);
    end_runs_handlers_first = λ t v is. (end_fine (unkilled t.0 (up t.0 (ap thread_of is))) t.0 v (ended t v is)).order.first refl;
    end_runs_all_destructors = λ t v is. end_sequence (unkilled t.0 (up t.0 (ap thread_of is))) t.0 law v (ended t v is);
  }
    where
      up : (t : ℕ) → thread_of m ≡ Some t → book.ended t ≡ false
      up t is = subst (HasNotEnded book) is h.0

      ended : (t : Tid) (v : ℤ) → m ≡ mark.Ended t v → IsEndOrderly book t.0 v
      ended t v is = subst (IsInItsOrder book) is h.1

pub lawful_orderly : (marks : List Mark) → EachMark IsLawful empty_book marks → Orderly marks
lawful_orderly marks h before later m e = let at = each_at IsLawful empty_book marks before later m e h in to_orderly before m at.0 at.1.0
