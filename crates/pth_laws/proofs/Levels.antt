-- What marks leave of the levels that a thread has of mutexes: more than before only of a mutex that it takes.
use Rattle.std.proofs.Common.{◌≡◌, ◌≤◌, ℕ, zero, suc, ◌+◌, ◌-◌, ◌==◌, Bool, true, false, if◌then◌else◌, ℤ, pos, Some, refl, sym, subst, arith}
use Rattle.pth_base.specs.Table.{put}
use Rattle.pth_base.specs.declared.act.Act.TheVariants as act
use Rattle.pth_base.specs.declared.answer.Answer.{Answer}
use Rattle.pth_base.specs.declared.answer.Answer.TheVariants as answer
use Rattle.pth_base.specs.declared.call.Call.{Call}
use Rattle.pth_base.specs.declared.call.Call.TheVariants as call
use Rattle.pth_base.specs.declared.mark.Mark.{Mark}
use Rattle.pth_base.specs.declared.mark.Mark.TheVariants as mark
use Rattle.pth_base.proofs.Tables.{put_by, same_means}
use Rattle.pth_lock.specs.Objects.{object_named}
use Rattle.pth_lock.specs.Mutexes.{Mutex, MutexTable, free_mutex, mutex_with, mutex_taken, mutex_released, levels_of, has, is_anothers}
use Rattle.pth_model.specs.Resources.{on_one, on_int, on_msg, told, answer_told, act_told, retaken, let_go}
use Rattle.pth_model.specs.Store.{Resources}

-- u's levels of a mutex of which t has n
pub levels_with : (u t n k : ℕ) → (t ≡ u → n ≤ k) → levels_of u (mutex_with t n) ≤ k
levels_with u t n k own = by_test (n == 0)
  where
    by_owner : (b : Bool) → (t == u) ≡ b → (if b then n else 0) ≤ k
    by_owner true same = own (same_means t u same)
    by_owner false other = omega arith

    by_test : (b : Bool) → levels_of u (if b then free_mutex else Some (Some (record { owner = t; levels = n }))) ≤ k
    by_test true = omega arith
    by_test false = by_owner (t == u) refl

-- u has at most so many levels of each mutex
module _ (u : ℕ) (bound : ℕ → ℕ) where
  abbrev pub IsWithin : MutexTable → Type 0
  IsWithin x = (m : ℕ) → levels_of u (x m) ≤ bound m

  module _ (x : MutexTable) (within : IsWithin x) where
    within_put : (m : ℕ) (z : Mutex) → levels_of u z ≤ bound m → IsWithin (put x m z)
    within_put m z here i = put_by (λ (o : Mutex). levels_of u o ≤ bound i) x m z i (λ same. subst (λ (j : ℕ). levels_of u z ≤ bound j) (sym same) here) (λ other. within i)

    within_freed : (m : ℕ) → IsWithin (put x m free_mutex)
    within_freed m = within_put m free_mutex (omega arith)

    -- t takes a level, or gives one back
    within_taken : (t m : ℕ) → (t ≡ u → levels_of u (x m) + 1 ≤ bound m) → IsWithin (mutex_taken t m x)
    within_taken t m room = within_put m (mutex_with t (levels_of t (x m) + 1)) (levels_with u t (levels_of t (x m) + 1) (bound m) (λ same. subst (λ (v : ℕ). levels_of v (x m) + 1 ≤ bound m) (sym same) (room same)))

    within_released : (t m : ℕ) → IsWithin (mutex_released t m x)
    within_released t m =
        let all = within m in
        let less : levels_of u (x m) - 1 ≤ bound m = omega (arith, all) in
        within_put m (mutex_with t (levels_of t (x m) - 1)) (levels_with u t (levels_of t (x m) - 1) (bound m) (λ same. subst (λ (v : ℕ). levels_of v (x m) - 1 ≤ bound m) (sym same) less))

    free_or : (b : Bool) (m : ℕ) → levels_of u (if b then free_mutex else x m) ≤ bound m
    free_or true m = omega arith
    free_or false m = within m

  -- ---- marks

  module _ (k : Resources) (within : IsWithin k.store.mutexes) where
    abbrev x : MutexTable
    x = k.store.mutexes

    abbrev Within : Resources → Type 0
    Within j = IsWithin j.store.mutexes

    -- if t is u, there is room for one level more
    abbrev HasRoom : (t m : ℕ) → Type 0
    HasRoom t m = t ≡ u → levels_of u (x m) + 1 ≤ bound m

    -- so it is where this mark takes a level
    abbrev pub TakesWithin : Mark → Type 0
    TakesWithin (mark.Answered t (call.MutexAcquire m v e) (answer.Int n)) = HasRoom t.0 (object_named m)
    TakesWithin (mark.Answered t (call.CondAwait c m e) a) = k.awaits t.0 ≡ true → HasRoom t.0 (object_named m)
    TakesWithin (mark.Took t m) = HasRoom t.0 m
    TakesWithin m = Unit {0}

    within_one : (a : Answer) (g : Resources) → Within g → Within (on_one a k g)
    within_one (answer.Int (pos (suc zero))) g h = h
    within_one a g h = within

    within_int : (a : Answer) (g : ℤ → Resources) → ((n : ℤ) → Within (g n)) → Within (on_int a k g)
    within_int (answer.Int n) g h = h n
    within_int a g h = within

    within_msg : (a : Answer) (g : Resources) → Within g → Within (on_msg a k g)
    within_msg (answer.Msg id v) g h = h
    within_msg a g h = within

    took_back : (t m : ℕ) (b : Bool) → k.awaits t ≡ b → (k.awaits t ≡ true → HasRoom t m) → Within (if b then retaken k t m else k)
    took_back t m true awaits room = within_taken x within t m (room awaits)
    took_back t m false awaits room = within

    gave_back : (t m : ℕ) (b : Bool) → Within (if b then k else let_go k t m)
    gave_back t m true = within
    gave_back t m false = within_released x within t m

    answer_within : (t : ℕ) (c : Call) (a : Answer) → TakesWithin (mark.Answered (record { 0 = t }) c a) → Within (answer_told k t c a)
    unfolding answer_told
    answer_within t (call.CleanupPush h v) a room = within_one a _ within
    answer_within t (call.CleanupPop v) a room = within_one a _ within
    answer_within t (call.KeyCreate h) a room = within_int a _ (λ n. within)
    answer_within t (call.KeyDelete key) a room = within_one a _ within
    answer_within t (call.KeySet key v) a room = within_one a _ within
    answer_within t (call.MutexInit m) a room = within_int a _ (λ n. within_freed x within (object_named m))
    answer_within t (call.MutexAcquire m v e) (answer.Int n) room = within_taken x within t (object_named m) room
    answer_within t (call.MutexAcquire m v e) a room = within
    answer_within t (call.MutexRelease m) a room = within_int a _ (λ n. within_released x within t (object_named m))
    answer_within t (call.RwInit l) a room = within_int a _ (λ n. within)
    answer_within t (call.RwAcquire l write v e) a room = within_int a _ (λ n. within)
    answer_within t (call.RwRelease l) a room = within_int a _ (λ n. within)
    answer_within t (call.CondAwait c m e) a room = took_back t (object_named m) (k.awaits t) refl room
    answer_within t (call.PortCreate name) a room = within_int a _ (λ n. within)
    answer_within t (call.PortPut p v r) a room = within_int a _ (λ n. within)
    answer_within t (call.PortGet p) a room = within_msg a _ within
    answer_within t (call.Reply m v) a room = within_int a _ (λ n. within)
    answer_within t (call.PortDestroy p) a room = within_int a _ (λ n. within)
    answer_within t call.Kill a room = within_int a _ (λ n m. free_or x within (is_anothers t (x m)) m)
    answer_within t c a room = within

    pub told_within : (m : Mark) → TakesWithin m → Within (told k m)
    unfolding told act_told
    told_within (mark.Answered t c a) room = answer_within t.0 c a room
    told_within (mark.Acted t (act.Release m) a) room = answer_within t.0 (call.MutexRelease m) a tt
    told_within (mark.Acted t (act.Put p v) a) room = answer_within t.0 (call.PortPut p v (pos 0)) a tt
    told_within (mark.Acted t (act.SetKey key v) a) room = answer_within t.0 (call.KeySet key v) a tt
    told_within (mark.Waits t (call.CondAwait c m e)) room = gave_back t.0 (object_named m) (k.awaits t.0)
    told_within (mark.Took t m) room = within_taken x within t.0 m room
    told_within (mark.GaveMutex t m) room = within_freed x within m
    told_within (mark.Ended t v) room = λ m. free_or x within (has t.0 (x m)) m
    told_within m room = within
