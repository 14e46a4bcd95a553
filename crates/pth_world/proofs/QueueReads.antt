-- Reads of the queues by thread.
use Rattle.std.proofs.Common.{◌≡◌, ◌≢◌, ℕ, ◌==◌, ◌+◌, ◌≤◌, Bool, true, false, cond, ◌&&◌, ◌||◌, if◌then◌else◌, ℤ, List, [], ◌∷◌, ◌++◌, map, length, count_by, Option, Some, None, IfSome, IsSomeAnd, option_map, refl, sym, ◌∙◌, ap, subst, arith, pos, neg_ℤ, ◌≤ℤ◌, ◌^◌}
use Rattle.std.proofs.lemmas.Int.{ints}
use Rattle.std.proofs.lemmas.List.{length-map}
use Rattle.std.proofs.lemmas.List.Elements.{All-head}
use Rattle.pth_base.specs.declared.ids.Slot.{Slot}
use Rattle.pth_base.specs.Naming.{IsTied}
use Rattle.pth_base.specs.declared.ids.Tid.{Tid}
use Rattle.pth_base.proofs.Namings.{none_some, named_test}
use Rattle.pth_base.proofs.Tables.{not_same, same_self}
use Rattle.pth_queue.specs.declared.queue.Queue.{Queue}
use Rattle.pth_queue.specs.Queues.{QueuesOf, queue_of, rows_of, IsOrdered, IsRank, after_of, place_of}
use Rattle.pth_queue.specs.declared.ranked.Ranked.{Ranked}
use Rattle.pth_queue.specs.Ranking.{is_of, holds, head_of, last_of, after_in, place_in, favour_top, named_row, IsQueued}
use Rattle.pth_queue.specs.declared.queue.Queue.TheVariants as queue_is
use Rattle.pth_queue.proofs.Names.{head_named, last_named, after_named, place_named}
use Rattle.pth_queue.proofs.Counts.{count-cons, holds-count, holds-none}
use Rattle.pth_queue.proofs.Sets.{count-head, once_in}
use Rattle.pth_queue.proofs.Standing.{last_of-None}
use Rattle.pth_threads.specs.Threads.{slot_of, tid_at, number_of}
use Rattle.pth_model.specs.Part.{rank_by}
use Rattle.pth_model.specs.State.{Control, queue}
use Rattle.pth_model.specs.Changes.{holders}
use Rattle.pth_model.specs.ThreadEnds.{only, is_alone}
use Rattle.pth_world.specs.World.{WorldOf, ThreadsBySlot}
use Rattle.pth_world.specs.Shows.{Shows, ShowsThreads}
use Rattle.pth_world.specs.Sound.{IsSound}
use Rattle.pth_world.proofs.Places.{unused-holds}

-- the number of a slot
abbrev pub slot_number : Slot → ℕ
slot_number u = u.0

true_false : true ≡ false → ⊥
true_false h = cc

-- a slot that stands in a queue is in use
pub used-holds : (f : ℕ → ℕ) (v : ℕ) (xs : List Ranked) → IsQueued f xs → holds v xs ≡ true → f v ≢ 0
used-holds f v xs queued h zero = true_false (sym h ∙ unused-holds f v xs queued zero)

pub holds-head : (v : ℕ) (xs : List Ranked) → head_of xs ≡ Some v → holds v xs ≡ true
holds-head v xs h = holds-count v xs (count-head v xs h)

or_true : (b : Bool) → (b || true) ≡ true
or_true true = refl
or_true false = refl

pub holds-last : (v : ℕ) (xs : List Ranked) → last_of xs ≡ Some v → holds v xs ≡ true
holds-last v [] h = cc
holds-last v (x ∷ []) h = holds-head v (x ∷ []) h
holds-last v (x ∷ y ∷ ys) h = rw (holds-last v (y ∷ ys) h) (or_true (is_of v x))

-- what a queue answers stands in it
pub in_queue : (o : Option Slot) (p : Option ℕ) (xs : List Ranked) → option_map (λ (u : Slot). u.0) o ≡ p → ((v : ℕ) → p ≡ Some v → holds v xs ≡ true) → IfSome o (λ (u : Slot). holds u.0 xs ≡ true)
in_queue None p xs e h = tt
in_queue (Some u) p xs e h = h u.0 (sym e)

-- names after numbers of slots
pub names : (f : ℕ → ℕ) (o : Option Slot) → option_map (λ (u : Slot). f u.0) o ≡ option_map f (option_map (λ (u : Slot). u.0) o)
names f None = refl
names f (Some u) = refl

pub head_is : (f : ℕ → ℕ) (o : Option Slot) (xs : List Ranked) → option_map (λ (u : Slot). u.0) o ≡ head_of xs → option_map (λ (u : Slot). f u.0) o ≡ head_of (map (named_row f) xs)
head_is f o xs e = names f o ∙ ap (option_map f) e ∙ sym (head_named f xs)

pub last_is : (f : ℕ → ℕ) (o : Option Slot) (xs : List Ranked) → option_map (λ (u : Slot). u.0) o ≡ last_of xs → option_map (λ (u : Slot). f u.0) o ≡ last_of (map (named_row f) xs)
last_is f o xs e = names f o ∙ ap (option_map f) e ∙ sym (last_named f xs)

-- the thread at a slot stands where the slot does
pub stands_at : {S : Type 0} (w : ThreadsBySlot S) → IsSound w → (u t : ℕ) (q : Queue) → tid_at w.records u ≢ 0 → tid_at w.records u ≡ t → queue_of u w.queues ≡ Some q → IfSome (slot_of w.records t) (λ v. queue_of v w.queues ≡ Some q)
stands_at w sound u t q used name h = rw (← name, sound.tied.slot u used) h

-- one above the ranks in bounds
pub top_bounds : (top room : ℕ) (xs : List Ranked) → top ≤ 20 → IsOrdered room xs → (neg_ℤ (pos (2 ^ 40)) ≤ℤ favour_top top xs) × (favour_top top xs ≤ℤ pos (2 ^ 40 + 1))
top_bounds top room [] most o = (grind (arith, ints), grind (arith, ints))
top_bounds top room (x ∷ xs) most o =
    let r : IsRank x.rank = All-head (λ y. IsRank y.rank) x xs o.ranks in
    let low = r.low in
    let high = r.high in
    (grind (arith, ints), grind (arith, ints))

-- a thread stands as often as its slot
pub count-named : (g : ℕ → Option ℕ) (f : ℕ → ℕ) (t u : ℕ) (xs : List Ranked) → IsTied g f → g t ≡ Some u → IsQueued f xs → count_by (is_of t) (map (named_row f) xs) ≡ count_by (is_of u) xs
count-named g f t u [] tied e q = refl
count-named g f t u (x ∷ xs) tied e q =
    count-cons t (named_row f x) (map (named_row f) xs)
    ∙ ap (λ (b : Bool). cond {A = ℕ} b 1 0 + count_by (is_of t) (map (named_row f) xs)) (named_test g f t u x.holder tied e q.0)
    ∙ ap (λ (n : ℕ). cond {A = ℕ} (is_of u x) 1 0 + n) (count-named g f t u xs tied e q.1)
    ∙ sym (count-cons u x xs)

-- who is not in the system stands in no queue
pub count-unknown : (g : ℕ → Option ℕ) (f : ℕ → ℕ) (t : ℕ) (xs : List Ranked) → IsTied g f → g t ≡ None → IsQueued f xs → count_by (is_of t) (map (named_row f) xs) ≡ 0
count-unknown g f t [] tied none q = refl
count-unknown g f t (x ∷ xs) tied none q =
    let other : (f x.holder == t) ≡ false = not_same (f x.holder) t (λ same. none_some (sym none ∙ ap g (sym same) ∙ tied.slot x.holder q.0)) in
    let zero : cond {A = ℕ} (is_of t (named_row f x)) 1 0 ≡ 0 = ap (λ (b : Bool). cond {A = ℕ} b 1 0) other in
    omega (arith, count-cons t (named_row f x) (map (named_row f) xs), count-unknown g f t xs tied none q.1)

-- a thread stands once in a queue
pub once_named : {S : Type 0} (w : ThreadsBySlot S) (t : ℕ) (q : Queue) → IsSound w → count_by (is_of t) (map (named_row (tid_at w.records)) (rows_of q w.queues)) ≤ 1
once_named w t q sound = by_slot (slot_of w.records t) refl
  where
    by_slot : (p : Option ℕ) → slot_of w.records t ≡ p → count_by (is_of t) (map (named_row (tid_at w.records)) (rows_of q w.queues)) ≤ 1
    by_slot None e = rw (count-unknown (slot_of w.records) (tid_at w.records) t (rows_of q w.queues) sound.tied e (sound.queued q)) (omega arith)
    by_slot (Some u) e = rw (count-named (slot_of w.records) (tid_at w.records) t u (rows_of q w.queues) sound.tied e (sound.queued q)) (once_in q u w.queues sound.orderly)

-- and so in the queue of a state
pub once_thread : {P S H : Type 0} (w : ThreadsBySlot S) (s : Control P S H) (t : ℕ) (q : Queue) → IsSound w → ShowsThreads s.top w s.threads → count_by (is_of t) (queue s q) ≤ 1
once_thread w s t q sound st = rw (st.standing q) (once_named w t q sound)

after_by : (u v : ℕ) (x : Ranked) (xs : List Ranked) (b : Bool) → (head_of xs ≡ Some v → holds v xs ≡ true) → (after_in u xs ≡ Some v → holds v xs ≡ true) → (if b then head_of xs else after_in u xs) ≡ Some v → holds v xs ≡ true
after_by u v x xs true head more h = head h
after_by u v x xs false head more h = more h

pub holds-after : (u v : ℕ) (xs : List Ranked) → after_in u xs ≡ Some v → holds v xs ≡ true
holds-after u v [] h = cc
holds-after u v (x ∷ xs) h = rw (after_by u v x xs (is_of u x) (holds-head v xs) (holds-after u v xs) h) (or_true (is_of v x))

-- who follows a row, where no other row is of the same thread
row_by : (t : ℕ) (x : Ranked) (xs : List Ranked) (b : Bool) (o : Option ℕ) → cond {A = ℕ} b 1 0 + count_by (is_of t) xs ≤ 1 → 1 ≤ count_by (is_of t) xs → after_in t xs ≡ o → (if b then head_of xs else after_in t xs) ≡ o
row_by t x xs true o once here h = absurd (omega arith)
row_by t x xs false o once here h = h

count-here : (t : ℕ) (front back : List Ranked) (r : Ranked) → r.holder ≡ t → 1 ≤ count_by (is_of t) (front ++ r ∷ back)
count-here t [] back r same = count-head t (r ∷ back) (ap Some same)
count-here t (x ∷ front) back r same = let h = count-here t front back r same in omega (arith, count-cons t x (front ++ r ∷ back), h)

pub after-row : (t : ℕ) (front back : List Ranked) (r : Ranked) → r.holder ≡ t → count_by (is_of t) (front ++ r ∷ back) ≤ 1 → after_in t (front ++ r ∷ back) ≡ head_of back
after-row t [] back r same once = rw (same, same_self t) refl
after-row t (x ∷ front) back r same once =
    row_by t x (front ++ r ∷ back) (is_of t x) (head_of back) (omega (arith, count-cons t x (front ++ r ∷ back))) (count-here t front back r same)
    (after-row t front back r same (omega (arith, count-cons t x (front ++ r ∷ back))))

-- what follows a slot in its queue
pub after_of-in : (u : ℕ) (q : Queue) (x : QueuesOf) → queue_of u x ≡ Some q → after_of u x ≡ after_in u (rows_of q x)
after_of-in u q x h = rw h

pub after_is : {P S H : Type 0} (w : ThreadsBySlot S) (s : Control P S H) (t u : ℕ) (q : Queue) (o : Option Slot) (front back : List Ranked) (r : Ranked) → IsSound w → slot_of w.records t ≡ Some u → queue_of u w.queues ≡ Some q →
    option_map (λ (v : Slot). v.0) o ≡ after_of u w.queues → ShowsThreads s.top w s.threads → queue s q ≡ front ++ r ∷ back → r.holder ≡ t → option_map (λ (v : Slot). tid_at w.records v.0) o ≡ head_of back
after_is w s t u q o front back r sound e stands h st is same =
    names (tid_at w.records) o
    ∙ ap (option_map (tid_at w.records)) (h ∙ after_of-in u q w.queues stands)
    ∙ sym (after_named (slot_of w.records) (tid_at w.records) t u (rows_of q w.queues) sound.tied e (sound.queued q))
    ∙ ap (after_in t) (sym (st.standing q) ∙ is)
    ∙ after-row t front back r same (subst (λ (l : List Ranked). count_by (is_of t) l ≤ 1) is (once_thread w s t q sound st))

abbrev at_place : Queue → ℤ × ℕ → Queue × ℤ × ℕ
at_place q p = (q, p.0, p.1)

-- the rank of a thread in its queue is the one that its slot has there
pub rank_is : {P S H : Type 0} (w : ThreadsBySlot S) (s : Control P S H) (t u : ℕ) (q : Queue) (rank : ℤ) → IsSound w → slot_of w.records t ≡ Some u → queue_of u w.queues ≡ Some q → IsSomeAnd (place_of u w.queues) (λ p. rank ≡ p.1) → ShowsThreads s.top w s.threads → rank ≡ rank_by (place_in t (queue s q))
rank_is w s t u q rank sound e stands h st =
    rw (st.standing q, place_named (slot_of w.records) (tid_at w.records) t u (rows_of q w.queues) sound.tied e (sound.queued q))
    (by_place (place_in u (rows_of q w.queues)) (rw stands at h))
  where
    by_place : (o : Option (ℤ × ℕ)) → IsSomeAnd (option_map (at_place q) o) (λ p. rank ≡ p.1) → rank ≡ rank_by o
    by_place (Some x) k = k
    by_place None k = absurd k

-- a queue with no last row is empty
pub only_none : (t : ℕ) (o : Option Tid) (xs : List Ranked) → option_map number_of o ≡ last_of xs → o ≡ None → true ≡ only t (holders xs)
only_none t o xs e none = rw (last_of-None xs (sym e ∙ ap (option_map number_of) none)) refl

absent_by : (b c d : Bool) → (b || c) ≡ false → (b && d) ≡ false
absent_by true c d h = cc
absent_by false c d h = refl

last_other : (t l : ℕ) (xs : List Ranked) → holds t xs ≡ false → last_of xs ≡ Some l → (l == t) ≡ false
last_other t l xs none h = not_same l t (λ same. true_false (sym (holds-last l xs h) ∙ ap (λ (n : ℕ). holds n xs) same ∙ none))

-- the first row is of t: no other is where the last one is too
pub only_ends : (t h l : ℕ) (xs : List Ranked) → count_by (is_of t) xs ≤ 1 → Some h ≡ head_of xs → Some l ≡ last_of xs → h ≡ t → (l == t) ≡ only t (holders xs)
only_ends t h l [] once head last same = cc
only_ends t h l (x ∷ []) once head last same =
    let a : x.holder ≡ t = cc in
    let b : l ≡ t = cc in
    rw (a, b, same_self t) refl
only_ends t h l (x ∷ y ∷ ys) once head last same =
    let a : x.holder ≡ t = cc in
    let own : (x.holder == t) ≡ true = ap (λ (n : ℕ). n == t) a ∙ same_self t in
    let none : holds t (y ∷ ys) ≡ false = holds-none t (y ∷ ys) (let one : cond {A = ℕ} (is_of t x) 1 0 ≡ 1 = ap (λ (b : Bool). cond {A = ℕ} b 1 0) own in omega (arith, count-cons t x (y ∷ ys))) in
    rw own (last_other t l (y ∷ ys) none (sym last) ∙ sym (absent_by (y.holder == t) (holds t ys) (only t (holders ys)) none))

-- tests one after another
pub and_true : (a b v : Bool) → a ≡ true → v ≡ b → v ≡ (a && b)
and_true true b v t h = h
and_true false b v t h = cc

pub and_false : (a b v : Bool) → a ≡ false → v ≡ false → v ≡ (a && b)
and_false false b v f h = h
and_false true b v f h = cc

four_true : (a b c d v : Bool) → ((a && b) && c) ≡ true → v ≡ d → v ≡ (a && (b && (c && d)))
four_true true true true d v t h = h
four_true false b c d v t h = cc
four_true true false c d v t h = cc
four_true true true false d v t h = cc

four_false : (a b c d v : Bool) → ((a && b) && c) ≡ false → v ≡ false → v ≡ (a && (b && (c && d)))
four_false true true true d v t h = cc
four_false false b c d v t h = h
four_false true false c d v t h = h
four_false true true false d v t h = h

-- of the first two queues and of the first three, all is of t
abbrev pub only_two : {P S H : Type 0} → Control P S H → ℕ → Bool
only_two s t = only t (holders (queue s queue_is.New)) && only t (holders (queue s queue_is.Ready))

abbrev pub only_three : {P S H : Type 0} → Control P S H → ℕ → Bool
only_three s t = only_two s t && only t (holders (queue s queue_is.Waiting))

pub alone_true : {P S H : Type 0} (s : Control P S H) (t : ℕ) (v : Bool) → only_three s t ≡ true → v ≡ only t (holders (queue s queue_is.Suspended)) → v ≡ is_alone s t
unfolding is_alone
alone_true s t v = four_true (only t (holders (queue s queue_is.New))) (only t (holders (queue s queue_is.Ready))) (only t (holders (queue s queue_is.Waiting))) (only t (holders (queue s queue_is.Suspended))) v

pub alone_false : {P S H : Type 0} (s : Control P S H) (t : ℕ) (v : Bool) → only_three s t ≡ false → v ≡ false → v ≡ is_alone s t
unfolding is_alone
alone_false s t v = four_false (only t (holders (queue s queue_is.New))) (only t (holders (queue s queue_is.Ready))) (only t (holders (queue s queue_is.Waiting))) (only t (holders (queue s queue_is.Suspended))) v

-- a queue that is shown is as long as that of the world
pub length_shown : {P S H : Type 0} (w : WorldOf P S H) (k : Control P S H) (q : Queue) → Shows w k → length (rows_of q w.threads.queues) ≡ length (queue k q)
length_shown w k q sh = sym (ap (λ (l : List Ranked). length l) (sh.threads.standing q) ∙ length-map (rows_of q w.threads.queues) (named_row (tid_at w.threads.records)))
