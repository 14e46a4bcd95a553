-- Ranks told by heights and raises, after one change.
use Rattle.std.proofs.Common.{◌≡◌, ℕ, ◌+◌, ◌<◌, ◌≤◌, ◌==◌, ◌||◌, Bool, true, false, not, if◌then◌else◌, ℤ, pos, ◌+ℤ◌, ◌-ℤ◌, List, [], ◌∷◌, ◌++◌, length, get_or, set, replicate, refl, All, Option, Some, None, option_map, IsSomeAnd, w64, sym, ◌∙◌, ap, subst, arith, get_or-set_other, get_or-set_same}
use Rattle.std.specs.Int.{int_wrap}
use Rattle.std.proofs.Math.IntN.{+ℤ_assoc, -ℤ-+ℤ_cancel}
use Rattle.std.proofs.lemmas.Int.{fits_signed_from_abs, ints, int_wrap_fits, int_wrap-add_left, int_wrap-add_right, int_wrap-add_same}
use Rattle.std.proofs.lemmas.List.{length-replicate, length-append}
use Rattle.std.proofs.lemmas.List.Elements.{All-nil, All-cons, All-head, All-tail, All-weaker, All-filter, All-map}
use Rattle.pth_base.specs.Table.{table}
use Rattle.pth_base.proofs.Tables.{same_means, same_fails}
use Rattle.pth_queue.specs.declared.queue.Queue.{Queue}
use Rattle.pth_queue.specs.declared.queue.Queue.TheVariants.{New, Ready, Waiting, Suspended, Dead}
use Rattle.pth_queue.specs.declared.ranked.Ranked.{Ranked}
use Rattle.pth_queue.specs.Ranking.{is_of, insert, delete, increase, raised, holds, place_in}
use Rattle.pth_queue.specs.Queues.{QueuesOf, no_queues, rows_of, with_rows, queue_of, place_of, entered, without, IsNowhere, IsRank, IsOrderly}
use Rattle.pth_queue.proofs.Counts.{holds-none}
use Rattle.pth_queue.proofs.Orders.{All-insert}
use Rattle.pth_queue.proofs.Places.{placed, moved}
use Rattle.pth_queue.proofs.Sets.{room-with, count-le-times, times-nowhere, holds-queue_of}
use Rattle.pth_tables.specs.declared.counted_queues.PerQueue.{PerQueue}
use Rattle.pth_tables.specs.declared.mark.Mark.{Mark}
use Rattle.pth_tables.specs.Waits.{KeptWaits, waits_of}
use Rattle.pth_tables.specs.Counted.{kept_of, with_kept, AreAlike, IsRaisedHeight, AreRaisedHeights, AreKeptBeside}
use Rattle.pth_tables.proofs.Counting.{counts_grown}
use Rattle.pth_tables.proofs.Keeping.{beside_grown}
use Rattle.pth_tables.proofs.Places.{marked_roomy}
use Rattle.pth_tables.proofs.Slots.{table_longer}

-- ---- in 64 bits

-- the height of a rank on entry
entered_alike : (rank raises : ℤ) → AreAlike (int_wrap w64 (rank -ℤ raises) +ℤ raises) rank
entered_alike rank raises = int_wrap-add_left w64 (rank -ℤ raises) raises ∙ ap (int_wrap w64) (-ℤ-+ℤ_cancel rank raises)

-- one raise more
raised_alike : (height raises rank : ℤ) → AreAlike (height +ℤ raises) rank → AreAlike (height +ℤ int_wrap w64 (raises +ℤ pos 1)) (rank +ℤ pos 1)
raised_alike height raises rank alike =
    int_wrap-add_right w64 height (raises +ℤ pos 1)
    ∙ ap (int_wrap w64) (sym (+ℤ_assoc height raises (pos 1)))
    ∙ int_wrap-add_same w64 (height +ℤ raises) rank (pos 1) alike

-- ---- one queue

module _ (heights : List ℤ) (raises : ℤ) where
  told_raised : (rows : List Ranked) → All (IsRaisedHeight heights raises) rows → All (IsRaisedHeight heights (int_wrap w64 (raises +ℤ pos 1))) (increase rows)
  told_raised rows all =
      All-map (IsRaisedHeight heights (int_wrap w64 (raises +ℤ pos 1))) raised rows
      (All-weaker (IsRaisedHeight heights raises) (λ r. IsRaisedHeight heights (int_wrap w64 (raises +ℤ pos 1)) (raised r)) (λ r told. raised_alike (table (pos 0) heights r.holder) raises r.rank told) rows all)

  told_without : (s : ℕ) (rows : List Ranked) → All (IsRaisedHeight heights raises) rows → All (IsRaisedHeight heights raises) (delete s rows)
  told_without s rows all = All-filter (λ r. not (is_of s r)) (IsRaisedHeight heights raises) rows all

  beside_by : (s : ℕ) (height : ℤ) (x : Ranked) (xs : List Ranked) (b : Bool) → (x.holder == s) ≡ b → (b || holds s xs) ≡ false → IsRaisedHeight heights raises x → (holds s xs ≡ false → All (IsRaisedHeight (set heights s height) raises) xs) → All (IsRaisedHeight (set heights s height) raises) (x ∷ xs)
  beside_by s height x xs true test h told more = cc
  beside_by s height x xs false test h told more =
      All-cons (IsRaisedHeight (set heights s height) raises) x xs
      (subst (λ (z : ℤ). AreAlike (z +ℤ raises) x.rank) (sym (get_or-set_other heights s x.holder height (pos 0) (same_fails x.holder s test))) told) (more h)

  -- another slot has another height
  told_beside : (s : ℕ) (height : ℤ) (rows : List Ranked) → holds s rows ≡ false → All (IsRaisedHeight heights raises) rows → All (IsRaisedHeight (set heights s height) raises) rows
  told_beside s height [] none all = All-nil (IsRaisedHeight (set heights s height) raises)
  told_beside s height (x ∷ xs) none all =
      beside_by s height x xs (x.holder == s) refl none (All-head (IsRaisedHeight heights raises) x xs all)
      (λ h. told_beside s height xs h (All-tail (IsRaisedHeight heights raises) x xs all))

  told_entered : (rank : ℤ) (s : ℕ) (rows : List Ranked) → s < length heights → holds s rows ≡ false → All (IsRaisedHeight heights raises) rows → All (IsRaisedHeight (set heights s (int_wrap w64 (rank -ℤ raises))) raises) (insert (record { rank = rank; holder = s }) rows)
  told_entered rank s rows low none all =
      let height = int_wrap w64 (rank -ℤ raises) in
      All-insert (IsRaisedHeight (set heights s height) raises) (record { rank = rank; holder = s }) rows
      (subst (λ (z : ℤ). AreAlike (z +ℤ raises) rank) (sym (get_or-set_same heights s height (pos 0) low)) (entered_alike rank raises))
      (told_beside s height rows none all)

-- ---- all queues

-- other rows in one queue, and how often it was raised
tells_with : (q : Queue) (rows : List Ranked) (n : ℤ) (x : QueuesOf) (y : PerQueue ℤ) (heights : List ℤ) → All (IsRaisedHeight heights n) rows → AreRaisedHeights x y heights → AreRaisedHeights (with_rows q rows x) (with_kept q n y) heights
tells_with New rows n x y heights told tells New = told
tells_with New rows n x y heights told tells p = tells p
tells_with Ready rows n x y heights told tells Ready = told
tells_with Ready rows n x y heights told tells p = tells p
tells_with Waiting rows n x y heights told tells Waiting = told
tells_with Waiting rows n x y heights told tells p = tells p
tells_with Suspended rows n x y heights told tells Suspended = told
tells_with Suspended rows n x y heights told tells p = tells p
tells_with Dead rows n x y heights told tells Dead = told
tells_with Dead rows n x y heights told tells p = tells p

with_same : (q : Queue) (y : PerQueue ℤ) → with_kept q (kept_of q y) y ≡ y
with_same New y = refl
with_same Ready y = refl
with_same Waiting y = refl
with_same Suspended y = refl
with_same Dead y = refl

-- a slot that stands nowhere stands in no queue
nowhere_in : (q : Queue) (s : ℕ) (x : QueuesOf) → IsNowhere s x → holds s (rows_of q x) ≡ false
nowhere_in q s x nowhere = holds-none s (rows_of q x) (omega (arith, count-le-times s q x, times-nowhere s x nowhere))

-- five empty queues
pub tells_none : (top : ℕ) (x : QueuesOf) (y : PerQueue ℤ) (heights : List ℤ) → x ≡ no_queues top → AreRaisedHeights x y heights
tells_none top x y heights is = subst (λ (k : QueuesOf). AreRaisedHeights k y heights) (sym is) none
  where
    none : AreRaisedHeights (no_queues top) y heights
    none New = All-nil (IsRaisedHeight heights y.new)
    none Ready = All-nil (IsRaisedHeight heights y.ready)
    none Waiting = All-nil (IsRaisedHeight heights y.waiting)
    none Suspended = All-nil (IsRaisedHeight heights y.suspended)
    none Dead = All-nil (IsRaisedHeight heights y.dead)

module _ (v x : QueuesOf) (y : PerQueue ℤ) (heights : List ℤ) (tells : AreRaisedHeights x y heights) where
  -- more heights
  more : (n : ℕ) → AreRaisedHeights x y (heights ++ replicate n (pos 0))
  more n q =
      All-weaker (IsRaisedHeight heights (kept_of q y)) (IsRaisedHeight (heights ++ replicate n (pos 0)) (kept_of q y))
      (λ r told. subst (λ (f : ℕ → ℤ). AreAlike (f r.holder +ℤ kept_of q y) r.rank) (sym (table_longer heights n (pos 0))) told) (rows_of q x) (tells q)

  -- more slots may be used
  pub tells_grown : (n room : ℕ) → v ≡ record x { room = room } → AreRaisedHeights v y (heights ++ replicate n (pos 0))
  tells_grown n room is = subst (λ (k : QueuesOf). AreRaisedHeights k y (heights ++ replicate n (pos 0))) (sym is) larger
    where
      larger : AreRaisedHeights (record x { room = room }) y (heights ++ replicate n (pos 0))
      larger New = more n New
      larger Ready = more n Ready
      larger Waiting = more n Waiting
      larger Suspended = more n Suspended
      larger Dead = more n Dead

  pub tells_without : (s : ℕ) → v ≡ without s x → AreRaisedHeights v y heights
  tells_without s is = subst (λ (k : QueuesOf). AreRaisedHeights k y heights) (sym is) fewer
    where
      fewer : AreRaisedHeights (without s x) y heights
      fewer New = told_without heights y.new s x.new (tells New)
      fewer Ready = told_without heights y.ready s x.ready (tells Ready)
      fewer Waiting = told_without heights y.waiting s x.waiting (tells Waiting)
      fewer Suspended = told_without heights y.suspended s x.suspended (tells Suspended)
      fewer Dead = told_without heights y.dead s x.dead (tells Dead)

  pub tells_raised : (q : Queue) (z : PerQueue ℤ) → v ≡ with_rows q (increase (rows_of q x)) x → z ≡ with_kept q (int_wrap w64 (kept_of q y +ℤ pos 1)) y → AreRaisedHeights v z heights
  tells_raised q z is set =
      subst (λ (k : QueuesOf). AreRaisedHeights k z heights) (sym is)
      (subst (λ (k : PerQueue ℤ). AreRaisedHeights (with_rows q (increase (rows_of q x)) x) k heights) (sym set)
      (tells_with q (increase (rows_of q x)) (int_wrap w64 (kept_of q y +ℤ pos 1)) x y heights (told_raised heights (kept_of q y) (rows_of q x) (tells q)) tells))

  pub tells_entered : (q : Queue) (rank : ℤ) (s : ℕ) (now : List ℤ) → s < length heights → IsNowhere s x → v ≡ entered q rank s x → now ≡ set heights s (int_wrap w64 (rank -ℤ kept_of q y)) → AreRaisedHeights v y now
  tells_entered q rank s now low nowhere is now_is =
      subst (λ (k : List ℤ). AreRaisedHeights v y k) (sym now_is)
      (subst (λ (k : QueuesOf). AreRaisedHeights k y after) (sym is)
      (subst (λ (k : PerQueue ℤ). AreRaisedHeights (entered q rank s x) k after) (with_same q y)
      (tells_with q (insert (record { rank = rank; holder = s }) (rows_of q x)) (kept_of q y) x y after
      (told_entered heights (kept_of q y) rank s (rows_of q x) low (nowhere_in q s x nowhere) (tells q))
      (λ p. told_beside heights (kept_of p y) s (int_wrap w64 (rank -ℤ kept_of q y)) (rows_of p x) (nowhere_in p s x nowhere) (tells p)))))
    where
      after : List ℤ
      after = set heights s (int_wrap w64 (rank -ℤ kept_of q y))

-- ---- the rank of a slot

farther : (P : ℤ → Type 0) (o : Option (ℤ × ℕ)) → IsSomeAnd {T = ℤ × ℕ} o (λ p. P p.0) → IsSomeAnd {T = ℤ × ℕ} (option_map moved o) (λ p. P p.0)
farther P None h = h
farther P (Some p) h = h

row_by : (P : ℤ → Type 0) (s : ℕ) (x : Ranked) (xs : List Ranked) (b : Bool) → (x.holder == s) ≡ b → (b || holds s xs) ≡ true → (x.holder ≡ s → P x.rank) → (holds s xs ≡ true → IsSomeAnd {T = ℤ × ℕ} (place_in s xs) (λ p. P p.0)) → IsSomeAnd {T = ℤ × ℕ} (if b then Some (placed 0 x) else option_map moved (place_in s xs)) (λ p. P p.0)
row_by P s x xs true test h here more = here (same_means x.holder s test)
row_by P s x xs false test h here more = farther P (place_in s xs) (more h)

-- what holds of the row of a slot that stands in a queue
place_by : (P : ℤ → Type 0) (s : ℕ) (xs : List Ranked) → holds s xs ≡ true → All (λ r. r.holder ≡ s → P r.rank) xs → IsSomeAnd {T = ℤ × ℕ} (place_in s xs) (λ p. P p.0)
place_by P s [] h all = cc
place_by P s (x ∷ xs) h all =
    row_by P s x xs (x.holder == s) refl h (All-head (λ r. r.holder ≡ s → P r.rank) x xs all)
    (λ k. place_by P s xs k (All-tail (λ r. r.holder ≡ s → P r.rank) x xs all))

told_rank : (z rank : ℤ) → AreAlike z rank → IsRank rank → int_wrap w64 z ≡ rank
told_rank z rank alike is = alike ∙ int_wrap_fits w64 rank (fits_signed_from_abs w64 rank (let low = is.low in let high = is.high in grind (arith, ints)))

module _ (s : ℕ) (q : Queue) (x : QueuesOf) (orderly : IsOrderly x) (stands : queue_of s x ≡ Some q) where
  -- it may be used
  pub low_slot : s < x.room
  low_slot = by_place (place_in s (rows_of q x)) (place_by (λ _. s < x.room) s (rows_of q x) (holds-queue_of q s x stands) (λ k d within same. subst (λ (n : ℕ). n < x.room) same ((orderly.each q).slots k d within)))
    where
      by_place : (o : Option (ℤ × ℕ)) → IsSomeAnd {T = ℤ × ℕ} o (λ _. s < x.room) → s < x.room
      by_place None h = absurd h
      by_place (Some p) h = h

  pub rank_told : (y : PerQueue ℤ) (heights : List ℤ) → AreRaisedHeights x y heights → IsSomeAnd {T = Queue × ℤ × ℕ} (place_of s x) (λ p. int_wrap w64 (table (pos 0) heights s +ℤ kept_of q y) ≡ p.1)
  rank_told y heights tells = rw stands (in_queue (place_in s (rows_of q x)) (place_by (λ z. rank ≡ z) s (rows_of q x) (holds-queue_of q s x stands) own))
    where
      rank : ℤ
      rank = int_wrap w64 (table (pos 0) heights s +ℤ kept_of q y)

      own : All (λ r. r.holder ≡ s → rank ≡ r.rank) (rows_of q x)
      own k d within same =
          told_rank (table (pos 0) heights s +ℤ kept_of q y) _ (subst (λ (n : ℕ). AreAlike (table (pos 0) heights n +ℤ kept_of q y) (get_or (rows_of q x) k d).rank) same (tells q k d within)) ((orderly.each q).ranks k d within)

      in_queue : (o : Option (ℤ × ℕ)) → IsSomeAnd {T = ℤ × ℕ} o (λ p. rank ≡ p.0) → IsSomeAnd {T = Queue × ℤ × ℕ} (option_map {U = Queue × ℤ × ℕ} (λ (p : ℤ × ℕ). (q, p.0, p.1)) o) (λ p. rank ≡ p.1)
      in_queue None h = h
      in_queue (Some p) h = h

-- ---- the room

-- other rows in one queue leave it
pub room_with : (v x : QueuesOf) (q : Queue) (rows : List Ranked) (n m : ℕ) → v ≡ with_rows q rows x → x.room ≤ n → m ≡ n → v.room ≤ m
room_with v x q rows n m is low same = let room : v.room ≡ x.room = ap (λ (k : QueuesOf). k.room) is ∙ room-with q rows x in omega arith

-- More slots may be used, or as many: there is room for them.
pub counted_grown : (v x : QueuesOf) (lengths : PerQueue ℕ) (raises : PerQueue ℤ) (heights now : List ℤ) (waits after : KeptWaits) (due : List ℕ) (mark : Option Mark) (n room : ℕ) → AreKeptBeside x lengths raises heights waits due mark → now ≡ heights ++ replicate n (pos 0) → v ≡ record x { room = room } → room ≤ length heights + n → waits_of after ≡ waits_of waits → room ≤ length after.slots → AreKeptBeside v lengths raises now after due mark
counted_grown v x lengths raises heights now waits after due mark n room kept more is fits same low = record {
  counts = counts_grown v x lengths kept.counts room is;
  room = let here : v.room ≡ room = ap (λ (k : QueuesOf). k.room) is in omega (arith, longer);
  tells = subst (AreRaisedHeights v raises) (sym more) (tells_grown v x raises heights kept.tells n room is);
  beside = beside_grown x (waits_of waits) (length waits.slots) due kept.beside v (waits_of after) room (length after.slots) is same low;
  marked = marked_roomy x v mark kept.marked room is;
}
  where
    longer : length now ≡ length heights + n
    longer = ap length more ∙ length-append heights (replicate n (pos 0)) ∙ ap (λ (m : ℕ). length heights + m) (length-replicate n (pos 0))
