-- Queues and their lengths, after one change.
use Rattle.std.proofs.Common.{◌≡◌, ℕ, ◌+◌, ◌-◌, ◌≤◌, ℤ, List, length, count_by, Some, refl, sym, ◌∙◌, subst, arith}
use Rattle.std.proofs.lemmas.List.{length-map}
use Rattle.pth_queue.specs.declared.queue.Queue.{Queue}
use Rattle.pth_queue.specs.declared.queue.Queue.TheVariants.{New, Ready, Waiting, Suspended, Dead}
use Rattle.pth_queue.specs.declared.ranked.Ranked.{Ranked}
use Rattle.pth_queue.specs.Ranking.{is_of, insert, delete, increase, raised}
use Rattle.pth_queue.specs.Queues.{QueuesOf, no_queues, rows_of, with_rows, queue_of, entered, without, IsOrderly}
use Rattle.pth_queue.proofs.Counts.{fewer, length-insert, length-delete, count-present}
use Rattle.pth_queue.proofs.Sets.{once_in, holds-queue_of, deleted_is}
use Rattle.pth_tables.specs.declared.counted_queues.PerQueue.{PerQueue}
use Rattle.pth_tables.specs.Counted.{kept_of, with_kept, AreCounted}

-- a queue has no more rows than there are slots
pub few_rows : (q : Queue) (x : QueuesOf) → IsOrderly x → length (rows_of q x) ≤ 4096
few_rows q x o = omega (arith, fewer x.room (rows_of q x) (o.each q).slots (λ s. once_in q s x o), o.few)

-- other rows in one queue, and their number
counts_with : (q : Queue) (rows : List Ranked) (n : ℕ) (x : QueuesOf) (y : PerQueue ℕ) → n ≡ length rows → AreCounted x y → AreCounted (with_rows q rows x) (with_kept q n y)
counts_with New rows n x y is h New = is
counts_with New rows n x y is h p = h p
counts_with Ready rows n x y is h Ready = is
counts_with Ready rows n x y is h p = h p
counts_with Waiting rows n x y is h Waiting = is
counts_with Waiting rows n x y is h p = h p
counts_with Suspended rows n x y is h Suspended = is
counts_with Suspended rows n x y is h p = h p
counts_with Dead rows n x y is h Dead = is
counts_with Dead rows n x y is h p = h p

-- as many rows in one queue
counts_same : (q : Queue) (rows : List Ranked) (x : QueuesOf) (y : PerQueue ℕ) → length rows ≡ length (rows_of q x) → AreCounted x y → AreCounted (with_rows q rows x) y
counts_same New rows x y same h New = h New ∙ sym same
counts_same New rows x y same h p = h p
counts_same Ready rows x y same h Ready = h Ready ∙ sym same
counts_same Ready rows x y same h p = h p
counts_same Waiting rows x y same h Waiting = h Waiting ∙ sym same
counts_same Waiting rows x y same h p = h p
counts_same Suspended rows x y same h Suspended = h Suspended ∙ sym same
counts_same Suspended rows x y same h p = h p
counts_same Dead rows x y same h Dead = h Dead ∙ sym same
counts_same Dead rows x y same h p = h p

-- five empty queues
pub counts_none : (top : ℕ) (x : QueuesOf) → x ≡ no_queues top → AreCounted x (record { new = 0; ready = 0; waiting = 0; suspended = 0; dead = 0 })
counts_none top x is = subst (λ (k : QueuesOf). AreCounted k (record { new = 0; ready = 0; waiting = 0; suspended = 0; dead = 0 })) (sym is) none
  where
    none : AreCounted (no_queues top) (record { new = 0; ready = 0; waiting = 0; suspended = 0; dead = 0 })
    none New = refl
    none Ready = refl
    none Waiting = refl
    none Suspended = refl
    none Dead = refl

module _ (v : QueuesOf) (x : QueuesOf) (y : PerQueue ℕ) (counts : AreCounted x y) where
  -- more slots may be used
  pub counts_grown : (room : ℕ) → v ≡ record x { room = room } → AreCounted v y
  counts_grown room is = subst (λ (k : QueuesOf). AreCounted k y) (sym is) grown
    where
      grown : AreCounted (record x { room = room }) y
      grown New = counts New
      grown Ready = counts Ready
      grown Waiting = counts Waiting
      grown Suspended = counts Suspended
      grown Dead = counts Dead

  -- every rank in a queue one more
  pub counts_raised : (q : Queue) → v ≡ with_rows q (increase (rows_of q x)) x → AreCounted v y
  counts_raised q is = subst (λ (k : QueuesOf). AreCounted k y) (sym is) (counts_same q (increase (rows_of q x)) x y (length-map (rows_of q x) raised) counts)

  -- where one length is set
  module _ (z : PerQueue ℕ) (q : Queue) (n : ℕ) (was : n ≡ kept_of q y) where
    both : (rows : List Ranked) (m : ℕ) → m ≡ length rows → v ≡ with_rows q rows x → z ≡ with_kept q m y → AreCounted v z
    both rows m long is set = subst (λ (k : QueuesOf). AreCounted k z) (sym is) (subst (λ (k : PerQueue ℕ). AreCounted (with_rows q rows x) k) (sym set) (counts_with q rows m x y long counts))

    -- a row more is counted in few numbers
    pub few_more : IsOrderly x → n ≤ 4096
    few_more o = omega (arith, few_rows q x o, counts q)

    pub counts_entered : (rank : ℤ) (s : ℕ) → v ≡ entered q rank s x → z ≡ with_kept q (n + 1) y → AreCounted v z
    counts_entered rank s is set = both (insert (record { rank = rank; holder = s }) (rows_of q x)) (n + 1) (omega (arith, length-insert (record { rank = rank; holder = s }) (rows_of q x), counts q)) is set

    module _ (s : ℕ) (o : IsOrderly x) (stands : queue_of s x ≡ Some q) where
      present : 1 ≤ count_by (is_of s) (rows_of q x)
      present = count-present s (rows_of q x) (holds-queue_of q s x stands)

      -- the queue of a slot has a row
      pub one_less : 1 ≤ n
      one_less = omega (arith, length-delete s (rows_of q x), present, counts q)

      pub counts_without : v ≡ without s x → z ≡ with_kept q (n - 1) y → AreCounted v z
      counts_without is set = both (delete s (rows_of q x)) (n - 1) (omega (arith, length-delete s (rows_of q x), present, once_in q s x o, counts q)) (is ∙ sym (deleted_is q s x o present)) set
