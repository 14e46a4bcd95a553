-- The five queues of a state, after one change.
use Rattle.std.proofs.Common.{◌≡◌, ℕ, Bool, true, false, if◌then◌else◌, ℤ, pos, ◌+ℤ◌, ◌-ℤ◌, List, refl, ◌∙◌, ap, arith}
use Rattle.std.proofs.lemmas.Int.{ints}
use Rattle.pth_queue.specs.declared.ranked.Ranked.{Ranked}
use Rattle.pth_queue.specs.declared.queue.Queue.{Queue}
use Rattle.pth_queue.specs.declared.queue.Queue.TheVariants.{New, Ready, Waiting, Suspended, Dead}
use Rattle.pth_queue.specs.Ranking.{insert, delete, increase}
use Rattle.pth_queue.specs.Queues.{QueuesOf, rows_of, with_rows, without}
use Rattle.pth_model.specs.Standing.{is_queue, raises_of}
use Rattle.pth_model.specs.State.{Control, queue}
use Rattle.pth_model.specs.Changes.{enters, leaves_queue, raises_ready}
use Rattle.pth_model.proofs.Orders.{shown-enter, shown-left, shown-raise}

pub is_queue_self : (q : Queue) → is_queue q q ≡ true
is_queue_self New = refl
is_queue_self Ready = refl
is_queue_self Waiting = refl
is_queue_self Suspended = refl
is_queue_self Dead = refl

pub is_queue_same : (p q : Queue) → is_queue p q ≡ true → p ≡ q
is_queue_same New New e = refl
is_queue_same Ready Ready e = refl
is_queue_same Waiting Waiting e = refl
is_queue_same Suspended Suspended e = refl
is_queue_same Dead Dead e = refl
is_queue_same p q e = absurd (cc e)

pub rows_here : (q : Queue) (rows : List Ranked) (x : QueuesOf) → rows_of q (with_rows q rows x) ≡ rows
rows_here New rows x = refl
rows_here Ready rows x = refl
rows_here Waiting rows x = refl
rows_here Suspended rows x = refl
rows_here Dead rows x = refl

pub rows_other : (p q : Queue) (rows : List Ranked) (x : QueuesOf) → is_queue p q ≡ false → rows_of p (with_rows q rows x) ≡ rows_of p x
rows_other New New rows x e = absurd (cc e)
rows_other Ready Ready rows x e = absurd (cc e)
rows_other Waiting Waiting rows x e = absurd (cc e)
rows_other Suspended Suspended rows x e = absurd (cc e)
rows_other Dead Dead rows x e = absurd (cc e)
rows_other p q rows x e = refl

pub rows_without : (q : Queue) (u : ℕ) (x : QueuesOf) → rows_of q (without u x) ≡ delete u (rows_of q x)
rows_without New u x = refl
rows_without Ready u x = refl
rows_without Waiting u x = refl
rows_without Suspended u x = refl
rows_without Dead u x = refl

back : (rank : ℤ) (n : ℕ) → (rank -ℤ pos n) +ℤ pos n ≡ rank
back rank n = grind (arith, ints)

module _ {P S H : Type 0} (s : Control P S H) where
  pub queue-enter : (t : ℕ) (q : Queue) (rank : ℤ) (top : Bool) → queue (enters t q rank top s) q ≡ insert (record { rank = rank; holder = t }) (queue s q)
  unfolding enters
  queue-enter t q rank top =
      rw (is_queue_self q) (shown-enter (raises_of s.threads.raises q) _ _ ∙ ap (λ (r : ℤ). insert (record { rank = r; holder = t }) (queue s q)) (back rank (raises_of s.threads.raises q)))

  pub queue-enter_other : (t : ℕ) (p q : Queue) (rank : ℤ) (top : Bool) → is_queue p q ≡ false → queue (enters t q rank top s) p ≡ queue s p
  unfolding enters
  queue-enter_other t p q rank top e = rw e refl

  pub queue-leave : (t : ℕ) (q : Queue) → queue (leaves_queue t s) q ≡ delete t (queue s q)
  unfolding leaves_queue
  queue-leave t q = shown-left (raises_of s.threads.raises q) t (s.threads.standing q)

  pub queue-raise : queue (raises_ready s) Ready ≡ increase (queue s Ready)
  unfolding raises_ready
  queue-raise = shown-raise s.threads.raises (s.threads.standing Ready)

  pub queue-raise_other : (q : Queue) → is_queue q Ready ≡ false → queue (raises_ready s) q ≡ queue s q
  unfolding raises_ready
  queue-raise_other Ready e = absurd (cc e)
  queue-raise_other New e = refl
  queue-raise_other Waiting e = refl
  queue-raise_other Suspended e = refl
  queue-raise_other Dead e = refl

-- ---- every queue at once

module _ {P S H : Type 0} (s : Control P S H) where
  enter_by : (t : ℕ) (p q : Queue) (rank : ℤ) (top b : Bool) → is_queue p q ≡ b → queue (enters t q rank top s) p ≡ (if b then insert (record { rank = rank; holder = t }) (queue s p) else queue s p)
  enter_by t p q rank top true e = rw (is_queue_same p q e) (queue-enter s t q rank top)
  enter_by t p q rank top false e = queue-enter_other s t p q rank top e

  pub queue-entered : (t : ℕ) (p q : Queue) (rank : ℤ) (top : Bool) → queue (enters t q rank top s) p ≡ (if is_queue p q then insert (record { rank = rank; holder = t }) (queue s p) else queue s p)
  queue-entered t p q rank top = enter_by t p q rank top (is_queue p q) refl

  pub queue-raised : (q : Queue) → queue (raises_ready s) q ≡ (if is_queue q Ready then increase (queue s q) else queue s q)
  queue-raised Ready = queue-raise s
  queue-raised New = queue-raise_other s New refl
  queue-raised Waiting = queue-raise_other s Waiting refl
  queue-raised Suspended = queue-raise_other s Suspended refl
  queue-raised Dead = queue-raise_other s Dead refl
