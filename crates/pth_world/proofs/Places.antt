-- Where a slot stands after a change of the queues.
use Rattle.std.proofs.Common.{◌≡◌, ◌≢◌, ℕ, ◌==◌, Bool, true, false, not, cond, ◌||◌, if◌then◌else◌, ℤ, List, [], ◌∷◌, Option, Some, None, refl, sym, ◌∙◌, ap, subst}
use Rattle.pth_base.proofs.Tables.{same_self, not_same, same_means}
use Rattle.pth_queue.specs.declared.ranked.Ranked.{Ranked}
use Rattle.pth_queue.specs.declared.queue.Queue.{Queue}
use Rattle.pth_queue.specs.declared.queue.Queue.TheVariants.{New, Ready, Waiting, Suspended, Dead}
use Rattle.pth_queue.specs.Ranking.{is_of, insert, delete, increase, holds, IsQueued}
use Rattle.pth_queue.specs.Queues.{QueuesOf, rows_of, with_rows, queue_of, without, entered, IsNowhere, IsOrderly}
use Rattle.pth_queue.proofs.Counts.{count-present, delete-absent}
use Rattle.pth_queue.proofs.Sets.{holds-queue_of, deleted_is, IsOrderly-deleted}

or_swap : (a b c : Bool) → (a || (b || c)) ≡ (b || (a || c))
or_swap true true c = refl
or_swap true false c = refl
or_swap false true c = refl
or_swap false false c = refl

pub holds-insert : (v : ℕ) (e : Ranked) (xs : List Ranked) → holds v (insert e xs) ≡ (is_of v e || holds v xs)
holds-insert v e [] = refl
holds-insert v e (x ∷ xs) = by_rank v e x xs _ (holds-insert v e xs)
  where
    by_rank : (v : ℕ) (e x : Ranked) (xs : List Ranked) (b : Bool) → holds v (insert e xs) ≡ (is_of v e || holds v xs) → holds v (if b then e ∷ x ∷ xs else x ∷ insert e xs) ≡ (is_of v e || (is_of v x || holds v xs))
    by_rank v e x xs true h = refl
    by_rank v e x xs false h = ap (λ (b : Bool). is_of v x || b) h ∙ or_swap (is_of v x) (is_of v e) (holds v xs)

delete_own : (u : ℕ) (x : Ranked) (xs : List Ranked) (b : Bool) → is_of u x ≡ b → holds u xs ≡ false → holds u (cond (not b) (x ∷ xs) xs) ≡ false
delete_own u x xs true e h = h
delete_own u x xs false e h = rw e h

pub holds-delete : (u : ℕ) (xs : List Ranked) → holds u (delete u xs) ≡ false
holds-delete u [] = refl
holds-delete u (x ∷ xs) = delete_own u x (delete u xs) (is_of u x) refl (holds-delete u xs)

delete_by : (u v : ℕ) (x : Ranked) (xs ys : List Ranked) (b : Bool) → v ≢ u → is_of u x ≡ b → holds v ys ≡ holds v xs → holds v (cond (not b) (x ∷ ys) ys) ≡ (is_of v x || holds v xs)
delete_by u v x xs ys true apart e h = h ∙ ap (λ (b : Bool). b || holds v xs) (sym (not_same x.holder v (λ same. apart (sym same ∙ same_by x.holder u e))))
  where
    same_by : (m n : ℕ) → (m == n) ≡ true → m ≡ n
    same_by m n e = same_means m n e
delete_by u v x xs ys false apart e h = ap (λ (b : Bool). is_of v x || b) h

pub holds-delete_other : (u v : ℕ) (xs : List Ranked) → v ≢ u → holds v (delete u xs) ≡ holds v xs
holds-delete_other u v [] apart = refl
holds-delete_other u v (x ∷ xs) apart = delete_by u v x xs (delete u xs) (is_of u x) apart refl (holds-delete_other u v xs apart)

pub holds-increase : (v : ℕ) (xs : List Ranked) → holds v (increase xs) ≡ holds v xs
holds-increase v [] = refl
holds-increase v (x ∷ xs) = ap (λ (b : Bool). is_of v x || b) (holds-increase v xs)

-- the queue by five tests
abbrev place_by : Bool → Bool → Bool → Bool → Bool → Option Queue
place_by a b c d e = if a then Some New else if b then Some Ready else if c then Some Waiting else if d then Some Suspended else if e then Some Dead else None

nowhere_by : (a b c d e : Bool) → place_by a b c d e ≡ None → (a ≡ false) × (b ≡ false) × (c ≡ false) × (d ≡ false) × (e ≡ false)
nowhere_by true b c d e h = absurd (cc h)
nowhere_by false true c d e h = absurd (cc h)
nowhere_by false false true d e h = absurd (cc h)
nowhere_by false false false true e h = absurd (cc h)
nowhere_by false false false false true h = absurd (cc h)
nowhere_by false false false false false h = (refl, refl, refl, refl, refl)

pub nowhere-holds : (u : ℕ) (x : QueuesOf) → IsNowhere u x → (q : Queue) → holds u (rows_of q x) ≡ false
nowhere-holds u x h New = (nowhere_by _ _ _ _ _ h).0
nowhere-holds u x h Ready = (nowhere_by _ _ _ _ _ h).1
nowhere-holds u x h Waiting = (nowhere_by _ _ _ _ _ h).2
nowhere-holds u x h Suspended = (nowhere_by _ _ _ _ _ h).3
nowhere-holds u x h Dead = (nowhere_by _ _ _ _ _ h).4

pub queue-nowhere : (v : ℕ) (x : QueuesOf) → ((q : Queue) → holds v (rows_of q x) ≡ false) → queue_of v x ≡ None
queue-nowhere v x none = rw (none New, none Ready, none Waiting, none Suspended, none Dead) refl

module _ (u : ℕ) (rank : ℤ) (x : QueuesOf) where
  here : (xs : List Ranked) → holds u (insert (record { rank = rank; holder = u }) xs) ≡ true
  here xs = holds-insert u (record { rank = rank; holder = u }) xs ∙ ap (λ (b : Bool). b || holds u xs) (same_self u)

  pub queue-entered : (q : Queue) → IsNowhere u x → queue_of u (entered q rank u x) ≡ Some q
  queue-entered New h = rw (here x.new) refl
  queue-entered Ready h = rw (nowhere-holds u x h New, here x.ready) refl
  queue-entered Waiting h = rw (nowhere-holds u x h New, nowhere-holds u x h Ready, here x.waiting) refl
  queue-entered Suspended h = rw (nowhere-holds u x h New, nowhere-holds u x h Ready, nowhere-holds u x h Waiting, here x.suspended) refl
  queue-entered Dead h = rw (nowhere-holds u x h New, nowhere-holds u x h Ready, nowhere-holds u x h Waiting, nowhere-holds u x h Suspended, here x.dead) refl

  there : (v : ℕ) (xs : List Ranked) → v ≢ u → holds v (insert (record { rank = rank; holder = u }) xs) ≡ holds v xs
  there v xs apart = holds-insert v (record { rank = rank; holder = u }) xs ∙ ap (λ (b : Bool). b || holds v xs) (not_same u v (λ same. apart (sym same)))

  pub queue-entered_other : (v : ℕ) (q : Queue) → v ≢ u → queue_of v (entered q rank u x) ≡ queue_of v x
  queue-entered_other v New apart = rw (there v x.new apart) refl
  queue-entered_other v Ready apart = rw (there v x.ready apart) refl
  queue-entered_other v Waiting apart = rw (there v x.waiting apart) refl
  queue-entered_other v Suspended apart = rw (there v x.suspended apart) refl
  queue-entered_other v Dead apart = rw (there v x.dead apart) refl

pub queue-without : (u : ℕ) (x : QueuesOf) → queue_of u (without u x) ≡ None
queue-without u x = rw (holds-delete u x.new, holds-delete u x.ready, holds-delete u x.waiting, holds-delete u x.suspended, holds-delete u x.dead) refl

pub queue-without_other : (u v : ℕ) (x : QueuesOf) → v ≢ u → queue_of v (without u x) ≡ queue_of v x
queue-without_other u v x apart = rw (holds-delete_other u v x.new apart, holds-delete_other u v x.ready apart, holds-delete_other u v x.waiting apart, holds-delete_other u v x.suspended apart, holds-delete_other u v x.dead apart) refl

pub queue-raised : (v : ℕ) (x : QueuesOf) → queue_of v (with_rows Ready (increase x.ready) x) ≡ queue_of v x
queue-raised v x = rw (holds-increase v x.ready) refl

-- who stands nowhere leaves nothing behind
pub without-nowhere : (u : ℕ) (x : QueuesOf) → IsNowhere u x → without u x ≡ x
without-nowhere u x h = rw (delete-absent u x.new (nowhere-holds u x h New), delete-absent u x.ready (nowhere-holds u x h Ready), delete-absent u x.waiting (nowhere-holds u x h Waiting), delete-absent u x.suspended (nowhere-holds u x h Suspended), delete-absent u x.dead (nowhere-holds u x h Dead)) refl

-- a slot is taken out of queues in order
pub orderly-without : (u : ℕ) (x : QueuesOf) → IsOrderly x → IsOrderly (without u x)
orderly-without u x o = by_place (queue_of u x) refl
  where
    by_place : (p : Option Queue) → queue_of u x ≡ p → IsOrderly (without u x)
    by_place None h = subst IsOrderly (sym (without-nowhere u x h)) o
    by_place (Some q) h = subst IsOrderly (deleted_is q u x o (count-present u (rows_of q x) (holds-queue_of q u x h))) (IsOrderly-deleted q u x o)

-- a slot that is not used stands nowhere
pub unused-holds : (f : ℕ → ℕ) (u : ℕ) (xs : List Ranked) → IsQueued f xs → f u ≡ 0 → holds u xs ≡ false
unused-holds f u [] q zero = refl
unused-holds f u (x ∷ xs) q zero = rw (not_same x.holder u (λ same. q.0 (ap f same ∙ zero)), unused-holds f u xs q.1 zero) refl

pub unused-nowhere : (f : ℕ → ℕ) (u : ℕ) (x : QueuesOf) → ((q : Queue) → IsQueued f (rows_of q x)) → f u ≡ 0 → IsNowhere u x
unused-nowhere f u x queued zero = queue-nowhere u x (λ q. unused-holds f u (rows_of q x) (queued q) zero)
