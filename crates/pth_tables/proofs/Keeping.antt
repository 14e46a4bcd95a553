-- The waits of the ready threads, and the table beside them, after each change of the queues.
use Rattle.std.proofs.Common.{◌≡◌, ℕ, ◌+◌, ◌<◌, ◌≤◌, Bool, true, false, ℤ, pos, negsuc, neg_ℤ, ◌+ℤ◌, ◌-ℤ◌, ◌≤ℤ◌, List, [], ◌∷◌, ◌++◌, length, count_by, replicate, All, not, Some, refl, sym, ap, ◌∙◌, subst, inl, inr, arith, nat_lt}
use Rattle.std.proofs.lemmas.Bool.{cond-true, cond-false, cases_Bool}
use Rattle.std.proofs.lemmas.Int.{ints}
use Rattle.std.proofs.lemmas.List.{length-map, length-append, length-replicate}
use Rattle.std.proofs.lemmas.List.Elements.{All-nil, All-head, All-weaker, All-filter, All-map}
use Rattle.pth_base.specs.Chain.{StandsIn}
use Rattle.pth_base.specs.Limits.{last_count}
use Rattle.pth_model.specs.Allowance.{or_none, grace}
use Rattle.pth_queue.specs.declared.queue.Queue.{Queue}
use Rattle.pth_queue.specs.declared.queue.Queue.TheVariants.{New, Ready, Waiting, Suspended, Dead}
use Rattle.pth_queue.specs.declared.ranked.Ranked.{Ranked}
use Rattle.pth_queue.specs.Ranking.{is_of, insert, delete, increase, raised, favour_top}
use Rattle.pth_queue.specs.Arena.{slots_of}
use Rattle.pth_queue.specs.Queues.{QueuesOf, no_queues, rows_of, with_rows, queue_of, IsNowhere, entered, without, IsOrderly}
use Rattle.pth_queue.proofs.Counts.{length-insert, count-present}
use Rattle.pth_queue.proofs.Orders.{All-insert}
use Rattle.pth_queue.proofs.Sets.{once_in, holds-queue_of, times-nowhere, count-le-times, deleted_is}
use Rattle.pth_tables.specs.declared.waits.Wait.{Wait}
use Rattle.pth_tables.specs.Waits.{WaitsOf, KeptWaits, waits_of, no_wait, no_waits, enters_ready, leaves_ready, seen_at_top, met, dispatched, is_counting, takes_ready}
use Rattle.pth_tables.specs.CountedOf.{IsEntryRank, waits_with, waits_without}
use Rattle.pth_tables.specs.DueTable.{due_with, due_without, none_at, left_due, one_if, IsTable}
use Rattle.pth_tables.specs.Counted.{IsHigh, AreWaitsBeside}
use Rattle.pth_tables.proofs.Counting.{few_rows}
use Rattle.pth_tables.proofs.DueTables.{table-none, table-alike, table-entered, table-left, table-taken}
use Rattle.pth_tables.proofs.Slots.{table_longer, counted-insert, stands-insert, stands-count, count-stands, counted-delete, stands-delete, slots-increase}
use Rattle.pth_tables.proofs.Walks.{dispatches-reached_all, top-reached_all, entered-reached_all, grace-reached_all}

-- no grace goes round the table
brief : (top : ℕ) (rank : ℤ) → top ≤ 20 → neg_ℤ (pos 20) ≤ℤ rank → grace top rank < 64
unfolding grace
brief top rank few low = by_sign (pos (top + 1) -ℤ rank) (omega (arith, ints))
  where
    by_sign : (z : ℤ) → z ≤ℤ pos 41 → or_none z < 64
    by_sign (pos n) h = omega (arith, ints)
    by_sign (negsuc n) h = omega arith

-- the rank of one that enters in front of all others
pub high_top : (top : ℕ) (rows : List Ranked) → All IsHigh rows → neg_ℤ (pos 20) ≤ℤ favour_top top rows
high_top top [] all = omega (arith, ints)
high_top top (x ∷ xs) all = let first : neg_ℤ (pos 20) ≤ℤ x.rank = All-head IsHigh x xs all in omega (arith, ints)

-- nothing is kept
pub beside_none : (top : ℕ) (x : QueuesOf) (w : WaitsOf) (due : List ℕ) (slots : ℕ) → x ≡ no_queues top → w ≡ no_waits top → due ≡ replicate 64 0 → AreWaitsBeside x w slots due
beside_none top x w due slots is ws ds =
    subst (λ (l : List ℕ). AreWaitsBeside x w slots l) (sym ds)
    (subst (λ (y : WaitsOf). AreWaitsBeside x y slots (replicate 64 0)) (sym ws)
    (subst (λ (y : QueuesOf). AreWaitsBeside y (no_waits top) slots (replicate 64 0)) (sym is) none))
  where
    none : AreWaitsBeside (no_queues top) (no_waits top) slots (replicate 64 0)
    none = record { room = omega arith; top = refl; high = All-nil IsHigh; table = table-none 0 (no_waits top).waits }

-- a dispatch keeps the greatest base priority
top-met : (order : List ℕ) (w : WaitsOf) → (met order w).top ≡ w.top
unfolding seen_at_top
top-met order w = top-reached_all 0 order (seen_at_top w)

top-dispatched : (by_name : Bool) (w : WaitsOf) → (dispatched by_name w).top ≡ w.top
unfolding dispatched
top-dispatched by_name w = refl

-- counts stand still, or go on
pub takes_none : (by_name : Bool) (order : List ℕ) (w : WaitsOf) → is_counting w ≡ false → takes_ready by_name order w ≡ w
unfolding takes_ready
takes_none by_name order w f = cond-false (is_counting w) (dispatched by_name (met order w)) w f

pub takes_one : (by_name : Bool) (order : List ℕ) (w : WaitsOf) → is_counting w ≡ true → takes_ready by_name order w ≡ dispatched by_name (met order w)
unfolding takes_ready
takes_one by_name order w t = cond-true (is_counting w) (dispatched by_name (met order w)) w t

top-takes : (by_name : Bool) (order : List ℕ) (w : WaitsOf) → (takes_ready by_name order w).top ≡ w.top
top-takes by_name order w = elim (cases_Bool (is_counting w)) [
  | inl t ↦ ap (λ (y : WaitsOf). y.top) (takes_one by_name order w t) ∙ top-dispatched by_name (met order w) ∙ top-met order w
  | inr f ↦ ap (λ (y : WaitsOf). y.top) (takes_none by_name order w f)
]

pub dispatches-met : (order : List ℕ) (w : WaitsOf) → (met order w).dispatches ≡ w.dispatches
unfolding seen_at_top
dispatches-met order w = dispatches-reached_all 0 order (seen_at_top w)

pub counts_met : (order : List ℕ) (w : WaitsOf) → is_counting w ≡ true → is_counting (met order w) ≡ true
counts_met order w t = ap (λ n. nat_lt n last_count) (dispatches-met order w) ∙ t

-- waits for more slots
pub waits_longer : (kept now : KeptWaits) (n : ℕ) → now ≡ record kept { slots = kept.slots ++ replicate n no_wait } → waits_of now ≡ waits_of kept
waits_longer kept now n is = ap waits_of is ∙ ap (λ (f : ℕ → Wait). record (waits_of kept) { waits = f }) (table_longer kept.slots n no_wait)

pub length_longer : (kept now : KeptWaits) (n : ℕ) → now ≡ record kept { slots = kept.slots ++ replicate n no_wait } → length now.slots ≡ length kept.slots + n
length_longer kept now n is = ap (λ (k : KeptWaits). length k.slots) is ∙ length-append kept.slots (replicate n no_wait) ∙ ap (λ m. length kept.slots + m) (length-replicate n no_wait)

-- the waits and the table, where the queues are now v
module _ (x : QueuesOf) (w : WaitsOf) (slots : ℕ) (due : List ℕ) (k : AreWaitsBeside x w slots due) where
  -- more slots, and room for more
  pub beside_grown : (v : QueuesOf) (y : WaitsOf) (room n : ℕ) → v ≡ record x { room = room } → y ≡ w → room ≤ n → AreWaitsBeside v y n due
  beside_grown v y room n is ys fits = subst (λ (u : QueuesOf). AreWaitsBeside u y n due) (sym is) (subst (λ (z : WaitsOf). AreWaitsBeside (record x { room = room }) z n due) (sym ys) grown)
    where
      grown : AreWaitsBeside (record x { room = room }) w n due
      grown = record { room = fits; top = k.top; high = k.high; table = k.table }

  -- every rank in a queue one more
  raised_with : (q : Queue) → AreWaitsBeside (with_rows q (increase (rows_of q x)) x) w slots due
  raised_with Ready = record {
    room = k.room;
    top = k.top;
    high = All-map IsHigh raised x.ready (All-weaker IsHigh (λ r. IsHigh (raised r)) (λ r h. higher r.rank h) x.ready k.high);
    table = subst (λ (l : List ℕ). IsTable l w.dispatches w.waits due) (sym (slots-increase x.ready)) k.table;
  }
    where
      higher : (rank : ℤ) → neg_ℤ (pos 20) ≤ℤ rank → neg_ℤ (pos 20) ≤ℤ (rank +ℤ pos 1)
      higher rank h = omega (arith, ints)
  raised_with New = record { room = k.room; top = k.top; high = k.high; table = k.table }
  raised_with Waiting = record { room = k.room; top = k.top; high = k.high; table = k.table }
  raised_with Suspended = record { room = k.room; top = k.top; high = k.high; table = k.table }
  raised_with Dead = record { room = k.room; top = k.top; high = k.high; table = k.table }

  pub beside_raised : (v : QueuesOf) (q : Queue) → v ≡ with_rows q (increase (rows_of q x)) x → AreWaitsBeside v w slots due
  beside_raised v q is = subst (λ (u : QueuesOf). AreWaitsBeside u w slots due) (sym is) (raised_with q)

  module _ (o : IsOrderly x) where
    -- a thread enters a queue
    entered_with : (q : Queue) (rank : ℤ) (s : ℕ) (top : Bool) → IsNowhere s x → (q ≡ Ready → IsEntryRank rank) → AreWaitsBeside (entered q rank s x) (waits_with q s rank top w) slots (due_with q s (waits_with q s rank top w) due)
    unfolding enters_ready
    entered_with Ready rank s top nowhere fits = record {
      room = k.room;
      top = k.top;
      high = All-insert IsHigh (record { rank = rank; holder = s }) x.ready (fits refl).low k.high;
      table = table-entered (slots_of x.ready) w due k.table (slots_of (insert (record { rank = rank; holder = s }) x.ready)) s (record { entered = w.dispatches; grace = grace w.top rank; number = 0; top = top }) fresh
          (λ f. counted-insert f (record { rank = rank; holder = s }) x.ready) (λ z h. stands-insert z (record { rank = rank; holder = s }) x.ready h) refl
          (brief w.top rank (let t = k.top in let r = o.range.1 in omega arith) (fits refl).low)
          (omega (arith, length-map (insert (record { rank = rank; holder = s }) x.ready) (λ r. r.holder), length-insert (record { rank = rank; holder = s }) x.ready, few_rows Ready x o));
    }
      where
        fresh : StandsIn s (slots_of x.ready) → ⊥
        fresh h = omega (arith, stands-count s x.ready h, times-nowhere s x nowhere, count-le-times s Ready x)
    entered_with New rank s top nowhere fits = record { room = k.room; top = k.top; high = k.high; table = k.table }
    entered_with Waiting rank s top nowhere fits = record { room = k.room; top = k.top; high = k.high; table = k.table }
    entered_with Suspended rank s top nowhere fits = record { room = k.room; top = k.top; high = k.high; table = k.table }
    entered_with Dead rank s top nowhere fits = record { room = k.room; top = k.top; high = k.high; table = k.table }

    pub beside_entered : (v : QueuesOf) (y : WaitsOf) (n : ℕ) (to : List ℕ) (q : Queue) (rank : ℤ) (s : ℕ) (top : Bool) → IsNowhere s x → (q ≡ Ready → IsEntryRank rank) → v ≡ entered q rank s x → y ≡ waits_with q s rank top w → n ≡ slots → to ≡ due_with q s y due → AreWaitsBeside v y n to
    beside_entered v y n to q rank s top nowhere fits is ys ns ts =
        subst (AreWaitsBeside v y n) (sym ts)
        (subst (λ (m : ℕ). AreWaitsBeside v y m (due_with q s y due)) (sym ns)
        (subst (λ (z : WaitsOf). AreWaitsBeside v z slots (due_with q s z due)) (sym ys)
        (subst (λ (u : QueuesOf). AreWaitsBeside u (waits_with q s rank top w) slots (due_with q s (waits_with q s rank top w) due)) (sym is) (entered_with q rank s top nowhere fits))))

    -- the thread of a slot leaves its queue
    module _ (s : ℕ) where
      present : (q : Queue) → queue_of s x ≡ Some q → 1 ≤ count_by (is_of s) (rows_of q x)
      present q stands = count-present s (rows_of q x) (holds-queue_of q s x stands)

      module _ (ready : queue_of s x ≡ Some Ready) where
        pub stands : StandsIn s (slots_of x.ready)
        stands = count-stands s x.ready (present Ready ready)

        pub less : (f : ℕ → Bool) → one_if (f s) + count_by f (slots_of (delete s x.ready)) ≡ count_by f (slots_of x.ready)
        less f = counted-delete f s x.ready (omega (arith, present Ready ready, once_in Ready s x o))

        pub high_less : All IsHigh (delete s x.ready)
        high_less = All-filter (λ r. not (is_of s r)) IsHigh x.ready k.high

        -- it is dispatched
        pub beside_taken : (v : QueuesOf) (y : WaitsOf) (n : ℕ) (to : List ℕ) (by_name : Bool) → v ≡ without s x → y ≡ takes_ready by_name (slots_of x.ready) w → n ≡ slots → IsTable (slots_of (delete s x.ready)) y.dispatches y.waits to → AreWaitsBeside v y n to
        beside_taken v y n to by_name is ys ns table = subst (λ (u : QueuesOf). AreWaitsBeside u y n to) (sym is) taken
          where
            taken : AreWaitsBeside (without s x) y n to
            taken = record {
              room = subst (λ (m : ℕ). x.room ≤ m) (sym ns) k.room;
              top = ap (λ (z : WaitsOf). z.top) ys ∙ top-takes by_name (slots_of x.ready) w ∙ k.top;
              high = high_less;
              table = table;
            }

      left_with : (q : Queue) → queue_of s x ≡ Some q → AreWaitsBeside (without s x) (waits_without (Some q) s w) slots (due_without q s w due)
      unfolding leaves_ready
      left_with Ready is = record {
        room = k.room;
        top = k.top;
        high = high_less is;
        table = table-left (slots_of x.ready) w due k.table (slots_of (delete s x.ready)) s (stands is) (less is) (λ z h. stands-delete z s x.ready h);
      }
      left_with New is = subst (λ (u : QueuesOf). AreWaitsBeside u w slots due) (deleted_is New s x o (present New is)) (record { room = k.room; top = k.top; high = k.high; table = k.table })
      left_with Waiting is = subst (λ (u : QueuesOf). AreWaitsBeside u w slots due) (deleted_is Waiting s x o (present Waiting is)) (record { room = k.room; top = k.top; high = k.high; table = k.table })
      left_with Suspended is = subst (λ (u : QueuesOf). AreWaitsBeside u w slots due) (deleted_is Suspended s x o (present Suspended is)) (record { room = k.room; top = k.top; high = k.high; table = k.table })
      left_with Dead is = subst (λ (u : QueuesOf). AreWaitsBeside u w slots due) (deleted_is Dead s x o (present Dead is)) (record { room = k.room; top = k.top; high = k.high; table = k.table })

      pub beside_left : (v : QueuesOf) (y : WaitsOf) (n : ℕ) (to : List ℕ) (q : Queue) → queue_of s x ≡ Some q → v ≡ without s x → y ≡ waits_without (Some q) s w → n ≡ slots → to ≡ due_without q s w due → AreWaitsBeside v y n to
      beside_left v y n to q stood is ys ns ts =
          subst (AreWaitsBeside v y n) (sym ts)
          (subst (λ (m : ℕ). AreWaitsBeside v y m (due_without q s w due)) (sym ns)
          (subst (λ (z : WaitsOf). AreWaitsBeside v z slots (due_without q s w due)) (sym ys)
          (subst (λ (u : QueuesOf). AreWaitsBeside u (waits_without (Some q) s w) slots (due_without q s w due)) (sym is) (left_with q stood))))

-- the table after a dispatch, which finds the waits met
module _ (x : QueuesOf) (o : IsOrderly x) (w : WaitsOf) (due : List ℕ) (s : ℕ) (ready : queue_of s x ≡ Some Ready) (t : IsTable (slots_of x.ready) w.dispatches w.waits due) where
  one : count_by (is_of s) x.ready ≡ 1
  one = omega (arith, count-present s x.ready (holds-queue_of Ready s x ready), once_in Ready s x o)

  -- counts stand still
  pub table_stays : (y : WaitsOf) (to : List ℕ) → y ≡ w → to ≡ left_due s w due → IsTable (slots_of (delete s x.ready)) y.dispatches y.waits to
  table_stays y to ys ts =
      subst (λ (l : List ℕ). IsTable (slots_of (delete s x.ready)) y.dispatches y.waits l) (sym ts)
      (subst (λ (z : WaitsOf). IsTable (slots_of (delete s x.ready)) z.dispatches z.waits (left_due s w due)) (sym ys)
      (table-left (slots_of x.ready) w due t (slots_of (delete s x.ready)) s (count-stands s x.ready (omega (arith, one))) (λ f. counted-delete f s x.ready one) (λ z h. stands-delete z s x.ready h)))

  -- they go on
  over : (by_name : Bool) → IsTable (slots_of (delete s x.ready)) (dispatched by_name (met (slots_of x.ready) w)).dispatches (dispatched by_name (met (slots_of x.ready) w)).waits (none_at w.dispatches (left_due s w due))
  unfolding dispatched seen_at_top
  over by_name =
      subst (λ (d : ℕ). IsTable (slots_of (delete s x.ready)) (d + 1) (met (slots_of x.ready) w).waits (none_at w.dispatches (left_due s w due))) (sym (dispatches-met (slots_of x.ready) w))
      (table-alike (slots_of (delete s x.ready)) (w.dispatches + 1) w.waits (met (slots_of x.ready) w).waits (none_at w.dispatches (left_due s w due))
      (λ z. entered-reached_all 0 (slots_of x.ready) (seen_at_top w) z) (λ z. grace-reached_all 0 (slots_of x.ready) (seen_at_top w) z)
      (table-taken (slots_of x.ready) w due t (slots_of (delete s x.ready)) s (count-stands s x.ready (omega (arith, one))) (λ f. counted-delete f s x.ready one) (λ z h. stands-delete z s x.ready h)))

  pub table_goes_on : (by_name : Bool) (y : WaitsOf) (to : List ℕ) → y ≡ dispatched by_name (met (slots_of x.ready) w) → to ≡ none_at w.dispatches (left_due s w due) → IsTable (slots_of (delete s x.ready)) y.dispatches y.waits to
  table_goes_on by_name y to ys ts =
      subst (λ (l : List ℕ). IsTable (slots_of (delete s x.ready)) y.dispatches y.waits l) (sym ts)
      (subst (λ (z : WaitsOf). IsTable (slots_of (delete s x.ready)) z.dispatches z.waits (none_at w.dispatches (left_due s w due))) (sym ys) (over by_name))
