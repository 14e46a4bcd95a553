-- Slots of the ready queue and their places, over the changes of the queues.
use Rattle.std.proofs.Common.{◌≡◌, ◌≢◌, ℕ, zero, suc, ◌+◌, ◌-◌, ◌<◌, ◌≤◌, ◌==◌, ◌||◌, Bool, true, false, if◌then◌else◌, int_lt, ℤ, List, [], ◌∷◌, ◌++◌, length, drop, get_or, count_by, Option, Some, None, IsSome, IfSome, option_map, option_and_then, refl, sym, ap, ◌∙◌, subst, inl, inr, arith, append_assoc, All, eq-eqb}
use Rattle.std.proofs.lemmas.Bool.{cases_Bool}
use Rattle.std.proofs.lemmas.List.{length-map, length-append, map-append, get_or_append_left}
use Rattle.std.proofs.lemmas.List.Elements.{All-head, All-tail}
use Rattle.pth_base.specs.declared.ids.Slot.{Slot}
use Rattle.pth_queue.specs.declared.node.Node.{Node}
use Rattle.pth_queue.specs.declared.queue.Queue.{Queue}
use Rattle.pth_queue.specs.declared.queue.Queue.TheVariants.{New, Ready, Waiting, Suspended, Dead}
use Rattle.pth_queue.specs.declared.ranked.Ranked.{Ranked}
use Rattle.pth_queue.specs.Ranking.{is_of, insert, delete, increase, holds, head_of, last_of, after_in}
use Rattle.pth_queue.specs.Arena.{slots_of}
use Rattle.pth_queue.specs.Queues.{QueuesOf, rows_of, with_rows, queue_of, after_of, entered, without, IsNowhere, IsOrderly}
use Rattle.pth_queue.specs.Nodes.{prev_of}
use Rattle.pth_queue.proofs.Apart.{placed}
use Rattle.pth_queue.proofs.Counts.{count-cons, delete-absent, holds-count, holds-none}
use Rattle.pth_queue.proofs.Neighbours.{prev_at, last-append}
use Rattle.pth_queue.proofs.Sets.{once_in, count-le-times, times-nowhere, Heads-delete}
use Rattle.pth_queue.proofs.Standing.{queue_of-holds}
use Rattle.pth_base.specs.Chain.{StandsIn}
use Rattle.pth_tables.specs.declared.mark.Mark.{Mark}
use Rattle.pth_tables.specs.DueTable.{one_if}
use Rattle.pth_tables.specs.Marks.{StandsAt, IsMarked, EntersBehind, LeavesInFront}
use Rattle.pth_tables.proofs.Slots.{slots-increase, stands-count}

-- the slot at a place of the queue
abbrev pub slot_in : List Ranked → ℕ → ℕ
slot_in rows j = get_or (slots_of rows) j 0

some_eq : {X : Type 0} (x y : X) → Some x ≡ Some y → x ≡ y
some_eq x y e = cc

none_some : {X P : Type 0} (x : X) → None ≡ Some x → P
none_some x k = cc

true_false : {P : Type 0} → true ≡ false → P
true_false k = cc

-- ---- one queue

long : (rows : List Ranked) → length (slots_of rows) ≡ length rows
long rows = length-map rows (λ r. r.holder)

pub head_place : (rows : List Ranked) (n s : ℕ) → head_of (drop n rows) ≡ Some s → (n < length rows) × (slot_in rows n ≡ s)
head_place [] zero s h = none_some s h
head_place [] (suc n) s h = none_some s h
head_place (x ∷ xs) zero s h = (omega arith, some_eq x.holder s h)
head_place (x ∷ xs) (suc n) s h = let more = head_place xs n s h in (omega (arith, more.0), more.1)

last_place : (rows : List Ranked) (s j : ℕ) → suc j ≡ length rows → last_of rows ≡ Some s → slot_in rows j ≡ s
last_place [] s j n h = none_some s h
last_place (x ∷ []) s zero n h = some_eq x.holder s h
last_place (x ∷ []) s (suc j) n h = absurd (omega arith)
last_place (x ∷ y ∷ ys) s zero n h = absurd (omega arith)
last_place (x ∷ y ∷ ys) s (suc j) n h = last_place (y ∷ ys) s j (omega arith) h

none_last : (rows : List Ranked) → None ≡ last_of rows → length rows ≡ 0
none_last [] h = refl
none_last (x ∷ []) h = none_some x.holder h
none_last (x ∷ y ∷ ys) h = absurd (let z : length (y ∷ ys) ≡ 0 = none_last (y ∷ ys) h in omega arith)

pub some_last : (rows : List Ranked) (o : Option Slot) → 0 < length rows → option_map (λ (s : Slot). s.0) o ≡ last_of rows → IsSome o
some_last rows None some h = absurd (omega (arith, none_last rows h))
some_last rows (Some s) some h = refl

-- what holds of each slot of a queue
each_place : (P : ℕ → Type 0) (rows : List Ranked) (j : ℕ) → All (λ r. P r.holder) rows → j < length rows → P (slot_in rows j)
each_place P [] j a h = absurd (omega arith)
each_place P (x ∷ xs) zero a h = All-head (λ r. P r.holder) x xs a
each_place P (x ∷ xs) (suc j) a h = each_place P xs j (All-tail (λ r. P r.holder) x xs a) (omega arith)

stands_place : (rows : List Ranked) (j : ℕ) → j < length rows → StandsIn (slot_in rows j) (slots_of rows)
stands_place [] j h = absurd (omega arith)
stands_place (x ∷ xs) zero h = inl refl
stands_place (x ∷ xs) (suc j) h = inr (stands_place xs j (omega arith))

after_if : (s : ℕ) (x : Ranked) (xs : List Ranked) (j : ℕ) (b : Bool) → (x.holder == s) ≡ b → j < length xs → slot_in xs j ≡ s → count_by (is_of s) (x ∷ xs) ≤ 1 → after_in s xs ≡ head_of (drop (suc j) xs) → (if b then head_of xs else after_in s xs) ≡ head_of (drop (suc j) xs)
after_if s x xs j true test low here once more =
    let there : 1 ≤ count_by (is_of s) xs = stands-count s xs (subst (λ z. StandsIn z (slots_of xs)) here (stands_place xs j low)) in
    let own : count_by (is_of s) (x ∷ xs) ≡ one_if (x.holder == s) + count_by (is_of s) xs = count-cons s x xs in
    let one : one_if (x.holder == s) ≡ 1 = ap one_if test in
    absurd (omega arith)
after_if s x xs j false test low here once more = more

-- who stands behind the slot at a place
after_place : (s : ℕ) (rows : List Ranked) (j : ℕ) → j < length rows → slot_in rows j ≡ s → count_by (is_of s) rows ≤ 1 → after_in s rows ≡ head_of (drop (suc j) rows)
after_place s [] j low here once = absurd (omega arith)
after_place s (x ∷ xs) zero low here once = ap (λ (b : Bool). if b then head_of xs else after_in s xs) (eq-eqb x.holder s here)
after_place s (x ∷ xs) (suc j) low here once =
    after_if s x xs j (x.holder == s) refl (omega arith) here once (after_place s xs j (omega arith) here (omega (arith, count-cons s x xs)))

-- two rows that follow one another
record Follow (rows : List Ranked) (j : ℕ) : Type 0 where
  pub front : List Ranked
  pub x : Ranked
  pub y : Ranked
  pub back : List Ranked
  pub is : rows ≡ front ++ x ∷ y ∷ back
  pub first : slot_in rows j ≡ x.holder
  pub second : slot_in rows (suc j) ≡ y.holder

follow : (rows : List Ranked) (j : ℕ) → suc j < length rows → Follow rows j
follow [] j h = absurd (omega arith)
follow (x ∷ []) j h = absurd (omega arith)
follow (x ∷ y ∷ back) zero h = record { front = []; x = x; y = y; back = back; is = refl; first = refl; second = refl }
follow (x ∷ y ∷ back) (suc j) h =
    let f = follow (y ∷ back) j (omega arith) in
    record { front = x ∷ f.front; x = f.x; y = f.y; back = f.back; is = ap (λ l. x ∷ l) f.is; first = f.first; second = f.second }

prev_behind : (front : List Ranked) (x y : Ranked) (back : List Ranked) → prev_at (front ++ x ∷ []) y back ≡ x.holder
prev_behind [] x y back = refl
prev_behind (f ∷ fs) x y back = last-append f.holder fs x []

-- the slot before a place is the one at the place before
prev_place : (qs : QueuesOf) (j : ℕ) → IsOrderly qs → suc j < length qs.ready → prev_of (slot_in qs.ready (suc j)) qs ≡ Some (slot_in qs.ready j)
prev_place qs j o h =
    let f = follow qs.ready j h in
    ap (λ s. prev_of s qs) f.second
    ∙ ap (option_map (λ (n : Node). n.prev.0)) (placed Ready qs (f.front ++ f.x ∷ []) f.y f.back o (f.is ∙ sym (append_assoc f.front (f.x ∷ []) (f.y ∷ f.back))))
    ∙ ap Some (prev_behind f.front f.x f.y f.back ∙ sym f.first)

-- ---- marks

module _ (qs : QueuesOf) where
  pub at_head : (m : Mark) → m.place ≡ 0 → Some m.slot.0 ≡ head_of qs.ready → StandsAt (slots_of qs.ready) m
  at_head m first is =
      let h = head_place qs.ready 0 m.slot.0 (sym is) in
      record { low = let l = h.0 in omega (arith, long qs.ready); here = ap (slot_in qs.ready) first ∙ h.1 }

  pub at_tail : (m : Mark) → suc m.place ≡ length qs.ready → Some m.slot.0 ≡ last_of qs.ready → StandsAt (slots_of qs.ready) m
  at_tail m last is = record { low = omega (arith, long qs.ready); here = last_place qs.ready m.slot.0 m.place last (sym is) }

  module _ (o : IsOrderly qs) (m : Mark) (at : StandsAt (slots_of qs.ready) m) where
    low : m.place < length qs.ready
    low = let l = at.low in omega (arith, long qs.ready)

    pub at_low : m.slot.0 < qs.room
    at_low = subst (λ s. s < qs.room) at.here (each_place (λ s. s < qs.room) qs.ready m.place (o.each Ready).slots low)

    pub at_home : queue_of m.slot.0 qs ≡ Some Ready
    at_home = queue_of-holds Ready m.slot.0 qs o (holds-count m.slot.0 qs.ready (stands-count m.slot.0 qs.ready (subst (λ s. StandsIn s (slots_of qs.ready)) at.here (stands_place qs.ready m.place low))))

    pub at_after : (n : Mark) → n.place ≡ m.place + 1 → after_of m.slot.0 qs ≡ Some n.slot.0 → StandsAt (slots_of qs.ready) n
    at_after n next is =
        let behind = sym (after_place m.slot.0 qs.ready m.place low at.here (once_in Ready m.slot.0 qs o)) ∙ sym (ap (option_and_then (λ q. after_in m.slot.0 (rows_of q qs))) at_home) ∙ is in
        let h = head_place qs.ready (suc m.place) n.slot.0 behind in
        record { low = let l = h.0 in omega (arith, long qs.ready); here = ap (slot_in qs.ready) (let z : n.place ≡ suc m.place = omega arith in z) ∙ h.1 }

    pub at_before : (n : Mark) → n.place ≡ m.place - 1 → 0 < m.place → prev_of m.slot.0 qs ≡ Some n.slot.0 → StandsAt (slots_of qs.ready) n
    at_before n next some is =
        let place : suc n.place ≡ m.place = omega arith in
        record {
          low = let l = low in omega (arith, long qs.ready);
          here = some_eq (slot_in qs.ready n.place) n.slot.0 (sym (prev_place qs n.place o (let l = low in omega arith)) ∙ ap (λ j. prev_of (slot_in qs.ready j) qs) place ∙ ap (λ s. prev_of s qs) at.here ∙ is);
        }

-- ---- a mark over a change

last_holds : (rows : List Ranked) (s : ℕ) → last_of rows ≡ Some s → holds s rows ≡ true
last_holds [] s h = none_some s h
last_holds (x ∷ []) s h = ap (λ (b : Bool). b || false) (eq-eqb x.holder s (some_eq x.holder s h))
last_holds (x ∷ y ∷ ys) s h = ap (λ (b : Bool). (x.holder == s) || b) (last_holds (y ∷ ys) s h) ∙ or_true (x.holder == s)
  where
    or_true : (b : Bool) → (b || true) ≡ true
    or_true true = refl
    or_true false = refl

last_more_if : (x e y : Ranked) (ys : List Ranked) (b : Bool) → last_of (x ∷ (if b then e ∷ y ∷ ys else y ∷ insert e ys)) ≡ last_of (if b then e ∷ y ∷ ys else y ∷ insert e ys)
last_more_if x e y ys true = refl
last_more_if x e y ys false = refl

last_more : (x e : Ranked) (xs : List Ranked) → last_of (x ∷ insert e xs) ≡ last_of (insert e xs)
last_more x e [] = refl
last_more x e (y ∷ ys) = last_more_if x e y ys (int_lt y.rank e.rank)

behind_if : (e x : Ranked) (xs : List Ranked) (b : Bool) → holds e.holder (x ∷ xs) ≡ false → last_of (if b then e ∷ x ∷ xs else x ∷ insert e xs) ≡ Some e.holder → (last_of (insert e xs) ≡ Some e.holder → insert e xs ≡ xs ++ e ∷ []) → (if b then e ∷ x ∷ xs else x ∷ insert e xs) ≡ x ∷ xs ++ e ∷ []
behind_if e x xs true none last more = true_false (sym (last_holds (x ∷ xs) e.holder last) ∙ none)
behind_if e x xs false none last more = ap (λ l. x ∷ l) (more (sym (last_more x e xs) ∙ last))

-- whoever is the last now entered behind all others
behind : (e : Ranked) (rows : List Ranked) → holds e.holder rows ≡ false → last_of (insert e rows) ≡ Some e.holder → insert e rows ≡ rows ++ e ∷ []
behind e [] none last = refl
behind e (x ∷ xs) none last = behind_if e x xs (int_lt x.rank e.rank) none last (behind e xs (rest (x.holder == e.holder) (holds e.holder xs) none))
  where
    rest : (b c : Bool) → (b || c) ≡ false → c ≡ false
    rest true c h = true_false h
    rest false c h = h

stands_more : (m : Mark) (rows : List Ranked) (e : Ranked) → StandsAt (slots_of rows) m → StandsAt (slots_of (rows ++ e ∷ [])) m
stands_more m rows e at = subst (λ l. StandsAt l m) (sym (map-append (λ r. r.holder) rows (e ∷ []))) (record {
  low = let l = at.low in omega (arith, length-append (slots_of rows) (e.holder ∷ []));
  here = get_or_append_left (slots_of rows) (e.holder ∷ []) 0 m.place at.low ∙ at.here;
})

module _ (x v : QueuesOf) (mark : Option Mark) (marked : IsMarked (slots_of x.ready) mark) where
  the_mark : (m : Mark) → mark ≡ Some m → StandsAt (slots_of x.ready) m
  the_mark m is = subst (IsMarked (slots_of x.ready)) is marked

  entered_by : (q : Queue) (rank : ℤ) (s : ℕ) (m : Mark) → IsNowhere s x → mark ≡ Some m → EntersBehind q s (entered q rank s x) → StandsAt (slots_of (entered q rank s x).ready) m
  entered_by Ready rank s m nowhere is last =
      subst (λ l. StandsAt (slots_of l) m) (sym (behind (record { rank = rank; holder = s }) x.ready (holds-none s x.ready (omega (arith, count-le-times s Ready x, times-nowhere s x nowhere))) last)) (stands_more m x.ready (record { rank = rank; holder = s }) (the_mark m is))
  entered_by New rank s m nowhere is last = the_mark m is
  entered_by Waiting rank s m nowhere is last = the_mark m is
  entered_by Suspended rank s m nowhere is last = the_mark m is
  entered_by Dead rank s m nowhere is last = the_mark m is

  pub marked_entered : (q : Queue) (rank : ℤ) (s : ℕ) (to : Option Mark) → IsNowhere s x → v ≡ entered q rank s x → IfSome to (λ m. mark ≡ Some m) → IfSome to (λ m. EntersBehind q s v) → IsMarked (slots_of v.ready) to
  marked_entered q rank s None nowhere is kept last = tt
  marked_entered q rank s (Some m) nowhere is kept last = subst (λ (u : QueuesOf). StandsAt (slots_of u.ready) m) (sym is) (entered_by q rank s m nowhere kept (subst (EntersBehind q s) is last))

  module _ (o : IsOrderly x) (s : ℕ) where
    -- it stands in another queue
    elsewhere : (q : Option Queue) → queue_of s x ≡ q → q ≢ Some Ready → delete s x.ready ≡ x.ready
    elsewhere q home other = elim (cases_Bool (holds s x.ready)) [
      | inl t ↦ absurd (other (sym home ∙ queue_of-holds Ready s x o t))
      | inr f ↦ delete-absent s x.ready f
    ]

    in_front : (m : Mark) → head_of x.ready ≡ Some s → StandsAt (slots_of x.ready) (record m { place = m.place + 1 }) → StandsAt (slots_of (delete s x.ready)) m
    in_front m first at =
        let h = Heads-delete s x.ready first (once_in Ready s x o) in
        let there : StandsAt (s ∷ slots_of (delete s x.ready)) (record m { place = m.place + 1 }) = subst (λ l. StandsAt (slots_of l) (record m { place = m.place + 1 })) h.1 at in
        one_less m (slots_of (delete s x.ready)) there.low there.here
      where
        one_less : (m : Mark) (slots : List ℕ) → m.place + 1 < length (s ∷ slots) → get_or (s ∷ slots) (m.place + 1) 0 ≡ m.slot.0 → StandsAt slots m
        one_less m slots l h = record { low = omega arith; here = ap (λ j. get_or (s ∷ slots) j 0) (let z : suc m.place ≡ m.place + 1 = omega arith in z) ∙ h }

    left_by : (q : Option Queue) (m : Mark) → queue_of s x ≡ q → LeavesInFront q s x mark m → StandsAt (slots_of (delete s x.ready)) m
    left_by (Some Ready) m home h = in_front m h.0 (the_mark (record m { place = m.place + 1 }) h.1)
    left_by None m home h = subst (λ l. StandsAt (slots_of l) m) (sym (elsewhere None home (λ k. cc))) (the_mark m h)
    left_by (Some New) m home h = subst (λ l. StandsAt (slots_of l) m) (sym (elsewhere (Some New) home (λ k. cc))) (the_mark m h)
    left_by (Some Waiting) m home h = subst (λ l. StandsAt (slots_of l) m) (sym (elsewhere (Some Waiting) home (λ k. cc))) (the_mark m h)
    left_by (Some Suspended) m home h = subst (λ l. StandsAt (slots_of l) m) (sym (elsewhere (Some Suspended) home (λ k. cc))) (the_mark m h)
    left_by (Some Dead) m home h = subst (λ l. StandsAt (slots_of l) m) (sym (elsewhere (Some Dead) home (λ k. cc))) (the_mark m h)

    pub marked_left : (q : Option Queue) (to : Option Mark) → queue_of s x ≡ q → v ≡ without s x → IfSome to (LeavesInFront q s x mark) → IsMarked (slots_of v.ready) to
    marked_left q None home is h = tt
    marked_left q (Some m) home is h = subst (λ (u : QueuesOf). StandsAt (slots_of u.ready) m) (sym is) (left_by q m home h)

  raised_by : (q : Queue) → slots_of (with_rows q (increase (rows_of q x)) x).ready ≡ slots_of x.ready
  raised_by Ready = slots-increase x.ready
  raised_by New = refl
  raised_by Waiting = refl
  raised_by Suspended = refl
  raised_by Dead = refl

  pub marked_raised : (q : Queue) → v ≡ with_rows q (increase (rows_of q x)) x → IsMarked (slots_of v.ready) mark
  marked_raised q is = subst (λ l. IsMarked l mark) (sym (ap (λ (u : QueuesOf). slots_of u.ready) is ∙ raised_by q)) marked

  pub marked_roomy : (room : ℕ) → v ≡ record x { room = room } → IsMarked (slots_of v.ready) mark
  marked_roomy room is = subst (λ (u : QueuesOf). IsMarked (slots_of u.ready) mark) (sym is) marked
