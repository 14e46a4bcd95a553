-- The walk over the ready queue from the tail on, which sets the numbers of those that are due.
use Rattle.std.proofs.Common.{◌≡◌, ℕ, zero, suc, ◌+◌, ◌-◌, ◌<◌, ◌≤◌, ◌==◌, Bool, true, false, cond, List, [], ◌∷◌, ◌++◌, length, drop, take, get_or, Some, refl, sym, ap, ◌∙◌, subst, inl, inr, arith, drop-cons}
use Rattle.std.proofs.lemmas.List.{drop_all, drop-drop, length-drop, take-append-drop, get_or-take, length-take, length-take-le}
use Rattle.std.proofs.lemmas.List.Sums.{sum_by-append, sum_by-take-drop, count_by-le-length}
use Rattle.std.proofs.Math.Seq.{take-suc}
use Rattle.std.proofs.lemmas.Bool.{cond-true, cond-false, cases_Bool, cases_lt}
use Rattle.pth_base.proofs.Tables.{put_by}
use Rattle.pth_queue.specs.Arena.{slots_of}
use Rattle.pth_queue.specs.Nodes.{prev_of}
use Rattle.pth_queue.specs.Queues.{QueuesOf, IsOrderly}
use Rattle.pth_tables.specs.declared.mark.Mark.{Mark}
use Rattle.pth_tables.specs.declared.waits.Wait.{Wait}
use Rattle.pth_tables.specs.Waits.{WaitsOf, is_due, number_of, seen_at_top, reached, reached_if, reached_all}
use Rattle.pth_tables.specs.DueTable.{one_if, dues}
use Rattle.pth_tables.specs.Marks.{StandsAt, up_to, Reaches}
use Rattle.pth_tables.proofs.Places.{at_before}
use Rattle.pth_tables.proofs.Slots.{counted-cons, counted-alike}

-- ---- setting a number changes nothing else

pub dispatches-reached : (s place : ℕ) (x : WaitsOf) → (reached s place x).dispatches ≡ x.dispatches
unfolding reached
dispatches-reached s place x = refl

top-reached : (s place : ℕ) (x : WaitsOf) → (reached s place x).top ≡ x.top
unfolding reached
top-reached s place x = refl

entered-reached : (z s place : ℕ) (x : WaitsOf) → ((reached s place x).waits z).entered ≡ (x.waits z).entered
unfolding reached
entered-reached z s place x = put_by (λ (w : Wait). w.entered ≡ (x.waits z).entered) x.waits s (record (x.waits s) { number = number_of place x }) z (λ e. ap (λ i. (x.waits i).entered) (sym e)) (λ n. refl)

grace-reached : (z s place : ℕ) (x : WaitsOf) → ((reached s place x).waits z).grace ≡ (x.waits z).grace
unfolding reached
grace-reached z s place x = put_by (λ (w : Wait). w.grace ≡ (x.waits z).grace) x.waits s (record (x.waits s) { number = number_of place x }) z (λ e. ap (λ i. (x.waits i).grace) (sym e)) (λ n. refl)

is_due-reached : (z s place : ℕ) (x : WaitsOf) → is_due (reached s place x) z ≡ is_due x z
is_due-reached z s place x =
    ap (λ n. (n - ((reached s place x).waits z).entered) == ((reached s place x).waits z).grace) (dispatches-reached s place x)
    ∙ ap (λ n. (x.dispatches - n) == ((reached s place x).waits z).grace) (entered-reached z s place x)
    ∙ ap (λ n. (x.dispatches - (x.waits z).entered) == n) (grace-reached z s place x)

-- nor does what a dispatch sees at Top
pub dues-seen : (x : WaitsOf) (slots : List ℕ) → dues (seen_at_top x) slots ≡ dues x slots
unfolding seen_at_top
dues-seen x slots = refl

module _ {A : Type 0} (f : WaitsOf → A) (same : (s place : ℕ) (x : WaitsOf) → f (reached s place x) ≡ f x) where
  kept_if : (s place : ℕ) (x : WaitsOf) → f (reached_if s place x) ≡ f x
  kept_if s place x = elim (cases_Bool (is_due x s)) [
    | inl t ↦ ap f (cond-true (is_due x s) (reached s place x) x t) ∙ same s place x
    | inr n ↦ ap f (cond-false (is_due x s) (reached s place x) x n)
  ]

  kept_all : (place : ℕ) (ss : List ℕ) (x : WaitsOf) → f (reached_all place ss x) ≡ f x
  unfolding reached_all
  kept_all place [] x = refl
  kept_all place (s ∷ ss) x = kept_if s place (reached_all (suc place) ss x) ∙ kept_all (suc place) ss x

pub dispatches-reached_all : (place : ℕ) (ss : List ℕ) (x : WaitsOf) → (reached_all place ss x).dispatches ≡ x.dispatches
dispatches-reached_all = kept_all (λ x. x.dispatches) dispatches-reached

pub top-reached_all : (place : ℕ) (ss : List ℕ) (x : WaitsOf) → (reached_all place ss x).top ≡ x.top
top-reached_all = kept_all (λ x. x.top) top-reached

pub entered-reached_all : (place : ℕ) (ss : List ℕ) (x : WaitsOf) (z : ℕ) → ((reached_all place ss x).waits z).entered ≡ (x.waits z).entered
entered-reached_all place ss x z = kept_all (λ x. (x.waits z).entered) (entered-reached z) place ss x

pub grace-reached_all : (place : ℕ) (ss : List ℕ) (x : WaitsOf) (z : ℕ) → ((reached_all place ss x).waits z).grace ≡ (x.waits z).grace
grace-reached_all place ss x z = kept_all (λ x. (x.waits z).grace) (grace-reached z) place ss x

pub is_due-reached_all : (place : ℕ) (ss : List ℕ) (x : WaitsOf) (z : ℕ) → is_due (reached_all place ss x) z ≡ is_due x z
is_due-reached_all place ss x z = kept_all (λ x. is_due x z) (is_due-reached z) place ss x

-- ---- lists of slots

pub dues-reached_all : (place : ℕ) (ss : List ℕ) (x : WaitsOf) (slots : List ℕ) → dues (reached_all place ss x) slots ≡ dues x slots
dues-reached_all place ss x slots = counted-alike (is_due (reached_all place ss x)) (is_due x) slots (λ s h. is_due-reached_all place ss x s)

dues-append : (x : WaitsOf) (front back : List ℕ) → dues x (front ++ back) ≡ dues x front + dues x back
dues-append x front back = sum_by-append (λ s. cond (is_due x s) 1 0) front back

pub few_due : (x : WaitsOf) (slots : List ℕ) → dues x slots ≤ length slots
few_due x slots = count_by-le-length (is_due x) slots

reached-append : (place : ℕ) (front back : List ℕ) (x : WaitsOf) → reached_all place (front ++ back) x ≡ reached_all place front (reached_all (place + length front) back x)
unfolding reached_all
reached-append place [] back x = ap (λ m. reached_all m back x) (let z : place ≡ place + 0 = omega arith in z)
reached-append place (s ∷ front) back x =
    ap (reached_if s place) (reached-append (suc place) front back x ∙ ap (λ m. reached_all (suc place) front (reached_all m back x)) (let z : suc place + length front ≡ place + length (s ∷ front) = omega arith in z))

-- nobody is due
pub reached-none : (place : ℕ) (ss : List ℕ) (x : WaitsOf) → dues x ss ≡ 0 → reached_all place ss x ≡ x
unfolding reached_all
reached-none place [] x none = refl
reached-none place (s ∷ ss) x none =
    let here : one_if (is_due x s) ≡ 0 = omega (arith, counted-cons (is_due x) s ss) in
    cond-false (is_due (reached_all (suc place) ss x) s) _ _ (is_due-reached_all (suc place) ss x s ∙ zero_false (is_due x s) here)
    ∙ reached-none (suc place) ss x (omega (arith, counted-cons (is_due x) s ss))
  where
    zero_false : (b : Bool) → one_if b ≡ 0 → b ≡ false
    zero_false true h = absurd (omega arith)
    zero_false false h = refl

module _ (slots : List ℕ) (x : WaitsOf) where
  dues-split : (i : ℕ) → dues x (take i slots) + dues x (drop i slots) ≡ dues x slots
  dues-split i = sum_by-take-drop (λ s. cond (is_due x s) 1 0) slots i

  split : (i : ℕ) (y : WaitsOf) → i ≤ length slots → y ≡ reached_all i (drop i slots) x → reached_all 0 (take i slots) y ≡ reached_all 0 slots x
  split i y low is =
      ap (reached_all 0 (take i slots)) (is ∙ ap (λ m. reached_all m (drop i slots) x) (let z : i ≡ 0 + length (take i slots) = omega (arith, length-take-le i slots low) in z))
      ∙ sym (reached-append 0 (take i slots) (drop i slots) x) ∙ ap (λ l. reached_all 0 l x) (take-append-drop i slots)

  -- all that are due from this place on are met from that place on
  pub reaches_from : (k m due : ℕ) (y : WaitsOf) → k ≤ m → m ≤ length slots → Reaches slots m due x y → dues x (take k slots) + due ≡ dues x slots → y ≡ reached_all k (drop k slots) x
  reaches_from k m due y order low r all =
      let middle : drop k slots ≡ take (m - k) (drop k slots) ++ drop m slots = sym (take-append-drop (m - k) (drop k slots)) ∙ ap (λ l. take (m - k) (drop k slots) ++ l) (drop-drop (m - k) k slots ∙ ap (λ n. drop n slots) (let z : k + (m - k) ≡ m = omega arith in z)) in
      let long : length (take (m - k) (drop k slots)) ≡ m - k = length-take-le (m - k) (drop k slots) (omega (arith, length-drop k slots)) in
      let none : dues x (take (m - k) (drop k slots)) ≡ 0 = omega (arith, r.met, dues-split k, ap (dues x) middle, dues-append x (take (m - k) (drop k slots)) (drop m slots)) in
      r.now
      ∙ sym (ap (λ l. reached_all k l x) middle ∙ reached-append k (take (m - k) (drop k slots)) (drop m slots) x
      ∙ reached-none k (take (m - k) (drop k slots)) _ (dues-reached_all _ (drop m slots) x (take (m - k) (drop k slots)) ∙ none)
      ∙ ap (λ n. reached_all n (drop m slots) x) (let z : k + length (take (m - k) (drop k slots)) ≡ m = omega arith in z))

  -- a walk that met all
  pub reaches_all : (m due : ℕ) (y : WaitsOf) → m ≤ length slots → Reaches slots m due x y → due ≡ dues x slots → y ≡ reached_all 0 slots x
  reaches_all m due y low r all = reaches_from 0 m due y (omega arith) low r (omega arith)

  -- the only one that is due has its number
  pub reaches_one : (m : Mark) (y : WaitsOf) → StandsAt slots m → is_due x m.slot.0 ≡ true → dues x slots ≡ 1 → y ≡ reached m.slot.0 m.place x → y ≡ reached_all 0 slots x
  unfolding reached_all
  reaches_one m y at t one is =
      let from : drop m.place slots ≡ m.slot.0 ∷ drop (suc m.place) slots = drop-cons slots m.place 0 at.low ∙ ap (λ s. s ∷ drop (suc m.place) slots) at.here in
      let here : one_if (is_due x m.slot.0) ≡ 1 = ap one_if t in
      let met : dues x (drop m.place slots) ≡ one_if (is_due x m.slot.0) + dues x (drop (suc m.place) slots) = ap (dues x) from ∙ counted-cons (is_due x) m.slot.0 (drop (suc m.place) slots) in
      let rest : reached_all (suc m.place) (drop (suc m.place) slots) x ≡ x = reached-none (suc m.place) (drop (suc m.place) slots) x (omega (arith, dues-split m.place)) in
      reaches_all m.place 1 y (let l = at.low in omega arith)
      (record {
        met = omega (arith, dues-split m.place);
        now = is ∙ sym (ap (λ l. reached_all m.place l x) from ∙ ap (reached_if m.slot.0 m.place) rest ∙ cond-true (is_due x m.slot.0) (reached m.slot.0 m.place x) x t);
      })
      (sym one)

  -- all up to this place are due: a walk that met the others, and one that met these
  module _ (place : ℕ) (fits : place < length slots) (front : dues x (up_to place slots) ≡ place + 1) where
    others_behind : (m due : ℕ) (y : WaitsOf) → Reaches slots m due x y → place + 1 + due ≡ dues x slots → suc place ≤ m
    others_behind m due y r all = elim (cases_lt m (suc place)) [
      | inl less ↦ absurd (let short = few_due x (take m slots) in let long = length-take-le m slots (omega (arith, less)) in omega (arith, r.met, dues-split m))
      | inr most ↦ most
    ]

    pub reaches_others : (m due : ℕ) (y : WaitsOf) → m ≤ length slots → Reaches slots m due x y → place + 1 + due ≡ dues x slots → y ≡ reached_all (suc place) (drop (suc place) slots) x
    reaches_others m due y low r all = reaches_from (suc place) m due y (others_behind m due y r all) low r (omega (arith, front))

    -- there are no others
    pub reaches_nobody : place + 1 ≡ dues x slots → x ≡ reached_all (suc place) (drop (suc place) slots) x
    reaches_nobody all = sym (reached-none (suc place) (drop (suc place) slots) x (omega (arith, front, dues-split (suc place))))

    -- as many are due now
    pub dues_kept : (y : WaitsOf) → y ≡ reached_all (suc place) (drop (suc place) slots) x → dues y (up_to place slots) ≡ place + 1
    dues_kept y is = ap (λ (z : WaitsOf). dues z (up_to place slots)) is ∙ dues-reached_all (suc place) (drop (suc place) slots) x (up_to place slots) ∙ front

    pub reaches_both : (m : ℕ) (y z : WaitsOf) → y ≡ reached_all (suc place) (drop (suc place) slots) x → Reaches (up_to place slots) m (place + 1) y z → z ≡ reached_all 0 slots x
    reaches_both m y z is r =
        let long : length (up_to place slots) ≡ suc place = length-take-le (suc place) slots (omega arith) in
        let few : dues y (drop m (up_to place slots)) ≤ length (drop m (up_to place slots)) = few_due y (drop m (up_to place slots)) in
        let first : m ≡ 0 = omega (arith, r.met, length-drop m (up_to place slots)) in
        r.now ∙ ap (λ n. reached_all n (drop n (up_to place slots)) y) first ∙ split (suc place) y (omega arith) is

  -- one more in front is due
  pub dues_next : (m n : Mark) → StandsAt slots n → is_due x n.slot.0 ≡ true → n.place ≡ m.place + 1 → dues x (up_to m.place slots) ≡ m.place + 1 → dues x (up_to n.place slots) ≡ n.place + 1
  dues_next m n at t next front =
      let last : up_to n.place slots ≡ take n.place slots ++ n.slot.0 ∷ [] = take-suc slots n.place 0 at.low ∙ ap (λ s. take n.place slots ++ s ∷ []) at.here in
      let own : dues x (n.slot.0 ∷ []) ≡ 1 = counted-cons (is_due x) n.slot.0 [] ∙ ap (λ b. one_if b + 0) t in
      let before : dues x (take n.place slots) ≡ m.place + 1 = ap (λ j. dues x (take j slots)) (let z : n.place ≡ suc m.place = omega arith in z) ∙ front in
      ap (dues x) last ∙ dues-append x (take n.place slots) (n.slot.0 ∷ []) ∙ omega arith

-- ---- the walk

-- before the walk looks at the slot in front of i
pub record IsWalked (x : WaitsOf) (order : List ℕ) (due left i : ℕ) (now : WaitsOf) : Type 0 where
  pub within : i ≤ length order
  -- the slots from i on have their numbers
  pub done : now ≡ reached_all i (drop i order) x
  -- so many are met, and so many are left
  pub found : left + dues x (drop i order) ≡ due

pub walk_begins : (x : WaitsOf) (order : List ℕ) (due : ℕ) → IsWalked x order due due (length order) x
unfolding reached_all
walk_begins x order due =
    let none : drop (length order) order ≡ [] = drop_all (length order) order (omega arith) in
    record {
      within = omega arith;
      done = ap (λ l. reached_all (length order) l x) (sym none);
      found = ap (λ l. due + dues x l) none ∙ (let z : due + 0 ≡ due = omega arith in z);
    }

module _ (x : WaitsOf) (order : List ℕ) (due left i : ℕ) (now : WaitsOf) (h : IsWalked x order due left i now) where
  module _ (j : ℕ) (next : i ≡ suc j) where
    one_more : drop j order ≡ get_or order j 0 ∷ drop i order
    one_more = let w = h.within in drop-cons order j 0 (omega arith) ∙ ap (λ m. get_or order j 0 ∷ drop m order) (sym next)

    was_due : is_due now (get_or order j 0) ≡ is_due x (get_or order j 0)
    was_due = ap (λ (y : WaitsOf). is_due y (get_or order j 0)) h.done ∙ is_due-reached_all i (drop i order) x (get_or order j 0)

    told : dues x (drop j order) ≡ one_if (is_due now (get_or order j 0)) + dues x (drop i order)
    told = ap (dues x) one_more ∙ counted-cons (is_due x) (get_or order j 0) (drop i order) ∙ ap (λ c. one_if c + dues x (drop i order)) (sym was_due)

    -- the slot has its number now, if it is due
    pub walk_steps : 0 < left → IsWalked x order due (left - one_if (is_due now (get_or order j 0))) j (reached_if (get_or order j 0) j now)
    unfolding reached_all
    walk_steps some = record {
      within = let w = h.within in omega arith;
      done = ap (reached_if (get_or order j 0) j) (h.done ∙ ap (λ m. reached_all m (drop i order) x) next) ∙ ap (λ l. reached_all j l x) (sym one_more);
      found = let m = h.found in found (is_due now (get_or order j 0)) told;
    }
      where
        found : (b : Bool) → dues x (drop j order) ≡ one_if b + dues x (drop i order) → (left - one_if b) + dues x (drop j order) ≡ due
        found true e = let m = h.found in omega arith
        found false e = let m = h.found in omega arith

  -- if some are left, the head was not passed
  pub walk_goes_on : 0 < left → due ≤ dues x order → 0 < i
  walk_goes_on some few = by_place i refl
    where
      by_place : (k : ℕ) → i ≡ k → 0 < k
      by_place zero e = absurd (let m = h.found in let z : dues x (drop i order) ≡ dues x order = ap (λ n. dues x (drop n order)) e in omega arith)
      by_place (suc k) e = omega arith

  -- the walk ends once so many are met
  pub walk_ends : left ≡ 0 → Reaches order i due x now
  walk_ends e = record { met = let m = h.found in omega arith; now = h.done }

-- the walk, and the place where it is
pub record IsAt (qs : QueuesOf) (x : WaitsOf) (from due left : ℕ) (m : Mark) (now : WaitsOf) : Type 0 where
  pub at : StandsAt (slots_of qs.ready) m
  pub walked : IsWalked x (up_to from (slots_of qs.ready)) due left (suc m.place) now
  pub some : 0 < left

pub at_first : (qs : QueuesOf) (x : WaitsOf) (due : ℕ) (m : Mark) → StandsAt (slots_of qs.ready) m → 0 < due → IsAt qs x m.place due due m x
at_first qs x due m at some = record {
  at = at;
  walked = subst (λ n. IsWalked x (up_to m.place (slots_of qs.ready)) due due n x) (length-take-le (suc m.place) (slots_of qs.ready) (let l = at.low in omega arith)) (walk_begins x (up_to m.place (slots_of qs.ready)) due);
  some = some;
}

module _ (qs : QueuesOf) (x : WaitsOf) (from due left : ℕ) (m : Mark) (now : WaitsOf) (h : IsAt qs x from due left m now) where
  -- the slot here is settled
  pub settled : (rest : ℕ) (after : WaitsOf) → rest ≡ left - one_if (is_due now m.slot.0) → after ≡ reached_if m.slot.0 m.place now → IsWalked x (up_to from (slots_of qs.ready)) due rest m.place after
  settled rest after rest_is after_is =
      let w = h.walked.within in
      let few : length (up_to from (slots_of qs.ready)) ≤ suc from = omega (arith, length-take (suc from) (slots_of qs.ready)) in
      let here : get_or (up_to from (slots_of qs.ready)) m.place 0 ≡ m.slot.0 = get_or-take (suc from) (slots_of qs.ready) m.place 0 (omega arith) ∙ h.at.here in
      let steps : IsWalked x (up_to from (slots_of qs.ready)) due (left - one_if (is_due now m.slot.0)) m.place (reached_if m.slot.0 m.place now) =
      subst (λ s. IsWalked x (up_to from (slots_of qs.ready)) due (left - one_if (is_due now s)) m.place (reached_if s m.place now)) here
      (walk_steps x (up_to from (slots_of qs.ready)) due left (suc m.place) now h.walked m.place refl h.some) in
      subst (λ n. IsWalked x (up_to from (slots_of qs.ready)) due n m.place after) (sym rest_is) (subst (λ (y : WaitsOf). IsWalked x (up_to from (slots_of qs.ready)) due (left - one_if (is_due now m.slot.0)) m.place y) (sym after_is) steps)

  -- it goes on with the slot before
  pub at_next : IsOrderly qs → (rest : ℕ) (after : WaitsOf) (n : Mark) → IsWalked x (up_to from (slots_of qs.ready)) due rest m.place after → 0 < rest → 0 < m.place → n.place ≡ m.place - 1 → prev_of m.slot.0 qs ≡ Some n.slot.0 → IsAt qs x from due rest n after
  at_next o rest after n walked some above next is = record {
    at = at_before qs o m h.at n next above is;
    walked = subst (λ j. IsWalked x (up_to from (slots_of qs.ready)) due rest j after) (let z : m.place ≡ suc n.place = omega arith in z) walked;
    some = some;
  }
