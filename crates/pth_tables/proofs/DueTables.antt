-- The table of those that are waited for, over each change of the slots that stand in the ready queue, and of their waits.
use Rattle.std.proofs.Common.{◌≡◌, ◌≢◌, ℕ, ◌+◌, ◌-◌, ◌%◌, ◌<◌, ◌≤◌, ◌⊎◌, inl, inr, Bool, true, false, ◌==◌, List, [], length, get_or, set, replicate, count_by, refl, sym, ap, ◌∙◌, subst, arith, eq-eqb, ne_eqb, nat_le}
use Rattle.std.proofs.lemmas.List.{get_or-set_same, get_or-set_other, get_or-replicate, length-set, length-replicate}
use Rattle.std.proofs.lemmas.List.Sums.{count_by-le-length}
use Rattle.std.proofs.lemmas.Bool.{cond-true, cond-false, cases_Bool, cases_eq}
use Rattle.std.proofs.lemmas.Bool.Decides.{leb_tells}
use Rattle.pth_base.specs.Chain.{StandsIn}
use Rattle.pth_base.specs.Table.{put}
use Rattle.pth_base.proofs.Tables.{put_here, put_other}
use Rattle.pth_tables.specs.declared.waits.Wait.{Wait}
use Rattle.pth_tables.specs.Waits.{WaitsOf, waited_by, is_due}
use Rattle.pth_tables.specs.DueTable.{due_of, dues, cell, cells_hold, more_at, less_at, none_at, left_due, one_if, IsTable}
use Rattle.pth_tables.proofs.Slots.{counted-alike, counted-none}

-- two of the next 64 dispatches have two cells
apart_cells : (d e low : ℕ) → low ≤ d → d < low + 64 → low ≤ e → e < low + 64 → d ≢ e → d % 64 ≢ e % 64
apart_cells d e low a b c f n h = n (omega arith)

cell_same : (due : List ℕ) (d n : ℕ) → length due ≡ 64 → cell (set due (d % 64) n) d ≡ n
cell_same due d n long = get_or-set_same due (d % 64) n 0 (omega arith)

cell_other : (due : List ℕ) (d e n low : ℕ) → low ≤ d → d < low + 64 → low ≤ e → e < low + 64 → e ≢ d → cell (set due (d % 64) n) e ≡ cell due e
cell_other due d e n low a b c f ne = get_or-set_other due (d % 64) (e % 64) n 0 (apart_cells e d low c f a b ne)

-- due at the dispatch that follows, by the one test and by the other
due_test : (waited entered grace dispatches : ℕ) → waited + entered ≡ dispatches → (waited == grace) ≡ ((entered + grace) == dispatches)
due_test a e g d h = elim (cases_eq a g) [
  | inl q ↦ eq-eqb a g q ∙ sym (eq-eqb (e + g) d (omega arith))
  | inr n ↦ ne_eqb a g n ∙ sym (ne_eqb (e + g) d (λ q. n (omega arith)))
]

-- nobody is ready
pub table-none : (dispatches : ℕ) (waits : ℕ → Wait) → IsTable [] dispatches waits (replicate 64 0)
table-none dispatches waits = record {
  long = length-replicate {A = ℕ} 64 0;
  brief = λ s h. absurd h;
  begun = λ s h. absurd h;
  cells = λ d low high. get_or-replicate 64 (d % 64) 0 0 (omega arith);
}

-- the table does not read other parts of a wait
pub table-alike : (slots : List ℕ) (dispatches : ℕ) (waits now : ℕ → Wait) (due : List ℕ) → ((s : ℕ) → (now s).entered ≡ (waits s).entered) → ((s : ℕ) → (now s).grace ≡ (waits s).grace) → IsTable slots dispatches waits due → IsTable slots dispatches now due
table-alike slots dispatches waits now due entered grace t = record {
  long = t.long;
  brief = λ s h. subst (λ n. n < 64) (sym (grace s)) (t.brief s h);
  begun = λ s h. subst (λ n. n ≤ dispatches) (sym (entered s)) (t.begun s h);
  cells = λ d low high. t.cells d low high ∙ counted-alike (λ s. due_of waits s == d) (λ s. due_of now s == d) slots (λ s h. ap (λ m. m == d) (due_same s));
}
  where
    due_same : (s : ℕ) → due_of waits s ≡ due_of now s
    due_same s = omega (arith, entered s, grace s)

module _ (slots : List ℕ) (x : WaitsOf) (due : List ℕ) (t : IsTable slots x.dispatches x.waits due) where
  -- the cell of the dispatch that follows says how many a walk is to meet
  pub table-told : cell due x.dispatches ≡ dues x slots
  table-told =
      t.cells x.dispatches (omega arith) (omega arith)
      ∙ sym (counted-alike (is_due x) (λ s. due_of x.waits s == x.dispatches) slots (λ s h. due_test (waited_by s x) (x.waits s).entered (x.waits s).grace x.dispatches (omega (arith, t.begun s h))))

  soon : (s : ℕ) → StandsIn s slots → due_of x.waits s < x.dispatches + 64
  soon s h = omega (arith, t.begun s h, t.brief s h)

  -- one slot less
  module _ (rest : List ℕ) (s : ℕ) (stands : StandsIn s slots) (one : (f : ℕ → Bool) → one_if (f s) + count_by f rest ≡ count_by f slots) (stays : (z : ℕ) → StandsIn z rest → StandsIn z slots) where
    one_less : (d : ℕ) → due_of x.waits s ≢ d → count_by (λ z. due_of x.waits z == d) slots ≡ count_by (λ z. due_of x.waits z == d) rest
    one_less d ne = let none : one_if (due_of x.waits s == d) ≡ 0 = ap one_if (ne_eqb (due_of x.waits s) d ne) in omega (arith, one (λ z. due_of x.waits z == d))

    its_cell : count_by (λ z. due_of x.waits z == due_of x.waits s) slots ≡ 1 + count_by (λ z. due_of x.waits z == due_of x.waits s) rest
    its_cell = let own : one_if (due_of x.waits s == due_of x.waits s) ≡ 1 = ap one_if (eq-eqb (due_of x.waits s) (due_of x.waits s) refl) in omega (arith, one (λ z. due_of x.waits z == due_of x.waits s))

    to_come : nat_le (waited_by s x) (x.waits s).grace ≡ true → left_due s x due ≡ less_at (due_of x.waits s) due
    to_come y = cond-true (nat_le (waited_by s x) (x.waits s).grace) (less_at (due_of x.waits s) due) due y

    is_past : nat_le (waited_by s x) (x.waits s).grace ≡ false → left_due s x due ≡ due
    is_past n = cond-false (nat_le (waited_by s x) (x.waits s).grace) (less_at (due_of x.waits s) due) due n

    less_told : (d : ℕ) → d ≡ due_of x.waits s → x.dispatches ≤ due_of x.waits s → cell (less_at (due_of x.waits s) due) d ≡ count_by (λ z. due_of x.waits z == d) rest
    less_told d e le =
        ap (cell (less_at (due_of x.waits s) due)) e
        ∙ cell_same due (due_of x.waits s) (cell due (due_of x.waits s) - 1) t.long
        ∙ (let one_more : cell due (due_of x.waits s) - 1 ≡ count_by (λ z. due_of x.waits z == due_of x.waits s) rest = omega (arith, t.cells (due_of x.waits s) le (soon s stands), its_cell) in one_more)
        ∙ ap (λ m. count_by (λ z. due_of x.waits z == m) rest) (sym e)

    cells_left : (d : ℕ) → x.dispatches ≤ d → d < x.dispatches + 64 → cell (left_due s x due) d ≡ count_by (λ z. due_of x.waits z == d) rest
    cells_left d low high = elim (leb_tells (waited_by s x) (x.waits s).grace) [
      | inl y ↦
          let le : x.dispatches ≤ due_of x.waits s = let b = y.1 in omega (arith, t.begun s stands) in
          ap (λ l. cell l d) (to_come y.0) ∙ elim (cases_eq d (due_of x.waits s)) [
            | inl e ↦ less_told d e le
            | inr ne ↦ cell_other due (due_of x.waits s) d (cell due (due_of x.waits s) - 1) x.dispatches le (soon s stands) low high ne ∙ t.cells d low high ∙ one_less d (λ e. ne (sym e))
          ]
      | inr n ↦ ap (λ l. cell l d) (is_past n.0) ∙ t.cells d low high ∙ one_less d (λ e. let b = n.1 in omega (arith, t.begun s stands))
    ]

    long_left : length (left_due s x due) ≡ 64
    long_left = elim (cases_Bool (nat_le (waited_by s x) (x.waits s).grace)) [
      | inl y ↦ ap length (to_come y) ∙ length-set due (due_of x.waits s % 64) (cell due (due_of x.waits s) - 1) ∙ t.long
      | inr n ↦ ap length (is_past n) ∙ t.long
    ]

    pub table-left : IsTable rest x.dispatches x.waits (left_due s x due)
    table-left = record { long = long_left; brief = λ z h. t.brief z (stays z h); begun = λ z h. t.begun z (stays z h); cells = cells_left }

    -- after a dispatch its cell is for the one that is 64 later, at which nobody is due yet
    pub table-taken : IsTable rest (x.dispatches + 1) x.waits (none_at x.dispatches (left_due s x due))
    table-taken = record {
      long = length-set (left_due s x due) (x.dispatches % 64) 0 ∙ long_left;
      brief = λ z h. t.brief z (stays z h);
      begun = λ z h. omega (arith, t.begun z (stays z h));
      cells = λ d low high. elim (cases_eq d (x.dispatches + 64)) [
        | inl e ↦
            let round : d % 64 ≡ x.dispatches % 64 = omega arith in
            ap (λ i. get_or (none_at x.dispatches (left_due s x due)) i 0) round
            ∙ cell_same (left_due s x due) x.dispatches 0 long_left
            ∙ sym (counted-none (λ z. due_of x.waits z == d) rest (λ z h. ne_eqb (due_of x.waits z) d (λ q. omega (arith, soon z (stays z h)))))
        | inr ne ↦ cell_other (left_due s x due) x.dispatches d 0 x.dispatches (omega arith) (omega arith) (omega arith) (omega arith) (λ e. omega arith) ∙ cells_left d (omega arith) (omega arith)
      ];
    }

  -- one slot more, whose wait begins
  module _ (more : List ℕ) (s : ℕ) (w : Wait) (fresh : StandsIn s slots → ⊥) (one : (f : ℕ → Bool) → count_by f more ≡ one_if (f s) + count_by f slots) (comes : (z : ℕ) → StandsIn z more → (z ≡ s) ⊎ StandsIn z slots) (begins : w.entered ≡ x.dispatches) (brief : w.grace < 64) (few : length more < cells_hold) where
    stays : (z : ℕ) → StandsIn z slots → put x.waits s w z ≡ x.waits z
    stays z h = put_other x.waits s w z (λ e. fresh (subst (λ y. StandsIn y slots) e h))

    new_due : due_of (put x.waits s w) s ≡ x.dispatches + w.grace
    new_due = ap (λ (v : Wait). v.entered + v.grace) (put_here x.waits s w) ∙ ap (λ n. n + w.grace) begins

    one_more : (d : ℕ) → count_by (λ z. due_of (put x.waits s w) z == d) more ≡ one_if (due_of (put x.waits s w) s == d) + count_by (λ z. due_of x.waits z == d) slots
    one_more d =
        one (λ z. due_of (put x.waits s w) z == d)
        ∙ ap (λ m. one_if (due_of (put x.waits s w) s == d) + m) (counted-alike (λ z. due_of (put x.waits s w) z == d) (λ z. due_of x.waits z == d) slots (λ z h. ap (λ (v : Wait). (v.entered + v.grace) == d) (stays z h)))

    -- what holds of the new wait and of the others holds of all
    each : (P : Wait → Type 0) → P w → ((z : ℕ) → StandsIn z slots → P (x.waits z)) → (z : ℕ) → StandsIn z more → P (put x.waits s w z)
    each P here old z h = elim (comes z h) [
      | inl e ↦ subst (λ y. P (put x.waits s w y)) (sym e) (subst P (sym (put_here x.waits s w)) here)
      | inr o ↦ subst P (sym (stays z o)) (old z o)
    ]

    low_due : x.dispatches ≤ due_of (put x.waits s w) s
    low_due = omega (arith, new_due)

    high_due : due_of (put x.waits s w) s < x.dispatches + 64
    high_due = omega (arith, new_due)

    fits : (cell due (due_of (put x.waits s w) s) + 1) % cells_hold ≡ count_by (λ z. due_of (put x.waits s w) z == due_of (put x.waits s w) s) more
    fits =
        let was = t.cells (due_of (put x.waits s w) s) low_due high_due in
        let all : count_by (λ z. due_of (put x.waits s w) z == due_of (put x.waits s w) s) more ≡ 1 + count_by (λ z. due_of x.waits z == due_of (put x.waits s w) s) slots = one_more (due_of (put x.waits s w) s) ∙ ap (λ b. one_if b + count_by (λ z. due_of x.waits z == due_of (put x.waits s w) s) slots) (eq-eqb (due_of (put x.waits s w) s) (due_of (put x.waits s w) s) refl) in
        let most = count_by-le-length (λ z. due_of (put x.waits s w) z == due_of (put x.waits s w) s) more in
        omega arith

    pub table-entered : IsTable more x.dispatches (put x.waits s w) (more_at (due_of (put x.waits s w) s) due)
    table-entered = record {
      long = length-set due (due_of (put x.waits s w) s % 64) ((cell due (due_of (put x.waits s w) s) + 1) % cells_hold) ∙ t.long;
      brief = each (λ v. v.grace < 64) brief t.brief;
      begun = each (λ v. v.entered ≤ x.dispatches) (omega arith) t.begun;
      cells = λ d low high. elim (cases_eq d (due_of (put x.waits s w) s)) [
        | inl e ↦
            ap (cell (more_at (due_of (put x.waits s w) s) due)) e
            ∙ cell_same due (due_of (put x.waits s w) s) ((cell due (due_of (put x.waits s w) s) + 1) % cells_hold) t.long
            ∙ fits
            ∙ ap (λ m. count_by (λ z. due_of (put x.waits s w) z == m) more) (sym e)
        | inr ne ↦
            cell_other due (due_of (put x.waits s w) s) d ((cell due (due_of (put x.waits s w) s) + 1) % cells_hold) x.dispatches low_due high_due low high ne
            ∙ t.cells d low high
            ∙ (let none : one_if (due_of (put x.waits s w) s == d) ≡ 0 = ap one_if (ne_eqb (due_of (put x.waits s w) s) d (λ e. ne (sym e))) in let same : count_by (λ z. due_of x.waits z == d) slots ≡ count_by (λ z. due_of (put x.waits s w) z == d) more = omega (arith, one_more d) in same)
      ];
    }
