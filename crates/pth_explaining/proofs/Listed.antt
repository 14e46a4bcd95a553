-- A thread is listed exactly if the last mark about it says that it waits.
use Rattle.std.proofs.Common.{◌≡◌, ◌≢◌, ◌∙◌, ◌<◌, ◌≤◌, ◌+◌, ◌==◌, ◌&&◌, ◌||◌, ℕ, suc, Bool, true, false, if◌then◌else◌, List, [], ◌∷◌, fold, Option, Some, None, slice_get, ap, ap₂, sym, refl, subst, arith}
use Rattle.std.specs.BTreeMap.{insert_entry}
use Rattle.std.specs.List.{cons_option, list_any}
use Rattle.std.specs.Ordering.{match_ordering, nat_cmp}
use Rattle.std.specs.declared.cmp.Ordering.{Ordering}
use Rattle.std.specs.declared.cmp.Ordering.TheVariants.{Equal, Greater, Less}
use Rattle.std.proofs.lemmas.Bool.Decides.{nat_tests}
use Rattle.pth_base.proofs.Tables.{not_same, same_self}
use Rattle.pth_base.specs.declared.mark.Mark.{Mark}
use Rattle.pth_base.specs.declared.mark.Mark.TheVariants as mark
use Rattle.pth_laws.specs.Marks.{thread_of}
use Rattle.pth_explaining.specs.Clocks.{clock_after, start}
use Rattle.pth_explaining.specs.Threads.{Places, places_after, places_from, places_of, spawned_by, with_place}
use Rattle.pth_explaining.specs.Told.{about_after, is_about, is_number, last_about, says_wait}
use Rattle.pth_explaining.specs.Waits.{wait_at, waits_in}
use Rattle.pth_explaining.specs.declared.clock.Clock.{Clock}
use Rattle.pth_explaining.specs.declared.threads.Place.{Place}
use Rattle.pth_explaining.specs.declared.waits.Wait.{Wait}

-- ---- keys in order

Rises : ℕ → Places → Type 0
Rises a [] = Unit {0}
Rises a (e ∷ es) = (a ≤ e.0) × Rises (e.0 + 1) es

lower : (a b : ℕ) (es : Places) → a ≤ b → Rises b es → Rises a es
unfolding Rises
lower a b [] le r = tt
lower a b (e ∷ es) le r = (omega (arith, le, r.0), r.1)

less : (m n : ℕ) → nat_cmp m n ≡ Less → m + 1 ≤ n
less m n is = grind (arith, nat_tests)

equal : (m n : ℕ) → nat_cmp m n ≡ Equal → m ≡ n
equal m n is = grind (arith, nat_tests)

greater : (m n : ℕ) → nat_cmp m n ≡ Greater → n + 1 ≤ m
greater m n is = grind (arith, nat_tests)

inserted : (a k : ℕ) (x : Place) (es : Places) → a ≤ k → Rises a es → Rises a (insert_entry nat_cmp es k x)
unfolding Rises
inserted a k x [] le r = (le, tt)
inserted a k x (e ∷ es) le r = by (λ above. inserted (e.0 + 1) k x es above r.1) (nat_cmp k e.0) refl
  where
    by : (e.0 + 1 ≤ k → Rises (e.0 + 1) (insert_entry nat_cmp es k x)) → (o : Ordering) → nat_cmp k e.0 ≡ o → Rises a (match_ordering o ((k, x) ∷ e ∷ es) ((e.0, x) ∷ es) (e ∷ insert_entry nat_cmp es k x))
    by rest Less is = (le, (less k e.0 is, r.1))
    by rest Equal is = r
    by rest Greater is = (r.0, rest (greater k e.0 is))

-- ---- what stands under a key

module _ (says : Place → Bool) (t : ℕ) where
  at : ℕ × Place → Bool
  at e = (e.0 == t) && says e.1

  under : Places → Bool
  under es = list_any at es

  here : (x : Place) → at (t, x) ≡ says x
  unfolding at
  here x = ap (λ b. b && says x) (same_self t)

  away : (u : ℕ) (x : Place) → u ≢ t → at (u, x) ≡ false
  unfolding at
  away u x other = ap (λ b. b && says x) (not_same u t other)

  none_above : (a : ℕ) (es : Places) → t < a → Rises a es → under es ≡ false
  unfolding under Rises
  none_above a [] low r = refl
  none_above a (e ∷ es) low r =
      ap₂ (λ b c. b || c) (away e.0 e.1 (λ same. absurd (omega (arith, same, low, r.0)))) (none_above (e.0 + 1) es (omega (arith, low, r.0)) r.1)

  or-none : (b : Bool) → (b || false) ≡ b
  or-none true = refl
  or-none false = refl

  put_here : (a : ℕ) (x : Place) (es : Places) → Rises a es → under (insert_entry nat_cmp es t x) ≡ says x
  unfolding under Rises
  put_here a x [] r = ap (λ b. b || false) (here x) ∙ or-none (says x)
  put_here a x (e ∷ es) r = by (put_here (e.0 + 1) x es r.1) (nat_cmp t e.0) refl
    where
      by : list_any at (insert_entry nat_cmp es t x) ≡ says x → (o : Ordering) → nat_cmp t e.0 ≡ o → list_any at (match_ordering o ((t, x) ∷ e ∷ es) ((e.0, x) ∷ es) (e ∷ insert_entry nat_cmp es t x)) ≡ says x
      by rest Less is = ap₂ (λ b c. b || c) (here x) (none_above e.0 (e ∷ es) (omega (arith, less t e.0 is)) (omega arith, r.1)) ∙ or-none (says x)
      by rest Equal is =
          ap₂ (λ b c. b || c) (subst (λ (u : ℕ). at (u, x) ≡ says x) (equal t e.0 is) (here x)) (none_above (e.0 + 1) es (omega (arith, equal t e.0 is)) r.1)
          ∙ or-none (says x)
      by rest Greater is = ap₂ (λ b c. b || c) (away e.0 e.1 (λ same. absurd (omega (arith, same, greater t e.0 is)))) rest

  put_away : (u : ℕ) (x : Place) (es : Places) → u ≢ t → under (insert_entry nat_cmp es u x) ≡ under es
  unfolding under
  put_away u x [] other = ap (λ b. b || false) (away u x other)
  put_away u x (e ∷ es) other = by (put_away u x es other) (nat_cmp u e.0) refl
    where
      by : list_any at (insert_entry nat_cmp es u x) ≡ list_any at es → (o : Ordering) → nat_cmp u e.0 ≡ o → list_any at (match_ordering o ((u, x) ∷ e ∷ es) ((e.0, x) ∷ es) (e ∷ insert_entry nat_cmp es u x)) ≡ list_any at (e ∷ es)
      by rest Less is = ap (λ b. b || list_any at (e ∷ es)) (away u x other)
      by rest Equal is =
          let apart : e.0 ≢ t = subst (λ (v : ℕ). v ≢ t) (equal u e.0 is) other in
          ap (λ b. b || list_any at es) (away e.0 x apart ∙ sym (away e.0 e.1 apart))
      by rest Greater is = ap (λ b. at e || b) rest

  -- a mark that is about t, or not
  with_one : (x : Place) (o : Option ℕ) (es : Places) (w : Bool) → Rises 0 es → under es ≡ w → under (with_place x o es) ≡ (if is_number t o then says x else w)
  with_one x None es w r is = is
  with_one x (Some u) es w r is = by (u == t) refl
    where
      by : (b : Bool) → (u == t) ≡ b → under (insert_entry nat_cmp es u x) ≡ (if b then says x else w)
      by true same = subst (λ (v : ℕ). under (insert_entry nat_cmp es v x) ≡ says x) (let e : t ≡ u = grind (arith, nat_tests) in e) (put_here 0 x es r)
      by false apart = put_away u x es (let e : u ≢ t = grind (arith, nat_tests) in e) ∙ is

with_rises : (x : Place) (o : Option ℕ) (es : Places) → Rises 0 es → Rises 0 (with_place x o es)
with_rises x None es r = r
with_rises x (Some u) es r = inserted 0 u x es (omega arith) r

choose : (a b : Bool) (x w : Bool) → (if a then x else (if b then x else w)) ≡ (if a || b then x else w)
choose true b x w = refl
choose false b x w = refl

says_if : (b : Bool) (m : Mark) (last : Option Mark) → (if b then says_wait (Some m) else says_wait last) ≡ says_wait (if b then Some m else last)
says_if true m last = refl
says_if false m last = refl

skip : (b r : Bool) → r ≡ ((b && false) || r)
skip true r = refl
skip false r = refl

keep : (b r : Bool) → (b || r) ≡ ((b && true) || r)
keep true r = refl
keep false r = refl

-- ---- all marks

module _ (marks : List Mark) (t : ℕ) where
  says : Place → Bool
  says x = says_wait (slice_get marks x.index)

  told : (i : ℕ) (clock : Clock) (es : Places) (last : Option Mark) (ms : List Mark) → ((j : ℕ) → slice_get marks (i + j) ≡ slice_get ms j) → Rises 0 es
      → under says t es ≡ says_wait last → under says t (places_from i clock es ms) ≡ says_wait (fold (about_after t) last ms)
  unfolding says
  told i clock es last [] there r is = is
  told i clock es last (m ∷ ms) there r is =
      let x : Place = record { index = i; clock = clock_after clock m } in
      let first = with_one says t x (spawned_by m) es (says_wait last) r is in
      let both = with_one says t x (thread_of m) (with_place x (spawned_by m) es) _ (with_rises x (spawned_by m) es r) first in
      let this : says x ≡ says_wait (Some m) = ap says_wait (ap (slice_get marks) (let e : i ≡ i + 0 = omega arith in e) ∙ there 0) in
      let all : under says t (places_after x m es) ≡ says_wait (about_after t last m) =
      both ∙ choose (is_number t (thread_of m)) (is_number t (spawned_by m)) (says x) (says_wait last)
      ∙ ap (λ b. if is_about t m then b else says_wait last) this ∙ says_if (is_about t m) m last in
      told (i + 1) (clock_after clock m) (places_after x m es) (about_after t last m) ms
      (λ j. ap (slice_get marks) (let e : i + 1 + j ≡ i + suc j = omega arith in e) ∙ there (suc j))
      (with_rises x (thread_of m) (with_place x (spawned_by m) es) (with_rises x (spawned_by m) es r)) all

  -- the threads of the waits are those under whose key a mark says so
  is_of : Wait → Bool
  is_of w = w.thread == t

  keyed : (u : ℕ) (x : Place) (o : Option Mark) (ws : List Wait) → list_any is_of (cons_option (wait_at u x o) ws) ≡ (((u == t) && says_wait o) || list_any is_of ws)
  unfolding is_of
  keyed u x None ws = skip (u == t) (list_any is_of ws)
  keyed u x (Some (mark.Waits v c)) ws = keep (u == t) (list_any is_of ws)
  keyed u x (Some (mark.Retakes v c)) ws = keep (u == t) (list_any is_of ws)
  keyed u x (Some m) ws = skip (u == t) (list_any is_of ws)

  waits_under : (es : Places) → list_any is_of (waits_in marks es) ≡ under says t es
  unfolding says under at
  waits_under [] = refl
  waits_under (e ∷ es) =
      keyed e.0 e.1 (slice_get marks e.1.index) (waits_in marks es)
      ∙ ap (λ b. ((e.0 == t) && says_wait (slice_get marks e.1.index)) || b) (waits_under es)

  pub listed : list_any (λ w. w.thread == t) (waits_in marks (places_of marks)) ≡ says_wait (last_about t marks)
  unfolding is_of Rises under
  listed = waits_under (places_of marks) ∙ told 0 start [] None marks (λ j. ap (slice_get marks) (let e : 0 + j ≡ j = omega arith in e)) tt refl
