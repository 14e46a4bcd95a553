-- What the numbers of those that are due change, and what they are.
use Rattle.std.proofs.Common.{◌≡◌, ◌≢◌, ℕ, suc, ◌+◌, ◌==◌, Bool, true, false, if◌then◌else◌, List, [], ◌∷◌, ◌++◌, length, All, refl, sym, ap, ◌∙◌, arith, inl, inr}
use Rattle.std.proofs.lemmas.Bool.{cond-true, cond-false, cases_Bool}
use Rattle.std.proofs.lemmas.List.Elements.{All-head, All-tail}
use Rattle.pth_base.proofs.Tables.{put_here, put_other, put_by}
use Rattle.pth_tables.specs.declared.waits.Wait.{Wait}
use Rattle.pth_tables.specs.Waits.{WaitsOf, number_of, reached, waited_by, is_due, reached_if, reached_all}

-- y has numbers of its own, and all else of x
pub record OnlyNumbers (x y : WaitsOf) : Type 0 where
  pub totals : y ≡ record x { waits = y.waits }
  pub each : (u : ℕ) → y.waits u ≡ record (x.waits u) { number = (y.waits u).number }

module _ (x y : WaitsOf) (on : OnlyNumbers x y) where
  pub same-waited : (u : ℕ) → waited_by u y ≡ waited_by u x
  same-waited u = rw (ap (λ (z : WaitsOf). z.dispatches) on.totals, ap (λ (z : Wait). z.entered) (on.each u))

  pub same-grace : (u : ℕ) → (y.waits u).grace ≡ (x.waits u).grace
  same-grace u = ap (λ (z : Wait). z.grace) (on.each u)

  pub same-due : (u : ℕ) → is_due y u ≡ is_due x u
  same-due u = ap (λ n. n == (y.waits u).grace) (same-waited u) ∙ ap (λ n. waited_by u x == n) (same-grace u)

  pub same-number : (place : ℕ) → number_of place y ≡ number_of place x
  same-number place = ap (λ (z : WaitsOf). number_of place z) on.totals

  only-reached : (u place : ℕ) → OnlyNumbers x (reached u place y)
  unfolding reached
  only-reached u place = record {
    totals = ap (λ (z : WaitsOf). record z { waits = (reached u place y).waits }) on.totals;
    each = λ i. put_by (λ (w : Wait). w ≡ record (x.waits i) { number = w.number }) y.waits u (record (y.waits u) { number = number_of place y }) i
        (λ same. ap (λ (w : Wait). record w { number = number_of place y }) (on.each u) ∙ ap (λ n. record (x.waits n) { number = number_of place y }) (sym same))
        (λ other. on.each i);
  }

  only-if : (u place : ℕ) → OnlyNumbers x (reached_if u place y)
  only-if u place = by (is_due y u)
    where
      by : (b : Bool) → OnlyNumbers x (if b then reached u place y else y)
      by true = only-reached u place
      by false = on

pub only_numbers : (place : ℕ) (us : List ℕ) (x : WaitsOf) → OnlyNumbers x (reached_all place us x)
unfolding reached_all
only_numbers place [] x = record { totals = refl; each = λ u. refl }
only_numbers place (u ∷ us) x = only-if x (reached_all (suc place) us x) (only_numbers (suc place) us x) u place

-- ---- one slot

reached-own : (u place : ℕ) (y : WaitsOf) → is_due y u ≡ true → ((reached_if u place y).waits u).number ≡ number_of place y
unfolding reached
reached-own u place y due =
    ap (λ (z : WaitsOf). (z.waits u).number) (cond-true (is_due y u) (reached u place y) y due)
    ∙ ap (λ (w : Wait). w.number) (put_here y.waits u (record (y.waits u) { number = number_of place y }))

reached-other : (v place u : ℕ) (y : WaitsOf) → (is_due y v ≡ true → u ≢ v) → (reached_if v place y).waits u ≡ y.waits u
unfolding reached
reached-other v place u y other = elim (cases_Bool (is_due y v)) [
  | inl due ↦
      ap (λ (z : WaitsOf). z.waits u) (cond-true (is_due y v) (reached v place y) y due)
      ∙ put_other y.waits v (record (y.waits v) { number = number_of place y }) u (other due)
  | inr not ↦ ap (λ (z : WaitsOf). z.waits u) (cond-false (is_due y v) (reached v place y) y not)
]

-- who is not due keeps its number
pub not-reached : (place : ℕ) (us : List ℕ) (u : ℕ) (x : WaitsOf) → is_due x u ≡ false → (reached_all place us x).waits u ≡ x.waits u
unfolding reached_all
not-reached place [] u x not = refl
not-reached place (v ∷ vs) u x not =
    let y = reached_all (suc place) vs x in
    let on = only_numbers (suc place) vs x in
    reached-other v place u (reached_all (suc place) vs x) (λ due same. let n : is_due x v ≡ true = sym (same-due x (reached_all (suc place) vs x) on v) ∙ due in let m : is_due x v ≡ false = ap (is_due x) (sym same) ∙ not in cc)
    ∙ not-reached (suc place) vs u x not

-- who is due has the number of its place
pub is-reached : (place : ℕ) (front : List ℕ) (u : ℕ) (back : List ℕ) (x : WaitsOf) → All (λ v. v ≢ u) front → is_due x u ≡ true → ((reached_all place (front ++ u ∷ back) x).waits u).number ≡ number_of (place + length front) x
unfolding reached_all
is-reached place [] u back x apart due =
    let on = only_numbers (suc place) back x in
    reached-own u place (reached_all (suc place) back x) (same-due x (reached_all (suc place) back x) on u ∙ due)
    ∙ same-number x (reached_all (suc place) back x) on place
    ∙ ap (λ n. number_of n x) (let e : place ≡ place + 0 = omega arith in e)
is-reached place (v ∷ front) u back x apart due =
    let Apart : ℕ → Type 0 = λ v. v ≢ u in
    let rest = reached_all (suc place) (front ++ u ∷ back) x in
    ap (λ (w : Wait). w.number) (reached-other v place u (reached_all (suc place) (front ++ u ∷ back) x) (λ d same. All-head Apart v front apart (sym same)))
    ∙ is-reached (suc place) front u back x (All-tail Apart v front apart) due
    ∙ ap (λ n. number_of n x) (let e : suc place + length front ≡ place + length (v ∷ front) = omega arith in e)
