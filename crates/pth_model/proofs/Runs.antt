-- How runs go on.
use Rattle.std.proofs.Common.{◌≡◌, ℕ, zero, suc, ◌+◌, ◌-◌, ◌<◌, ◌≤◌, List, [], ◌++◌, Bool, true, false, refl, sym, ap, ◌∙◌, arith, subst, append_assoc, append-nil, add-zero, add-one, inl, inr}
use Rattle.std.proofs.lemmas.Bool.{cases_lt, cases_Bool}
use Rattle.std.proofs.lemmas.Bool.Decides.{nat_tests}
use Rattle.pth_base.specs.Program.{Functions}
use Rattle.pth_base.specs.declared.mark.Mark.{Mark}
use Rattle.pth_model.specs.State.{State, Given, start}
use Rattle.pth_model.specs.Course.{Course, followed}
use Rattle.pth_model.specs.Part.{Part, Move, Take, Step, Close, Halt, next_part, part}
use Rattle.pth_model.specs.Run.{parts, run, stops, stops_by, GoesUntil, GoesTo, IsBetween}

module _ {P S H : Type 0} (f : P → Functions S H) where
  -- one part more
  pub parts-more : (s : State P S H) (i : ℕ) → parts f s (i + 1) ≡ followed (parts f s i) (part f (parts f s i).turn (parts f s i).state)
  unfolding parts
  parts-more s i = rw add-one refl

  module _ (g : Given P) where
    pub between-none : (i : ℕ) → IsBetween f g i i []
    between-none i = sym (append-nil (run f g i).marks)

    -- what the next part tells comes after what was told
    pub between-more : (i j : ℕ) (told : List Mark) → IsBetween f g i j told → IsBetween f g i (j + 1) (told ++ (part f (run f g j).turn (run f g j).state).marks)
    between-more i j told b = ap (λ (r : Course P S H). r.marks) (parts-more (start f g) j) ∙ ap (λ (m : List Mark). m ++ (part f (run f g j).turn (run f g j).state).marks) b ∙ append_assoc (run f g i).marks told (part f (run f g j).turn (run f g j).state).marks

    pub between-then : (i j k : ℕ) (one two : List Mark) → IsBetween f g i j one → IsBetween f g j k two → IsBetween f g i k (one ++ two)
    between-then i j k one two a b = b ∙ ap (λ (m : List Mark). m ++ two) a ∙ append_assoc (run f g i).marks one two

true_false : true ≡ false → ⊥
true_false h = cc

-- ---- the first part that halts

module _ (halts : ℕ → Bool) (i : ℕ) where
  -- there is one alone
  pub goes-once : (j k : ℕ) → GoesUntil halts i j → GoesUntil halts i k → j ≡ k
  goes-once j k a b = elim (cases_lt j k) [
    | inl low ↦ absurd (true_false (sym a.here ∙ b.first j a.later low))
    | inr high ↦ elim (cases_lt k j) [
      | inl low ↦ absurd (true_false (sym b.here ∙ a.first k b.later low))
      | inr same ↦ omega (arith, high, same)
    ]
  ]

  -- no part before the next one halts
  pub none-more : (n : ℕ) → ((k : ℕ) → i ≤ k → k < n → halts k ≡ false) → halts n ≡ false → (k : ℕ) → i ≤ k → k < n + 1 → halts k ≡ false
  none-more n before here k from below = elim (cases_lt k n) [
    | inl early ↦ before k from early
    | inr late ↦ (let at : n ≡ k = omega (arith, late, below) in subst (λ (j : ℕ). halts j ≡ false) at here)
  ]

  first_within : (n j : ℕ) → i ≤ j → ((k : ℕ) → i ≤ k → k < j → halts k ≡ false) → halts (j + n) ≡ true → (m : ℕ) × GoesUntil halts i m
  first_within zero j later before halt = (j, record { later = later; here = rw (← add-zero j) halt; first = before })
  first_within (suc n) j later before halt = elim (cases_Bool (halts j)) [
    | inl now ↦ (j, record { later = later; here = now; first = before })
    | inr on ↦ first_within n (j + 1) (omega (arith, later)) (none-more j before on) (let same : j + suc n ≡ j + 1 + n = omega arith in subst (λ (k : ℕ). halts k ≡ true) same halt)
  ]

  -- where a part from i on halts, there is a first
  pub goes-first : (j : ℕ) → i ≤ j → halts j ≡ true → (m : ℕ) × GoesUntil halts i m
  goes-first j later halt =
      let same : j ≡ i + (j - i) = omega arith in
      first_within (j - i) i (omega arith) (λ k from below. absurd (omega (arith, from, below))) (subst (λ (k : ℕ). halts k ≡ true) same halt)

-- ---- runs to more steps

-- a run that goes on to fewer steps goes on to more
later_by : (to far steps : ℕ) (p : Part) → to ≤ far → stops_by to steps p ≡ false → stops_by far steps p ≡ false
later_by to far steps Move le h = refl
later_by to far steps Take le h = refl
later_by to far steps (Step t) le h = grind (arith, nat_tests)
later_by to far steps (Close t) le h = refl
later_by to far steps Halt le h = h

module _ {P S H : Type 0} where
  pub stops-later : (to far : ℕ) (c : Course P S H) → to ≤ far → stops to c ≡ false → stops far c ≡ false
  unfolding stops
  stops-later to far c le h = later_by to far c.turn.steps (next_part c.state c.turn) le h

  module _ (f : P → Functions S H) (g : Given P) where
    -- a run to fewer steps, and then to more, is one to more
    pub goes-then : (to far i j k : ℕ) → to ≤ far → GoesTo f g to i j → GoesTo f g far j k → GoesTo f g far i k
    goes-then to far i j k le a b = record {
      later = omega (arith, a.later, b.later);
      here = b.here;
      first = λ n from below. elim (cases_lt n j) [
        | inl early ↦ stops-later to far (run f g n) le (a.first n from early)
        | inr late ↦ b.first n (omega (arith, late)) below
      ];
    }
