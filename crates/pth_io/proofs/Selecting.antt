-- What a select answers, by what was found.
use Rattle.std.proofs.Common.{◌≡◌, ◌+◌, ◌<◌, ◌≤◌, ℕ, suc, nat_lt, Bool, true, false, ◌||◌, List, [], ◌∷◌, length, filter, pos, Option, Some, None, refl, sym, ◌∙◌, ap, arith}
use Rattle.std.specs.List.{list_any}
use Rattle.std.proofs.lemmas.Bool.Decides.{nat_tests}
use Rattle.pth_base.specs.declared.ids.FdSet.{FdSet}
use Rattle.pth_base.specs.declared.answer.Answer.{Answer}
use Rattle.pth_base.specs.declared.answer.Answer.TheVariants.{Sets}
use Rattle.pth_base.specs.Descriptors.{members}
use Rattle.pth_base.proofs.Members.{set_with-nil}
use Rattle.pth_kernel.specs.Kernel.{Kernel, is_readable, is_writeable, is_exceptional}
use Rattle.pth_io.specs.declared.select.Ready.{Ready}
use Rattle.pth_io.specs.Attempts.{those, sets_answer, are_all_live, is_any_ready, is_past, select_answer}
use Rattle.pth_io.specs.Ready.{AreFound}

more_than_none : (n : ℕ) → true ≡ nat_lt 0 (suc n)
more_than_none n = grind (arith, nat_tests)

any_first : (is : ℕ → Bool) (f : ℕ) (fs : List ℕ) (b : Bool) → is f ≡ b → list_any is fs ≡ nat_lt 0 (length (filter is fs)) → list_any is (f ∷ fs) ≡ nat_lt 0 (length (filter is (f ∷ fs)))
any_first is f fs true e h = rw e (more_than_none (length (filter is fs)))
any_first is f fs false e h = rw e h

-- some element passes a test exactly where those that do are more than none
any_counted : (is : ℕ → Bool) (fs : List ℕ) → list_any is fs ≡ nat_lt 0 (length (filter is fs))
any_counted is [] = refl
any_counted is (f ∷ fs) = any_first is f fs (is f) refl (any_counted is fs)

any_of : (a b c : ℕ) → nat_lt 0 (a + b + c) ≡ (nat_lt 0 a || nat_lt 0 b || nat_lt 0 c)
any_of a b c = grind (arith, nat_tests)

-- how many are found in all
count_found : (ready : Ready) (rs ws xs : List ℕ) → AreFound ready rs ws xs → ready.r.count + ready.w.count + ready.x.count ≡ length rs + length ws + length xs
count_found ready rs ws xs h = rw (h.r.count, h.w.count, h.x.count) refl

same_set : (set : FdSet) (n : ℕ) → set.0 ≡ n → set ≡ record { 0 = n }
same_set set n e = rw (← e) refl

sets_found : (k : Kernel) (ready : Ready) (rs ws xs : List ℕ) → AreFound ready rs ws xs → Sets (pos (ready.r.count + ready.w.count + ready.x.count)) ready.r.set ready.w.set ready.x.set ≡ sets_answer k rs ws xs
sets_found k ready rs ws xs h = rw (count_found ready rs ws xs h, same_set _ _ h.r.set, same_set _ _ h.w.set, same_set _ _ h.x.set) refl

-- nothing is found
sets_none : (k : Kernel) → Sets (pos 0) (record { 0 = 0 }) (record { 0 = 0 }) (record { 0 = 0 }) ≡ sets_answer k [] [] []
sets_none k = rw set_with-nil refl

pub any_found : (k : Kernel) (r w x : ℕ) (ready : Ready) (n : ℕ) → AreFound ready (those k (is_readable k) r) (those k (is_writeable k) w) (those k (is_exceptional k) x) → n ≡ ready.r.count + ready.w.count + ready.x.count → nat_lt 0 n ≡ is_any_ready k r w x
any_found k r w x ready n h e =
    rw (e, count_found ready _ _ _ h, any_of, any_counted (is_readable k) (members r), any_counted (is_writeable k) (members w), any_counted (is_exceptional k) (members x)) refl

-- ---- its answer

-- what an attempt says of it
abbrev pub sets_of : Ready → Answer
sets_of ready = Sets (pos (ready.r.count + ready.w.count + ready.x.count)) ready.r.set ready.w.set ready.x.set

module _ (k : Kernel) (r w x : ℕ) (deadline : Option ℕ) (live : are_all_live k r w x ≡ true) where
  select-any : is_any_ready k r w x ≡ true → select_answer k r w x deadline ≡ Some (sets_answer k (those k (is_readable k) r) (those k (is_writeable k) w) (those k (is_exceptional k) x))
  unfolding select_answer
  select-any any = rw (live, any) refl

  select-past : is_any_ready k r w x ≡ false → is_past k deadline ≡ true → select_answer k r w x deadline ≡ Some (sets_answer k [] [] [])
  unfolding select_answer
  select-past none past = rw (live, none, past) refl

  select-waits : is_any_ready k r w x ≡ false → is_past k deadline ≡ false → select_answer k r w x deadline ≡ None
  unfolding select_answer
  select-waits none early = rw (live, none, early) refl

  module _ (ready : Ready) (n : ℕ) (h : AreFound ready (those k (is_readable k) r) (those k (is_writeable k) w) (those k (is_exceptional k) x)) (e : n ≡ ready.r.count + ready.w.count + ready.x.count) where
    some_ready : 0 < n → is_any_ready k r w x ≡ true
    some_ready some = sym (any_found k r w x ready n h e) ∙ grind (arith, nat_tests)

    none_ready : n ≤ 0 → is_any_ready k r w x ≡ false
    none_ready none = sym (any_found k r w x ready n h e) ∙ grind (arith, nat_tests)

    pub answers-ready : 0 < n → Some (sets_of ready) ≡ select_answer k r w x deadline
    answers-ready some = ap Some (sets_found k ready _ _ _ h) ∙ sym (select-any (some_ready some))

    pub answers-past : n ≤ 0 → is_past k deadline ≡ true → Some (Sets (pos 0) (record { 0 = 0 }) (record { 0 = 0 }) (record { 0 = 0 })) ≡ select_answer k r w x deadline
    answers-past none past = ap Some (sets_none k) ∙ sym (select-past (none_ready none) past)

    pub answers-waits : n ≤ 0 → is_past k deadline ≡ false → None ≡ select_answer k r w x deadline
    answers-waits none early = sym (select-waits (none_ready none) early)
