-- A mark is exclusive if what it does is fair, and only then.
use Rattle.std.proofs.Common.{◌≡◌, ◌≢◌, ℕ, ◌+◌, ◌-◌, ◌==◌, ◌<◌, ◌||◌, Bool, true, false, if◌then◌else◌, ℤ, pos, negsuc, List, [], ◌∷◌, ◌++◌, fold, refl, sym, ◌∙◌, ap, subst}
use Rattle.std.specs.BTreeMap.{get}
use Rattle.std.specs.Ordering.{int_cmp}
use Rattle.std.proofs.lemmas.List.Sums.{fold-append}
use Rattle.std.proofs.lemmas.Bool.{true≢false, and_parts}
use Rattle.pth_base.specs.declared.mark.Mark.{Mark}
use Rattle.pth_base.proofs.Tables.{same_self, same_means}
use Rattle.pth_laws.specs.Exclusive.{is_of, awaits, awaits_after, takes_level, gives, gives_up, enters, leaves, levels, writes, reads, held_after, Share, share_after, IsExclusiveAt}
use Rattle.pth_laws.specs.Marks.{is_same, is_end_of}
use Rattle.pth_laws.proofs.Numbers.{same_number}
use Rattle.pth_audit.specs.declared.holds.Effect.{Effect}
use Rattle.pth_audit.specs.declared.holds.Effect.TheVariants as effect
use Rattle.pth_audit.specs.declared.holds.Holds.{Holds}
use Rattle.pth_audit.specs.Holds.{effect_of, step_of, takes_by, gives_by, gives_up_by, enters_by, leaves_by, levels_by, held_by, awaits_by, has_awaited, has_levels, has_written, has_read, levels_of, is_writer, reads_under, FollowsHolds, IsFair, IsDone}
use Rattle.pth_audit.proofs.HoldsEffects.{ends_by, takes_is, gives_is, gives_up_is, enters_is, leaves_is, ends_is, awaits_is}

same_int : (i : ℤ) → is_same i i ≡ true
same_int (pos n) = same_self n
same_int (negsuc n) = same_self n

own : (t : ℕ) (i : ℤ) → is_of t i t i ≡ true
own t i = rw (same_int i) (same_self t)

-- a mark of u and k is one of t and i only if these are the same
same_both : (P : ℕ → ℤ → Type 0) (t u : ℕ) (i k : ℤ) → is_of t i u k ≡ true → P u k → P t i
same_both P t u i k h x = (let (same, is) = and_parts (is_same i k) (u == t) h in subst (λ (v : ℕ). P v i) (same_means u t is) (subst (λ (j : ℤ). P u j) (sym (same_number i k same)) x))

module _ (h : Holds) where
  -- the sentences of the law, of an effect
  record Said (d : Effect) : Type 0 where
    taker_is_alone : (t u : ℕ) (i : ℤ) → takes_by d t i ≡ true → u ≢ t → has_levels h u i ≡ 0
    giver_has_level : (t : ℕ) (i : ℤ) → gives_by d t i ≡ true → 0 < has_levels h t i
    given_up_was_had : (t : ℕ) (i : ℤ) → gives_up_by d t i ≡ true → 0 < has_levels h t i
    meets_no_writer : (t u : ℕ) (l : ℤ) (write : Bool) → enters_by d t l write ≡ true → has_written h u l ≡ false
    writer_meets_no_reader : (t u : ℕ) (l : ℤ) → enters_by d t l true ≡ true → has_read h u l ≡ false
    leaver_holds : (t : ℕ) (l : ℤ) → leaves_by d t l ≡ true → (has_written h t l || has_read h t l) ≡ true
    end_has_no_level : (t : ℕ) (i : ℤ) → ends_by d t ≡ true → has_levels h t i ≡ 0
    end_holds_no_lock : (t : ℕ) (l : ℤ) → ends_by d t ≡ true → (has_written h t l || has_read h t l) ≡ false

  fair_if_said : (d : Effect) → Said d → IsFair h d
  fair_if_said effect.Nothing s = tt
  fair_if_said (effect.Takes t i) s = λ u apart. s.taker_is_alone t u i (own t i) apart
  fair_if_said (effect.Gives t i) s = s.giver_has_level t i (own t i)
  fair_if_said (effect.GivesUp t i) s = s.given_up_was_had t i (own t i)
  fair_if_said (effect.Enters t l true) s = (λ u. s.meets_no_writer t u l true (own t l), λ u. s.writer_meets_no_reader t u l (own t l))
  fair_if_said (effect.Enters t l false) s = λ u. s.meets_no_writer t u l false (own t l)
  fair_if_said (effect.Leaves t l) s = s.leaver_holds t l (own t l)
  fair_if_said (effect.Ends t) s = (λ i. s.end_has_no_level t i (same_self t), λ l. s.end_holds_no_lock t l (same_self t))

  none : {A : Type 0} → false ≡ true → A
  none e = absurd (true≢false (sym e))

  said_if_fair : (d : Effect) → IsFair h d → Said d
  said_if_fair d fair = record {
    taker_is_alone = taker d fair;
    giver_has_level = giver d fair;
    given_up_was_had = giver_up d fair;
    meets_no_writer = entrant d fair;
    writer_meets_no_reader = writer d fair;
    leaver_holds = leaver d fair;
    end_has_no_level = end_level d fair;
    end_holds_no_lock = end_lock d fair;
  }
    where
      taker : (d : Effect) → IsFair h d → (t u : ℕ) (i : ℤ) → takes_by d t i ≡ true → u ≢ t → has_levels h u i ≡ 0
      taker (effect.Takes v k) fair t u i e apart = same_both (λ v k. u ≢ v → has_levels h u k ≡ 0) t v i k e (fair u) apart
      taker d fair t u i e apart = none e

      giver : (d : Effect) → IsFair h d → (t : ℕ) (i : ℤ) → gives_by d t i ≡ true → 0 < has_levels h t i
      giver (effect.Gives v k) fair t i e = same_both (λ v k. 0 < has_levels h v k) t v i k e fair
      giver d fair t i e = none e

      giver_up : (d : Effect) → IsFair h d → (t : ℕ) (i : ℤ) → gives_up_by d t i ≡ true → 0 < has_levels h t i
      giver_up (effect.GivesUp v k) fair t i e = same_both (λ v k. 0 < has_levels h v k) t v i k e fair
      giver_up d fair t i e = none e

      entrant : (d : Effect) → IsFair h d → (t u : ℕ) (l : ℤ) (write : Bool) → enters_by d t l write ≡ true → has_written h u l ≡ false
      entrant (effect.Enters v k true) fair t u l true e = same_both (λ v k. has_written h u k ≡ false) t v l k e (fair.0 u)
      entrant (effect.Enters v k false) fair t u l false e = same_both (λ v k. has_written h u k ≡ false) t v l k e (fair u)
      entrant d fair t u l write e = none e

      writer : (d : Effect) → IsFair h d → (t u : ℕ) (l : ℤ) → enters_by d t l true ≡ true → has_read h u l ≡ false
      writer (effect.Enters v k true) fair t u l e = same_both (λ v k. has_read h u k ≡ false) t v l k e (fair.1 u)
      writer d fair t u l e = none e

      leaver : (d : Effect) → IsFair h d → (t : ℕ) (l : ℤ) → leaves_by d t l ≡ true → (has_written h t l || has_read h t l) ≡ true
      leaver (effect.Leaves v k) fair t l e = same_both (λ v k. (has_written h v k || has_read h v k) ≡ true) t v l k e fair
      leaver d fair t l e = none e

      end_level : (d : Effect) → IsFair h d → (t : ℕ) (i : ℤ) → ends_by d t ≡ true → has_levels h t i ≡ 0
      end_level (effect.Ends v) fair t i e = subst (λ (u : ℕ). has_levels h u i ≡ 0) (same_means v t e) (fair.0 i)
      end_level d fair t i e = none e

      end_lock : (d : Effect) → IsFair h d → (t : ℕ) (l : ℤ) → ends_by d t ≡ true → (has_written h t l || has_read h t l) ≡ false
      end_lock (effect.Ends v) fair t l e = subst (λ (u : ℕ). (has_written h u l || has_read h u l) ≡ false) (same_means v t e) (fair.1 l)
      end_lock d fair t l e = none e

  module _ (marks : List Mark) (f : FollowsHolds h marks) (m : Mark) where
    abbrev done : Effect
    done = effect_of (has_awaited h) m

    taken : (t : ℕ) (i : ℤ) → takes_level t i (awaits t marks) m ≡ takes_by done t i
    taken t i = ap (λ (b : Bool). takes_level t i b m) (sym (f.awaits t)) ∙ takes_is (has_awaited h) m t i

    given : (t : ℕ) (i : ℤ) → gives t i (awaits t marks) m ≡ gives_by done t i
    given t i = ap (λ (b : Bool). gives t i b m) (sym (f.awaits t)) ∙ gives_is (has_awaited h) m t i

    given_up : (t : ℕ) (i : ℤ) → gives_up t i m ≡ gives_up_by done t i
    given_up t i = gives_up_is (has_awaited h) m t i

    entered : (t : ℕ) (l : ℤ) (write : Bool) → enters t l write m ≡ enters_by done t l write
    entered t l write = enters_is (has_awaited h) m t l write

    left : (t : ℕ) (l : ℤ) → leaves t l m ≡ leaves_by done t l
    left t l = leaves_is (has_awaited h) m t l

    over : (t : ℕ) → is_end_of t m ≡ ends_by done t
    over t = ends_is (has_awaited h) m t

    held : (t : ℕ) (l : ℤ) → (has_written h t l || has_read h t l) ≡ (writes t l marks || reads t l marks)
    held t l = ap (λ (b : Bool). b || has_read h t l) (f.writes t l) ∙ ap (λ (b : Bool). writes t l marks || b) (f.reads t l)

    said_of_effect : IsExclusiveAt marks m → Said done
    said_of_effect s = record {
      taker_is_alone = λ t u i e apart. f.levels u i ∙ s.taker_is_alone t u i (taken t i ∙ e) apart;
      giver_has_level = λ t i e. subst (λ (n : ℕ). 0 < n) (sym (f.levels t i)) (s.giver_has_level t i (given t i ∙ e));
      given_up_was_had = λ t i e. subst (λ (n : ℕ). 0 < n) (sym (f.levels t i)) (s.given_up_was_had t i (given_up t i ∙ e));
      meets_no_writer = λ t u l write e. f.writes u l ∙ s.meets_no_writer t u l write (entered t l write ∙ e);
      writer_meets_no_reader = λ t u l e. f.reads u l ∙ s.writer_meets_no_reader t u l (entered t l true ∙ e);
      leaver_holds = λ t l e. held t l ∙ s.leaver_holds t l (left t l ∙ e);
      end_has_no_level = λ t i e. f.levels t i ∙ s.end_has_no_level t i (over t ∙ e);
      end_holds_no_lock = λ t l e. held t l ∙ s.end_holds_no_lock t l (over t ∙ e);
    }

    said_of_mark : Said done → IsExclusiveAt marks m
    said_of_mark s = record {
      taker_is_alone = λ t u i e apart. sym (f.levels u i) ∙ s.taker_is_alone t u i (sym (taken t i) ∙ e) apart;
      giver_has_level = λ t i e. subst (λ (n : ℕ). 0 < n) (f.levels t i) (s.giver_has_level t i (sym (given t i) ∙ e));
      given_up_was_had = λ t i e. subst (λ (n : ℕ). 0 < n) (f.levels t i) (s.given_up_was_had t i (sym (given_up t i) ∙ e));
      meets_no_writer = λ t u l write e. sym (f.writes u l) ∙ s.meets_no_writer t u l write (sym (entered t l write) ∙ e);
      writer_meets_no_reader = λ t u l e. sym (f.reads u l) ∙ s.writer_meets_no_reader t u l (sym (entered t l true) ∙ e);
      leaver_holds = λ t l e. sym (held t l) ∙ s.leaver_holds t l (sym (left t l) ∙ e);
      end_has_no_level = λ t i e. sym (f.levels t i) ∙ s.end_has_no_level t i (sym (over t) ∙ e);
      end_holds_no_lock = λ t l e. sym (held t l) ∙ s.end_holds_no_lock t l (sym (over t) ∙ e);
    }

    pub fair_mark : IsExclusiveAt marks m → IsFair h done
    fair_mark s = fair_if_said done (said_of_effect s)

    pub exclusive_effect : IsFair h done → IsExclusiveAt marks m
    exclusive_effect fair = said_of_mark (said_if_fair done fair)

    -- ---- the mark is met

    awaiting_from : (t : ℕ) (i : ℤ) (x : Share) (ms : List Mark) → (fold (share_after t i) x ms).awaiting ≡ fold (awaits_after t) x.awaiting ms
    awaiting_from t i x [] = refl
    awaiting_from t i x (n ∷ ms) = awaiting_from t i (share_after t i x n) ms

    abbrev nothing : Share
    nothing = record { had = 0; awaiting = false }

    abbrev step : (a b c : Bool) (n : ℕ) → ℕ
    step a b c n = if a then 0 else (if b then n + 1 else (if c then n - 1 else n))

    levels_more : (t : ℕ) (i : ℤ) → levels t i (marks ++ m ∷ []) ≡ step (gives_up t i m) (takes_level t i (awaits t marks) m) (gives t i (awaits t marks) m) (levels t i marks)
    levels_more t i =
        ap (λ (x : Share). x.had) (fold-append (share_after t i) nothing marks (m ∷ []))
        ∙ ap (λ (b : Bool). step (gives_up t i m) (takes_level t i b m) (gives t i b m) (levels t i marks)) (awaiting_from t i nothing marks)

    step_same : (t : ℕ) (i : ℤ) → levels_by done t i (has_levels h t i) ≡ step (gives_up t i m) (takes_level t i (awaits t marks) m) (gives t i (awaits t marks) m) (levels t i marks)
    step_same t i =
        ap (λ (n : ℕ). levels_by done t i n) (f.levels t i)
        ∙ ap (λ (a : Bool). step a (takes_by done t i) (gives_by done t i) (levels t i marks)) (sym (given_up t i))
        ∙ ap (λ (b : Bool). step (gives_up t i m) b (gives_by done t i) (levels t i marks)) (sym (taken t i))
        ∙ ap (λ (c : Bool). step (gives_up t i m) (takes_level t i (awaits t marks) m) c (levels t i marks)) (sym (given t i))

    held_same : (t : ℕ) (l : ℤ) (write held_now : Bool) → held_by done t l write held_now ≡ held_after t l write held_now m
    held_same t l write held_now =
        ap (λ (a : Bool). if a then true else (if leaves_by done t l then false else held_now)) (sym (entered t l write))
        ∙ ap (λ (a : Bool). if enters t l write m then true else (if a then false else held_now)) (sym (left t l))

    -- the effect is done, and then who awaits is told
    pub follows_more : (mid new : Holds) → IsDone h mid done → new.owners ≡ mid.owners → new.writers ≡ mid.writers → new.readers ≡ mid.readers
        → ((t : ℕ) → has_awaited new t ≡ awaits_by (step_of m) t (has_awaited mid t)) → FollowsHolds new (marks ++ m ∷ [])
    follows_more mid new did owners writers readers told = record {
      awaits = λ t. told t ∙ ap (λ (b : Bool). awaits_by (step_of m) t b) (did.awaits t ∙ f.awaits t) ∙ awaits_is m t (awaits t marks) ∙ sym (fold-append (awaits_after t) false marks (m ∷ []));
      levels = λ t i. ap (λ o. levels_of t (get int_cmp o i)) owners ∙ did.levels t i ∙ step_same t i ∙ sym (levels_more t i);
      writes = λ t l. ap (λ w. is_writer t (get int_cmp w l)) writers ∙ did.writes t l ∙ ap (λ (b : Bool). held_by done t l true b) (f.writes t l) ∙ held_same t l true (writes t l marks) ∙ sym (fold-append (held_after t l true) false marks (m ∷ []));
      reads = λ t l. ap (λ r. reads_under r t l) readers ∙ did.reads t l ∙ ap (λ (b : Bool). held_by done t l false b) (f.reads t l) ∙ held_same t l false (reads t l marks) ∙ sym (fold-append (held_after t l false) false marks (m ∷ []));
    }
