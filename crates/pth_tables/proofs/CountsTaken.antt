-- What is kept for the waits stays that of the trail over a dispatch, and gives the numbers.
use Rattle.std.proofs.Common.{◌≡◌, ◌≢◌, ℕ, ◌+◌, ◌-◌, ◌%◌, ◌^◌, ◌<◌, ◌≤◌, ◌==◌, Bool, true, false, not, ◌&&◌, cond, List, [], ◌∷◌, ◌++◌, length, drop, All, Contains, Option, Some, refl, sym, ap, ◌∙◌, subst, arith, inl, inr, length-append}
use Rattle.std.proofs.lemmas.Bool.{cond-true, cases_order}
use Rattle.std.proofs.lemmas.Bool.Decides.{nat_tests}
use Rattle.std.proofs.lemmas.List.Elements.{All-weaker, All-filter, All-contains, All-contains_itself, All-push, filter_passes}
use Rattle.pth_base.specs.Limits.{thread_limit}
use Rattle.pth_base.proofs.Tables.{same_self, not_same}
use Rattle.pth_model.specs.Standing.{Standing, order, left_by}
use Rattle.pth_model.specs.Allowance.{Point, has_entry, points, standing_of, takes_another, names_another, waited, number_before, grace, new_at_top, beyond, allowed}
use Rattle.pth_tables.specs.declared.waits.Wait.{Wait}
use Rattle.pth_tables.specs.Waits.{WaitsOf, words, one_more, seen_at_top, number_of, waited_by, is_due, reached_all, met, dispatched, is_counting, takes_ready, late_by, allowed_by, allowed_taken}
use Rattle.pth_tables.specs.Counts.{AreSameWord, Lasts, IsCounted, Counts}
use Rattle.pth_tables.proofs.TrailsBefore.{AreSlotsOf, HaveOwnSlots, slot-at}
use Rattle.pth_tables.proofs.TrailsCounted.{has-contained, has-above, found-is, All-from_contained}
use Rattle.pth_tables.proofs.TrailsBeyond.{points-push, waited-push, last-push, new-none, beyond-at, beyond-past}
use Rattle.pth_tables.proofs.TrailsAllowed.{allowed-fits, allowed-near, allowed-is}
use Rattle.pth_tables.proofs.CountsWords.{named-same, seen-same, number-same, more-both, fits-late, by-le, by-lt}
use Rattle.pth_tables.proofs.CountsReached.{OnlyNumbers, only_numbers, not-reached, is-reached}
use Rattle.pth_tables.proofs.CountsKept.{numbered_left, once_left}

either_way : (m n : ℕ) → (m == n) ≡ (n == m)
either_way m n = grind (arith, nat_tests)

-- ---- a thread that is ready

module _ (slot : ℕ → Option ℕ) (x : WaitsOf) (trail : List Point) (s : Standing) (k : IsCounted slot x trail s) where
  waited-at : waited_by k.at x ≡ waited trail s
  waited-at = let since = k.since in let others = k.others in omega arith

  late-at : grace x.top s.rank < length (points s.entry trail) → allowed x.top trail s < words → late_by k.at x ≡ allowed x.top trail s
  late-at far fits =
      ap (λ n. (n + ((x.waits k.at).number + (x.named + x.tops) % words) % words) % words) k.first
      ∙ fits-late (grace x.top s.rank) (x.waits k.at).number (x.named + x.tops) (beyond s (drop (grace x.top s.rank) (points s.entry trail))) (k.later far) (omega (arith, allowed-is x.top s trail, fits))
      ∙ sym (allowed-is x.top s trail)

  allowed-at : allowed x.top trail s < words → allowed_by k.at x ≡ allowed x.top trail s
  allowed-at fits =
      let since = k.since in
      let first = k.first in
      by-le (waited_by k.at x) (x.waits k.at).grace (late_by k.at x) (allowed x.top trail s)
      (λ far. late-at (omega arith) fits)
      (λ near. first ∙ sym (allowed-near x.top s trail (omega arith)))

  -- it is kept at the slot of its thread
  kept-at : (t u : ℕ) → s.tid ≡ t → slot t ≡ Some u → k.at ≡ u
  kept-at t u same own = let e : slot s.tid ≡ Some u = ap slot same ∙ own in let has = k.has_slot in cc

module _ (slot : ℕ → Option ℕ) (x : WaitsOf) (trail : List Point) (ready : List Standing) (entries : ℕ) (c : Counts slot x trail ready entries) (t u : ℕ) (s : Standing) (found : standing_of t ready ≡ Some s) (own : slot t ≡ Some u) where
  found_counted : IsCounted slot x trail s
  found_counted = All-contains (IsCounted slot x trail) ready s c.counted (found-is t ready s found).1

  found_slot : found_counted.at ≡ u
  found_slot = kept-at slot x trail s found_counted t u (found-is t ready s found).0 own

  pub ready_waited : waited_by u x ≡ waited trail s
  ready_waited = subst (λ n. waited_by n x ≡ waited trail s) found_slot (waited-at slot x trail s found_counted)

  pub ready_allowed : grace x.top s.rank ≤ 64 → length trail ≤ 2 ^ 40 → allowed_by u x ≡ allowed x.top trail s
  ready_allowed small short = subst (λ n. allowed_by n x ≡ allowed x.top trail s) found_slot (allowed-at slot x trail s found_counted (allowed-fits x.top s trail c.few small short))

-- ---- a dispatch

-- us: the slots of those that are ready, in order
module _ (slot : ℕ → Option ℕ) (x : WaitsOf) (trail : List Point) (q : Point) (entries : ℕ) (c : Counts slot x trail q.ready entries) (us : List ℕ) (are : AreSlotsOf slot us (order q.ready)) (apart : HaveOwnSlots slot q.ready) where
  on : OnlyNumbers (seen_at_top x) (met us x)
  on = only_numbers 0 us (seen_at_top x)

  -- both totals, with those at Top that the dispatch sees
  abbrev total : ℕ
  total = x.named + (x.tops + x.pending) % words

  abbrev both : ℕ
  both = (met us x).named + (met us x).tops

  same-totals : both ≡ total
  unfolding seen_at_top
  same-totals = ap (λ (z : WaitsOf). z.named + z.tops) on.totals

  same-dispatches : (met us x).dispatches ≡ x.dispatches
  unfolding seen_at_top
  same-dispatches = ap (λ (z : WaitsOf). z.dispatches) on.totals

  same-top : (met us x).top ≡ x.top
  unfolding seen_at_top
  same-top = ap (λ (z : WaitsOf). z.top) on.totals

  none-pending : (met us x).pending ≡ 0
  unfolding seen_at_top
  none-pending = ap (λ (z : WaitsOf). z.pending) on.totals

  same-entered : (u : ℕ) → ((met us x).waits u).entered ≡ (x.waits u).entered
  unfolding seen_at_top
  same-entered u = ap (λ (w : Wait). w.entered) (on.each u)

  still-grace : (u : ℕ) → ((met us x).waits u).grace ≡ (x.waits u).grace
  unfolding seen_at_top
  still-grace u = ap (λ (w : Wait). w.grace) (on.each u)

  still-favoured : (u : ℕ) → ((met us x).waits u).top ≡ (x.waits u).top
  unfolding seen_at_top
  still-favoured u = ap (λ (w : Wait). w.top) (on.each u)

  due-yes : (u : ℕ) → waited_by u x ≡ (x.waits u).grace → is_due (seen_at_top x) u ≡ true
  unfolding seen_at_top
  due-yes u now = rw now (same_self (x.waits u).grace)

  due-no : (u : ℕ) → waited_by u x ≢ (x.waits u).grace → is_due (seen_at_top x) u ≡ false
  unfolding seen_at_top
  due-no u later = not_same (waited_by u x) (x.waits u).grace later

  -- its number stays, and the totals are those after those at Top were seen
  number-stays : (u : ℕ) → waited_by u x ≢ (x.waits u).grace → ((met us x).waits u).number ≡ (x.waits u).number
  unfolding seen_at_top
  number-stays u later = ap (λ (w : Wait). w.number) (not-reached 0 us u (seen_at_top x) (due-no u later))

  number-new : (place : ℕ) → number_of place (seen_at_top x) ≡ (place + (words - total % words)) % words
  unfolding seen_at_top
  number-new place = refl

  module _ (s : Standing) (has : Contains q.ready s) where
    k : IsCounted slot x trail s
    k = All-contains (IsCounted slot x trail) q.ready s c.counted has

    stood : has_entry s.entry q.ready ≡ true
    stood = has-contained s q.ready has

    number-due : waited_by k.at x ≡ (x.waits k.at).grace → ((met us x).waits k.at).number ≡ (number_before s q.ready + (words - total % words)) % words
    number-due now =
        let r = slot-at slot us q.ready entries s k.at c.numbered c.once apart are has k.has_slot in
        ap (λ l. ((reached_all 0 l (seen_at_top x)).waits k.at).number) r.is
        ∙ is-reached 0 r.front k.at r.back (seen_at_top x) r.apart (due-yes k.at now)
        ∙ number-new (0 + length r.front)
        ∙ ap (λ n. (n + (words - total % words)) % words) (let l = r.long in let e : 0 + length r.front ≡ number_before s q.ready = omega arith in e)

    -- what may come before it at the points after its grace, with this dispatch
    abbrev owed : ℕ
    owed = beyond s (drop (grace x.top s.rank) (points s.entry (trail ++ q ∷ [])))

    abbrev number : ℕ
    number = ((met us x).waits k.at).number

    abbrev Owes : ℕ → ℕ → Type 0
    Owes n totals = AreSameWord (n + totals + cond (names_another s q) 1 0) owed

    owes-due : length (points s.entry trail) ≡ grace x.top s.rank → Owes number total
    owes-due now =
        let since = k.since in
        let first = k.first in
        subst (λ n. Owes n total) (sym (number-due (omega arith)))
        (more-both _ _ (cond (names_another s q) 1 0) (number-same (number_before s q.ready) total)
        ∙ ap (λ n. n % words) (sym (beyond-at trail q s (grace x.top s.rank) stood now)))

    owes-later : grace x.top s.rank < length (points s.entry trail) → Owes number total
    owes-later far =
        let since = k.since in
        let first = k.first in
        let last : All (Lasts trail) q.ready = All-weaker (IsCounted slot x trail) (Lasts trail) (λ z k. k.lasts) q.ready c.counted in
        subst (λ n. Owes n total) (sym (number-stays k.at (λ same. omega (arith, same))))
        (more-both _ _ (cond (names_another s q) 1 0) (seen-same (x.waits k.at).number x.named x.tops x.pending _ _ (k.later far) c.pending)
        ∙ ap (λ n. n % words) (sym (beyond-past trail q s (grace x.top s.rank) stood last k.lasts far)))

    -- What is met, with this dispatch by name or not, is what may come before it.
    owes : grace x.top s.rank ≤ length (points s.entry trail) → Owes number both
    owes le = subst (Owes number) (sym same-totals) (elim (cases_order (length (points s.entry trail)) (grace x.top s.rank)) [
      | inl now ↦ owes-due now
      | inr (inl near) ↦ absurd (omega (arith, near, le))
      | inr (inr far) ↦ owes-later far
    ])

    one_point : length (points s.entry (trail ++ q ∷ [])) ≡ length (points s.entry trail) + 1
    one_point = ap length (points-push s.entry trail q stood) ∙ length-append (points s.entry trail) (q ∷ [])

    -- another was taken
    counted-passed : takes_another s q ≡ true → IsCounted slot (dispatched q.by_name (met us x)) (trail ++ q ∷ []) s
    unfolding dispatched
    counted-passed other = record {
      at = k.at;
      has_slot = k.has_slot;
      since = (let since = k.since in let a = same-dispatches in let b = same-entered k.at in let l = one_point in omega arith);
      others = waited-push s trail q stood ∙ rw other (let others = k.others in let l = one_point in omega arith);
      lasts = λ some. ap (has_entry s.entry) (last-push trail q) ∙ stood;
      first = still-grace k.at ∙ k.first ∙ ap (λ n. grace n s.rank) (sym same-top);
      favoured = still-favoured k.at ∙ k.favoured;
      later = subst (λ n. grace n s.rank < length (points s.entry (trail ++ q ∷ [])) → AreSameWord (number + (one_more q.by_name (met us x).named + (met us x).tops)) (beyond s (drop (grace n s.rank) (points s.entry (trail ++ q ∷ []))))) (sym same-top)
          (λ far. named-same q.by_name number (met us x).named (met us x).tops _
          (subst (λ b. AreSameWord (number + both + cond b 1 0) owed) by_name (owes (let l = one_point in omega arith))));
    }
      where
        and_true : (b : Bool) → (b && true) ≡ b
        and_true true = refl
        and_true false = refl

        by_name : (q.by_name && takes_another s q) ≡ q.by_name
        by_name = ap (λ b. q.by_name && b) other ∙ and_true q.by_name

    -- it was taken itself
    module _ (own : s.tid ≡ q.taken) where
      not_another : takes_another s q ≡ false
      not_another = let same : (q.taken == s.tid) ≡ true = rw own (same_self q.taken) in ap not same

      waited-taken : waited_by k.at (met us x) ≡ waited (trail ++ q ∷ []) s
      waited-taken =
          let since = k.since in
          let others = k.others in
          let d = same-dispatches in
          let e = same-entered k.at in
          let w : waited (trail ++ q ∷ []) s ≡ waited trail s + 0 = waited-push s trail q stood ∙ rw not_another in
          omega arith

      no_name : (q.by_name && takes_another s q) ≡ false
      no_name = ap (λ b. q.by_name && b) not_another ∙ and_false q.by_name
        where
          and_false : (b : Bool) → (b && false) ≡ false
          and_false true = refl
          and_false false = refl

      late-taken : grace x.top s.rank ≤ length (points s.entry trail) → allowed x.top (trail ++ q ∷ []) s < words → late_by k.at (met us x) ≡ allowed x.top (trail ++ q ∷ []) s
      late-taken le fits =
          let same : AreSameWord (number + both) owed =
          (let o : AreSameWord (number + both + 0) owed = subst (λ b. AreSameWord (number + both + cond b 1 0) owed) no_name (owes le) in omega (arith, o)) in
          ap (λ n. (n + (number + both % words) % words) % words) (still-grace k.at ∙ k.first)
          ∙ fits-late (grace x.top s.rank) number both owed same (omega (arith, allowed-is x.top s (trail ++ q ∷ []), fits))
          ∙ sym (allowed-is x.top s (trail ++ q ∷ []))

      allowed-taken : allowed x.top (trail ++ q ∷ []) s < words → allowed_taken k.at (met us x) ≡ allowed x.top (trail ++ q ∷ []) s
      allowed-taken fits =
          let since = k.since in
          let first = k.first in
          let d = same-dispatches in
          let e = same-entered k.at in
          let g = still-grace k.at in
          let l = one_point in
          by-lt (waited_by k.at (met us x)) ((met us x).waits k.at).grace (late_by k.at (met us x)) (allowed x.top (trail ++ q ∷ []) s)
          (λ far. late-taken (omega arith) fits)
          (λ near. g ∙ first ∙ sym (allowed-near x.top s (trail ++ q ∷ []) (omega arith)))

  -- ---- the thread that is taken

  module _ (s : Standing) (found : standing_of q.taken q.ready ≡ Some s) where
    is_ready : Contains q.ready s
    is_ready = (found-is q.taken q.ready s found).1

    is_taken : s.tid ≡ q.taken
    is_taken = (found-is q.taken q.ready s found).0

    taken_slot : (u : ℕ) → slot q.taken ≡ Some u → (k s is_ready).at ≡ u
    taken_slot u own = kept-at slot x trail s (k s is_ready) q.taken u is_taken own

    pub taken_waited : (u : ℕ) → slot q.taken ≡ Some u → waited_by u (met us x) ≡ waited (trail ++ q ∷ []) s
    taken_waited u own = subst (λ n. waited_by n (met us x) ≡ waited (trail ++ q ∷ []) s) (taken_slot u own) (waited-taken s is_ready is_taken)

    module _ (short : length q.ready ≤ thread_limit) where
      few_more : All (λ p. length p.ready ≤ thread_limit) (trail ++ q ∷ [])
      few_more = All-push (λ p. length p.ready ≤ thread_limit) trail q c.few short

      pub taken_allowed : (u : ℕ) → slot q.taken ≡ Some u → grace x.top s.rank ≤ 64 → length trail < 2 ^ 40 → allowed_taken u (met us x) ≡ allowed x.top (trail ++ q ∷ []) s
      taken_allowed u own small low =
          subst (λ n. allowed_taken n (met us x) ≡ allowed x.top (trail ++ q ∷ []) s) (taken_slot u own)
          (allowed-taken s is_ready is_taken (allowed-fits x.top s (trail ++ q ∷ []) few_more small (omega (arith, length-append trail (q ∷ [])))))

      -- who stays was passed
      passed : (z : Standing) → Contains q.ready z → not (z.tid == q.taken) ≡ true → takes_another z q ≡ true
      passed z h stays = ap not (either_way q.taken z.tid) ∙ stays

      counts-dispatched : Counts slot (dispatched q.by_name (met us x)) (trail ++ q ∷ []) (left_by q.taken q.ready) entries
      unfolding dispatched
      counts-dispatched = record {
        numbered = numbered_left entries q.taken q.ready c.numbered;
        once = once_left q.taken s q.ready found c.once;
        past = λ e le. All-push (λ p. has_entry e p.ready ≡ false) trail q (c.past e le) (has-above e entries q.ready le c.numbered.counted);
        dispatches = (let d = same-dispatches in let e = c.dispatches in omega (arith, length-append trail (q ∷ [])));
        pending = ap (λ n. n % words) (none-pending ∙ sym (ap (λ l. new_at_top l (left_by q.taken q.ready)) (last-push trail q) ∙ none_new));
        counted = λ i d low. counted-passed _ (stays i d low).0 (passed _ (stays i d low).0 (stays i d low).1);
        few = few_more;
      }
        where
          none_new : new_at_top q.ready (left_by q.taken q.ready) ≡ 0
          none_new = new-none q.ready (left_by q.taken q.ready) (All-filter (λ z. not (z.tid == q.taken)) (λ z. has_entry z.entry q.ready ≡ true) q.ready (All-from_contained (λ z. has_entry z.entry q.ready ≡ true) q.ready (λ z h. has-contained z q.ready h)))

          stays : All (λ z. Contains q.ready z × (not (z.tid == q.taken) ≡ true)) (left_by q.taken q.ready)
          stays = λ i d low. (All-filter (λ z. not (z.tid == q.taken)) (Contains q.ready) q.ready (All-contains_itself q.ready) i d low, filter_passes (λ z. not (z.tid == q.taken)) q.ready i d low)

      pub counts_taken : is_counting x ≡ true → Counts slot (takes_ready q.by_name us x) (trail ++ q ∷ []) (left_by q.taken q.ready) entries
      unfolding takes_ready
      counts_taken counting = subst (λ (z : WaitsOf). Counts slot z (trail ++ q ∷ []) (left_by q.taken q.ready) entries) (sym (cond-true (is_counting x) (dispatched q.by_name (met us x)) x counting)) counts-dispatched
