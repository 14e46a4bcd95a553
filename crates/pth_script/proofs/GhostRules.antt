-- The rules that a draft of a kernel has, found without the code.
use Rattle.std.proofs.Common.{◌≡◌, ◌≤◌, ◌<◌, ◌+◌, ◌*◌, ◌%◌, ◌^◌, min, ℕ, ◌==◌, ◌||◌, ◌&&◌, nat_le, nat_lt, Bool, true, false, List, [], ◌∷◌, ◌++◌, length, None, refl, ap, sym, subst, ◌∙◌, arith, bit_or, w64}
use Rattle.std.specs.Prelude.{reverse}
use Rattle.std.proofs.Math.Bool.{or-true, or-false, and-false}
use Rattle.std.proofs.lemmas.Bool.Decides.{nat_tests}
use Rattle.std.proofs.lemmas.List.{reverse-append}
use Rattle.std.proofs.lemmas.Nat.Bits.{bit_at_set_same, bit_at_set_other}
use Rattle.pth_base.specs.Descriptors.{contains}
use Rattle.pth_base.specs.declared.ids.Fd.{Fd}
use Rattle.pth_base.proofs.Tables.{same_means, same_fails}
use Rattle.pth_kernel.specs.declared.rules.Rules.{Rules}
use Rattle.pth_kernel.specs.declared.trace.Entry.{Entry}
use Rattle.pth_kernel.specs.declared.trace.Entry.TheVariants as entry
use Rattle.pth_kernel.specs.declared.trace.Stamp.{Stamp}
use Rattle.pth_kernel.specs.Rules.{Knows, KnowsTrace}
use Rattle.pth_kernel.specs.Trace.{latest_time, is_misshapen, is_out_of_range, is_before_last, breaks_fd, is_full_of_stamps, faults}
use Rattle.pth_script.specs.KernelDrafts.{IsKernelInOrder}
use Rattle.pth_script.specs.declared.kernel_draft.KernelDraft.{KernelDraft}
use Rattle.pth_script.proofs.Starting.{IsBlank}
use Rattle.pth_script.proofs.TakingParts.{with_descriptor, with_stamp}
use Rattle.std.proofs.Math.Pow.{pow_mono}
use Rattle.std.proofs.lemmas.Grind.{pow_more}
use Rattle.pth_kernel.proofs.Knowing.{knows-nil, knows-plain, first_fault_below-nil, stays_faultless}

-- ---- a set with one more

with_bit : (set f g : ℕ) → f < 64 → (same : Bool) → (f == g) ≡ same → contains (bit_or set (1 * 2 ^ f % 2 ^ 64)) g ≡ (contains set g || same)
with_bit set f g low true e = subst (λ (k : ℕ). contains (bit_or set (1 * 2 ^ f % 2 ^ 64)) k ≡ true) (same_means f g e) (ap (λ (n : ℕ). n == 1) (bit_at_set_same w64 set f low)) ∙ sym (or-true (contains set g))
with_bit set f g low false e = ap (λ (n : ℕ). n == 1) (bit_at_set_other w64 set f low g (λ h. same_fails f g e (sym h))) ∙ sym (or-false (contains set g))

abbrev with_one : ℕ → ℕ → ℕ
with_one set f = bit_or set (1 * 2 ^ f % 2 ^ 64)

known_more : (set live f g : ℕ) (any : Bool) → f < 64 → contains set g ≡ (contains live g || any) → contains (with_one set f) g ≡ (contains live g || ((f == g) || any))
known_more set live f g any low is = with_bit set f g low (f == g) refl ∙ ap (λ b. b || (f == g)) is ∙ swapped (contains live g) any (f == g)
  where
    swapped : (a b c : Bool) → ((a || b) || c) ≡ (a || (c || b))
    swapped true b c = refl
    swapped false true true = refl
    swapped false true false = refl
    swapped false false true = refl
    swapped false false false = refl

ended_more : (set f g : ℕ) (any : Bool) → f < 64 → contains set g ≡ any → contains (with_one set f) g ≡ (((f == g) && true) || any)
ended_more set f g any low is = with_bit set f g low (f == g) refl ∙ ap (λ b. b || (f == g)) is ∙ swapped any (f == g)
  where
    swapped : (b c : Bool) → (b || c) ≡ ((c && true) || b)
    swapped true true = refl
    swapped true false = refl
    swapped false true = refl
    swapped false false = refl

-- ---- a stamp that breaks no rule

first_of : (a b c d : Bool) → (a || b || c || d) ≡ false → a ≡ false
first_of true b c d h = absurd (cc)
first_of false b c d h = refl

last_of : (a b c : Bool) → (a || b || c) ≡ false → (b ≡ false) × (c ≡ false)
last_of true b c h = absurd (cc)
last_of false true c h = absurd (cc)
last_of false false true h = absurd (cc)
last_of false false false h = (refl, refl)

low : (n : ℕ) → nat_le 64 n ≡ false → n < 64
low n h = grind (arith, nat_tests)

module _ (old : Rules) (live : ℕ) (above : List Stamp) (at : ℕ) (fd : Fd) (knows : Knows old live above) where
  abbrev stamp : Entry → Stamp
  stamp what = record { at = at; fd = fd; what = what }

  abbrev IsFine : Entry → Type 0
  IsFine what = faults live above (stamp what) ≡ false

  abbrev GoesOn : Entry → Type 0
  GoesOn what = (new : Rules) × Knows new live (stamp what ∷ above)

  range : (what : Entry) → IsFine what → (nat_le 64 fd.0 ≡ false) × (is_misshapen what ≡ false)
  range what fine = last_of (nat_lt latest_time at) (nat_le 64 fd.0) (is_misshapen what) (first_of (is_out_of_range (stamp what)) (is_before_last above at) (breaks_fd live above (stamp what)) (is_full_of_stamps above) fine)

  plain : (what : Entry) → ((g : Fd) → what ≡ entry.Conn g → ⊥) → (what ≡ entry.Eof → ⊥) → IsFine what → GoesOn what
  plain what no_conn no_eof fine =
      let count = min (old.count + 1) 18446744073709551615 in
      (record { last = at; known = old.known; ended = old.ended; count = count }, knows-plain old live above (stamp what) count no_conn no_eof refl knows fine)

  go_on : (what : Entry) → IsFine what → GoesOn what
  go_on (entry.Conn g) fine = (
    record { last = at; known = record { 0 = with_one old.known.0 g.0 }; ended = old.ended; count = length (stamp (entry.Conn g) ∷ above) },
    record {
      last = λ t. refl;
      known = λ f. known_more old.known.0 live g.0 f _ (low g.0 (range (entry.Conn g) fine).1) (knows.known f);
      ended = λ f. rw and-false (knows.ended f);
      count = refl;
    },
  )
  go_on entry.Eof fine = (
    record { last = at; known = old.known; ended = record { 0 = with_one old.ended.0 fd.0 }; count = length (stamp entry.Eof ∷ above) },
    record {
      last = λ t. refl;
      known = knows.known;
      ended = λ f. ended_more old.ended.0 fd.0 f _ (low fd.0 (range entry.Eof fine).0) (knows.ended f);
      count = refl;
    },
  )
  go_on (entry.Arrive bytes) fine = plain _ (λ g e. absurd (cc)) (λ e. absurd (cc)) fine
  go_on (entry.Room n) fine = plain _ (λ g e. absurd (cc)) (λ e. absurd (cc)) fine
  go_on entry.Up fine = plain _ (λ g e. absurd (cc)) (λ e. absurd (cc)) fine
  go_on entry.Refuse fine = plain _ (λ g e. absurd (cc)) (λ e. absurd (cc)) fine
  go_on entry.Exc fine = plain _ (λ g e. absurd (cc)) (λ e. absurd (cc)) fine
  go_on entry.Fault fine = plain _ (λ g e. absurd (cc)) (λ e. absurd (cc)) fine

following : (old : Rules) (live : ℕ) (trace : List Stamp) (s : Stamp) → KnowsTrace old live trace → faults live (reverse trace) s ≡ false → (new : Rules) × KnowsTrace new live (trace ++ s ∷ [])
following old live trace s k fine =
    let next = go_on old live (reverse trace) s.at s.fd k.knows s.what fine in
    (next.0, record { knows = subst (λ above. Knows next.0 live above) (sym (reverse-append trace (s ∷ []))) next.1; faultless = stays_faultless trace s live k.faultless fine })

-- ---- drafts

fresh : (live : ℕ) → (rules : Rules) × KnowsTrace rules live []
fresh live = (record { last = 0; known = record { 0 = live }; ended = record { 0 = 0 }; count = 0 }, record { knows = knows-nil (record { 0 = live }); faultless = first_fault_below-nil live [] })

pub blank : (k : KernelDraft) × IsBlank k
blank =
    let rules = fresh 0 in (
      record { clock = None; next_open = 0; live = record { 0 = 0 }; trace = []; rules = rules.0 },
      record { clock = refl; next_open = refl; live = refl; trace = refl; kept = record { slow = tt; opens_within = omega arith; opens_below = omega arith; knows = rules.1 } },
    )

module _ (k : KernelDraft) (order : IsKernelInOrder k) where
  pub opens : (f : ℕ) → k.next_open ≤ f → f + 1 ≤ 64 → k.trace ≡ [] → (rules : Rules) × IsKernelInOrder (with_descriptor k f rules)
  opens f rises low nothing =
      let rules = fresh (k.live.0 + 2 ^ f) in
      (rules.0, record { slow = order.slow; opens_within = low; opens_below = omega (arith, order.opens_below, pow_mono rises, pow_more 2 f); knows = subst (λ t. KnowsTrace rules.0 (k.live.0 + 2 ^ f) t) (sym nothing) rules.1 })

  pub stamps : (x : Stamp) → faults k.live.0 (reverse k.trace) x ≡ false → (rules : Rules) × IsKernelInOrder (with_stamp k x rules)
  stamps x fine =
      let rules = following k.rules k.live.0 k.trace x order.knows fine in
      (rules.0, record { slow = order.slow; opens_within = order.opens_within; opens_below = order.opens_below; knows = rules.1 })
