-- What is known of the stamps above, with one more, and how a walk down a trace goes on.
use Rattle.std.proofs.Common.{◌≡◌, ◌<◌, ◌≤◌, ◌+◌, ◌^◌, ℕ, suc, min, ◌==◌, ◌||◌, nat_le, Bool, true, false, List, [], ◌∷◌, ◌++◌, length, reverse, take, drop, get_or, Some, None, refl, sym, ◌∙◌, ap, subst, add-one, arith}
use Rattle.std.proofs.Math.Bool.{or-false, and-false}
use Rattle.std.proofs.Math.Seq.{take-suc, drop-cons}
use Rattle.std.proofs.lemmas.Bool.Decides.{nat_tests}
use Rattle.std.proofs.lemmas.List.{append-nil, append_assoc, reverse-append, length-reverse, length-take-le, drop_all}
use Rattle.std.proofs.lemmas.Grind.{reverse_onto}
use Rattle.std.proofs.lemmas.Nat.Bits.{bit_at_above, bit_at-zero}
use Rattle.pth_base.specs.Descriptors.{contains}
use Rattle.pth_base.specs.declared.ids.Fd.{Fd}
use Rattle.pth_base.specs.declared.ids.FdSet.{FdSet}
use Rattle.pth_kernel.specs.declared.rules.Rules.{Rules}
use Rattle.pth_kernel.specs.declared.trace.Entry.{Entry}
use Rattle.pth_kernel.specs.declared.trace.Entry.TheVariants as entry
use Rattle.pth_kernel.specs.declared.trace.Stamp.{Stamp}
use Rattle.pth_kernel.specs.Entries.{connection_brought, is_eof}
use Rattle.pth_kernel.specs.Trace.{is_out_of_range, is_before_last, breaks_fd, is_full_of_stamps, faults, first_fault_below}
use Rattle.pth_kernel.specs.Rules.{Knows, StaysFaultless}

-- ---- tests

-- the first of two is true, or the second says
pub or_then : (a b r v : Bool) → r ≡ a → r ≡ true → v ≡ r → v ≡ (a || b)
or_then true b r v is holds same = same ∙ holds
or_then false b r v is holds same = cc

pub or_else : (a b r v w : Bool) → r ≡ a → r ≡ false → v ≡ w → w ≡ b → v ≡ (a || b)
or_else true b r v w is fails same rest = cc
or_else false b r v w is fails same rest = same ∙ rest

-- no descriptor past the last one is in a set
pub contains-past : (set f : ℕ) → set < 2 ^ 64 → 64 ≤ f → contains set f ≡ false
contains-past set f small high = ap (λ (n : ℕ). n == 1) (bit_at_above set 64 f small high)

-- ---- the stamps above

-- nothing stands above the first one
pub knows-nil : (live : FdSet) → Knows (record { last = 0; known = live; ended = record { 0 = 0 }; count = 0 }) live.0 []
knows-nil live = record {
  last = λ at. grind (arith, nat_tests);
  known = λ f. sym (or-false (contains live.0 f));
  ended = λ f. ap (λ (n : ℕ). n == 1) (bit_at-zero f);
  count = refl;
}

no_connection : (e : Entry) → ((g : Fd) → e ≡ entry.Conn g → ⊥) → connection_brought e ≡ None
no_connection (entry.Arrive bytes) other = refl
no_connection entry.Eof other = refl
no_connection (entry.Room n) other = refl
no_connection (entry.Conn g) other = absurd (other g refl)
no_connection entry.Up other = refl
no_connection entry.Refuse other = refl
no_connection entry.Exc other = refl
no_connection entry.Fault other = refl

no_end : (e : Entry) → (e ≡ entry.Eof → ⊥) → is_eof e ≡ false
no_end (entry.Arrive bytes) other = refl
no_end entry.Eof other = absurd (other refl)
no_end (entry.Room n) other = refl
no_end (entry.Conn g) other = refl
no_end entry.Up other = refl
no_end entry.Refuse other = refl
no_end entry.Exc other = refl
no_end entry.Fault other = refl

or_none : (a b : Bool) → (a || b) ≡ false → (a ≡ false) × (b ≡ false)
or_none true b h = cc
or_none false b h = (refl, h)

-- where a stamp breaks no rule there is room for it
few_above : (live : ℕ) (above : List Stamp) (s : Stamp) → faults live above s ≡ false → length above < 65536
few_above live above s fine = let short : nat_le 65536 (length above) ≡ false = (or_none (is_out_of_range s || is_before_last above s.at || breaks_fd live above s) (is_full_of_stamps above) fine).1 in grind (arith, nat_tests)

next_count : (old n new : ℕ) → n < 65536 → old ≡ n → new ≡ min (old + 1) 18446744073709551615 → new ≡ suc n
next_count old n new few same is = omega arith

-- an entry that neither brings a connection nor ends the input changes nothing but the time and the count
pub knows-plain : (old : Rules) (live : ℕ) (above : List Stamp) (s : Stamp) (n : ℕ) → ((g : Fd) → s.what ≡ entry.Conn g → ⊥) → (s.what ≡ entry.Eof → ⊥) → n ≡ min (old.count + 1) 18446744073709551615 → Knows old live above → faults live above s ≡ false → Knows (record { last = s.at; known = old.known; ended = old.ended; count = n }) live (s ∷ above)
knows-plain old live above s n no_conn no_eof counted k fine = record {
  last = λ at. refl;
  known = λ f. rw (no_connection s.what no_conn) (k.known f);
  ended = λ f. rw (no_end s.what no_eof, and-false) (k.ended f);
  count = next_count old.count (length above) n (few_above live above s fine) k.count counted;
}

-- ---- the first stamp that breaks a rule

first_fault_below-fault : (live : ℕ) (above : List Stamp) (s : Stamp) (ss : List Stamp) → faults live above s ≡ true → first_fault_below live above (s ∷ ss) ≡ Some (length above)
unfolding first_fault_below
first_fault_below-fault live above s ss broken = rw broken refl

first_fault_below-step : (live : ℕ) (above : List Stamp) (s : Stamp) (ss : List Stamp) → faults live above s ≡ false → first_fault_below live above (s ∷ ss) ≡ first_fault_below live (s ∷ above) ss
unfolding first_fault_below
first_fault_below-step live above s ss fine = rw fine refl

pub first_fault_below-nil : (live : ℕ) (above : List Stamp) → first_fault_below live above [] ≡ None
unfolding first_fault_below
first_fault_below-nil live above = refl

-- ---- a walk down a trace

-- the stamps above the one at a place, the nearest first
abbrev pub above_at : List Stamp → ℕ → List Stamp
above_at ss i = reverse (take i ss)

module _ (live : ℕ) (ss : List Stamp) (i : ℕ) where
  module _ (s : Stamp) (low : i < length ss) (here : s ≡ get_or ss i s) where
    left_next : drop i ss ≡ s ∷ drop (i + 1) ss
    left_next = rw (add-one, drop-cons ss i s low, ← here) refl

    pub above_next : above_at ss (i + 1) ≡ s ∷ above_at ss i
    above_next = rw (add-one, take-suc ss i s low, ← here, reverse-append) refl

    pub walk-fault : faults live (above_at ss i) s ≡ true → first_fault_below live (above_at ss i) (drop i ss) ≡ Some i
    walk-fault broken = rw left_next (first_fault_below-fault live (above_at ss i) s (drop (i + 1) ss) broken ∙ ap Some (length-reverse (take i ss) ∙ length-take-le i ss (omega arith)))

    pub walk-step : faults live (above_at ss i) s ≡ false → first_fault_below live (above_at ss i) (drop i ss) ≡ first_fault_below live (above_at ss (i + 1)) (drop (i + 1) ss)
    walk-step fine = rw (left_next, above_next) (first_fault_below-step live (above_at ss i) s (drop (i + 1) ss) fine)

  pub walk-end : length ss ≤ i → first_fault_below live (above_at ss i) (drop i ss) ≡ None
  walk-end past = rw (drop_all i ss past) (first_fault_below-nil live (above_at ss i))

-- ---- one stamp more

-- where none breaks a rule the first does not
below-by : (b : Bool) (live : ℕ) (above : List Stamp) (t : Stamp) (ts : List Stamp) → faults live above t ≡ b → first_fault_below live above (t ∷ ts) ≡ None → faults live above t ≡ false
below-by true live above t ts e none = let broken = first_fault_below-fault live above t ts e in cc
below-by false live above t ts e none = e

first_fault_below-end : (live : ℕ) (above ss : List Stamp) (s : Stamp) → first_fault_below live above ss ≡ None → faults live (reverse ss ++ above) s ≡ false → first_fault_below live above (ss ++ s ∷ []) ≡ None
first_fault_below-end live above [] s none fine = first_fault_below-step live above s [] fine ∙ first_fault_below-nil live (s ∷ above)
first_fault_below-end live above (t ∷ ts) s none fine =
    let here = below-by _ live above t ts refl none in
    let there : faults live (reverse ts ++ t ∷ above) s ≡ false = subst (λ l. faults live l s ≡ false) (ap (λ l. l ++ above) (reverse_onto ts t []) ∙ append_assoc (reverse ts) (t ∷ []) above) fine in
    first_fault_below-step live above t (ts ++ s ∷ []) here ∙ first_fault_below-end live (t ∷ above) ts s (sym (first_fault_below-step live above t ts here) ∙ none) there

pub stays_faultless : (trace : List Stamp) (s : Stamp) → StaysFaultless trace s
stays_faultless trace s live none fine = first_fault_below-end live [] trace s none (rw append-nil fine)
