-- The clauses of a call, from what was done and how the call ends.
use Rattle.std.proofs.Common.{◌≡◌, ◌≢◌, ◌≤◌, ◌<◌, ◌∙◌, ◌⊎◌, ℕ, Result, Ok, Err, sym, subst, arith, inl, inr}
use Rattle.pth_streams.proofs.Pieces.{all_of, part_is_prefix}
use Rattle.pth_streams.specs.Pieces.{AppendsPrefix}
use Rattle.pth_filter.specs.Answers.{Answers, BeginsFault, ComesToOrSeven, CountsNoReadFault, CountsNoWriteFault, CountsReadFault, CountsWriteFault, Ends, IsOutputStatus, IsTextStatus, Ran, TopCall, WritesAtMostBeginning, WritesFault, WritesFaultOf, WritesNothing, WritesPart, WritesWhole, asked_in}
use Rattle.pth_filter.specs.Faults.{Reports}
use Rattle.pth_print.specs.FaultLines.{fault_line, fault_status}
use Rattle.pth_filter.specs.Filter.{Filter}
use Rattle.pth_filter.specs.Output.{refusal}
use Rattle.pth_print.specs.declared.fault_line.Fault.{Fault}
use Rattle.pth_print.specs.declared.fault_line.Fault.TheVariants as fault

-- no status of an output is that of a call that failed
not_output : (status : ℕ) → (status ≡ 4) ⊎ ((status ≡ 5) ⊎ (status ≡ 7)) → IsOutputStatus status → ⊥
not_output status is h = grind arith

-- no status of a text is that of a fault
not_text : (its status k : ℕ) → IsTextStatus its → status ≡ its → 1 < k → k ≢ 6 → status ≡ k → ⊥
not_text its status k h e lo not6 is = grind arith

text_most : (its status : ℕ) → IsTextStatus its → status ≡ its → status ≤ 7
text_most its status h e = grind arith

module _ {A : Type 0} (filter : Filter A) (call : TopCall) where
  abbrev Did : Result ℕ Fault → Type 0
  Did r = Ran filter (asked_in filter call) call.old call.new r

  abbrev Ended : Result ℕ Fault → Type 0
  Ended r = Ends filter.name r call.status call.err_old call.err_new

  abbrev Told : Fault → Type 0
  Told f = Reports filter.name f call.status call.err_old call.err_new

  -- ---- the line of a fault

  -- a fault has its status, or memory ran out
  status_of : (f : Fault) → Told f → (call.status ≡ fault_status f) ⊎ (call.status ≡ 7)
  status_of f (inl h) = inl h.0
  status_of f (inr h) = inr h.0

  -- it has no other
  other : {B : Type 0} (f : Fault) (k : ℕ) → Told f → k ≢ fault_status f → k ≢ 7 → call.status ≡ k → B
  other f k told apart not7 e = absurd (clash (status_of f told))
    where
      clash : (call.status ≡ fault_status f) ⊎ (call.status ≡ 7) → ⊥
      clash (inl h) = apart (sym e ∙ h)
      clash (inr h) = not7 (sym e ∙ h)

  -- with another status than 7 its line was written
  tells : (f : Fault) → Told f → call.status ≢ 7 → WritesFault filter call f
  tells f (inl h) not7 = h.1
  tells f (inr h) not7 = absurd (not7 h.0)

  -- a beginning of its line was written, or the whole of it
  begun : (f : Fault) → Told f → AppendsPrefix call.err_old.written call.err_new.written (fault_line filter.name f)
  begun f (inl h) = elim h.1 [
    | inl all ↦ all_of call.err_old.written call.err_new.written (fault_line filter.name f) all.0
    | inr part ↦ part_is_prefix call.err_old.written call.err_new.written (fault_line filter.name f) part.0
  ]
  begun f (inr h) = h.1.0

  -- with 7 what was done came to a fault
  begins : (r : Result ℕ Fault) → Did r → Ended r → call.status ≡ 7 → (f : Fault) × BeginsFault filter call f
  begins (Ok its) ran ends e = absurd (not_text its call.status 7 ran.1 ends.0 (omega arith) (λ h. omega arith) e)
  begins (Err f) ran ends e = (f, (ran, begun f ends))

  -- ---- by the status

  whole_text : (its : ℕ) → Did (Ok its) → Ended (Ok its) → WritesWhole filter call
  whole_text its ran ends =
      let t = ran.2 in
      (t.0, t.1, ends.0 ∙ sym t.3, t.4, t.5, subst (WritesFaultOf filter call) (sym t.2) ends.1)

  whole : (r : Result ℕ Fault) → Did r → Ended r → IsOutputStatus call.status → WritesWhole filter call
  whole (Ok its) ran ends h = whole_text its ran ends
  whole (Err fault.Words) ran (inl k) h = (refusal filter.name fault.Words, ran.1, k.0, ran.2.0, ran.2.1, k.1)
  whole (Err fault.Words) ran (inr k) h = absurd (not_output call.status (inr (inr k.0)) h)
  whole (Err (fault.Input line why)) ran (inl k) h = (refusal filter.name (fault.Input line why), ran.1, k.0, ran.2.0, ran.2.1, k.1)
  whole (Err (fault.Input line why)) ran (inr k) h = absurd (not_output call.status (inr (inr k.0)) h)
  whole (Err fault.ReadFault) ran ends h = absurd (elim ends [ inl k ↦ not_output call.status (inl k.0) h | inr k ↦ not_output call.status (inr (inr k.0)) h ])
  whole (Err fault.WriteFault) ran ends h = absurd (elim ends [ inl k ↦ not_output call.status (inr (inl k.0)) h | inr k ↦ not_output call.status (inr (inr k.0)) h ])
  whole (Err fault.OutOfMemory) ran ends h = absurd (elim ends [ inl k ↦ not_output call.status (inr (inr k.0)) h | inr k ↦ not_output call.status (inr (inr k.0)) h ])

  read : (r : Result ℕ Fault) → Did r → Ended r → call.status ≡ 4
      → CountsReadFault filter call × WritesNothing filter call × WritesFault filter call fault.ReadFault
  read (Ok its) ran ends e = absurd (not_text its call.status 4 ran.1 ends.0 (omega arith) (λ h. omega arith) e)
  read (Err fault.Words) ran ends e = other fault.Words 4 ends (λ h. omega arith) (λ h. omega arith) e
  read (Err (fault.Input line why)) ran ends e = other (fault.Input line why) 4 ends (λ h. omega arith) (λ h. omega arith) e
  read (Err fault.ReadFault) ran ends e = (ran.0, ran.1, tells fault.ReadFault ends (λ h. omega arith))
  read (Err fault.WriteFault) ran ends e = other fault.WriteFault 4 ends (λ h. omega arith) (λ h. omega arith) e
  read (Err fault.OutOfMemory) ran ends e = other fault.OutOfMemory 4 ends (λ h. omega arith) (λ h. omega arith) e

  write : (r : Result ℕ Fault) → Did r → Ended r → call.status ≡ 5 → WritesPart filter (asked_in filter call) call.old call.new × WritesFault filter call fault.WriteFault
  write (Ok its) ran ends e = absurd (not_text its call.status 5 ran.1 ends.0 (omega arith) (λ h. omega arith) e)
  write (Err fault.Words) ran ends e = other fault.Words 5 ends (λ h. omega arith) (λ h. omega arith) e
  write (Err (fault.Input line why)) ran ends e = other (fault.Input line why) 5 ends (λ h. omega arith) (λ h. omega arith) e
  write (Err fault.ReadFault) ran ends e = other fault.ReadFault 5 ends (λ h. omega arith) (λ h. omega arith) e
  write (Err fault.WriteFault) ran ends e = (ran.1, tells fault.WriteFault ends (λ h. omega arith))
  write (Err fault.OutOfMemory) ran ends e = other fault.OutOfMemory 5 ends (λ h. omega arith) (λ h. omega arith) e

  breaks_off : (r : Result ℕ Fault) → Did r → WritesAtMostBeginning filter call
  breaks_off (Ok its) ran = let t = ran.2 in inr (t.0, t.1, all_of call.old.out.written call.new.out.written t.0.text t.4)
  breaks_off (Err fault.Words) ran = inl ran.2.0
  breaks_off (Err (fault.Input line why)) ran = inl ran.2.0
  breaks_off (Err fault.ReadFault) ran = inl ran.1.0
  breaks_off (Err fault.WriteFault) ran = let t = ran.1 in inr (t.0, t.1, part_is_prefix call.old.out.written call.new.out.written t.0.text t.2)
  breaks_off (Err fault.OutOfMemory) ran = elim ran.1 [ inl none ↦ inl none.0 | inr t ↦ inr (t.0, t.1, t.2) ]

  -- ---- counts

  read_counts : (r : Result ℕ Fault) → Did r → Ended r
      → CountsNoReadFault filter call ⊎ (CountsReadFault filter call × ComesToOrSeven call 4)
  read_counts (Ok its) ran ends = inl ran.0
  read_counts (Err fault.Words) ran ends = inl ran.0
  read_counts (Err (fault.Input line why)) ran ends = inl ran.0
  read_counts (Err fault.ReadFault) ran ends = inr (ran.0, status_of fault.ReadFault ends)
  read_counts (Err fault.WriteFault) ran ends = inl ran.0
  read_counts (Err fault.OutOfMemory) ran ends = inl ran.0

  written_counts : (r : Result ℕ Fault) → Did r → Ended r
      → CountsNoWriteFault filter call ⊎ (CountsWriteFault filter call × ComesToOrSeven call 5)
  written_counts (Ok its) ran ends = inl ran.2.5
  written_counts (Err fault.Words) ran ends = inl ran.2.1
  written_counts (Err (fault.Input line why)) ran ends = inl ran.2.1
  written_counts (Err fault.ReadFault) ran ends = inl ran.1.1
  written_counts (Err fault.WriteFault) ran ends = inr (ran.1.3, status_of fault.WriteFault ends)
  written_counts (Err fault.OutOfMemory) ran ends = elim ran.1 [ inl none ↦ inl none.1 | inr t ↦ inl t.3 ]

  whole_or_seven : (r : Result ℕ Fault) → Did r → Ended r → (CountsReadFault filter call → ⊥) → (CountsWriteFault filter call → ⊥)
      → WritesWhole filter call ⊎ (call.status ≡ 7)
  whole_or_seven (Ok its) ran ends read write = inl (whole_text its ran ends)
  whole_or_seven (Err fault.Words) ran ends read write =
      elim ends [ inl k ↦ inl (whole (Err fault.Words) ran (inl k) (inr (inl k.0))) | inr k ↦ inr k.0 ]
  whole_or_seven (Err (fault.Input line why)) ran ends read write =
      elim ends [ inl k ↦ inl (whole (Err (fault.Input line why)) ran (inl k) (inr (inr k.0))) | inr k ↦ inr k.0 ]
  whole_or_seven (Err fault.ReadFault) ran ends read write = absurd (read ran.0)
  whole_or_seven (Err fault.WriteFault) ran ends read write = absurd (write ran.1.3)
  whole_or_seven (Err fault.OutOfMemory) ran ends read write = elim ends [ inl k ↦ inr k.0 | inr k ↦ inr k.0 ]

  -- ---- the status

  most_of : (f : Fault) → fault_status f ≤ 7
  most_of fault.Words = omega arith
  most_of (fault.Input line why) = omega arith
  most_of fault.ReadFault = omega arith
  most_of fault.WriteFault = omega arith
  most_of fault.OutOfMemory = omega arith

  most : (r : Result ℕ Fault) → Did r → Ended r → call.status ≤ 7
  most (Ok its) ran ends = text_most its call.status ran.1 ends.0
  most (Err f) ran (inl h) = subst (λ (n : ℕ). n ≤ 7) (sym h.0) (most_of f)
  most (Err f) ran (inr h) = omega (arith, h.0)

  -- what the call did
  pub answers : (r : Result ℕ Fault) → Did r → Ended r → Answers filter call
  answers r ran ends = record {
    whole = whole r ran ends;
    read = read r ran ends;
    write = write r ran ends;
    memory = λ e. (breaks_off r ran, begins r ran ends e);
    completes = record {
      whole = whole_or_seven r ran ends;
      read = read_counts r ran ends;
      written = written_counts r ran ends;
    };
    known = most r ran ends;
  }
