-- A line of a kernel that breaks no rule, and what it makes of a draft.
use Rattle.std.proofs.Common.{◌≡◌, ◌≤◌, ◌+◌, ℕ, Bool, true, false, ◌||◌, List, [], drop, Option, Some, None, refl, ap, sym, subst, ◌∙◌, arith}
use Rattle.std.specs.Prelude.{is_some, pos, reverse}
use Rattle.std.proofs.lemmas.Bool.Decides.{nat_tests}
use Rattle.pth_spelling.specs.Starts.{begins}
use Rattle.pth_spelling.specs.declared.keyword.Keyword.{Keyword}
use Rattle.pth_spelling.specs.declared.keyword.Keyword.TheVariants as key
use Rattle.pth_grammar.specs.Shapes.{words_fault}
use Rattle.pth_grammar.specs.declared.section.Section.{Section}
use Rattle.pth_grammar.specs.declared.section.Section.TheVariants as sec
use Rattle.pth_grammar.proofs.Readable.{IsKeyed, outside_keyed, clock_readable, open_readable, stamp_readable}
use Rattle.pth_kernel.specs.declared.rules.Rules.{Rules}
use Rattle.pth_kernel.specs.declared.trace.Stamp.{Stamp}
use Rattle.pth_kernel.specs.Trace.{faults}
use Rattle.pth_grammar.proofs.KernelRanges.{clock_within, open_within, stamp_within}
use Rattle.pth_grammar.specs.KernelLines.{clock_line, open_line, stamp_line}
use Rattle.pth_grammar.specs.declared.kernel_part.KernelPart.{KernelPart}
use Rattle.pth_grammar.specs.declared.kernel_part.KernelPart.TheVariants as part
use Rattle.pth_script.specs.Drafts.{DraftParts, seen_of_draft, in_handler, in_body, in_entries, in_kernel, below_part, IsDraftInOrder, IsFine, Takes}
use Rattle.pth_script.specs.KernelDrafts.{IsKernelInOrder}
use Rattle.pth_script.specs.Seen.{Seen, passes_limit, misnumbered, is_early, misuses_fd}
use Rattle.pth_script.proofs.KernelKeys.{open_begins, open_number, stamp_begins, clock_at_head, open_above_entries, clock_else}
use Rattle.pth_script.proofs.Said.{BreaksNone, fine_line}
use Rattle.pth_script.proofs.TakingParts.{with_clock, with_descriptor, with_stamp, clock_taken, open_taken, stamp_taken}

not_body : (p : KernelPart) → sec.Kernel p ≡ sec.Body → ⊥
not_body p e = absurd (cc)

not_none : {A : Type 0} (o : Option A) → is_some o ≡ true → o ≡ None → ⊥
not_none (Some x) h e = absurd (cc)
not_none None h e = absurd (cc)

some_of : {A : Type 0} (o : Option A) → is_some o ≡ true → (x : A) × (o ≡ Some x)
some_of (Some x) h = (x, refl)
some_of None h = absurd (cc)

same_key : (k l : Keyword) (o : Option Keyword) → o ≡ Some k → o ≡ Some l → k ≡ l
same_key k l o e f = cc

rises_by : (k : Option Keyword) (f : ℕ) (s : Seen) → k ≡ Some key.Open → misnumbered k (Some (pos f)) s ≡ false → s.next_open ≤ f
rises_by (Some key.Open) f s e h = grind (arith, nat_tests)
rises_by _ f s e h = absurd (cc)

none_of : (a b c d : Bool) → a ≡ false → b ≡ false → c ≡ false → d ≡ false → (a || b || c || d) ≡ false
none_of true b c d p q r s = absurd (cc)
none_of false true c d p q r s = absurd (cc)
none_of false false true d p q r s = absurd (cc)
none_of false false false d p q r s = s

module _ (d : DraftParts) (ws : List (List ℕ)) (kept : IsDraftInOrder d) (p : KernelPart) (at : d.section ≡ sec.Kernel p) (fine : IsFine d ws) where
  none : BreaksNone true (seen_of_draft d) ws
  none = fine_line true (seen_of_draft d) ws fine

  words : words_fault (sec.Kernel p) ws ≡ None
  words = ap (λ s. words_fault s ws) (sym at) ∙ none.words

  keyed : IsKeyed (sec.Kernel p) ws
  keyed = outside_keyed (sec.Kernel p) ws (not_body p) words

  -- ---- the clock

  clock_begins : stamp_line ws ≡ None → open_line ws ≡ None → begins ws ≡ Some key.Clock
  clock_begins no_stamp no_open =
      let is = clock_else p keyed.keyword (drop 1 ws)
      (λ e. not_none (stamp_line ws) (stamp_readable p ws words (keyed.first ∙ ap (λ k. Some k) e)) no_stamp)
      (λ e. not_none (open_line ws) (open_readable p ws words (keyed.first ∙ ap (λ k. Some k) e)) no_open)
      keyed.allowed in
      keyed.first ∙ ap (λ k. Some k) is

  pub clock_line_taken : stamp_line ws ≡ None → open_line ws ≡ None → Takes d (record d { section = sec.Kernel part.Opens; kernel = with_clock d.kernel (clock_line ws) }) ws
  clock_line_taken no_stamp no_open =
      let e = clock_begins no_stamp no_open in
      let n = some_of (clock_line ws) (clock_readable p ws words e) in
      let head = clock_at_head p keyed.keyword (drop 1 ws) (same_key keyed.keyword key.Clock (begins ws) keyed.first e) keyed.allowed in
      subst (λ o. Takes d (record d { section = sec.Kernel part.Opens; kernel = with_clock d.kernel o }) ws) (sym n.1)
      (clock_taken d.handlers d.checks d.bodies d.acts d.body d.kernel ws d.section (ap in_handler at) (ap in_body at) kept n.0 e n.1 (clock_within ws n.0 n.1) (kept.no_clock (ap below_part at ∙ head.0)) (kept.no_entries (ap in_entries at ∙ head.1)))

  -- ---- what is open

  module _ (f : ℕ) (reads : open_line ws ≡ Some f) where
    pub open_low : f + 1 ≤ 64
    open_low = omega (arith, open_within ws f reads)

    pub open_rises : d.kernel.next_open ≤ f
    open_rises = rises_by (begins ws) f (seen_of_draft d) (open_begins ws f reads) (ap (λ n. misnumbered (begins ws) n (seen_of_draft d)) (sym (open_number ws f reads)) ∙ none.number)

    pub nothing_came : d.kernel.trace ≡ []
    nothing_came = kept.no_entries (ap in_entries at ∙ open_above_entries p keyed.keyword (drop 1 ws) (same_key keyed.keyword key.Open (begins ws) keyed.first (open_begins ws f reads)) keyed.allowed)

    pub open_line_taken : (rules : Rules) → IsKernelInOrder (with_descriptor d.kernel f rules) → Takes d (record d { section = sec.Kernel part.Opens; kernel = with_descriptor d.kernel f rules }) ws
    open_line_taken rules order = open_taken d.handlers d.checks d.bodies d.acts d.body d.kernel ws d.section (ap in_handler at) (ap in_body at) kept f rules reads order nothing_came

  -- ---- what comes

  module _ (x : Stamp) (reads : stamp_line ws ≡ Some x) where
    -- it breaks no rule of a trace
    pub stamp_fine : faults d.kernel.live.0 (reverse d.kernel.trace) x ≡ false
    stamp_fine =
        let s = seen_of_draft d in
        none_of _ _ _ _ (stamp_within ws x reads) (ap (λ o. is_early o s) (sym reads) ∙ none.time) (ap (λ o. misuses_fd o s) (sym reads) ∙ none.fd) ((λ i. passes_limit (sym at i) (sym (stamp_begins ws x reads) i) s) ∙ none.limit)

    pub stamp_line_taken : (rules : Rules) → IsKernelInOrder (with_stamp d.kernel x rules) → Takes d (record d { section = sec.Kernel part.Entries; kernel = with_stamp d.kernel x rules }) ws
    stamp_line_taken rules order = stamp_taken d.handlers d.checks d.bodies d.acts d.body d.kernel ws d.section (ap in_handler at) (ap in_body at) kept x rules reads order

-- a section of a kernel has a part
pub part_of : (s : Section) → in_kernel s ≡ true → (p : KernelPart) × (s ≡ sec.Kernel p)
part_of (sec.Kernel p) h = (p, refl)
part_of _ h = absurd (cc)
