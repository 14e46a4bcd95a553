-- What one line more of a kernel makes of a draft.
use Rattle.std.proofs.Common.{◌≡◌, ◌≤◌, ◌+◌, ◌^◌, ℕ, true, false, cond, List, [], ◌∷◌, ◌++◌, Option, Some, None, refl, ap, sym, ◌∙◌, append_assoc, arith}
use Rattle.std.specs.Prelude.{option_map, reverse}
use Rattle.std.proofs.lemmas.List.{reverse-append}
use Rattle.pth_spelling.specs.Starts.{begins}
use Rattle.pth_spelling.specs.declared.keyword.Keyword.TheVariants as key
use Rattle.pth_grammar.specs.LineMeanings.{numbered}
use Rattle.pth_grammar.specs.declared.section.Section.{Section}
use Rattle.pth_kernel.specs.declared.rules.Rules.{Rules}
use Rattle.pth_kernel.specs.declared.trace.Stamp.{Stamp}
use Rattle.pth_kernel.specs.Trace.{most_clock}
use Rattle.pth_grammar.specs.KernelLines.{clock_line, open_line, stamp_line}
use Rattle.pth_grammar.specs.declared.kernel_part.KernelPart.TheVariants as part
use Rattle.pth_grammar.specs.declared.section.Section.TheVariants as sec
use Rattle.pth_line.specs.declared.act_line.ActLine.{ActLine}
use Rattle.pth_line.specs.declared.check.Check.{Check}
use Rattle.pth_line.specs.declared.line.Line.{Line}
use Rattle.pth_script.specs.Drafts.{seen_of_draft, in_handler, in_body, IsDraftInOrder, Takes}
use Rattle.pth_script.specs.KernelDrafts.{clock_with, IsKernelInOrder}
use Rattle.pth_script.specs.Labels.{somes}
use Rattle.pth_script.specs.Meaning.{clock_said, opens_said, opened_with, trace_said}
use Rattle.pth_script.specs.Seen.{Seen, seen_past, script_past, opens_past, stamps_past, is_handler, is_check, is_thread, is_clock, is_opening, is_stamp}
use Rattle.pth_script.specs.declared.kernel_draft.KernelDraft.{KernelDraft}
use Rattle.pth_script.proofs.KernelKeys.{open_begins, stamp_begins}
use Rattle.pth_script.proofs.KernelPast.{no_open, no_stamp, past_by, clock_past, set_past, trace_past}
use Rattle.pth_script.proofs.Taking.{Handlers, Bodies, draft, read_more, part_taken}

-- ---- what is left

clock_more : (ws : List (List ℕ)) (rest : List (List (List ℕ))) → is_clock (begins ws) ≡ true → clock_said (ws ∷ rest) ≡ clock_line ws
unfolding clock_said
clock_more ws rest h = ap (λ t. cond t (clock_line ws) (clock_said rest)) h

set_more : (ws : List (List ℕ)) (rest : List (List (List ℕ))) → is_opening (begins ws) ≡ true → opens_said (ws ∷ rest) ≡ opened_with (open_line ws) (opens_said rest)
unfolding opens_said
set_more ws rest h = ap (λ t. cond t (opened_with (open_line ws) (opens_said rest)) (opens_said rest)) h

trace_more : (ws : List (List ℕ)) (rest : List (List (List ℕ))) → is_stamp (begins ws) ≡ true → trace_said (ws ∷ rest) ≡ stamp_line ws ∷ trace_said rest
unfolding trace_said
trace_more ws rest h = ap (λ t. cond t (stamp_line ws ∷ trace_said rest) (trace_said rest)) h

one_more_open : (live bit : ℕ) (o : Option ℕ) → option_map (λ set. live + bit + set) o ≡ option_map (λ set. live + set) (option_map (λ set. bit + set) o)
one_more_open live bit (Some set) = let same : live + bit + set ≡ live + (bit + set) = omega arith in ap (λ n. Some n) same
one_more_open live bit None = refl

-- ---- with a clock, a descriptor or a stamp

abbrev pub with_clock : KernelDraft → Option ℕ → KernelDraft
with_clock k clock = record k { clock = clock }

abbrev pub with_descriptor : KernelDraft → ℕ → Rules → KernelDraft
with_descriptor k f rules = record k { next_open = f + 1; live = record { 0 = k.live.0 + 2 ^ f }; rules = rules }

abbrev pub with_stamp : KernelDraft → Stamp → Rules → KernelDraft
with_stamp k x rules = record k { trace = k.trace ++ x ∷ []; rules = rules }

module _ (hs : Handlers) (cs : List Check) (bs : Bodies) (acts : List ActLine) (ls : List Line) (kd : KernelDraft) (ws : List (List ℕ)) where
  module _ (s : Section) (no_handler : in_handler s ≡ false) (no_body : in_body s ≡ false) (kept : IsDraftInOrder (draft s hs cs bs acts ls kd)) where
    abbrev seen : Seen
    seen = seen_of_draft (draft s hs cs bs acts ls kd)

    pub clock_taken : (n : ℕ) → begins ws ≡ Some key.Clock → clock_line ws ≡ Some n → n ≤ most_clock → kd.clock ≡ None → kd.trace ≡ []
        → Takes (draft s hs cs bs acts ls kd) (draft (sec.Kernel part.Opens) hs cs bs acts ls (with_clock kd (Some n))) ws
    clock_taken n e reads slow silent nothing =
        let k = kept.kernel in
        part_taken hs cs bs acts ls kd ws s no_handler no_body kept part.Opens (with_clock kd (Some n)) (past_by ws seen (Some key.Clock) e refl refl) (ap is_handler e) (ap is_check e) (ap is_thread e)
        (λ h. absurd (cc)) (λ h. nothing)
        (record { slow = slow; opens_within = k.opens_within; opens_below = k.opens_below; knows = k.knows })
        (λ rest p m. record {
          clock = sym reads ∙ sym (clock_more ws rest (ap is_clock e)) ∙ ap (λ o. clock_with o (ws ∷ rest)) (sym silent) ∙ m.clock;
          opens = ap (λ o. option_map (λ set. kd.live.0 + set) o) (sym (set_past ws rest (ap is_opening e))) ∙ m.opens;
          trace = ap (λ t. somes kd.trace ++ t) (sym (trace_past ws rest (ap is_stamp e))) ∙ m.trace;
        })

    pub open_taken : (f : ℕ) (rules : Rules) → open_line ws ≡ Some f → IsKernelInOrder (with_descriptor kd f rules) → kd.trace ≡ []
        → Takes (draft s hs cs bs acts ls kd) (draft (sec.Kernel part.Opens) hs cs bs acts ls (with_descriptor kd f rules)) ws
    open_taken f rules reads order nothing =
        let e = open_begins ws f reads in
        part_taken hs cs bs acts ls kd ws s no_handler no_body kept part.Opens (with_descriptor kd f rules)
        (λ i. stamps_past (no_stamp ws (ap is_stamp e) i) (opens_past (reads i) (script_past (e i) (numbered ws) seen))) (ap is_handler e) (ap is_check e) (ap is_thread e)
        (λ h. absurd (cc)) (λ h. nothing) order
        (λ rest p m. record {
          clock = sym (clock_past ws rest kd.clock (ap is_clock e)) ∙ m.clock;
          opens = one_more_open kd.live.0 (2 ^ f) (opens_said rest) ∙ ap (λ o. option_map (λ set. kd.live.0 + set) (opened_with o (opens_said rest))) (sym reads) ∙ ap (λ o. option_map (λ set. kd.live.0 + set) o) (sym (set_more ws rest (ap is_opening e))) ∙ m.opens;
          trace = ap (λ t. somes kd.trace ++ t) (sym (trace_past ws rest (ap is_stamp e))) ∙ m.trace;
        })

    pub stamp_taken : (x : Stamp) (rules : Rules) → stamp_line ws ≡ Some x → IsKernelInOrder (with_stamp kd x rules)
        → Takes (draft s hs cs bs acts ls kd) (draft (sec.Kernel part.Entries) hs cs bs acts ls (with_stamp kd x rules)) ws
    stamp_taken x rules reads order =
        let e = stamp_begins ws x reads in
        let past : seen_past ws seen ≡ record (script_past (Some key.At) (numbered ws) seen) { stamps = x ∷ reverse kd.trace } = λ i. stamps_past (reads i) (opens_past (no_open ws (ap is_opening e) i) (script_past (e i) (numbered ws) seen)) in
        part_taken hs cs bs acts ls kd ws s no_handler no_body kept part.Entries (with_stamp kd x rules)
        (past ∙ (λ i. record (script_past (Some key.At) (numbered ws) seen) { stamps = sym (reverse-append kd.trace (x ∷ [])) i })) (ap is_handler e) (ap is_check e) (ap is_thread e)
        (λ h. absurd (cc)) (λ h. absurd (cc)) order
        (λ rest p m. record {
          clock = sym (clock_past ws rest kd.clock (ap is_clock e)) ∙ m.clock;
          opens = ap (λ o. option_map (λ set. kd.live.0 + set) o) (sym (set_past ws rest (ap is_opening e))) ∙ m.opens;
          trace = ap (λ t. t ++ trace_said rest) (read_more kd.trace x (stamp_line ws) reads) ∙ append_assoc (somes kd.trace) (stamp_line ws ∷ []) (trace_said rest) ∙ ap (λ t. somes kd.trace ++ t) (sym (trace_more ws rest (ap is_stamp e))) ∙ m.trace;
        })
