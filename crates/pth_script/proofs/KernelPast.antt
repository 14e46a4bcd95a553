-- A line that is none of a kernel changes nothing of it.
use Rattle.std.proofs.Common.{◌≡◌, ◌+◌, ℕ, false, cond, List, ◌∷◌, ◌++◌, drop, Option, Some, None, refl, ap, sym, ◌∙◌}
use Rattle.std.specs.Prelude.{option_map}
use Rattle.pth_spelling.specs.Starts.{begins}
use Rattle.pth_spelling.specs.declared.keyword.Keyword.{Keyword}
use Rattle.pth_spelling.specs.declared.keyword.Keyword.TheVariants as key
use Rattle.pth_grammar.specs.LineMeanings.{numbered}
use Rattle.pth_grammar.specs.KernelLines.{clock_line, opening_by, open_line, stamp_by, stamp_line}
use Rattle.pth_script.specs.Drafts.{DraftParts, ComesTo}
use Rattle.pth_script.specs.KernelDrafts.{clock_with}
use Rattle.pth_script.specs.Labels.{somes}
use Rattle.pth_script.specs.Meaning.{Parts, clock_said, opens_said, opened_with, trace_said}
use Rattle.pth_script.specs.Seen.{Seen, seen_past, script_past, opens_past, stamps_past, is_clock, is_opening, is_stamp}
use Rattle.pth_script.specs.declared.kernel_draft.KernelDraft.{KernelDraft}

-- the keyword of a line that says nothing of a kernel
pub record IsOutside (k : Option Keyword) : Type 0 where
  pub clock : is_clock k ≡ false
  pub opening : is_opening k ≡ false
  pub stamp : is_stamp k ≡ false

-- ---- what is seen

no_open_by : (k : Option Keyword) (ws : List (List ℕ)) → is_opening k ≡ false → opening_by k ws ≡ None
no_open_by (Some key.Open) ws h = absurd (cc)
no_open_by _ ws h = refl

no_stamp_by : (k : Option Keyword) (ws : List (List ℕ)) → is_stamp k ≡ false → stamp_by k ws ≡ None
no_stamp_by (Some key.At) ws h = absurd (cc)
no_stamp_by _ ws h = refl

pub no_open : (ws : List (List ℕ)) → is_opening (begins ws) ≡ false → open_line ws ≡ None
unfolding open_line
no_open ws h = no_open_by (begins ws) (drop 1 ws) h

pub no_stamp : (ws : List (List ℕ)) → is_stamp (begins ws) ≡ false → stamp_line ws ≡ None
unfolding stamp_line
no_stamp ws h = no_stamp_by (begins ws) (drop 1 ws) h

pub script_only : (ws : List (List ℕ)) (s : Seen) → is_opening (begins ws) ≡ false → is_stamp (begins ws) ≡ false → seen_past ws s ≡ script_past (begins ws) (numbered ws) s
script_only ws s o t i = stamps_past (no_stamp ws t i) (opens_past (no_open ws o i) (script_past (begins ws) (numbered ws) s))

-- the same of a line whose keyword is known
pub past_by : (ws : List (List ℕ)) (s : Seen) (k : Option Keyword) → begins ws ≡ k → is_opening k ≡ false → is_stamp k ≡ false → seen_past ws s ≡ script_past k (numbered ws) s
past_by ws s k e o t = script_only ws s (ap is_opening e ∙ o) (ap is_stamp e ∙ t) ∙ ap (λ k. script_past k (numbered ws) s) e

pub outside_by : (ws : List (List ℕ)) (k : Option Keyword) → begins ws ≡ k → is_clock k ≡ false → is_opening k ≡ false → is_stamp k ≡ false → IsOutside (begins ws)
outside_by ws k e c o t = record { clock = ap is_clock e ∙ c; opening = ap is_opening e ∙ o; stamp = ap is_stamp e ∙ t }

-- ---- what it comes to

-- the lines that are left make this kernel
pub record KernelComesTo (k : KernelDraft) (ls : List (List (List ℕ))) (p : Parts) : Type 0 where
  pub clock : clock_with k.clock ls ≡ p.clock
  pub opens : option_map (λ set. k.live.0 + set) (opens_said ls) ≡ p.opens
  pub trace : somes k.trace ++ trace_said ls ≡ p.trace

pub kernel_comes : (d : DraftParts) (ls : List (List (List ℕ))) (p : Parts) → ComesTo d ls p → KernelComesTo d.kernel ls p
kernel_comes d ls p m = record { clock = m.clock; opens = m.opens; trace = m.trace }

module _ (ws : List (List ℕ)) (rest : List (List (List ℕ))) where
  pub clock_past : (o : Option ℕ) → is_clock (begins ws) ≡ false → clock_with o (ws ∷ rest) ≡ clock_with o rest
  unfolding clock_said
  clock_past (Some n) h = refl
  clock_past None h = ap (λ t. cond t (clock_line ws) (clock_said rest)) h

  pub set_past : is_opening (begins ws) ≡ false → opens_said (ws ∷ rest) ≡ opens_said rest
  unfolding opens_said
  set_past h = ap (λ t. cond t (opened_with (open_line ws) (opens_said rest)) (opens_said rest)) h

  pub trace_past : is_stamp (begins ws) ≡ false → trace_said (ws ∷ rest) ≡ trace_said rest
  unfolding trace_said
  trace_past h = ap (λ t. cond t (stamp_line ws ∷ trace_said rest) (trace_said rest)) h

  pub kernel_past : (k : KernelDraft) (p : Parts) → IsOutside (begins ws) → KernelComesTo k (ws ∷ rest) p → KernelComesTo k rest p
  kernel_past k p out m = record {
    clock = sym (clock_past k.clock out.clock) ∙ m.clock;
    opens = ap (λ o. option_map (λ set. k.live.0 + set) o) (sym (set_past out.opening)) ∙ m.opens;
    trace = ap (λ t. somes k.trace ++ t) (sym (trace_past out.stamp)) ∙ m.trace;
  }
