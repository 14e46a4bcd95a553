-- A draft of nothing.
use Rattle.std.proofs.Common.{◌≡◌, ◌≤◌, ◌+◌, ℕ, List, [], ◌++◌, length, Option, Some, None, refl, ap, sym, subst, ◌∙◌, arith}
use Rattle.std.specs.Prelude.{option_map, reverse}
use Rattle.std.proofs.lemmas.List.Elements.{All-nil}
use Rattle.pth_grammar.specs.declared.section.Section.TheVariants as sec
use Rattle.pth_line.specs.declared.act_line.ActLine.{ActLine}
use Rattle.pth_line.specs.declared.check.Check.{Check}
use Rattle.pth_line.specs.declared.line.Line.{Line}
use Rattle.pth_script.specs.Limits.{act_limit}
use Rattle.pth_script.specs.Drafts.{DraftParts, seen_of_draft, IsDraftInOrder, ComesTo}
use Rattle.pth_script.specs.KernelDrafts.{clock_with, IsKernelInOrder}
use Rattle.pth_script.specs.Labels.{somes, labels_in, gotos_in}
use Rattle.pth_script.specs.Meaning.{parts_of, opens_said, trace_said}
use Rattle.pth_script.specs.Seen.{seen_of, section_of, since_mark, numbers, count_of, next_open_of, open_descriptors_of, stamps_of}
use Rattle.pth_script.specs.declared.kernel_draft.KernelDraft.{KernelDraft}

abbrev pub nothing : KernelDraft → DraftParts
nothing k = record { section = sec.Handlers; handlers = []; checks = []; bodies = []; acts = []; body = []; kernel = k }

-- nothing was said of a kernel
pub record IsBlank (k : KernelDraft) : Type 0 where
  pub clock : k.clock ≡ None
  pub next_open : k.next_open ≡ 0
  pub live : k.live.0 ≡ 0
  pub trace : k.trace ≡ []
  pub kept : IsKernelInOrder k

none_more : (live : ℕ) (o : Option ℕ) → live ≡ 0 → option_map (λ set. live + set) o ≡ o
none_more live (Some set) e = let same : live + set ≡ set = omega arith in ap (λ n. Some n) same
none_more live None e = refl

module _ (k : KernelDraft) (blank : IsBlank k) where
  pub nothing_seen : seen_of_draft (nothing k) ≡ seen_of []
  unfolding section_of since_mark numbers count_of labels_in gotos_in next_open_of open_descriptors_of stamps_of
  nothing_seen i = record { section = sec.Handlers; handlers = 0; checks = 0; bodies = 0; lines = 0; labels = []; gotos = []; next_open = blank.next_open i; live = blank.live i; stamps = reverse (blank.trace i) }

  pub nothing_kept : IsDraftInOrder (nothing k)
  nothing_kept = record { no_acts = λ h. refl; no_lines = λ h. refl; few_acts = omega arith; short_handlers = All-nil (λ (t : List ActLine). length t ≤ act_limit); few_handlers = omega arith; few_bodies = omega arith; no_clock = λ h. blank.clock; no_entries = λ h. blank.trace; kernel = blank.kept }

  pub nothing_makes : (range : ℕ) (ls : List (List (List ℕ))) → ComesTo (nothing k) ls (parts_of range ls)
  nothing_makes range ls = record { handlers = refl; checks = refl; bodies = refl; clock = ap (λ o. clock_with o ls) blank.clock; opens = none_more k.live.0 (opens_said ls) blank.live; trace = ap (λ t. somes t ++ trace_said ls) blank.trace }

-- a draft in which nothing was read
module _ (hs : List (List ActLine)) (cs : List Check) (bs : List (List Line)) (acts : List ActLine) (ls : List Line) (k : KernelDraft) (h : hs ≡ []) (c : cs ≡ []) (b : bs ≡ []) (a : acts ≡ []) (l : ls ≡ []) (blank : IsBlank k) where
  abbrev draft : DraftParts
  draft = record { section = sec.Handlers; handlers = hs; checks = cs; bodies = bs; acts = acts; body = ls; kernel = k }

  empty : draft ≡ nothing k
  empty i = record { section = sec.Handlers; handlers = h i; checks = c i; bodies = b i; acts = a i; body = l i; kernel = k }

  pub starts_seen : seen_of_draft draft ≡ seen_of []
  starts_seen = ap seen_of_draft empty ∙ nothing_seen k blank

  pub starts_kept : IsDraftInOrder draft
  starts_kept = subst IsDraftInOrder (sym empty) (nothing_kept k blank)

  pub starts_making : (range : ℕ) (read : List (List (List ℕ))) → ComesTo draft read (parts_of range read)
  starts_making range read = subst (λ d. ComesTo d read (parts_of range read)) (sym empty) (nothing_makes k blank range read)
