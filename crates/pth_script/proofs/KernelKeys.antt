-- What the keyword of a line of a kernel may be.
use Rattle.std.proofs.Common.{◌≡◌, ℕ, nat_lt, Bool, true, false, cond, List, [], ◌∷◌, drop, Option, Some, None, ℤ, refl, ap}
use Rattle.std.specs.Prelude.{is_some, option_and_then, pos, negsuc}
use Rattle.pth_base.specs.Descriptors.{descriptor_limit}
use Rattle.pth_text.specs.Number.{numeral_value}
use Rattle.pth_spelling.specs.Starts.{begins, start_of}
use Rattle.pth_spelling.specs.WordMeanings.{natural_of, not_negative, below, descriptor_of}
use Rattle.pth_spelling.specs.declared.keyword.Keyword.{Keyword}
use Rattle.pth_spelling.specs.declared.keyword.Keyword.TheVariants as key
use Rattle.pth_grammar.specs.LineMeanings.{numbered}
use Rattle.pth_grammar.specs.declared.section.Section.TheVariants as sec
use Rattle.pth_kernel.specs.declared.trace.Stamp.{Stamp}
use Rattle.pth_grammar.specs.KernelForms.{kernel_forms}
use Rattle.pth_grammar.specs.KernelLines.{opening_by, open_line, stamp_by, stamp_line}
use Rattle.pth_grammar.specs.declared.kernel_part.KernelPart.{KernelPart}
use Rattle.pth_grammar.specs.declared.kernel_part.KernelPart.TheVariants as part
use Rattle.pth_script.specs.Drafts.{in_entries, below_part}

-- ---- lines that stand for something

opens_by : (k : Option Keyword) (ws : List (List ℕ)) (f : ℕ) → opening_by k ws ≡ Some f → k ≡ Some key.Open
opens_by (Some key.Open) ws f e = refl
opens_by _ ws f e = absurd (cc)

pub open_begins : (ws : List (List ℕ)) (f : ℕ) → open_line ws ≡ Some f → begins ws ≡ Some key.Open
unfolding open_line
open_begins ws f e = opens_by (begins ws) (drop 1 ws) f e

stamps_by : (k : Option Keyword) (ws : List (List ℕ)) (x : Stamp) → stamp_by k ws ≡ Some x → k ≡ Some key.At
stamps_by (Some key.At) ws x e = refl
stamps_by _ ws x e = absurd (cc)

pub stamp_begins : (ws : List (List ℕ)) (x : Stamp) → stamp_line ws ≡ Some x → begins ws ≡ Some key.At
unfolding stamp_line
stamp_begins ws x e = stamps_by (begins ws) (drop 1 ws) x e

-- ---- the number of a descriptor

below_is : (b : Bool) (k f : ℕ) → cond b (Some k) None ≡ Some f → k ≡ f
below_is true k f e = cc
below_is false k f e = absurd (cc)

natural_by : (o : Option ℤ) (f : ℕ) → option_and_then (below descriptor_limit) o ≡ Some f → option_and_then not_negative o ≡ Some (pos f)
natural_by (Some (pos k)) f e = ap (λ n. Some (pos n)) (below_is (nat_lt k descriptor_limit) k f e)
natural_by (Some (negsuc k)) f e = absurd (cc)
natural_by None f e = absurd (cc)

natural_word : (w : List ℕ) (f : ℕ) → descriptor_of w ≡ Some f → natural_of w ≡ Some (pos f)
unfolding descriptor_of natural_of
natural_word w f e = natural_by (numeral_value w) f e

number_by : (k : Option Keyword) (w : List ℕ) (ws : List (List ℕ)) (f : ℕ) → opening_by k ws ≡ Some f → numbered (w ∷ ws) ≡ Some (pos f)
unfolding numbered
number_by (Some key.Open) w [] f e = absurd (cc)
number_by (Some key.Open) w (v ∷ []) f e = natural_word v f e
number_by (Some key.Open) w (v ∷ u ∷ ws) f e = absurd (cc)
number_by _ w ws f e = absurd (cc)

pub open_number : (ws : List (List ℕ)) (f : ℕ) → open_line ws ≡ Some f → numbered ws ≡ Some (pos f)
unfolding open_line begins start_of
open_number [] f e = absurd (cc)
open_number (w ∷ ws) f e = number_by (begins (w ∷ ws)) w ws f e

-- ---- where a line may stand

pub clock_at_head : (p : KernelPart) (k : Keyword) (ws : List (List ℕ)) → k ≡ key.Clock → is_some (kernel_forms p k ws) ≡ true → (below_part (sec.Kernel p) ≡ false) × (in_entries (sec.Kernel p) ≡ false)
clock_at_head part.Head key.Clock ws e h = (refl, refl)
clock_at_head part.Opens key.Clock ws e h = absurd (cc)
clock_at_head part.Entries key.Clock ws e h = absurd (cc)
clock_at_head p _ ws e h = absurd (cc)

pub open_above_entries : (p : KernelPart) (k : Keyword) (ws : List (List ℕ)) → k ≡ key.Open → is_some (kernel_forms p k ws) ≡ true → in_entries (sec.Kernel p) ≡ false
open_above_entries part.Head key.Open ws e h = refl
open_above_entries part.Opens key.Open ws e h = refl
open_above_entries part.Entries key.Open ws e h = absurd (cc)
open_above_entries p _ ws e h = absurd (cc)

-- a line that neither opens a descriptor nor has a time says the clock
pub clock_else : (p : KernelPart) (k : Keyword) (ws : List (List ℕ)) → (k ≡ key.At → ⊥) → (k ≡ key.Open → ⊥) → is_some (kernel_forms p k ws) ≡ true → k ≡ key.Clock
clock_else p key.Clock ws no_stamp no_open h = refl
clock_else p key.At ws no_stamp no_open h = absurd (no_stamp refl)
clock_else p key.Open ws no_stamp no_open h = absurd (no_open refl)
clock_else part.Head _ ws no_stamp no_open h = absurd (cc)
clock_else part.Opens _ ws no_stamp no_open h = absurd (cc)
clock_else part.Entries _ ws no_stamp no_open h = absurd (cc)
