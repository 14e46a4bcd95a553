-- A line that breaks no rule on words stands for something.
use Rattle.std.proofs.Common.{◌≡◌, ◌==◌, ℕ, Bool, true, false, cond, not, ◌||◌, List, [], ◌∷◌, length, drop, Option, Some, None, refl, sym, ap, subst, arith}
use Rattle.std.specs.Prelude.{is_some, option_and_then, option_map, codes}
use Rattle.std.specs.List.{find}
use Rattle.std.specs.Str.{bytes_eq}
use Rattle.std.proofs.lemmas.Bool.Decides.{nat_tests}
use Rattle.pth_grammar.specs.Forms.{call_forms, act_forms, body_forms, forms_of}
use Rattle.pth_spelling.specs.Starts.{begins, keyword_in, start_of}
use Rattle.pth_grammar.specs.LineMeanings.{line_begun, line_by, line_of, act_begun, act_with, act_by, act_of, check_by, check_of}
use Rattle.pth_grammar.specs.Shapes.{Shape, Unequal, Asks, shape_by_forms, after_register, shape_begun, shape_of, words_break, word_rules, words_fault}
use Rattle.pth_operand.specs.declared.operand.Register.{Register}
use Rattle.pth_spelling.specs.declared.start.Start.{Start}
use Rattle.pth_spelling.specs.declared.start.Start.TheVariants as start
use Rattle.pth_spelling.specs.declared.form.Form.{Form}
use Rattle.pth_spelling.specs.declared.form.Form.TheVariants as form
use Rattle.pth_spelling.specs.declared.keyword.CallWord.{CallWord}
use Rattle.pth_spelling.specs.declared.keyword.Keyword.{Keyword}
use Rattle.pth_spelling.specs.declared.keyword.Keyword.TheVariants as key
use Rattle.pth_text.specs.declared.rule.Rule.TheVariants as rule
use Rattle.pth_grammar.specs.declared.kernel_part.KernelPart.{KernelPart}
use Rattle.pth_grammar.specs.declared.kernel_part.KernelPart.TheVariants as part
use Rattle.pth_grammar.specs.KernelLines.{clock_line, open_line, stamp_line}
use Rattle.pth_grammar.proofs.KernelReadable.{clock_stands, open_stands, stamp_stands}
use Rattle.pth_grammar.specs.declared.section.Section.{Section}
use Rattle.pth_grammar.specs.declared.section.Section.TheVariants as sec
use Rattle.pth_grammar.proofs.CallLines.{callable}
use Rattle.pth_spelling.specs.FormRules.{wrong}
use Rattle.pth_spelling.proofs.Options.{some_map, some_then}
use Rattle.pth_spelling.proofs.Fine.{AllFine, natural, operand, register, value, shared, relation}
use Rattle.pth_grammar.proofs.RowLemmas.{values1, values2, row1, row2, row4}

-- ---- words that break no rule

-- no word of the line breaks a rule
abbrev IsFineShape : Shape → Type 0
IsFineShape s = find (λ r. words_break r s) word_rules ≡ None

none_of : (a b c d : Bool) → cond a (Some rule.Word) (cond b (Some rule.Count) (cond c (Some rule.Operand) (cond d (Some rule.Hex) None))) ≡ None → (a ≡ false) × (b ≡ false) × (c ≡ false) × (d ≡ false)
none_of true b c d h = absurd (cc)
none_of false true c d h = absurd (cc)
none_of false false true d h = absurd (cc)
none_of false false false true h = absurd (cc)
none_of false false false false h = (refl, refl, refl, refl)

neither : (a b : Bool) → (a || b) ≡ false → (a ≡ false) × (b ≡ false)
neither true b h = absurd (cc)
neither false b h = (refl, h)

same_count : (a b : ℕ) → not (a == b) ≡ false → a ≡ b
same_count a b h = grind (arith, nat_tests)

all_fine_by : (fs : List Form) (ws : List (List ℕ)) → wrong rule.Word fs ws ≡ false → length fs ≡ length ws → wrong rule.Operand fs ws ≡ false → wrong rule.Hex fs ws ≡ false → AllFine fs ws
unfolding wrong
all_fine_by [] [] l n o h = tt
all_fine_by [] (w ∷ ws) l n o h = absurd (omega arith)
all_fine_by (f ∷ fs) [] l n o h = absurd (omega arith)
all_fine_by (f ∷ fs) (w ∷ ws) l n o h =
    let x = neither _ _ l in
    let y = neither _ _ o in
    let z = neither _ _ h in
    (record { listed = x.0; formed = y.0; paired = z.0 }, all_fine_by fs ws x.1 (omega arith) y.1 z.1)

all_fine : (fs : List Form) (ws : List (List ℕ)) → IsFineShape (Asks fs ws) → AllFine fs ws
unfolding words_break
all_fine fs ws h = let parts = none_of _ _ _ _ h in all_fine_by fs ws parts.0 (same_count (length fs) (length ws) parts.1) parts.2 parts.3

-- ---- the keyword of a line

-- the line may begin so, and its other words have their forms
pub record IsBegun (s : Section) (k : Keyword) (ws : List (List ℕ)) : Type 0 where
  pub forms : List Form
  pub allowed : forms_of s k ws ≡ Some forms
  pub fine : AllFine forms ws

begun_by : (s : Section) (k : Keyword) (ws : List (List ℕ)) (o : Option (List Form)) → forms_of s k ws ≡ o → IsFineShape (shape_by_forms ws o) → IsBegun s k ws
unfolding words_break
begun_by s k ws (Some fs) e h = record { forms = fs; allowed = e; fine = all_fine fs ws h }
begun_by s k ws None e h = absurd (cc)

same_keyword : (j k : Keyword) → Some j ≡ Some k → j ≡ k
same_keyword j k e = cc

begun_with : (st : Start) (s : Section) (ws : List (List ℕ)) (k : Keyword) → IsFineShape (shape_begun st s ws) → keyword_in st ≡ Some k → IsBegun s k ws
begun_with (start.Word (Some j)) s ws k h e = subst (λ k. IsBegun s k ws) (same_keyword j k e) (begun_by s j ws (forms_of s j ws) refl h)
begun_with (start.Word None) s ws k h e = absurd (cc)
begun_with (start.Answer r c) s ws k h e = absurd (cc)

pub begun : (s : Section) (ws : List (List ℕ)) (k : Keyword) → words_fault s ws ≡ None → begins ws ≡ Some k → IsBegun s k (drop 1 ws)
unfolding words_fault shape_of begins
begun s ws k h e = begun_with (start_of ws) s (drop 1 ws) k h e

-- ---- a body's lines

answered_by : (b : Bool) (r : Register) (k : Option CallWord) (e w : List ℕ) (ws : List (List ℕ)) → IsFineShape (cond b (shape_by_forms ws (option_map (λ k. call_forms k ws) k)) Unequal) → is_some (line_begun (start.Answer r k) (e ∷ w ∷ ws)) ≡ true
unfolding words_break
answered_by true r (Some k) e w ws h = some_map _ _ (callable k ws (all_fine _ ws h))
answered_by true r None e w ws h = absurd (cc)
answered_by false r k e w ws h = absurd (cc)

answered : (r : Register) (k : Option CallWord) (ws : List (List ℕ)) → IsFineShape (after_register k ws) → is_some (line_begun (start.Answer r k) ws) ≡ true
unfolding words_break
answered r k [] h = absurd (cc)
answered r k (e ∷ []) h = absurd (cc)
answered r k (e ∷ w ∷ ws) h = answered_by (bytes_eq e (codes "=")) r k e w ws h

plain : (k : Keyword) (ws : List (List ℕ)) → IsFineShape (shape_by_forms ws (body_forms k ws)) → (k ≡ key.End → ⊥) → is_some (line_by (Some k) ws) ≡ true
unfolding words_break
plain key.Set ws h n = row2 register operand _ ws (all_fine _ ws h)
plain key.Add ws h n = row2 register operand _ ws (all_fine _ ws h)
plain key.Note ws h n = row1 operand _ ws (all_fine _ ws h)
plain key.Label ws h n = row1 natural _ ws (all_fine _ ws h)
plain key.Goto ws h n = row4 natural operand relation operand _ ws (all_fine _ ws h)
plain (key.Call k) ws h n = some_map _ _ (callable k ws (all_fine _ ws h))
plain key.End ws h n = absurd (n refl)
plain _ ws h n = absurd (cc)

keyed : (o : Option Keyword) (ws : List (List ℕ)) → IsFineShape (shape_by_forms ws (option_and_then (λ k. body_forms k ws) o)) → (o ≡ Some key.End → ⊥) → is_some (line_by o ws) ≡ true
unfolding words_break
keyed (Some k) ws h n = plain k ws h (λ e. n (ap (λ k. Some k) e))
keyed None ws h n = absurd (cc)

body_begun : (st : Start) (ws : List (List ℕ)) → IsFineShape (shape_begun st sec.Body ws) → (keyword_in st ≡ Some key.End → ⊥) → is_some (line_begun st ws) ≡ true
body_begun (start.Word k) ws h n = keyed k ws h n
body_begun (start.Answer r k) ws h n = answered r k ws h

pub body_readable : (ws : List (List ℕ)) → words_fault sec.Body ws ≡ None → (begins ws ≡ Some key.End → ⊥) → is_some (line_of ws) ≡ true
unfolding words_fault shape_of line_of begins
body_readable ws h n = body_begun (start_of ws) (drop 1 ws) h n

-- ---- a handler's acts

acted : (k : Keyword) (ws : List (List ℕ)) → IsFineShape (shape_by_forms ws (act_forms k)) → (k ≡ key.End → ⊥) → is_some (act_by (Some k) ws) ≡ true
unfolding words_break
acted key.Note ws h n = values1 (act_with key.Note) ws (λ x. refl) (all_fine _ ws h)
acted key.Set ws h n = row2 shared value _ ws (all_fine _ ws h)
acted key.Release ws h n = values1 (act_with key.Release) ws (λ x. refl) (all_fine _ ws h)
acted key.Notify ws h n = values2 (act_with key.Notify) ws (λ x y. refl) (all_fine _ ws h)
acted key.Put ws h n = values2 (act_with key.Put) ws (λ x y. refl) (all_fine _ ws h)
acted key.SetKey ws h n = values2 (act_with key.SetKey) ws (λ x y. refl) (all_fine _ ws h)
acted key.End ws h n = absurd (n refl)
acted _ ws h n = absurd (cc)

acts_begun : (st : Start) (ws : List (List ℕ)) → IsFineShape (shape_begun st sec.Handler ws) → (keyword_in st ≡ Some key.End → ⊥) → is_some (act_begun st ws) ≡ true
unfolding words_break
acts_begun (start.Word (Some k)) ws h n = acted k ws h (λ e. n (ap (λ k. Some k) e))
acts_begun (start.Word None) ws h n = absurd (cc)
acts_begun (start.Answer r k) ws h n = absurd (cc)

pub act_readable : (ws : List (List ℕ)) → words_fault sec.Handler ws ≡ None → (begins ws ≡ Some key.End → ⊥) → is_some (act_of ws) ≡ true
unfolding words_fault shape_of act_of begins
act_readable ws h n = acts_begun (start_of ws) (drop 1 ws) h n

-- ---- checks

check_fine : (ws : List (List ℕ)) → AllFine (form.Natural ∷ form.Value ∷ form.Relation ∷ form.Value ∷ []) ws → is_some (check_by ws) ≡ true
check_fine [] h = absurd h
check_fine (n ∷ []) h = absurd h.1
check_fine (n ∷ x ∷ []) h = absurd h.1.1
check_fine (n ∷ x ∷ r ∷ []) h = absurd h.1.1.1
check_fine (n ∷ x ∷ r ∷ y ∷ []) h = some_then _ _ (value.reads x h.1.0) (λ a. some_then _ _ (relation.reads r h.1.1.0) (λ s. some_map _ _ (value.reads y h.1.1.1.0)))
check_fine (n ∷ x ∷ r ∷ y ∷ z ∷ ws) h = absurd h.1.1.1.1

-- what follows `check`
abbrev check_forms : List Form
check_forms = form.Natural ∷ form.Value ∷ form.Relation ∷ form.Value ∷ []

same_some : (a b : List Form) → Some a ≡ Some b → a ≡ b
same_some a b e = cc

checked : (s : Section) (ws : List (List ℕ)) (fs : List Form) → forms_of s key.Check ws ≡ Some fs → check_forms ≡ fs
checked sec.Handlers ws fs e = same_some _ fs e
checked sec.Checks ws fs e = same_some _ fs e
checked sec.Handler ws fs e = absurd (cc)
checked sec.Bodies ws fs e = absurd (cc)
checked sec.Body ws fs e = absurd (cc)
checked (sec.Kernel part.Head) ws fs e = absurd (cc)
checked (sec.Kernel part.Opens) ws fs e = absurd (cc)
checked (sec.Kernel part.Entries) ws fs e = absurd (cc)

checked_by : (s : Section) (ws : List (List ℕ)) → IsBegun s key.Check (drop 1 ws) → begins ws ≡ Some key.Check → is_some (check_of ws) ≡ true
unfolding check_of begins start_of
checked_by s [] b e = absurd (cc)
checked_by s (w ∷ ws) b e = check_fine ws (subst (λ fs. AllFine fs ws) (sym (checked s ws b.forms b.allowed)) b.fine)

pub check_readable : (s : Section) (ws : List (List ℕ)) → words_fault s ws ≡ None → begins ws ≡ Some key.Check → is_some (check_of ws) ≡ true
check_readable s ws h e = checked_by s ws (begun s ws key.Check h e) e

-- ---- the lines of a kernel

pub clock_readable : (p : KernelPart) (ws : List (List ℕ)) → words_fault (sec.Kernel p) ws ≡ None → begins ws ≡ Some key.Clock → is_some (clock_line ws) ≡ true
clock_readable p ws h e = let b = begun (sec.Kernel p) ws key.Clock h e in clock_stands p ws b.forms e b.allowed b.fine

pub open_readable : (p : KernelPart) (ws : List (List ℕ)) → words_fault (sec.Kernel p) ws ≡ None → begins ws ≡ Some key.Open → is_some (open_line ws) ≡ true
open_readable p ws h e = let b = begun (sec.Kernel p) ws key.Open h e in open_stands p ws b.forms e b.allowed b.fine

pub stamp_readable : (p : KernelPart) (ws : List (List ℕ)) → words_fault (sec.Kernel p) ws ≡ None → begins ws ≡ Some key.At → is_some (stamp_line ws) ≡ true
stamp_readable p ws h e = let b = begun (sec.Kernel p) ws key.At h e in stamp_stands p ws b.forms e b.allowed b.fine

-- ---- lines that begin with a keyword

-- the line begins with a keyword that may stand there
pub record IsKeyed (s : Section) (ws : List (List ℕ)) : Type 0 where
  pub keyword : Keyword
  pub first : begins ws ≡ Some keyword
  pub allowed : is_some (forms_of s keyword (drop 1 ws)) ≡ true

keyed_with : (st : Start) (s : Section) (ws : List (List ℕ)) → (s ≡ sec.Body → ⊥) → IsFineShape (shape_begun st s ws) → (k : Keyword) × (keyword_in st ≡ Some k) × (is_some (forms_of s k ws) ≡ true)
unfolding words_break
keyed_with (start.Word (Some k)) s ws n h = (k, refl, ap (λ o. is_some o) (begun_by s k ws (forms_of s k ws) refl h).allowed)
keyed_with (start.Word None) s ws n h = absurd (cc)
keyed_with (start.Answer r k) sec.Body ws n h = absurd (n refl)
keyed_with (start.Answer r k) sec.Handlers ws n h = absurd (cc)
keyed_with (start.Answer r k) sec.Handler ws n h = absurd (cc)
keyed_with (start.Answer r k) sec.Checks ws n h = absurd (cc)
keyed_with (start.Answer r k) sec.Bodies ws n h = absurd (cc)
keyed_with (start.Answer r k) (sec.Kernel part) ws n h = absurd (cc)

-- outside a body no line begins with a register
pub outside_keyed : (s : Section) (ws : List (List ℕ)) → (s ≡ sec.Body → ⊥) → words_fault s ws ≡ None → IsKeyed s ws
unfolding words_fault shape_of begins
outside_keyed s ws n h = let k = keyed_with (start_of ws) s (drop 1 ws) n h in record { keyword = k.0; first = k.1; allowed = k.2 }
