-- The labels of a body, and what one more line does to the places after them.
use Rattle.std.proofs.Common.{◌≡◌, ℕ, suc, ◌+◌, ℤ, Bool, true, false, ◌||◌, cond, List, [], ◌∷◌, ◌++◌, length, Option, Some, None, IfSome, is_some, option_map, refl, sym, ◌∙◌, ap, add-one}
use Rattle.std.specs.Option.{option_or, option_copied}
use Rattle.std.specs.Borrow.{Bor}
use Rattle.std.specs.Ordering.{int_cmp, int_eq}
use Rattle.std.specs.Map.{lookup}
use Rattle.std.specs.List.{list_all}
use Rattle.std.specs.BTreeMap.{BTreeMap, is_at, IsUnchanged, get}
use Rattle.std.proofs.lemmas.List.Folds.{list_any-append, list_all-append}
use Rattle.std.proofs.lemmas.Bool.Decides.{Decides-int_eq}
use Rattle.std.proofs.lemmas.List.{map-append, length-map}
use Rattle.pth_line.specs.declared.line.Line.{Line}
use Rattle.pth_line.specs.declared.line.Line.TheVariants as line
use Rattle.pth_script.specs.Labels.{somes, label_in, goto_in, one_or_none, labels_in, gotos_in, has, is_this_label, place_after}
use Rattle.pth_script.specs.Bodies.{IsIndexed, Marks}

-- ---- lists of lines

-- a test of each label that a `goto` names, line by line
pub all_gotos : (p : ℤ → Bool) (ls : List Line) → list_all p (gotos_in ls) ≡ list_all (λ l. list_all p (one_or_none (goto_in l))) ls
unfolding gotos_in
all_gotos p [] = refl
all_gotos p (l ∷ ls) = rw (list_all-append p (one_or_none (goto_in l)) (gotos_in ls), all_gotos p ls)

-- ---- a label has a place after it

copied_some : (o : Option (Bor ℕ)) → is_some o ≡ is_some (option_copied o)
copied_some None = refl
copied_some (Some n) = refl

has_or : (t b : Bool) (o : Option ℕ) → b ≡ is_some o → ((t || false) || b) ≡ is_some (cond t (Some 1) (option_map (λ n. suc n) o))
has_or true b o e = refl
has_or false b None e = e
has_or false b (Some n) e = e

is_some_suc : (o : Option ℕ) → is_some o ≡ is_some (option_map (λ n. suc n) o)
is_some_suc None = refl
is_some_suc (Some n) = refl

has_line : (l : Line) (k : ℤ) (b : Bool) (o : Option ℕ) → b ≡ is_some o → (has (one_or_none (label_in l)) k || b) ≡ is_some (cond (is_this_label (Some l) k) (Some 1) (option_map (λ n. suc n) o))
has_line (line.Label n) k b o e = has_or (int_eq n k) b o e
has_line l k b o e = e ∙ is_some_suc o

pub has_place : (ls : List Line) (k : ℤ) → has (labels_in ls) k ≡ is_some (place_after (somes ls) k)
unfolding labels_in place_after
has_place [] k = refl
has_place (l ∷ ls) k = list_any-append (λ m. int_eq m k) (one_or_none (label_in l)) (labels_in ls) ∙ has_line l k (has (labels_in ls) k) (place_after (somes ls) k) (has_place ls k)

-- what the map says of a label
pub looked_up : (o : Option (Bor ℕ)) (ls : List Line) (m : BTreeMap ℤ ℕ) (k : ℤ) → IsIndexed ls m → option_copied o ≡ get int_cmp m k → is_some o ≡ has (labels_in ls) k
looked_up o ls m k is e = copied_some o ∙ ap (λ (p : Option ℕ). is_some p) (e ∙ is k) ∙ sym (has_place ls k)

-- ---- one more line

-- the place after the last of n + 1 lines, if it passes
abbrev last_place : Bool → ℕ → Option ℕ
last_place b n = cond b (Some (n + 1)) None

one_more : (t b : Bool) (n : ℕ) (o p : Option ℕ) → o ≡ option_or p (last_place b n) → cond t (Some 1) (option_map (λ n. suc n) o) ≡ option_or (cond t (Some 1) (option_map (λ n. suc n) p)) (last_place b (suc n))
one_more true b n o p e = refl
one_more false b n o (Some q) e = rw e
one_more false true n o None e = rw (e, add-one, add-one)
one_more false false n o None e = rw e

-- the place after a label is the one so far, and else the place after the last line
pub place_push : (ls : List (Option Line)) (l : Option Line) (k : ℤ) → place_after (ls ++ l ∷ []) k ≡ option_or (place_after ls k) (last_place (is_this_label l k) (length ls))
unfolding place_after
place_push [] l k = refl
place_push (m ∷ ls) l k = one_more (is_this_label m k) (is_this_label l k) (length ls) (place_after (ls ++ l ∷ []) k) (place_after ls k) (place_push ls l k)

updated : (t : Bool) (n : ℕ) (o : Option ℕ) → (t ≡ true → o ≡ None) → cond t (Some (n + 1)) o ≡ option_or o (last_place t n)
updated true n o fresh = rw (fresh refl)
updated false n None fresh = refl
updated false n (Some p) fresh = refl

none_if : (o : Option ℕ) → is_some o ≡ false → o ≡ None
none_if None e = refl
none_if (Some n) e = cc

pub no_place : (ls : List Line) (k : ℤ) → has (labels_in ls) k ≡ false → place_after (somes ls) k ≡ None
no_place ls k e = none_if (place_after (somes ls) k) (sym (has_place ls k) ∙ e)

label_placed : (o : Option ℕ) (k q : ℤ) (n : ℕ) (f : ℤ → Option ℕ) → f k ≡ None → o ≡ f q → cond (int_eq k q) (Some (n + 1)) o ≡ option_or (f q) (last_place (int_eq k q) n)
label_placed o k q n f none e = rw e (updated (int_eq k q) n (f q) (λ t. ap f (sym ((Decides-int_eq k q).0 t)) ∙ none))

unplaced : (o p : Option ℕ) → o ≡ p → o ≡ option_or p None
unplaced o None e = e
unplaced o (Some n) e = e

unchanged : (m n : BTreeMap ℤ ℕ) (q : ℤ) (o : Option ℕ) → IsUnchanged m n → get int_cmp m q ≡ o → get int_cmp n q ≡ option_or o None
unchanged m n q o same e = unplaced (get int_cmp n q) o (ap (λ (es : List (ℤ × ℕ)). lookup (is_at (int_cmp q)) es) same ∙ e)

push_by : (ls : List Line) (l : Line) (m n : BTreeMap ℤ ℕ) → IsIndexed ls m → IfSome (label_in l) (λ k. has (labels_in ls) k ≡ false) → Marks l (length ls + 1) m n
    → (q : ℤ) → get int_cmp n q ≡ option_or (place_after (somes ls) q) (last_place (is_this_label (Some l) q) (length ls))
push_by ls (line.Label k) m n is fresh marked q = marked.0 q ∙ label_placed (get int_cmp m q) k q (length ls) (place_after (somes ls)) (no_place ls k fresh) (is q)
push_by ls l m n is fresh marked q = unchanged m n q (place_after (somes ls) q) marked (is q)

-- the map of the lines, and one more line
pub indexed_push : (ls : List Line) (l : Line) (m n : BTreeMap ℤ ℕ) → IsIndexed ls m → IfSome (label_in l) (λ k. has (labels_in ls) k ≡ false) → Marks l (length ls + 1) m n → IsIndexed (ls ++ l ∷ []) n
indexed_push ls l m n is fresh marked q =
    push_by ls l m n is fresh marked q
    ∙ ap (λ a. option_or (place_after (somes ls) q) (last_place (is_this_label (Some l) q) a)) (sym (length-map ls (λ x. Some x)))
    ∙ sym (place_push (somes ls) (Some l) q)
    ∙ ap (λ ms. place_after ms q) (sym (map-append (λ x. Some x) ls (l ∷ [])))
