-- A text has one refusal, or it is accepted and stands for one script.
use Rattle.std.proofs.Common.{◌≡◌, ◌<◌, ℕ, List, [], ◌∷◌, Option, Some, None, map, refl, ap, sym, ◌∙◌, inl, inr}
use Rattle.std.proofs.lemmas.Bool.{cases_order}
use Rattle.std.proofs.lemmas.Option.{same_Some}
use Rattle.pth_kernel.specs.Kernel.{Kernel, started}
use Rattle.pth_line.specs.Script.{Sections}
use Rattle.pth_script.specs.Broken.{broken, IsAccepted, IsRefusal}
use Rattle.pth_script.specs.Labels.{somes}
use Rattle.pth_script.specs.Meaning.{IsScriptOf, IsKernelOf, IsTopOf}
use Rattle.pth_script.specs.RuleOrder.{first_broken}
use Rattle.pth_text.specs.declared.rule.Breach.{Breach}

-- ---- refusals

some_not_none : (o : Option Breach) (b : Breach) → o ≡ Some b → o ≡ None → ⊥
some_not_none o b s n = absurd (cc)

not_below : (text : List ℕ) (i j : ℕ) (b c : Breach) → IsRefusal text i b → IsRefusal text j c → i < j → ⊥
not_below text i j b c r s h = some_not_none (first_broken (broken text i)) b r.first (s.least i r.from h)

pub same_line : (text : List ℕ) (i j : ℕ) (b c : Breach) → IsRefusal text i b → IsRefusal text j c → i ≡ j
same_line text i j b c r s = elim (cases_order i j) [
  | inl e ↦ e
  | inr h ↦ elim h [ inl below ↦ absurd (not_below text i j b c r s below) | inr over ↦ absurd (not_below text j i c b s r over) ]
]

pub same_breach : (text : List ℕ) (i j : ℕ) (b c : Breach) → IsRefusal text i b → IsRefusal text j c → b ≡ c
same_breach text i j b c r s = same_Some b c (sym r.first ∙ ap (λ k. first_broken (broken text k)) (same_line text i j b c r s) ∙ s.first)

pub not_both : (text : List ℕ) (i : ℕ) (b : Breach) → IsAccepted text → IsRefusal text i b → ⊥
not_both text i b a r = some_not_none (first_broken (broken text i)) b r.first (a i r.from r.within)

-- ---- scripts

read_back : {A : Type 0} → List (Option A) → List A
read_back [] = []
read_back (Some x ∷ xs) = x ∷ read_back xs
read_back (None ∷ xs) = read_back xs

reads_back : {A : Type 0} (xs : List A) → read_back (somes xs) ≡ xs
unfolding read_back
reads_back [] = refl
reads_back (x ∷ xs) = ap (λ t. x ∷ t) (reads_back xs)

reads_all : {A : Type 0} (xs : List (List A)) → map read_back (map somes xs) ≡ xs
reads_all [] = refl
reads_all (x ∷ xs) = (λ i. reads_back x i ∷ reads_all xs i)

one_list : {A : Type 0} (xs ys : List A) → somes xs ≡ somes ys → xs ≡ ys
one_list xs ys e = sym (reads_back xs) ∙ ap read_back e ∙ reads_back ys

each_list : {A : Type 0} (xs ys : List (List A)) → map somes xs ≡ map somes ys → xs ≡ ys
each_list xs ys e = sym (reads_all xs) ∙ ap (map read_back) e ∙ reads_all ys

pub one_script : (text : List ℕ) (s t : Sections) → IsScriptOf s text → IsScriptOf t text → s ≡ t
one_script text s t h k = λ i. record {
  handlers = each_list s.handlers t.handlers (h.handlers ∙ sym k.handlers) i;
  checks = one_list s.checks t.checks (h.checks ∙ sym k.checks) i;
  bodies = each_list s.bodies t.bodies (h.bodies ∙ sym k.bodies) i;
}

-- ---- kernels

pub one_kernel : (text : List ℕ) (k l : Kernel) → IsKernelOf k text → IsKernelOf l text → k ≡ l
one_kernel text k l h g =
    let clock = same_Some h.0 g.0 (h.3 ∙ sym g.3) in
    let live = same_Some h.1 g.1 (h.4 ∙ sym g.4) in
    let trace = one_list h.2 g.2 (h.5 ∙ sym g.5) in
    h.6 ∙ (λ i. started (clock i) (live i) (trace i)) ∙ sym g.6

-- ---- priorities

pub one_top : (text : List ℕ) (m n : ℕ) → IsTopOf m text → IsTopOf n text → m ≡ n
one_top text m n h k = h ∙ sym k
