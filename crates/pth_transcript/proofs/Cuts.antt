-- Lines at the front of a text.
use Rattle.std.proofs.Common.{◌≡◌, ◌∙◌, ◌+◌, ◌==◌, ℕ, suc, true, false, List, ◌∷◌, ◌++◌, length, length-append, get_or, codes, ap, sym, refl, append_assoc, arith}
use Rattle.std.specs.List.{slice_split}
use Rattle.std.proofs.Math.Seq.{get_or-append_seam}
use Rattle.std.proofs.lemmas.Bool.{false≢true}
use Rattle.std.proofs.lemmas.List.{append_cancel_left}
use Rattle.std.proofs.lemmas.List.Splits.{slice_split_at}
use Rattle.pth_text.specs.Bytes.{code}
use Rattle.pth_transcript.specs.Taking.{IsLineless}

-- a text has an LF at its end, and no other
pub record IsLine (text : List ℕ) : Type 0 where
  pub line : List ℕ
  pub lineless : IsLineless line
  pub is : text ≡ line ++ codes "\n"

cut_at : (a x : List ℕ) → IsLineless a → slice_split (λ b. b == code "\n") ((a ++ codes "\n") ++ x) ≡ a ∷ slice_split (λ b. b == code "\n") x
cut_at a x none =
    ap (slice_split (λ b. b == code "\n")) (append_assoc a (codes "\n") x) ∙ slice_split_at (λ b. b == code "\n") a (code "\n") x none refl

same_head : (a b : List ℕ) (xs ys : List (List ℕ)) → a ∷ xs ≡ b ∷ ys → a ≡ b
same_head a b xs ys e = cc

-- two lines at the front of one text are one
same_cut : (a b x y : List ℕ) → IsLineless a → IsLineless b → (a ++ codes "\n") ++ x ≡ (b ++ codes "\n") ++ y → a ≡ b
same_cut a b x y p q e =
    same_head a b (slice_split (λ b. b == code "\n") x) (slice_split (λ b. b == code "\n") y)
    (sym (cut_at a x p) ∙ ap (slice_split (λ b. b == code "\n")) e ∙ cut_at b y q)

pub same_line : (s t x y : List ℕ) → IsLine s → IsLine t → s ++ x ≡ t ++ y → s ≡ t
same_line s t x y a b e =
    let both = ap (λ l. l ++ x) (sym a.is) ∙ e ∙ ap (λ l. l ++ y) b.is in
    a.is ∙ ap (λ l. l ++ codes "\n") (same_cut a.line b.line x y a.lineless b.lineless both) ∙ sym b.is

-- and so is what stands behind them
pub same_rest : (s t x y : List ℕ) → s ≡ t → s ++ x ≡ t ++ y → x ≡ y
same_rest s t x y same e = append_cancel_left t x y (ap (λ l. l ++ x) (sym same) ∙ e)

-- no line stands at the front of a text without LF
no_cut : (text a x : List ℕ) → IsLineless text → text ≡ a ++ code "\n" ∷ x → ⊥
no_cut text a x none e =
    let at : get_or text (length a) 0 ≡ code "\n" = ap (λ l. get_or l (length a) 0) e ∙ get_or-append_seam a (code "\n") x 0 in
    let long : length text ≡ length a + suc (length x) = ap length e ∙ length-append a (code "\n" ∷ x) in
    let no : (get_or text (length a) 0 == code "\n") ≡ false = none (length a) 0 (omega (arith, long)) in
    false≢true (sym no ∙ ap (λ b. b == code "\n") at)

pub no_line : (text s x : List ℕ) → IsLineless text → IsLine s → text ≡ s ++ x → ⊥
no_line text s x none a e =
    no_cut text a.line x none (e ∙ ap (λ l. l ++ x) a.is ∙ append_assoc a.line (codes "\n") x)
