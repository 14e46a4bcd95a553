-- A law of marks, one mark more.
use Rattle.std.proofs.Common.{◌≡◌, ◌⊎◌, ℕ, ◌+◌, ◌<◌, length, take, drop, get_or, arith, List, [], ◌∷◌, ◌++◌, refl, sym, ap, ap₂, ◌∙◌, subst, inl, inr}
use Rattle.std.proofs.lemmas.List.Elements.{All-nil, All-push}
use Rattle.std.proofs.lemmas.List.{length-take-le, take-append-drop, drop_more, take_more}
use Rattle.pth_base.specs.declared.mark.Mark.{Mark}
use Rattle.pth_laws.specs.Exclusive.{Exclusive, IsExclusiveAt}
use Rattle.pth_laws.specs.InOrder.{IsInOrderAt, queue}
use Rattle.pth_laws.specs.InTime.{InTime, IsInTime}
use Rattle.pth_laws.specs.Orderly.{Orderly, IsOrderlyAt}
use Rattle.pth_audit.specs.Auditing.{Follows}
use Rattle.pth_audit.specs.Verdicts.{IsLawful, BreaksFirst, IsBrokenAt, BeginsLawfully}
use Rattle.pth_audit.specs.declared.auditor.Auditor.{Auditor}
use Rattle.pth_audit.specs.declared.verdict.AuditRule.{AuditRule}
use Rattle.pth_audit.specs.declared.verdict.AuditRule.TheVariants as rule

-- what is said of each mark by those before it
abbrev pub Everywhere : (List Mark → Mark → Type 0) → List Mark → Type 0
Everywhere A marks = (before later : List Mark) (m : Mark) → marks ≡ before ++ m ∷ later → A before m

-- a mark of a list with one more is the last, or one of the list
abbrev IsLastOrIn : (xs before : List Mark) → (m n : Mark) → Type 0
IsLastOrIn xs before m n = ((before ≡ xs) × (n ≡ m)) ⊎ ((rest : List Mark) × (xs ≡ before ++ n ∷ rest))

not_empty : (ys later : List Mark) (n : Mark) → [] ≡ ys ++ n ∷ later → ⊥
not_empty [] later n e = cc e
not_empty (y ∷ ys) later n e = cc e

last_or_in : (xs before later : List Mark) (m n : Mark) → xs ++ m ∷ [] ≡ before ++ n ∷ later → IsLastOrIn xs before m n
last_or_in [] [] later m n e = (let h : n ≡ m = cc e in inl (refl, h))
last_or_in [] (y ∷ ys) later m n e = (let h : [] ≡ ys ++ n ∷ later = cc e in absurd (not_empty ys later n h))
last_or_in (x ∷ xs) [] later m n e = (let h : x ≡ n = cc e in inr (xs, ap (λ z. z ∷ xs) h))
last_or_in (x ∷ xs) (y ∷ ys) later m n e =
    let head : x ≡ y = cc e in
    let tail : xs ++ m ∷ [] ≡ ys ++ n ∷ later = cc e in
    elim (last_or_in xs ys later m n tail) [
      | inl h ↦ inl (ap₂ (λ z zs. z ∷ zs) (sym head) h.0, h.1)
      | inr h ↦ inr (h.0, ap₂ (λ z zs. z ∷ zs) head h.1)
    ]

module _ (A : List Mark → Mark → Type 0) (marks : List Mark) (m : Mark) where
  pub everywhere_more : Everywhere A marks → A marks m → Everywhere A (marks ++ m ∷ [])
  everywhere_more all here before later n is = elim (last_or_in marks before later m n is) [
    | inl h ↦ subst (λ zs. A zs n) (sym h.0) (subst (A marks) (sym h.1) here)
    | inr h ↦ all before h.0 n h.1
  ]

  pub everywhere_last : Everywhere A (marks ++ m ∷ []) → A marks m
  everywhere_last all = all marks [] m refl

-- ---- one mark more is judged

module _ (marks : List Mark) (m : Mark) (l : IsLawful marks) where
  in_time_more : IsInTime m → InTime (marks ++ m ∷ [])
  in_time_more here = All-push IsInTime marks m l.in_time here

  orderly_more : IsOrderlyAt marks m → Orderly (marks ++ m ∷ [])
  orderly_more here = everywhere_more IsOrderlyAt marks m l.orderly here

  exclusive_more : IsExclusiveAt marks m → Exclusive (marks ++ m ∷ [])
  exclusive_more here = everywhere_more IsExclusiveAt marks m l.exclusive here

  pub is_disorderly : IsInTime m → (IsOrderlyAt marks m → ⊥) → BreaksFirst rule.Orderly (marks ++ m ∷ [])
  is_disorderly in_time not = (in_time_more in_time, λ all. not (everywhere_last IsOrderlyAt marks m all))

  pub is_shared : IsInTime m → IsOrderlyAt marks m → (IsExclusiveAt marks m → ⊥) → BreaksFirst rule.Exclusive (marks ++ m ∷ [])
  is_shared in_time orderly not = (in_time_more in_time, orderly_more orderly, λ all. not (everywhere_last IsExclusiveAt marks m all))

  pub is_out_of_order : IsInTime m → IsOrderlyAt marks m → IsExclusiveAt marks m → (IsInOrderAt (queue marks) m → ⊥) → BreaksFirst rule.InOrder (marks ++ m ∷ [])
  is_out_of_order in_time orderly exclusive not =
      (in_time_more in_time, orderly_more orderly, exclusive_more exclusive, λ all. not (everywhere_last (λ before n. IsInOrderAt (queue before) n) marks m all))

  pub is_lawful : IsInTime m → IsOrderlyAt marks m → IsExclusiveAt marks m → IsInOrderAt (queue marks) m → IsLawful (marks ++ m ∷ [])
  is_lawful in_time orderly exclusive in_order = record {
    in_time = in_time_more in_time;
    orderly = orderly_more orderly;
    exclusive = exclusive_more exclusive;
    in_order = everywhere_more (λ before n. IsInOrderAt (queue before) n) marks m l.in_order in_order;
  }

pub lawful_none : IsLawful []
lawful_none = record {
  in_time = All-nil IsInTime;
  orderly = λ before later m e. absurd (not_empty before later m e);
  exclusive = λ before later m e. absurd (not_empty before later m e);
  in_order = λ before later m e. absurd (not_empty before later m e);
}

-- the marks up to place i are lawful, and break a law with the one that stands there
pub broken_there : (marks : List Mark) (i : ℕ) (m : Mark) (r : AuditRule) → i < length marks → m ≡ get_or marks i m → IsLawful (take i marks) → BreaksFirst r (take i marks ++ m ∷ []) → IsBrokenAt marks (i + 1) r
broken_there marks i m r low here lawful breaks = record {
  before = take i marks;
  mark = m;
  later = drop (i + 1) marks;
  all = sym (take-append-drop i marks) ∙ ap (λ l. take i marks ++ l) (drop_more marks i m low ∙ ap (λ x. x ∷ drop (i + 1) marks) (sym here));
  counted = ap (λ n. n + 1) (sym (length-take-le i marks (omega (arith, low))));
  lawful = lawful;
  breaks = breaks;
}

-- an auditor that follows the marks up to place i and the one that stands there follows those up to place i + 1
pub followed_more : (a : Auditor) (marks : List Mark) (i : ℕ) (m : Mark) → i < length marks → m ≡ get_or marks i m → Follows a (take i marks ++ m ∷ []) → Follows a (take (i + 1) marks)
followed_more a marks i m low here f = subst (Follows a) (sym (take_more marks i m low ∙ ap (λ x. take i marks ++ x ∷ []) (sym here))) f

-- the marks up to place i are lawful with the one that stands there
pub begins_there : (marks : List Mark) (i : ℕ) (m : Mark) → i < length marks → m ≡ get_or marks i m → IsLawful (take i marks ++ m ∷ []) → BeginsLawfully marks
begins_there marks i m low here lawful = record {
  before = take i marks;
  mark = m;
  later = drop (i + 1) marks;
  all = sym (take-append-drop i marks) ∙ ap (λ l. take i marks ++ l) (drop_more marks i m low ∙ ap (λ x. x ∷ drop (i + 1) marks) (sym here));
  lawful = lawful;
}
