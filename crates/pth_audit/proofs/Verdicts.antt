-- A list of marks has one verdict.
use Rattle.std.proofs.Common.{◌≡◌, ℕ, ◌+◌, ◌<◌, List, [], ◌∷◌, ◌++◌, length, refl, sym, ap, ◌∙◌, arith, subst, inl, inr}
use Rattle.std.proofs.lemmas.Bool.{cases_lt}
use Rattle.std.proofs.lemmas.List.{append_assoc}
use Rattle.std.proofs.lemmas.List.Elements.{All-nil, All-cons, All-head, All-tail}
use Rattle.pth_base.specs.declared.mark.Mark.{Mark}
use Rattle.pth_base.specs.Program.{Functions}
use Rattle.pth_model.specs.Run.{run}
use Rattle.pth_model.specs.State.{Given}
use Rattle.pth_laws.specs.InTime.{InTime, IsInTime}
use Rattle.pth_laws.proofs.EveryRun.{run_exclusive, run_in_order, run_orderly}
use Rattle.pth_laws.proofs.InTime.{run_in_time}
use Rattle.pth_audit.specs.Verdicts.{IsLawful, BreaksFirst, IsBrokenAt, IsVerdict}
use Rattle.pth_audit.specs.declared.verdict.AuditRule.{AuditRule}
use Rattle.pth_audit.specs.declared.verdict.AuditRule.TheVariants as rule
use Rattle.pth_audit.specs.declared.verdict.Verdict.{Verdict}
use Rattle.pth_audit.specs.declared.verdict.Verdict.TheVariants.{Yes, No}

-- ---- a beginning of lawful marks is lawful

-- what is said of each mark by those before it
abbrev Everywhere : (List Mark → Mark → Type 0) → List Mark → Type 0
Everywhere A marks = (before later : List Mark) (m : Mark) → marks ≡ before ++ m ∷ later → A before m

of_beginning : (A : List Mark → Mark → Type 0) (xs ys : List Mark) → Everywhere A (xs ++ ys) → Everywhere A xs
of_beginning A xs ys all before later m is = all before (later ++ ys) m (ap (λ zs. zs ++ ys) is ∙ append_assoc before (m ∷ later) ys)

in_time_beginning : (xs ys : List Mark) → InTime (xs ++ ys) → InTime xs
in_time_beginning [] ys all = All-nil IsInTime
in_time_beginning (x ∷ xs) ys all = All-cons IsInTime x xs (All-head IsInTime x (xs ++ ys) all) (in_time_beginning xs ys (All-tail IsInTime x (xs ++ ys) all))

pub lawful_beginning : (xs ys : List Mark) → IsLawful (xs ++ ys) → IsLawful xs
lawful_beginning xs ys l = record {
  in_time = in_time_beginning xs ys l.in_time;
  orderly = of_beginning _ xs ys l.orderly;
  exclusive = of_beginning _ xs ys l.exclusive;
  in_order = of_beginning _ xs ys l.in_order;
}

-- ---- two verdicts

broken : (r : AuditRule) (marks : List Mark) → BreaksFirst r marks → IsLawful marks → ⊥
broken rule.InTime marks b l = b l.in_time
broken rule.Orderly marks b l = b.1 l.orderly
broken rule.Exclusive marks b l = b.2 l.exclusive
broken rule.InOrder marks b l = b.3 l.in_order

not_both : (marks : List Mark) (at : ℕ) (r : AuditRule) → IsLawful marks → IsBrokenAt marks at r → ⊥
not_both marks at r l b = broken r (b.before ++ b.mark ∷ []) b.breaks (lawful_beginning (b.before ++ b.mark ∷ []) b.later (subst IsLawful (b.all ∙ sym (append_assoc b.before (b.mark ∷ []) b.later)) l))

same_rule : (r q : AuditRule) (marks : List Mark) → BreaksFirst r marks → BreaksFirst q marks → r ≡ q
same_rule rule.InTime rule.InTime marks a b = refl
same_rule rule.InTime rule.Orderly marks a b = absurd (a b.0)
same_rule rule.InTime rule.Exclusive marks a b = absurd (a b.0)
same_rule rule.InTime rule.InOrder marks a b = absurd (a b.0)
same_rule rule.Orderly rule.InTime marks a b = absurd (b a.0)
same_rule rule.Orderly rule.Orderly marks a b = refl
same_rule rule.Orderly rule.Exclusive marks a b = absurd (a.1 b.1)
same_rule rule.Orderly rule.InOrder marks a b = absurd (a.1 b.1)
same_rule rule.Exclusive rule.InTime marks a b = absurd (b a.0)
same_rule rule.Exclusive rule.Orderly marks a b = absurd (b.1 a.1)
same_rule rule.Exclusive rule.Exclusive marks a b = refl
same_rule rule.Exclusive rule.InOrder marks a b = absurd (a.2 b.2)
same_rule rule.InOrder rule.InTime marks a b = absurd (b a.0)
same_rule rule.InOrder rule.Orderly marks a b = absurd (b.1 a.1)
same_rule rule.InOrder rule.Exclusive marks a b = absurd (b.2 a.2)
same_rule rule.InOrder rule.InOrder marks a b = refl

-- of two beginnings with a mark more, one goes on with the other
longer : (xs ys us vs : List Mark) (m n : Mark) → xs ++ m ∷ us ≡ ys ++ n ∷ vs → length xs < length ys → (ws : List Mark) × (ys ≡ (xs ++ m ∷ []) ++ ws)
longer [] [] us vs m n e low = absurd (omega (arith, low))
longer [] (y ∷ ys) us vs m n e low = (let h : m ≡ y = cc e in (ys, ap (λ x. x ∷ ys) (sym h)))
longer (x ∷ xs) [] us vs m n e low = absurd (omega (arith, low))
longer (x ∷ xs) (y ∷ ys) us vs m n e low =
    let head : x ≡ y = cc e in
    let tail : xs ++ m ∷ us ≡ ys ++ n ∷ vs = cc e in
    let r = longer xs ys us vs m n tail (omega (arith, low)) in
    (r.0, ap (λ zs. y ∷ zs) r.1 ∙ ap (λ z. z ∷ ((xs ++ m ∷ []) ++ r.0)) (sym head))

same_place : (xs ys us vs : List Mark) (m n : Mark) → xs ++ m ∷ us ≡ ys ++ n ∷ vs → length xs ≡ length ys → xs ++ m ∷ [] ≡ ys ++ n ∷ []
same_place [] [] us vs m n e long = (let h : m ≡ n = cc e in ap (λ x. x ∷ []) h)
same_place [] (y ∷ ys) us vs m n e long = absurd (omega (arith, long))
same_place (x ∷ xs) [] us vs m n e long = absurd (omega (arith, long))
same_place (x ∷ xs) (y ∷ ys) us vs m n e long =
    let head : x ≡ y = cc e in
    let tail : xs ++ m ∷ us ≡ ys ++ n ∷ vs = cc e in
    ap (λ z. z ∷ (xs ++ m ∷ [])) head ∙ ap (λ zs. y ∷ zs) (same_place xs ys us vs m n tail (omega (arith, long)))

no_earlier : (marks : List Mark) (at to : ℕ) (r q : AuditRule) (a : IsBrokenAt marks at r) (b : IsBrokenAt marks to q) → length a.before < length b.before → ⊥
no_earlier marks at to r q a b low =
    let p = longer a.before b.before a.later b.later a.mark b.mark (sym a.all ∙ b.all) low in
    broken r (a.before ++ a.mark ∷ []) a.breaks (lawful_beginning (a.before ++ a.mark ∷ []) p.0 (subst IsLawful p.1 b.lawful))

same_broken : (marks : List Mark) (at to : ℕ) (r q : AuditRule) → IsBrokenAt marks at r → IsBrokenAt marks to q → ◌≡◌ {A = Verdict} (No at r) (No to q)
same_broken marks at to r q a b = elim (cases_lt (length a.before) (length b.before)) [
  | inl low ↦ absurd (no_earlier marks at to r q a b low)
  | inr high ↦ elim (cases_lt (length b.before) (length a.before)) [
    | inl low ↦ absurd (no_earlier marks to at q r b a low)
    | inr same ↦ (
        let long : length a.before ≡ length b.before = omega (arith, high, same) in
        let text : a.before ++ a.mark ∷ [] ≡ b.before ++ b.mark ∷ [] = same_place a.before b.before a.later b.later a.mark b.mark (sym a.all ∙ b.all) long in
        let rules : r ≡ q = same_rule r q (b.before ++ b.mark ∷ []) (subst (BreaksFirst r) text a.breaks) b.breaks in
        let places : at ≡ to = a.counted ∙ ap (λ n. n + 1) long ∙ sym b.counted in
        cc (rules, places))
  ]
]

pub one_verdict : (marks : List Mark) (v w : Verdict) → IsVerdict marks v → IsVerdict marks w → v ≡ w
one_verdict marks Yes Yes a b = refl
one_verdict marks Yes (No at r) a b = absurd (not_both marks at r a b)
one_verdict marks (No at r) Yes a b = absurd (not_both marks at r b a)
one_verdict marks (No at r) (No to q) a b = same_broken marks at to r q a b

-- ---- runs

pub run_lawful : {P S H : Type 0} (f : P → Functions S H) (g : Given P) (i : ℕ) → IsLawful (run f g i).marks
run_lawful f g i = record { in_time = run_in_time f g i; orderly = run_orderly f g i; exclusive = run_exclusive f g i; in_order = run_in_order f g i }
