-- How many ports and messages there are, after a change of one.
use Rattle.std.proofs.Common.{◌≡◌, ℕ, zero, suc, ◌+◌, ◌<◌, ◌≤◌, List, length, Option, None, is_some, if◌then◌else◌, refl, sym, ◌∙◌, ap, ap₂, add-one, zero-add, arith, inl, inr}
use Rattle.std.proofs.lemmas.Bool.{cases_lt}
use Rattle.pth_base.specs.Table.{put}
use Rattle.pth_base.proofs.Tables.{put_here, put_other}
use Rattle.pth_numbered.specs.Numbered.{number_known}
use Rattle.pth_numbered.proofs.Known.{number_same}
use Rattle.pth_port.specs.Mail.{Mail, Message, messages_of, queued}

-- 1 where there is one
abbrev pub one : {A : Type 0} → Option A → ℕ
one o = if is_some o then 1 else 0

pub number_put : {A : Type 0} (f : ℕ → Option A) (t : ℕ) (o : Option A) (n : ℕ) → 0 < t → t ≤ n → number_known (put f t o) n + one (f t) ≡ number_known f n + one o
unfolding number_known
number_put f t o zero some le = absurd (omega arith)
number_put f t o (suc n) some le = elim (cases_lt t (suc n)) [
  | inl low ↦ (
      let kept : put f t o (suc n) ≡ f (suc n) = put_other f t o (suc n) (omega arith) in
      let less = number_put f t o n some (omega arith) in
      rw kept (omega (arith, less)))
  | inr high ↦ (
      let at : suc n ≡ t = omega arith in
      let here : put f t o (suc n) ≡ o = ap (put f t o) at ∙ put_here f t o in
      let there : f (suc n) ≡ f t = ap f at in
      let kept : number_known (put f t o) n ≡ number_known f n = number_same (put f t o) f n (λ i low. ap is_some (put_other f t o i (omega arith))) in
      rw (here, there, kept) (omega arith))
]

-- the last number more has nothing
pub number_past : {A : Type 0} (f : ℕ → Option A) (n : ℕ) → f (n + 1) ≡ None → number_known f (n + 1) ≡ number_known f n
unfolding number_known
number_past f n none = let empty : f (suc n) ≡ None = ap f (sym (add-one n)) ∙ none in rw add-one (rw empty (zero-add _))

pub queued_same : (q r : Mail) (n : ℕ) → ((i : ℕ) → i ≤ n → r.at i ≡ q.at i) → queued r n ≡ queued q n
unfolding queued
queued_same q r zero same = refl
queued_same q r (suc n) same = ap₂ (λ (o : Option (List Message)) (k : ℕ). length (messages_of o) + k) (same (suc n) (omega arith)) (queued_same q r n (λ i le. same i (omega arith)))

pub queued_put : (q r : Mail) (p : ℕ) (o : Option (List Message)) (n : ℕ) → r.at ≡ put q.at p o → 0 < p → p ≤ n → queued r n + length (messages_of (q.at p)) ≡ queued q n + length (messages_of o)
unfolding queued
queued_put q r p o zero is some le = absurd (omega arith)
queued_put q r p o (suc n) is some le = elim (cases_lt p (suc n)) [
  | inl low ↦ (
      let kept : r.at (suc n) ≡ q.at (suc n) = ap (λ (f : ℕ → Option (List Message)). f (suc n)) is ∙ put_other q.at p o (suc n) (omega arith) in
      let less = queued_put q r p o n is some (omega arith) in
      rw kept (omega (arith, less)))
  | inr high ↦ (
      let at : suc n ≡ p = omega arith in
      let here : r.at (suc n) ≡ o = ap (λ (f : ℕ → Option (List Message)). f (suc n)) is ∙ ap (put q.at p o) at ∙ put_here q.at p o in
      let there : q.at (suc n) ≡ q.at p = ap q.at at in
      let kept : queued r n ≡ queued q n = queued_same q r n (λ i low. ap (λ (f : ℕ → Option (List Message)). f i) is ∙ put_other q.at p o i (omega arith)) in
      rw (here, there, kept) (omega arith))
]

pub queued_past : (q : Mail) (n : ℕ) → q.at (n + 1) ≡ None → queued q (n + 1) ≡ queued q n
unfolding queued
queued_past q n none = let empty : q.at (suc n) ≡ None = ap q.at (sym (add-one n)) ∙ none in rw add-one (rw empty (zero-add _))
