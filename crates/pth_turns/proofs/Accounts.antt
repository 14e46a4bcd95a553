-- Accounts of marks, and lists of marks that lead from one account to another.
use Rattle.std.proofs.Common.{◌≡◌, ℕ, ◌&&◌, true, List, [], ◌∷◌, ◌++◌, Option, Some, None, is_none, refl, sym, subst}
use Rattle.std.proofs.lemmas.Bool.{true≢false}
use Rattle.pth_base.specs.declared.mark.Mark.{Mark}
use Rattle.pth_turns.specs.Turns.{Account, account_of, AreAllowed, is_allowed, account_after, is_thread, speaker, is_up, has_turn, may_end}

-- each of these marks is allowed, and they lead from one account to another
pub record Leads (a : Account) (marks : List Mark) (b : Account) : Type 0 where
  pub allowed : AreAllowed a marks
  pub to : account_of a marks ≡ b

pub leads_nowhere : (a : Account) → Leads a [] a
leads_nowhere a = record { allowed = tt; to = refl }

pub leads_one : (a : Account) (m : Mark) → is_allowed a m ≡ true → Leads a (m ∷ []) (account_after a m)
leads_one a m h = record { allowed = (h, tt); to = refl }

pub leads_then : (a : Account) (xs ys : List Mark) (b c : Account) → Leads a xs b → Leads b ys c → Leads a (xs ++ ys) c
leads_then a [] ys b c x y = subst (λ (d : Account). Leads d ys c) (sym x.to) y
leads_then a (m ∷ xs) ys b c x y =
    let rest = leads_then (account_after a m) xs ys b c (record { allowed = x.allowed.1; to = x.to }) y in
    record { allowed = (x.allowed.0, rest.allowed); to = rest.to }

-- marks before others are allowed where all of them are
pub allowed_before : (a : Account) (xs ys : List Mark) → AreAllowed a (xs ++ ys) → AreAllowed a xs
allowed_before a [] ys h = tt
allowed_before a (m ∷ xs) ys h = (h.0, allowed_before (account_after a m) xs ys h.1)

-- who has the turn may end
pub turn_may_end : (a : Account) (t : ℕ) → has_turn a t ≡ true → may_end a t ≡ true
turn_may_end a t h = by_canceled a.canceled h
  where
    by_canceled : (o : Option ℕ) → (is_none o && is_thread a.running t && is_up a t) ≡ true → (is_thread (speaker o a.running) t && is_up a t) ≡ true
    by_canceled None h = h
    by_canceled (Some u) h = absurd (true≢false (sym h))
