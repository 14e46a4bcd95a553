-- A judge of turns follows one mark more, or refuses it.
use Rattle.std.proofs.Common.{◌≡◌, ◌<◌, ◌+◌, ℕ, ◌==◌, ◌&&◌, ◌||◌, not, Bool, true, false, List, [], ◌∷◌, ◌++◌, length, take, drop, get_or, refl, sym, ◌∙◌, ap, subst}
use mathlib.Core.Path.{fun_ext}
use Rattle.std.proofs.lemmas.Bool.{true≢false}
use Rattle.std.proofs.lemmas.List.{take-append-drop, take_more}
use Rattle.pth_base.specs.Table.{put}
use Rattle.pth_base.proofs.Tables.{same_self, not_same, put_by}
use Rattle.pth_base.specs.declared.mark.Mark.{Mark}
use Rattle.pth_turns.proofs.Accounts.{allowed_before}
use Rattle.pth_turns.specs.Judging.{Follows, account_in}
use Rattle.pth_turns.specs.Turns.{Account, AreAllowed, InTurns, account_after, account_of, first_account, is_allowed}
use Rattle.pth_turns.specs.declared.judge.TurnJudge.{TurnJudge}

allowed_more : (a : Account) (marks : List Mark) (m : Mark) → AreAllowed a marks → is_allowed (account_of a marks) m ≡ true → AreAllowed a (marks ++ m ∷ [])
allowed_more a [] m all now = (now, tt)
allowed_more a (x ∷ marks) m all now = (all.0, allowed_more (account_after a x) marks m all.1 now)

last_allowed : (a : Account) (marks : List Mark) (m : Mark) → AreAllowed a (marks ++ m ∷ []) → is_allowed (account_of a marks) m ≡ true
last_allowed a [] m all = all.0
last_allowed a (x ∷ marks) m all = last_allowed (account_after a x) marks m all.1

account_more : (a : Account) (marks : List Mark) (m : Mark) → account_of a (marks ++ m ∷ []) ≡ account_after (account_of a marks) m
account_more a [] m = refl
account_more a (x ∷ marks) m = account_more (account_after a x) marks m

pub follows_more : (j k : TurnJudge) (marks : List Mark) (m : Mark) → is_allowed (account_in j) m ≡ true → account_in k ≡ account_after (account_in j) m → Follows j marks → Follows k (marks ++ m ∷ [])
follows_more j k marks m now after f = record {
  in_turns = allowed_more first_account marks m f.in_turns (ap (λ (a : Account). is_allowed a m) (sym f.account) ∙ now);
  account = after ∙ (ap (λ (a : Account). account_after a m) f.account ∙ sym (account_more first_account marks m));
}

pub refuses_more : (j : TurnJudge) (marks : List Mark) (m : Mark) → is_allowed (account_in j) m ≡ false → Follows j marks → InTurns (marks ++ m ∷ []) → ⊥
refuses_more j marks m now f all = true≢false (sym (last_allowed first_account marks m all) ∙ (ap (λ (a : Account). is_allowed a m) (sym f.account) ∙ now))

-- marks up to place i are not in turns with the one that stands there, or a judge follows them
pub broken_there : (marks : List Mark) (i : ℕ) (m : Mark) → i < length marks → m ≡ get_or marks i m → (InTurns (take i marks ++ m ∷ []) → ⊥) → InTurns marks → ⊥
broken_there marks i m low here breaks all =
    breaks (subst InTurns (take_more marks i m low ∙ ap (λ x. take i marks ++ x ∷ []) (sym here)) (allowed_before first_account (take (i + 1) marks) (drop (i + 1) marks) (subst InTurns (sym (take-append-drop (i + 1) marks)) all)))

pub followed_more : (j : TurnJudge) (marks : List Mark) (i : ℕ) (m : Mark) → i < length marks → m ≡ get_or marks i m → Follows j (take i marks ++ m ∷ []) → Follows j (take (i + 1) marks)
followed_more j marks i m low here f = subst (Follows j) (sym (take_more marks i m low ∙ ap (λ x. take i marks ++ x ∷ []) (sym here))) f

or_true : (b : Bool) → (b || true) ≡ true
or_true true = refl
or_true false = refl

or_none : (b : Bool) → (b || false) ≡ b
or_none true = refl
or_none false = refl

and_none : (b : Bool) → (b && false) ≡ false
and_none true = refl
and_none false = refl

and_all : (b : Bool) → (b && true) ≡ b
and_all true = refl
and_all false = refl

-- a set with one more, as a table
pub one_more : (f g : ℕ → Bool) (t : ℕ) → ((u : ℕ) → g u ≡ (f u || (t == u))) → g ≡ put f t true
one_more f g t same = fun_ext (λ u. put_by (λ b. g u ≡ b) f t true u (λ here. same u ∙ (ap (λ i. f u || (t == i)) here ∙ (ap (λ b. f u || b) (same_self t) ∙ or_true (f u)))) (λ other. same u ∙ (ap (λ b. f u || b) (not_same t u (λ is. other (sym is))) ∙ or_none (f u))))

-- a set with one less
pub one_less : (f g : ℕ → Bool) (t : ℕ) → ((u : ℕ) → g u ≡ (f u && not (t == u))) → g ≡ put f t false
one_less f g t same = fun_ext (λ u. put_by (λ b. g u ≡ b) f t false u (λ here. same u ∙ (ap (λ i. f u && not (t == i)) here ∙ (ap (λ b. f u && not b) (same_self t) ∙ and_none (f u)))) (λ other. same u ∙ (ap (λ b. f u && not b) (not_same t u (λ is. other (sym is))) ∙ and_all (f u))))

or_beside : (all b c : Bool) → (all || (b || c)) ≡ ((all || b) || c)
or_beside true b c = refl
or_beside false b c = refl

-- the same beside what holds of all
pub more_beside : (all : Bool) (f g : ℕ → Bool) (t : ℕ) → ((u : ℕ) → g u ≡ (f u || (t == u))) → ◌≡◌ {A = ℕ → Bool} (λ u. all || g u) (put (λ u. all || f u) t true)
more_beside all f g t same = one_more (λ u. all || f u) (λ u. all || g u) t (λ u. ap (λ b. all || b) (same u) ∙ or_beside all (f u) (t == u))
