use Rattle.std.proofs.Common.{◌≡◌, ◌==◌, ◌∙◌, ℕ, Bool, true, false, if◌then◌else◌, refl, sym, ap, None}
use Rattle.std.specs.Ordering.{nat_cmp}
use Rattle.std.specs.BTreeMap.{BTreeMap, get}
use Rattle.pth_store.specs.Cleanups.{without_top}
use Rattle.pth_base.proofs.Tables.{same_means}
use Rattle.pth_audit.specs.Endings.{Stack, pending_in}
use Rattle.pth_audit.proofs.handlers.pop.Goals as goal

-- a thread that has no stack has no handler to lose
none_lost : (m : BTreeMap ℕ Stack) (t u : ℕ) → get nat_cmp m t ≡ None → (b : Bool) → (t == u) ≡ b → pending_in m u ≡ (if b then without_top (pending_in m u) else pending_in m u)
none_lost m t u none true same =
    let here : get nat_cmp m u ≡ None = ap (get nat_cmp m) (sym (same_means t u same)) ∙ none in
    rw here
none_lost m t u none false same = refl

pub returns-in_default : goal.returns-in_default
returns-in_default c = λ u. ap (λ (m : BTreeMap ℕ Stack). pending_in m u) c.get_mut.follows.holds-at-none ∙ none_lost c.args.stacks.now c.args.t.0 u (sym c.in_default.ensures.value) (c.args.t.0 == u) refl
