-- What each change of the nodes is to the rings.
use Rattle.std.proofs.Common.{◌≡◌, ◌≢◌, ℕ, ◌==◌, true, List, [], ◌∷◌, Option, Some, None, IsSome, refl, sym, ◌∙◌, inl, inr, subst}
use mathlib.Core.Path.{fun_ext}
use Rattle.pth_base.specs.Table.{put}
use Rattle.pth_base.proofs.Tables.{put_here, put_other, put_is, same_self}
use Rattle.pth_base.proofs.Chains.{stands_or_not, closed-next}
use Rattle.pth_ring.specs.declared.node.Node.{Node}
use Rattle.pth_ring.specs.Ring.{turned, circle, rest_of, head_event}
use Rattle.pth_ring.specs.Links.{next_place, prev_place, event_at, ring, IsLinkedRing, IsLinked, Splices}
use Rattle.pth_ring.proofs.Lists.{not_in_one}
use Rattle.pth_ring.proofs.Turns.{circle-in, circle-out}
use Rattle.pth_ring.proofs.Circles.{ring-is, ring-in}
use Rattle.pth_ring.proofs.Changes.{parted-linked, parted-ring}

pub turned-alone : (e : ℕ) → turned e (e ∷ []) ≡ e ∷ []
unfolding turned
turned-alone e = let t : (e == e) ≡ true = same_self e in rw t refl

-- ---- the next one

pub record HasNext (x : ℕ → Option Node) (e : ℕ) : Type 0 where
  pub rest : List ℕ
  pub circle : IsLinkedRing x (e ∷ next_place x e ∷ rest)

alone_by : (x : ℕ → Option Node) (e : ℕ) (l : List ℕ) → IsLinkedRing x (e ∷ l) → next_place x e ≡ e → IsLinkedRing x (e ∷ [])
alone_by x e [] c h = c
alone_by x e (b ∷ ys) c h = absurd (c.distinct.0 b (inl refl) (sym c.links.0 ∙ h))

more_by : (x : ℕ → Option Node) (e : ℕ) (l : List ℕ) → IsLinkedRing x (e ∷ l) → next_place x e ≢ e → HasNext x e
more_by x e [] c h = absurd (h c.links.0)
more_by x e (b ∷ ys) c h = record { rest = ys; circle = subst (λ v. IsLinkedRing x (e ∷ v ∷ ys)) (sym c.links.0) c }

module _ (x : ℕ → Option Node) (e : ℕ) (linked : IsLinked x) (live : IsSome (event_at x e)) where
  pub alone : next_place x e ≡ e → IsLinkedRing x (e ∷ [])
  alone h = let c = linked.circle e live in alone_by x e c.0 c.1 h

  pub more : next_place x e ≢ e → HasNext x e
  more h = let c = linked.circle e live in more_by x e c.0 c.1 h

  pub live-next : IsSome (event_at x (next_place x e))
  live-next = let c = linked.circle e live in c.1.live (next_place x e) (closed-next (next_place x) (prev_place x) (e ∷ c.0) e c.1.links (inl refl))

  pub ring-alone : next_place x e ≡ e → ring x e ≡ e ∷ []
  ring-alone h = ring-is x e [] (alone h)

  pub ring-more : (n : next_place x e ≢ e) → ring x e ≡ e ∷ next_place x e ∷ (more n).rest
  ring-more n = ring-is x e (next_place x e ∷ (more n).rest) (more n).circle

  same_at : (f : ℕ) → IsLinkedRing x (e ∷ []) → ring x f ≡ circle (e ∷ []) (circle [] (ring x)) f
  same_at f c = elim (stands_or_not f (e ∷ [])) [
    | inl h ↦ ring-in x (e ∷ []) f c h ∙ sym (circle-in (e ∷ []) (circle [] (ring x)) f h)
    | inr out ↦ sym (circle-out (e ∷ []) (circle [] (ring x)) f out ∙ circle-out [] (ring x) f (λ h. h))
  ]

  pub part-none : next_place x e ≡ e → ring x ≡ circle (e ∷ []) (circle (rest_of (ring x e)) (ring x))
  part-none h = rw (ring-alone h) (fun_ext (λ f. same_at f (alone h)))

  pub first-none : next_place x e ≡ e → None ≡ head_event (rest_of (ring x e))
  first-none h = rw (ring-alone h) refl

  pub first-some : next_place x e ≢ e → Some (next_place x e) ≡ head_event (rest_of (ring x e))
  first-some n = rw (ring-more n) refl

  pub part-linked : (z : ℕ → Option Node) → next_place x e ≢ e → Splices x z e (next_place x e) → IsLinked z
  part-linked z n s = parted-linked x z e (next_place x e) (more n).rest linked (more n).circle s

  pub part-ring : (z : ℕ → Option Node) → next_place x e ≢ e → Splices x z e (next_place x e) → ring z ≡ circle (e ∷ []) (circle (rest_of (ring x e)) (ring x))
  part-ring z n s = rw (ring-more n) (parted-ring x z e (next_place x e) (more n).rest linked (more n).circle s)

-- ---- one that stands alone

pub put-circle : (e : ℕ) (g : ℕ → List ℕ) (l : List ℕ) → put (circle (e ∷ []) g) e l ≡ put g e l
put-circle e g l = put_is g (put (circle (e ∷ []) g) e l) e l (put_here (circle (e ∷ []) g) e l) (λ f n. put_other (circle (e ∷ []) g) e l f n ∙ circle-out (e ∷ []) g f (not_in_one f e n))
