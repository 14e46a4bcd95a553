-- What the writes make of the rings.
use Rattle.std.proofs.Common.{◌≡◌, ◌≢◌, ◌<◌, ℕ, List, [], ◌∷◌, ◌++◌, Option, Some, None, IsSome, refl, sym, ◌∙◌, ap₂, inl, inr, subst}
use Rattle.pth_base.specs.Table.{put}
use Rattle.pth_base.specs.Chain.{StandsIn, Distinct, last_or, ClosedChain}
use Rattle.pth_base.proofs.Tables.{put_here, put_other}
use Rattle.pth_base.proofs.Chains.{StandsIn-last, StandsIn-append_left, StandsIn-append_right, StandsIn-append_cases, distinct-join, chain-last, closed-prev}
use Rattle.pth_ring.specs.declared.event.Event.{Event}
use Rattle.pth_ring.specs.declared.node.Node.{Node}
use Rattle.pth_ring.specs.Ring.{circle}
use Rattle.pth_ring.specs.Links.{next_place, prev_place, event_at, ring, IsLinkedRing, IsLinked, Splices}
use Rattle.pth_ring.specs.Rings.{event_limit}
use Rattle.pth_ring.proofs.Lists.{in_one, not_in_one}
use Rattle.pth_ring.proofs.Crossings.{Crosses, cross_next_other, cross_prev_other, cross-joins, cross-parts}
use Rattle.pth_ring.proofs.Turns.{circle-out}
use Rattle.pth_ring.proofs.Circles.{ring-is, same-circle, IsReadOrGone, Remakes, remade-ring, remade-linked, circle-read}

-- the one before a live event is live
pub live-prev : (x : ℕ → Option Node) (e : ℕ) → IsLinked x → IsSome (event_at x e) → IsSome (event_at x (prev_place x e))
live-prev x e linked live =
    let c = linked.circle e live in
    c.1.live (prev_place x e) (closed-prev (next_place x) (prev_place x) (e ∷ c.0) e c.1.links (inl refl))

crosses : (x z : ℕ → Option Node) (a b : ℕ) → Splices x z a b → Crosses (next_place x) (prev_place x) (next_place z) (prev_place z) a b
crosses x z a b s = record { next = s.next; prev = s.prev }

-- ---- two rings become one

module _ (x z : ℕ → Option Node) (a b : ℕ) (xs ys : List ℕ) (linked : IsLinked x) (ca : IsLinkedRing x (a ∷ xs)) (cb : IsLinkedRing x (b ∷ ys)) (apart : StandsIn a (b ∷ ys) → ⊥) (s : Splices x z a b) where
  abbrev both : List ℕ
  both = (a ∷ xs) ++ (b ∷ ys)

  distinct_both : Distinct both
  distinct_both = distinct-join (a ∷ xs) (b ∷ ys) ca.distinct cb.distinct (λ u hu v hv k. apart (same-circle x (a ∷ xs) (b ∷ ys) u a ca cb hu (subst (λ w. StandsIn w (b ∷ ys)) (sym k) hv) (inl refl)))

  live_both : (y : ℕ) → StandsIn y both → IsSome (event_at x y)
  live_both y h = elim (StandsIn-append_cases y (a ∷ xs) (b ∷ ys) h) [ inl l ↦ ca.live y l | inr r ↦ cb.live y r ]

  circle_both : IsLinkedRing z both
  circle_both = record {
    links = cross-joins (next_place x) (prev_place x) (next_place z) (prev_place z) a b (crosses x z a b s) xs ys distinct_both ca.links cb.links;
    distinct = distinct_both;
    live = λ y h. rw s.event (live_both y h);
    low = λ y h. linked.low y (live_both y h);
  }

  not_last_a : (y : ℕ) → (StandsIn y both → ⊥) → y ≢ prev_place x a
  not_last_a y out k = out (subst (λ v. StandsIn v both) (sym (k ∙ chain-last (next_place x) (prev_place x) a xs a ca.links)) (StandsIn-append_left (last_or a xs) (a ∷ xs) (b ∷ ys) (StandsIn-last a xs)))

  not_last_b : (y : ℕ) → (StandsIn y both → ⊥) → y ≢ prev_place x b
  not_last_b y out k = out (subst (λ v. StandsIn v both) (sym (k ∙ chain-last (next_place x) (prev_place x) b ys b cb.links)) (StandsIn-append_right (last_or b ys) (a ∷ xs) (b ∷ ys) (StandsIn-last b ys)))

  closed_both : (c : List ℕ) → IsLinkedRing x c → (y e : ℕ) → StandsIn y c → StandsIn y both → StandsIn e c → StandsIn e both
  closed_both c i y e hy h he = elim (StandsIn-append_cases y (a ∷ xs) (b ∷ ys) h) [
    | inl l ↦ StandsIn-append_left e (a ∷ xs) (b ∷ ys) (same-circle x c (a ∷ xs) y e i ca hy l he)
    | inr r ↦ StandsIn-append_right e (a ∷ xs) (b ∷ ys) (same-circle x c (b ∷ ys) y e i cb hy r he)
  ]

  joined_remakes : Remakes x z both (circle both (ring x))
  joined_remakes = record {
    next = λ y out. cross_next_other (next_place x) (prev_place x) (next_place z) (prev_place z) a b (crosses x z a b s) y (not_last_a y out) (not_last_b y out);
    prev = λ y out. cross_prev_other (next_place x) (prev_place x) (next_place z) (prev_place z) a b (crosses x z a b s) y (λ k. out (inl k)) (λ k. out (subst (λ v. StandsIn v both) (sym k) (StandsIn-append_right b (a ∷ xs) (b ∷ ys) (inl refl))));
    event = λ y out. rw s.event refl;
    closed = closed_both;
    low = λ e h. linked.low e (live_both e h);
    inside = λ e h. circle-read z both (ring x) e circle_both h;
    outside = λ e out. circle-out both (ring x) e out;
  }

pub joined-linked : (x z : ℕ → Option Node) (a b : ℕ) → IsLinked x → IsSome (event_at x a) → IsSome (event_at x b) → (StandsIn a (ring x b) → ⊥) → Splices x z a b → IsLinked z
joined-linked x z a b linked la lb apart s =
    let ca = linked.circle a la in
    let cb = linked.circle b lb in
    remade-linked x z ((a ∷ ca.0) ++ (b ∷ cb.0)) _ linked (joined_remakes x z a b ca.0 cb.0 linked ca.1 cb.1 (λ h. apart (subst (StandsIn a) (sym (ring-is x b cb.0 cb.1)) h)) s)

pub joined-ring : (x z : ℕ → Option Node) (a b : ℕ) → IsLinked x → IsSome (event_at x a) → IsSome (event_at x b) → (StandsIn a (ring x b) → ⊥) → Splices x z a b → ring z ≡ circle (ring x a ++ ring x b) (ring x)
joined-ring x z a b linked la lb apart s =
    let ca = linked.circle a la in
    let cb = linked.circle b lb in
    remade-ring x z ((a ∷ ca.0) ++ (b ∷ cb.0)) _ linked (joined_remakes x z a b ca.0 cb.0 linked ca.1 cb.1 (λ h. apart (subst (StandsIn a) (sym (ring-is x b cb.0 cb.1)) h)) s)
    ∙ ap₂ (λ (u v : List ℕ). circle (u ++ v) (ring x)) (sym (ring-is x a ca.0 ca.1)) (sym (ring-is x b cb.0 cb.1))

-- ---- one ring becomes two

module _ (x z : ℕ → Option Node) (e b : ℕ) (ys : List ℕ) (linked : IsLinked x) (c : IsLinkedRing x (e ∷ b ∷ ys)) (s : Splices x z e b) where
  abbrev parts : ℕ → List ℕ
  parts = circle (e ∷ []) (circle (b ∷ ys) (ring x))

  parted : ClosedChain (next_place z) (prev_place z) (e ∷ []) × ClosedChain (next_place z) (prev_place z) (b ∷ ys)
  parted = cross-parts (next_place x) (prev_place x) (next_place z) (prev_place z) e b (crosses x z e b s) [] ys c.distinct c.links

  circle_alone : IsLinkedRing z (e ∷ [])
  circle_alone = record { links = parted.0; distinct = ((λ y h. absurd h), tt); live = λ y h. elim h [ inl k ↦ rw s.event (c.live y (inl k)) | inr k ↦ absurd k ]; low = λ y h. elim h [ inl k ↦ c.low y (inl k) | inr k ↦ absurd k ] }

  circle_rest : IsLinkedRing z (b ∷ ys)
  circle_rest = record { links = parted.1; distinct = c.distinct.1; live = λ y h. rw s.event (c.live y (inr h)); low = λ y h. c.low y (inr h) }

  last_e : prev_place x e ≡ last_or b ys
  last_e = chain-last (next_place x) (prev_place x) e (b ∷ ys) e c.links

  not_prev_e : (y : ℕ) → (StandsIn y (e ∷ b ∷ ys) → ⊥) → y ≢ prev_place x e
  not_prev_e y out k = out (subst (λ v. StandsIn v (e ∷ b ∷ ys)) (sym (k ∙ last_e)) (inr (StandsIn-last b ys)))

  part_read : (y : ℕ) → StandsIn y (e ∷ b ∷ ys) → IsReadOrGone z y (parts y)
  part_read y (inl k) = circle-read z (e ∷ []) (circle (b ∷ ys) (ring x)) y circle_alone (inl k)
  part_read y (inr h) = subst (IsReadOrGone z y) (sym (circle-out (e ∷ []) (circle (b ∷ ys) (ring x)) y (not_in_one y e (c.distinct.0 y h)))) (circle-read z (b ∷ ys) (ring x) y circle_rest h)

  part_other : (y : ℕ) → (StandsIn y (e ∷ b ∷ ys) → ⊥) → parts y ≡ ring x y
  part_other y out = circle-out (e ∷ []) (circle (b ∷ ys) (ring x)) y (not_in_one y e (λ k. out (inl k))) ∙ circle-out (b ∷ ys) (ring x) y (λ h. out (inr h))

  parted_remakes : Remakes x z (e ∷ b ∷ ys) parts
  parted_remakes = record {
    next = λ y out. cross_next_other (next_place x) (prev_place x) (next_place z) (prev_place z) e b (crosses x z e b s) y (not_prev_e y out) (λ k. out (inl (k ∙ c.links.1)));
    prev = λ y out. cross_prev_other (next_place x) (prev_place x) (next_place z) (prev_place z) e b (crosses x z e b s) y (λ k. out (inl k)) (λ k. out (inr (inl k)));
    event = λ y out. rw s.event refl;
    closed = λ l i y f hy h hf. same-circle x l (e ∷ b ∷ ys) y f i c hy h hf;
    low = λ f h. linked.low f (c.live f h);
    inside = part_read;
    outside = part_other;
  }

  pub parted-linked : IsLinked z
  parted-linked = remade-linked x z (e ∷ b ∷ ys) parts linked parted_remakes

  pub parted-ring : ring z ≡ parts
  parted-ring = remade-ring x z (e ∷ b ∷ ys) parts linked parted_remakes

-- ---- one that is new

module _ (x y : ℕ → Option Node) (e : ℕ) (v : Event) (linked : IsLinked x) (free : event_at x e ≡ None) (low : e < event_limit) (next_y : next_place y ≡ put (next_place x) e e) (prev_y : prev_place y ≡ put (prev_place x) e e) (event_y : event_at y ≡ put (event_at x) e (Some v)) where
  live_new : IsSome (event_at y e)
  live_new = rw (event_y, put_here (event_at x) e (Some v)) refl

  circle_new : IsLinkedRing y (e ∷ [])
  circle_new = record {
    links = (rw next_y (put_here (next_place x) e e), rw prev_y (put_here (prev_place x) e e));
    distinct = ((λ y h. absurd h), tt);
    live = λ u h. elim h [ inl k ↦ subst (λ w. IsSome (event_at y w)) (sym k) live_new | inr k ↦ absurd k ];
    low = λ u h. elim h [ inl k ↦ subst (λ w. w < event_limit) (sym k) low | inr k ↦ absurd k ];
  }

  not_new : (u : ℕ) → (StandsIn u (e ∷ []) → ⊥) → u ≢ e
  not_new u out k = out (inl k)

  not_live : IsSome (event_at x e) → ⊥
  not_live h = gone (event_at x e) free h
    where
      gone : (o : Option Event) → o ≡ None → IsSome o → ⊥
      gone o n s = cc

  new_remakes : Remakes x y (e ∷ []) (circle (e ∷ []) (ring x))
  new_remakes = record {
    next = λ u out. rw next_y (put_other (next_place x) e e u (not_new u out));
    prev = λ u out. rw prev_y (put_other (prev_place x) e e u (not_new u out));
    event = λ u out. rw event_y (put_other (event_at x) e (Some v) u (not_new u out));
    closed = λ c i u f hu h hf. absurd (not_live (subst (λ w. IsSome (event_at x w)) (in_one u e h) (i.live u hu)));
    low = λ f h. subst (λ w. w < event_limit) (sym (in_one f e h)) low;
    inside = λ f h. circle-read y (e ∷ []) (ring x) f circle_new h;
    outside = λ f out. circle-out (e ∷ []) (ring x) f out;
  }

  pub new-linked : IsLinked y
  new-linked = remade-linked x y (e ∷ []) _ linked new_remakes

  pub new-ring : ring y ≡ circle (e ∷ []) (ring x)
  new-ring = remade-ring x y (e ∷ []) _ linked new_remakes

-- ---- one that stands alone is gone

module _ (x z : ℕ → Option Node) (e : ℕ) (linked : IsLinked x) (alone : IsLinkedRing x (e ∷ [])) (next_z : next_place z ≡ put (next_place x) e 0) (prev_z : prev_place z ≡ put (prev_place x) e 0) (event_z : event_at z ≡ put (event_at x) e None) where
  gone_at : event_at z e ≡ None
  gone_at = rw event_z (put_here (event_at x) e None)

  gone_remakes : Remakes x z (e ∷ []) (put (ring x) e [])
  gone_remakes = record {
    next = λ u out. rw next_z (put_other (next_place x) e 0 u (λ k. out (inl k)));
    prev = λ u out. rw prev_z (put_other (prev_place x) e 0 u (λ k. out (inl k)));
    event = λ u out. rw event_z (put_other (event_at x) e None u (λ k. out (inl k)));
    closed = λ c i u f hu h hf. same-circle x c (e ∷ []) u f i alone hu h hf;
    low = λ f h. linked.low f (alone.live f h);
    inside = λ f h. inr (rw (in_one f e h) gone_at, rw (in_one f e h) (put_here (ring x) e []));
    outside = λ f out. put_other (ring x) e [] f (λ k. out (inl k));
  }

  pub gone-linked : IsLinked z
  gone-linked = remade-linked x z (e ∷ []) _ linked gone_remakes

  pub gone-ring : ring z ≡ put (ring x) e []
  gone-ring = remade-ring x z (e ∷ []) _ linked gone_remakes
