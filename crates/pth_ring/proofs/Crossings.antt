-- Two exchange the ones before them: circles are joined, or parted.
use Rattle.std.proofs.Common.{◌≡◌, ◌≢◌, ◌⊎◌, ℕ, List, ◌∷◌, ◌++◌, refl, sym, ◌∙◌, inl, inr, subst}
use Rattle.pth_base.specs.Table.{put}
use Rattle.pth_base.specs.Chain.{StandsIn, Distinct, last_or, Chain, ClosedChain}
use Rattle.pth_base.proofs.Tables.{put_here, put_other}
use Rattle.pth_base.proofs.Chains.{StandsIn-last, distinct-apart, distinct-left, distinct-right, chain-split, chain-join, chain-last, chain-end}

-- a and b have exchanged the ones before them
pub record Crosses (n p m q : ℕ → ℕ) (a b : ℕ) : Type 0 where
  pub next : m ≡ put (put n (p a) b) (p b) a
  pub prev : q ≡ put (put p b (p a)) a (p b)

module _ (n p m q : ℕ → ℕ) (a b : ℕ) (c : Crosses n p m q a b) where
  cross_next : m (p b) ≡ a
  cross_next = rw c.next (put_here (put n (p a) b) (p b) a)

  cross_next2 : p a ≢ p b → m (p a) ≡ b
  cross_next2 ne = rw c.next (put_other (put n (p a) b) (p b) a (p a) ne ∙ put_here n (p a) b)

  pub cross_next_other : (y : ℕ) → y ≢ p a → y ≢ p b → m y ≡ n y
  cross_next_other y h k = rw c.next (put_other (put n (p a) b) (p b) a y k ∙ put_other n (p a) b y h)

  cross_prev : q a ≡ p b
  cross_prev = rw c.prev (put_here (put p b (p a)) a (p b))

  cross_prev2 : b ≢ a → q b ≡ p a
  cross_prev2 ne = rw c.prev (put_other (put p b (p a)) a (p b) b ne ∙ put_here p b (p a))

  pub cross_prev_other : (y : ℕ) → y ≢ a → y ≢ b → q y ≡ p y
  cross_prev_other y h k = rw c.prev (put_other (put p b (p a)) a (p b) y h ∙ put_other p b (p a) y k)

  -- what is read behind a and b goes on at new ends
  half_a : (xs ys : List ℕ) (z w : ℕ) → Distinct ((a ∷ xs) ++ (b ∷ ys)) → Chain n p a xs z → p z ≡ last_or a xs → p w ≡ last_or b ys → (c : ℕ) → m (last_or a xs) ≡ c → q c ≡ last_or a xs → (p a ≡ last_or a xs) ⊎ (p a ≡ last_or b ys) → (p b ≡ last_or a xs) ⊎ (p b ≡ last_or b ys) → Chain m q a xs c
  half_a xs ys z w d h pz pw c mc qc pa pb =
      chain-end n p m q a xs z c h (distinct-left (a ∷ xs) (b ∷ ys) d) mc
      (λ y k ne. cross_next_other y (other y k ne (p a) pa) (other y k ne (p b) pb)) qc
      (λ y k. cross_prev_other y ((distinct-left (a ∷ xs) (b ∷ ys) d).0 y k) (distinct-apart (a ∷ xs) (b ∷ ys) d y (inr k) b (inl refl)))
    where
      other : (y : ℕ) → StandsIn y (a ∷ xs) → y ≢ last_or a xs → (v : ℕ) → (v ≡ last_or a xs) ⊎ (v ≡ last_or b ys) → y ≢ v
      other y k ne v (inl e) = λ f. ne (f ∙ e)
      other y k ne v (inr e) = λ f. distinct-apart (a ∷ xs) (b ∷ ys) d y k (last_or b ys) (StandsIn-last b ys) (f ∙ e)

  half_b : (xs ys : List ℕ) (z : ℕ) → Distinct ((a ∷ xs) ++ (b ∷ ys)) → Chain n p b ys z → (c : ℕ) → m (last_or b ys) ≡ c → q c ≡ last_or b ys → (p a ≡ last_or a xs) ⊎ (p a ≡ last_or b ys) → (p b ≡ last_or a xs) ⊎ (p b ≡ last_or b ys) → Chain m q b ys c
  half_b xs ys z d h c mc qc pa pb =
      chain-end n p m q b ys z c h (distinct-right (a ∷ xs) (b ∷ ys) d) mc
      (λ y k ne. cross_next_other y (other y k ne (p a) pa) (other y k ne (p b) pb)) qc
      (λ y k. cross_prev_other y (λ f. distinct-apart (a ∷ xs) (b ∷ ys) d a (inl refl) y (inr k) (sym f)) ((distinct-right (a ∷ xs) (b ∷ ys) d).0 y k))
    where
      other : (y : ℕ) → StandsIn y (b ∷ ys) → y ≢ last_or b ys → (v : ℕ) → (v ≡ last_or a xs) ⊎ (v ≡ last_or b ys) → y ≢ v
      other y k ne v (inl e) = λ f. distinct-apart (a ∷ xs) (b ∷ ys) d (last_or a xs) (StandsIn-last a xs) y k (sym (f ∙ e))
      other y k ne v (inr e) = λ f. ne (f ∙ e)

  apart_ab : (xs ys : List ℕ) → Distinct ((a ∷ xs) ++ (b ∷ ys)) → b ≢ a
  apart_ab xs ys d k = distinct-apart (a ∷ xs) (b ∷ ys) d a (inl refl) b (inl refl) (sym k)

  apart_last : (xs ys : List ℕ) → Distinct ((a ∷ xs) ++ (b ∷ ys)) → last_or a xs ≢ last_or b ys
  apart_last xs ys d = distinct-apart (a ∷ xs) (b ∷ ys) d (last_or a xs) (StandsIn-last a xs) (last_or b ys) (StandsIn-last b ys)

  -- two circles become one
  pub cross-joins : (xs ys : List ℕ) → Distinct ((a ∷ xs) ++ (b ∷ ys)) → ClosedChain n p (a ∷ xs) → ClosedChain n p (b ∷ ys) → ClosedChain m q ((a ∷ xs) ++ (b ∷ ys))
  cross-joins xs ys d g h =
      let la = chain-last n p a xs a g in
      let lb = chain-last n p b ys b h in
      let ne : p a ≢ p b = λ k. apart_last xs ys d (sym la ∙ k ∙ lb) in
      let first : Chain m q a xs b = half_a xs ys a b d g la lb b (subst (λ v. m v ≡ b) la (cross_next2 ne)) (cross_prev2 (apart_ab xs ys d) ∙ la) (inl la) (inr lb) in
      let second : Chain m q b ys a = half_b xs ys b d h a (subst (λ v. m v ≡ a) lb cross_next) (cross_prev ∙ lb) (inl la) (inr lb) in
      chain-join m q a xs b ys a first second

  -- one circle becomes two
  pub cross-parts : (xs ys : List ℕ) → Distinct ((a ∷ xs) ++ (b ∷ ys)) → ClosedChain n p ((a ∷ xs) ++ (b ∷ ys)) → ClosedChain m q (a ∷ xs) × ClosedChain m q (b ∷ ys)
  cross-parts xs ys d g =
      let r = chain-split n p a xs b ys a g in
      let lb : p b ≡ last_or a xs = chain-last n p a xs b r.0 in
      let la : p a ≡ last_or b ys = chain-last n p b ys a r.1 in
      let ne : p a ≢ p b = λ k. apart_last xs ys d (sym lb ∙ sym k ∙ la) in (
        half_a xs ys b a d r.0 lb la a (subst (λ v. m v ≡ a) lb cross_next) (cross_prev ∙ lb) (inr la) (inl lb),
        half_b xs ys a d r.1 b (subst (λ v. m v ≡ b) la (cross_next2 ne)) (cross_prev2 (apart_ab xs ys d) ∙ la) (inr la) (inl lb),
      )
