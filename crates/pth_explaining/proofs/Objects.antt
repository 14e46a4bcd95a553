-- The object that is read, and the other one.
use Rattle.std.proofs.Common.{◌≡◌, ◌∙◌, ℕ, Bool, true, false, List, Option, refl, subst}
use Rattle.pth_filter.specs.Objects.{OtherStays, of_read}
use Rattle.pth_transcript.specs.Taking.{Ahead, ahead}

-- nothing was called
pub others_none : {S F : Type 0} (of_file : Bool) (input : S) (files : F) → OtherStays of_file input input files files
others_none true input files = refl
others_none false input files = refl

module _ (b o : Bool) (same : b ≡ o) where
  -- what is known of an object before and after is known of the same one
  pub of_same : (P : Ahead → Ahead → Type 0) (u v : List ℕ) (x y z w : Option (List ℕ)) → P (ahead u (of_read b x y)) (ahead v (of_read b z w))
      → P (ahead u (of_read o x y)) (ahead v (of_read o z w))
  of_same P u v x y z w h = subst (λ (b : Bool). P (ahead u (of_read b x y)) (ahead v (of_read b z w))) same h

  -- its count stands still
  pub stood_of : (x y z w i j : ℕ) → of_read b z w ≡ of_read b x y → of_read o x y ≡ of_read o i j → of_read o z w ≡ of_read o i j
  stood_of x y z w i j h before = subst (λ (b : Bool). of_read b z w ≡ of_read b x y) same h ∙ before

  others_then : {S F : Type 0} (o : Bool) (i j k : S) (f g h : F) → OtherStays o i j f g → OtherStays o j k g h → OtherStays o i k f h
  others_then true i j k f g h p q = q ∙ p
  others_then false i j k f g h p q = q ∙ p

  -- the other one was not asked, and is not
  pub others_of : {S F : Type 0} (i j k : S) (f g h : F) → OtherStays o i j f g → OtherStays b j k g h → OtherStays o i k f h
  others_of i j k f g h p q = others_then o i j k f g h p (subst (λ (b : Bool). OtherStays b j k g h) same q)
