-- Ways along marks, from one stage of destructors to another, and sequences.
use Rattle.std.proofs.Common.{◌≡◌, ◌∙◌, ℕ, ℤ, pos, List, [], ◌∷◌, ◌++◌, Some, refl, sym, ap, subst, append_assoc, append-nil}
use Rattle.pth_base.specs.declared.mark.Mark.{Mark}
use Rattle.pth_base.specs.declared.mark.Mark.TheVariants as mark
use Rattle.pth_laws.specs.Orderly.{Stage, IsNoneNext, IsSequence}
use Rattle.pth_audit.specs.Endings.{IsStep, IsWay}
use Rattle.pth_audit.proofs.NextOnes.{next_once}

module _ (t : ℕ) where
  abbrev at_key : ℕ → ℤ → Stage
  at_key rounds key = record { rounds = rounds; last = Some key }

  step_once : (before : List Mark) (x : Stage) (m : Mark) (y z : Stage) → IsStep t before x m y → IsStep t before x m z → y ≡ z
  step_once before x (mark.Destructor u key v) y z a b =
      let rounds = (next_once t before x (pos key) v (pos key) v a.0 b.0 a.1 b.1).2 in
      a.2 ∙ ap (λ (n : ℕ). at_key n (pos key)) rounds ∙ sym b.2
  step_once before x m y z a b = a ∙ sym b

  pub way_once : (before ms : List Mark) (x y z : Stage) → IsWay t before x ms y → IsWay t before x ms z → y ≡ z
  unfolding IsWay
  way_once before [] x y z a b = a ∙ sym b
  way_once before (m ∷ ms) x y z a b =
      let same = step_once before x m b.0 a.0 b.1 a.1 in
      way_once (before ++ m ∷ []) ms a.0 y z a.2 (subst (λ (w : Stage). IsWay t (before ++ m ∷ []) w ms z) same b.2)

  pub way_more : (before ms : List Mark) (x y z : Stage) (m : Mark) → IsWay t before x ms y → IsStep t (before ++ ms) y m z → IsWay t before x (ms ++ m ∷ []) z
  unfolding IsWay
  way_more before [] x y z m w s = (z, subst (λ (bs : List Mark). IsStep t bs x m z) (append-nil before) (subst (λ (q : Stage). IsStep t (before ++ []) q m z) w s), refl)
  way_more before (n ∷ ms) x y z m w s = (w.0, w.1, way_more (before ++ n ∷ []) ms w.0 y z m w.2 (subst (λ (bs : List Mark). IsStep t bs y m z) (sym (append_assoc before (n ∷ []) ms)) s))

  pub way_back : (before ms : List Mark) (x z : Stage) (m : Mark) → IsWay t before x (ms ++ m ∷ []) z → (y : Stage) × IsWay t before x ms y × IsStep t (before ++ ms) y m z
  unfolding IsWay
  way_back before [] x z m w = (x, refl, subst (λ (bs : List Mark). IsStep t bs x m z) (sym (append-nil before)) (subst (λ (q : Stage). IsStep t before x m q) (sym w.2) w.1))
  way_back before (n ∷ ms) x z m w =
      let r = way_back (before ++ n ∷ []) ms w.0 z m w.2 in
      (r.0, (w.0, w.1, r.1), subst (λ (bs : List Mark). IsStep t bs r.0 m z) (append_assoc before (n ∷ []) ms) r.2)

  pub way_sequence : (before ms : List Mark) (x y : Stage) → IsWay t before x ms y → IsNoneNext t (before ++ ms) y → IsSequence t before x ms
  unfolding IsWay IsSequence
  way_sequence before [] x y w none = subst (λ (bs : List Mark). IsNoneNext t bs x) (append-nil before) (subst (λ (q : Stage). IsNoneNext t (before ++ []) q) w none)
  way_sequence before (mark.Destructor u key v ∷ ms) x y w none =
      let m = mark.Destructor u key v in
      let step = w.1 in (
        step.0,
        step.1,
        way_sequence (before ++ m ∷ []) ms (at_key step.0 (pos key)) y (subst (λ (q : Stage). IsWay t (before ++ m ∷ []) q ms y) step.2 w.2)
            (subst (λ (bs : List Mark). IsNoneNext t bs y) (sym (append_assoc before (m ∷ []) ms)) none),
      )
  way_sequence before (m ∷ ms) x y w none =
      way_sequence (before ++ m ∷ []) ms x y (subst (λ (q : Stage). IsWay t (before ++ m ∷ []) q ms y) w.1 w.2)
      (subst (λ (bs : List Mark). IsNoneNext t bs y) (sym (append_assoc before (m ∷ []) ms)) none)

  pub sequence_way : (before ms : List Mark) (x : Stage) → IsSequence t before x ms → (y : Stage) × IsWay t before x ms y × IsNoneNext t (before ++ ms) y
  unfolding IsWay IsSequence
  sequence_way before [] x s = (x, refl, subst (λ (bs : List Mark). IsNoneNext t bs x) (sym (append-nil before)) s)
  sequence_way before (mark.Destructor u key v ∷ ms) x s =
      let m = mark.Destructor u key v in
      let r = sequence_way (before ++ m ∷ []) ms (at_key s.0 (pos key)) s.2 in
      (r.0, (at_key s.0 (pos key), (s.0, s.1, refl), r.1), subst (λ (bs : List Mark). IsNoneNext t bs r.0) (append_assoc before (m ∷ []) ms) r.2)
  sequence_way before (m ∷ ms) x s =
      let r = sequence_way (before ++ m ∷ []) ms x s in
      (r.0, (x, refl, r.1), subst (λ (bs : List Mark). IsNoneNext t bs r.0) (append_assoc before (m ∷ []) ms) r.2)
