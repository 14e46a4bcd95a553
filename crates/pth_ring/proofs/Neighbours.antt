-- What the nodes of rings tell, and where a change of the rings changes them.
use Rattle.std.proofs.Common.{◌≡◌, ◌≢◌, ◌↔◌, ℕ, ◌+◌, Bool, true, false, if◌then◌else◌, not, ◌&&◌, ◌||◌, List, [], ◌∷◌, ◌++◌, map, Option, Some, None, option_map, option_and_then, refl, sym, ◌∙◌, ap, ap₂, inl, inr, subst, append_assoc, append-nil}
use Rattle.std.proofs.lemmas.Bool.{cases_eq}
use Rattle.pth_base.specs.Chain.{StandsIn, last_or}
use Rattle.pth_base.specs.declared.event.EventSpec.{EventSpec}
use Rattle.pth_base.specs.declared.errno.Errno.TheVariants.{EBUSY, EINVAL}
use Rattle.pth_base.proofs.Tables.{put_other}
use Rattle.pth_base.proofs.Chains.{stands_or_not, StandsIn-append_cases}
use Rattle.pth_numbered.specs.Numbered.{thing_at, number_at, slot_of}
use Rattle.pth_ring.specs.declared.event.RingNode.{RingNode}
use Rattle.pth_ring.specs.Ring.{ring_holds, turned, circle, rest_of, head_event, last_event, turned_once}
use Rattle.pth_ring.specs.Links.{IsLinkedRing}
use Rattle.pth_ring.specs.Rings.{Events, is_event, is_claimed, concat_refusal, chained, concatenated, isolated, freed}
use Rattle.pth_ring.specs.Arena.{RingsOf, ring_of, events_of, AreLinked}
use Rattle.pth_ring.specs.Nodes.{IsApart, IsClear, a_ring_node, next_event, prev_event, ring_node}
use Rattle.pth_ring.proofs.Lists.{ring_holds-in, not_in_one}
use Rattle.pth_ring.proofs.Turns.{split, before-away, turned-first, StandsIn-turned, StandsIn-unturned, circle-in, circle-out}
use Rattle.pth_ring.proofs.Circles.{ring-is, ring-in}
use Rattle.pth_ring.proofs.Named.{AllUsed, named_has, same_place, turned_named}
use Rattle.pth_ring.proofs.Shown.{live, used, place-used, ring-at, no-ring, live-at}
use Rattle.pth_ring.proofs.Asked.{slot_by}
use Rattle.pth_ring.proofs.Refusals.{dead}

-- ---- lists

-- the node of the first of a ring
abbrev read : List ℕ → Option RingNode
read l = option_and_then (λ prev. option_map (λ next. a_ring_node prev next) (head_event (turned_once l))) (last_event l)

last-behind : (a c : ℕ) (xs cs : List ℕ) → last_or a (xs ++ (c ∷ cs)) ≡ last_or c cs
last-behind a c [] cs = refl
last-behind a c (x ∷ xs) cs = last-behind x c xs cs

-- the node of f where c and those of fr stand before it, and n behind it
read-within : (f n c : ℕ) (xs fr : List ℕ) → read (f ∷ n ∷ (xs ++ (c ∷ fr))) ≡ Some (a_ring_node (last_or c fr) n)
read-within f n c xs fr = ap (λ (p : ℕ). Some (a_ring_node p n)) (last-behind n c xs fr)

-- the node of one that is neither the first nor the last of a list
within : (f c n : ℕ) (pre fr bk post : List ℕ) → (StandsIn f pre → ⊥) → (StandsIn f (c ∷ fr) → ⊥) → read (turned f (pre ++ (((c ∷ fr) ++ (f ∷ n ∷ bk)) ++ post))) ≡ Some (a_ring_node (last_or c fr) n)
within f c n pre fr bk post out away =
    let whole : pre ++ (((c ∷ fr) ++ (f ∷ n ∷ bk)) ++ post) ≡ (pre ++ (c ∷ fr)) ++ (f ∷ n ∷ (bk ++ post)) = ap (λ l. pre ++ l) (append_assoc (c ∷ fr) (f ∷ n ∷ bk) post) ∙ sym (append_assoc pre (c ∷ fr) (f ∷ n ∷ (bk ++ post))) in
    let off : StandsIn f (pre ++ (c ∷ fr)) → ⊥ = λ h. elim (StandsIn-append_cases f pre (c ∷ fr) h) [ inl a ↦ out a | inr b ↦ away b ] in
    ap (λ l. read (turned f l)) whole
    ∙ ap read (turned-first f (pre ++ (c ∷ fr)) (n ∷ (bk ++ post)) off)
    ∙ ap (λ l. read (f ∷ n ∷ l)) (sym (append_assoc (bk ++ post) pre (c ∷ fr)))
    ∙ read-within f n c ((bk ++ post) ++ pre) fr

last-own : (f : ℕ) (front : List ℕ) → last_event (front ++ (f ∷ [])) ≡ Some f
last-own f [] = refl
last-own f (x ∷ xs) = ap (λ (n : ℕ). Some n) (last-behind x f xs [])

-- what stands around a list changes no node but those of its first and last
around : (f : ℕ) (pre ys post : List ℕ) → (StandsIn f pre → ⊥) → StandsIn f ys → head_event ys ≢ Some f → last_event ys ≢ Some f → read (turned f (pre ++ (ys ++ post))) ≡ read (turned f ys)
around f pre ys post out on first last = let s = split f ys on in by s.front s.back s.is (subst (λ l. StandsIn f l → ⊥) s.before_is (before-away f ys))
  where
    by : (front back : List ℕ) → ys ≡ front ++ (f ∷ back) → (StandsIn f front → ⊥) → read (turned f (pre ++ (ys ++ post))) ≡ read (turned f ys)
    by [] back is away = absurd (first (ap head_event is))
    by (c ∷ fr) [] is away = absurd (last (ap last_event is ∙ last-own f (c ∷ fr)))
    by (c ∷ fr) (n ∷ bk) is away =
        ap (λ l. read (turned f (pre ++ (l ++ post)))) is
        ∙ within f c n pre fr bk post out away
        ∙ sym (ap (λ l. read (turned f l)) (is ∙ sym (append-nil ((c ∷ fr) ++ (f ∷ n ∷ bk)))) ∙ within f c n [] fr bk [] (λ h. h) away)

-- ---- rings

some_same : (a b : ℕ) → Some a ≡ Some b → a ≡ b
some_same a b k = cc

-- the place of an event, and the others of its ring
record Found (x : RingsOf) (e : ℕ) : Type 0 where
  at : ℕ
  rest : List ℕ
  number : number_at x at ≡ e
  linked : IsLinkedRing (thing_at x) (at ∷ rest)
  used : AllUsed (number_at x) (at ∷ rest)
  is : ring_of x e ≡ map (number_at x) (at ∷ rest)

module _ (x : RingsOf) (k : AreLinked x) where
  abbrev y : Events
  y = events_of x

  abbrev t : ℕ → ℕ
  t = number_at x

  found-at : (e u : ℕ) → slot_of x e ≡ Some u → Found x e
  found-at e u at =
      let used_u = place-used x k e u at in
      let c = k.linked.circle u (live x k u used_u) in
      let number : t u ≡ e = k.kept.tied.tid e u at in
      record {
        at = u;
        rest = c.0;
        number = number;
        linked = c.1;
        used = λ v h. used x k v (c.1.live v h);
        is = ap (ring_of x) (sym number) ∙ ring-at x k u used_u ∙ ap (map t) (ring-is (thing_at x) u c.0 c.1);
      }

  found : (e n : ℕ) → StandsIn n (ring_of x e) → Found x e
  found e n h = let s = slot_by x e n h in found-at e s.0 s.1

  begins-with : (e : ℕ) → Found x e → ring_of x e ≡ e ∷ rest_of (ring_of x e)
  begins-with e f = f.is ∙ ap₂ (λ (m : ℕ) (l : List ℕ). m ∷ l) f.number (ap rest_of (sym f.is))

  -- a ring begins with the event that it is of
  heads : (e n : ℕ) → StandsIn n (ring_of x e) → ring_of x e ≡ e ∷ rest_of (ring_of x e)
  heads e n h = begins-with e (found e n h)

  -- in which it does not stand again
  once : (e : ℕ) (rest : List ℕ) → ring_of x e ≡ e ∷ rest → StandsIn e rest → ⊥
  once e rest is h = by (found e e (subst (StandsIn e) (sym is) (inl refl)))
    where
      by : Found x e → ⊥
      by f =
          let again = named_has (slot_of x) t k.kept.tied e f.rest (subst (StandsIn e) (ap rest_of (sym is ∙ f.is)) h) in
          f.linked.distinct.0 again.0 again.2 (same_place (slot_of x) t k.kept.tied again.0 f.at (f.used again.0 (inr again.2)) (f.used f.at (inl refl)) (sym again.1 ∙ sym f.number))

  -- and is the same ring, read from each of its events
  rounds : (e n : ℕ) → StandsIn n (ring_of x e) → ring_of x n ≡ turned n (ring_of x e)
  rounds e n h = by (found e n h)
    where
      by : Found x e → ring_of x n ≡ turned n (ring_of x e)
      by f =
          let u = named_has (slot_of x) t k.kept.tied n (f.at ∷ f.rest) (subst (StandsIn n) f.is h) in
          ap (ring_of x) u.1
          ∙ ring-at x k u.0 (f.used u.0 u.2)
          ∙ ap (map t) (ring-in (thing_at x) (f.at ∷ f.rest) u.0 f.linked u.2)
          ∙ sym (turned_named (slot_of x) t k.kept.tied u.0 (f.at ∷ f.rest) (f.used u.0 u.2) f.used)
          ∙ ap₂ (λ (m : ℕ) (l : List ℕ). turned m l) (sym u.1) (sym f.is)

  -- ---- a circle

  pub node-next : (e n : ℕ) (rest : List ℕ) → ring_of x e ≡ e ∷ n ∷ rest → next_event y e ≡ Some n
  node-next e n rest is = ap (λ l. option_map (λ (m : RingNode). m.next.0) (read l)) is

  pub node-alone : (e : ℕ) → ring_of x e ≡ e ∷ [] → ring_node y e ≡ Some (a_ring_node e e)
  node-alone e is = ap read is

  no_next : (l : List ℕ) (n : ℕ) → l ≡ [] → option_map (λ (m : RingNode). m.next.0) (read l) ≡ Some n → ⊥
  no_next [] n is h = cc
  no_next (z ∷ zs) n is h = cc

  prev_by : (e n : ℕ) (rest : List ℕ) → ring_of x e ≡ e ∷ rest → next_event y e ≡ Some n → prev_event y n ≡ Some e
  prev_by e n [] is h =
      let same : e ≡ n = some_same e n (sym (ap (option_map (λ (m : RingNode). m.next.0)) (node-alone e is)) ∙ h) in
      ap (prev_event y) (sym same) ∙ ap (option_map (λ (m : RingNode). m.prev.0)) (node-alone e is)
  prev_by e n (m ∷ rest) is h =
      let same : m ≡ n = some_same m n (sym (node-next e m rest is) ∙ h) in
      let on : StandsIn m (ring_of x e) = subst (StandsIn m) (sym is) (inr (inl refl)) in
      ap (prev_event y) (sym same) ∙ elim (cases_eq e m) [
        | inl alike ↦ absurd (once e (m ∷ rest) is (inl alike))
        | inr apart ↦ ap (λ l. option_map (λ (o : RingNode). o.prev.0) (read l)) (rounds e m on ∙ ap (turned m) is ∙ turned-first m (e ∷ []) rest (not_in_one m e (λ z. apart (sym z)))) ∙ behind m e rest
      ]
    where
      behind : (m e : ℕ) (rest : List ℕ) → option_map (λ (o : RingNode). o.prev.0) (read (m ∷ (rest ++ (e ∷ [])))) ≡ Some e
      behind m e [] = refl
      behind m e (z ∷ zs) = ap (λ (p : ℕ). Some p) (last-behind z e zs [])

  pub node-prev : (e n : ℕ) → next_event y e ≡ Some n → prev_event y n ≡ Some e
  node-prev e n h = by (ring_of x e) refl
    where
      by : (l : List ℕ) → ring_of x e ≡ l → prev_event y n ≡ Some e
      by [] is = absurd (no_next (ring_of x e) n is h)
      by (z ∷ zs) is =
          let whole = heads e z (subst (StandsIn z) (sym is) (inl refl)) in
          prev_by e n (rest_of (ring_of x e)) whole h

  read-some : (l : List ℕ) (e : ℕ) → l ≡ e ∷ rest_of l → read l ≡ None → ⊥
  read-some [] e is h = cc
  read-some (z ∷ []) e is h = cc
  read-some (z ∷ n ∷ zs) e is h = cc

  pub node-none : (e : ℕ) → (ring_node y e ≡ None) ↔ (is_event y e ≡ false)
  node-none e = by (slot_of x e) refl
    where
      by : (o : Option ℕ) → slot_of x e ≡ o → (ring_node y e ≡ None) ↔ (is_event y e ≡ false)
      by None is = (λ _. dead x k e is, λ _. ap read (no-ring x e is))
      by (Some u) is =
          let f = found-at e u is in
          let there : is_event y e ≡ true = ap (is_event y) (sym f.number) ∙ live-at x k f.at (f.used f.at (inl refl)) in
          (λ none. absurd (read-some (ring_of x e) e (begins-with e f) none), λ gone. cc)

  -- ---- nodes that stay

  module _ (d : ℕ) where
    -- of a ring that becomes part of one, none but those of its first and last
    part-of : (e : ℕ) (pre post : List ℕ) → (StandsIn d pre → ⊥) → StandsIn d (ring_of x e) → IsClear d e y → read (turned d (pre ++ (ring_of x e ++ post))) ≡ ring_node y d
    part-of e pre post out on clear =
        let whole = heads e d on in
        around d pre (ring_of x e) post out on (λ h. clear.other (sym (some_same e d (sym (ap head_event whole) ∙ h)))) (λ h. clear.prev (last_is (ring_of x e) e (rest_of (ring_of x e)) whole ∙ h)) ∙ sym (ap read (rounds e d on))
      where
        last_is : (l : List ℕ) (e : ℕ) (rest : List ℕ) → l ≡ e ∷ rest → option_map (λ (m : RingNode). m.prev.0) (read l) ≡ last_event l
        last_is l e [] is = rw is refl
        last_is l e (z ∷ zs) is = rw is refl

    clear-first : (e : ℕ) (more : List ℕ) → StandsIn d (ring_of x e ++ more) → IsClear d e y → (StandsIn d more → read (turned d (ring_of x e ++ more)) ≡ ring_node y d) → read (turned d (ring_of x e ++ more)) ≡ ring_node y d
    clear-first e more h clear rest = elim (stands_or_not d (ring_of x e)) [
      | inl on ↦ part-of e [] more (λ z. z) on clear
      | inr out ↦ elim (StandsIn-append_cases d (ring_of x e) more h) [ inl on ↦ absurd (out on) | inr on ↦ rest on ]
    ]

    -- a circle with these, or without
    in-circle : (zs : List ℕ) → (StandsIn d zs → read (turned d zs) ≡ ring_node y d) → read (circle zs (ring_of x) d) ≡ ring_node y d
    in-circle zs same = elim (stands_or_not d zs) [
      | inl on ↦ ap read (circle-in zs (ring_of x) d on) ∙ same on
      | inr out ↦ ap read (circle-out zs (ring_of x) d out)
    ]

    pub chain-keeps : (e : ℕ) (spec : EventSpec) → IsClear d e y → d ≢ x.made + 1 → ring_node (chained spec e y) d ≡ ring_node y d
    chain-keeps e spec clear other = in-circle (ring_of x e ++ (x.made + 1) ∷ []) (λ h. clear-first e ((x.made + 1) ∷ []) h clear (λ g. absurd (not_in_one d (x.made + 1) other g)))

    -- rings that may become one are two
    two : (a b : ℕ) → concat_refusal y a b ≡ None → ring_holds a (ring_of x b) ≡ true → ⊥
    two a b may held = by (is_event y a && is_event y b) (ring_holds a (ring_of x b)) may held
      where
        by : (p q : Bool) → (if not p then Some EINVAL else if q then Some EINVAL else if is_claimed y a || is_claimed y b then Some EBUSY else None) ≡ None → q ≡ true → ⊥
        by true true g h = cc
        by true false g h = cc
        by false q g h = cc

    apart : (a b : ℕ) → concat_refusal y a b ≡ None → StandsIn d (ring_of x a) → StandsIn d (ring_of x b) → ⊥
    apart a b may on_a on_b =
        let a_in : StandsIn a (ring_of x a) = subst (StandsIn a) (sym (heads a d on_a)) (inl refl) in
        let turned_a : StandsIn a (turned d (ring_of x a)) = StandsIn-turned a d (ring_of x a) on_a a_in in
        let same : turned d (ring_of x a) ≡ turned d (ring_of x b) = sym (rounds a d on_a) ∙ rounds b d on_b in
        two a b may (ring_holds-in a (ring_of x b) (StandsIn-unturned a d (ring_of x b) on_b (subst (StandsIn a) same turned_a)))

    pub concat-keeps : (a b : ℕ) → concat_refusal y a b ≡ None → IsClear d a y → IsClear d b y → ring_node (concatenated a b y) d ≡ ring_node y d
    concat-keeps a b may clear_a clear_b = in-circle (ring_of x a ++ ring_of x b) (λ h. clear-first a (ring_of x b) h clear_a (λ on.
        ap (λ l. read (turned d (ring_of x a ++ l))) (sym (append-nil (ring_of x b))) ∙ part-of b (ring_of x a) [] (λ on_a. apart a b may on_a on) on clear_b))

    -- the rest of a ring
    rest-keeps : (e : ℕ) → IsApart d e y → read (circle (rest_of (ring_of x e)) (ring_of x) d) ≡ ring_node y d
    rest-keeps e far = in-circle (rest_of (ring_of x e)) (λ h. by (ring_of x e) refl h)
      where
        by : (l : List ℕ) → ring_of x e ≡ l → StandsIn d (rest_of l) → read (turned d (rest_of l)) ≡ ring_node y d
        by [] is h = absurd h
        by (z ∷ []) is h = absurd h
        by (z ∷ n ∷ more) is h =
            let on : StandsIn d (ring_of x e) = subst (StandsIn d) (sym is) (inr h) in
            let first : z ≡ e = some_same z e (sym (ap head_event is) ∙ ap head_event (heads e d on)) in
            sym (
            around d (z ∷ []) (n ∷ more) [] (not_in_one d z (λ g. far.clear.other (g ∙ first))) h
            (λ g. far.next (ap (λ l. option_map (λ (m : RingNode). m.next.0) (read l)) is ∙ g))
            (λ g. far.clear.prev (ap (λ l. option_map (λ (m : RingNode). m.prev.0) (read l)) is ∙ g)))
            ∙ ap (λ l. read (turned d (z ∷ l))) (append-nil (n ∷ more))
            ∙ ap (λ l. read (turned d l)) (sym is) ∙ sym (ap read (rounds e d on))

    pub isolate-keeps : (e : ℕ) → IsApart d e y → ring_node (isolated e y) d ≡ ring_node y d
    isolate-keeps e far = ap read (circle-out (e ∷ []) (circle (rest_of (ring_of x e)) (ring_of x)) d (not_in_one d e far.clear.other)) ∙ rest-keeps e far

    pub free-keeps : (e : ℕ) → IsApart d e y → ring_node (freed e y) d ≡ ring_node y d
    free-keeps e far = ap read (put_other (circle (rest_of (ring_of x e)) (ring_of x)) e [] d far.clear.other) ∙ rest-keeps e far
