-- What holds wherever a mark stands in a list, and of the marks before it.
use Rattle.std.proofs.Common.{◌≡◌, Bool, false, List, [], ◌∷◌, ◌++◌, refl, sym, subst, append_assoc, append-nil}
use Rattle.std.specs.List.{list_any}
use Rattle.std.proofs.lemmas.Bool.{or_parts, or_from}
use Rattle.pth_base.specs.declared.mark.Mark.{Mark}
use Rattle.pth_laws.proofs.Book.{Book, after, book_of}
use Rattle.pth_laws.proofs.Laws.{EachMark}

module _ (A : Book → Mark → Type 0) where
  pub each_before : (b : Book) (before later : List Mark) → EachMark A b (before ++ later) → EachMark A b before
  each_before b [] later h = tt
  each_before b (m ∷ before) later h = (h.0, each_before (after b m) before later h.1)

  pub each_later : (b : Book) (before later : List Mark) → EachMark A b (before ++ later) → EachMark A (book_of b before) later
  each_later b [] later h = h
  each_later b (m ∷ before) later h = each_later (after b m) before later h.1

  -- of a mark that stands in a list, and of all before it
  pub each_at : (b : Book) (marks before later : List Mark) (m : Mark) → marks ≡ before ++ m ∷ later → EachMark A b marks → EachMark A b before × A (book_of b before) m
  each_at b marks before later m e h =
      let all : EachMark A b (before ++ m ∷ later) = subst (EachMark A b) e h in
      (each_before b before (m ∷ later) all, (each_later b before (m ∷ later) all).0)

-- if a test fails on a list, so does one that holds less often
pub none_of : (p r : Mark → Bool) → ((m : Mark) → r m ≡ false → p m ≡ false) → (ms : List Mark) → list_any r ms ≡ false → list_any p ms ≡ false
none_of p r f [] h = refl
none_of p r f (m ∷ ms) h = let (first, rest) = or_parts (r m) (list_any r ms) h in or_from _ _ (f m first) (none_of p r f ms rest)

-- ---- sentences on a mark and the marks before it, mark by mark

module _ (A : List Mark → Mark → Type 0) where
  abbrev pub Sentences : List Mark → List Mark → Type 0
  Sentences before [] = Unit {0}
  Sentences before (m ∷ ms) = A before m × Sentences (before ++ m ∷ []) ms

  at_mark : (start marks before later : List Mark) (m : Mark) → marks ≡ before ++ m ∷ later → Sentences start marks → A (start ++ before) m
  at_mark start [] [] later m e h = absurd cc
  at_mark start [] (x ∷ before) later m e h = absurd cc
  at_mark start (x ∷ marks) [] later m e h =
      let is : x ≡ m = cc in
      let here : A (start ++ []) x = subst (λ (ms : List Mark). A ms x) (sym (append-nil start)) h.0 in
      subst (A (start ++ [])) is here
  at_mark start (x ∷ marks) (y ∷ before) later m e h =
      let is : x ≡ y = cc in
      let rest : marks ≡ before ++ m ∷ later = cc in
      subst (λ (z : Mark). A (start ++ z ∷ before) m) is (subst (λ (ms : List Mark). A ms m) (append_assoc start (x ∷ []) before) (at_mark (start ++ x ∷ []) marks before later m rest h.1))

  -- what is said of each mark in turn is said wherever a mark stands
  pub said_each : (marks : List Mark) → Sentences [] marks → (before later : List Mark) (m : Mark) → marks ≡ before ++ m ∷ later → A before m
  said_each marks h before later m e = at_mark [] marks before later m e h
