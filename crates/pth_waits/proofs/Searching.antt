-- A search along the dead threads for the first that can be joined.
use Rattle.std.proofs.Common.{◌≡◌, ℕ, ◌+◌, Bool, true, false, cond, List, [], ◌∷◌, ◌++◌, filter, Option, Some, None, refl, sym, ◌∙◌, ap, append_assoc, append-nil}
use Rattle.std.proofs.lemmas.List.{map-append}
use Rattle.pth_base.specs.declared.ids.Tid.{Tid}
use Rattle.pth_queue.specs.declared.ranked.Ranked.{Ranked}
use Rattle.pth_queue.specs.declared.queue.Queue.TheVariants as queues
use Rattle.pth_queue.specs.Ranking.{head_of}
use Rattle.pth_model.specs.State.{Control, queue}
use Rattle.pth_model.specs.Changes.{entry_of, or_nobody, holders}
use Rattle.pth_model.specs.ThreadControl.{first_of, joinable_dead}
use Rattle.pth_world.specs.World.{WorldOf}
use Rattle.pth_world.specs.Walks.{behind}

-- how many dead threads a search has still to visit
abbrev pub to_visit : {P S H : Type 0} → WorldOf P S H → Option Tid → ℕ
to_visit w None = 0
to_visit w (Some t) = behind w.threads queues.Dead t.0 + 1

-- what a filter keeps of two lists
kept : {A : Type 0} (p : A → Bool) (xs ys : List A) → filter p (xs ++ ys) ≡ filter p xs ++ filter p ys
kept p [] ys = refl
kept p (x ∷ xs) ys = by_test (p x) (kept p xs ys)
  where
    by_test : (b : Bool) → filter p (xs ++ ys) ≡ filter p xs ++ filter p ys → cond b (x ∷ filter p (xs ++ ys)) (filter p (xs ++ ys)) ≡ cond b (x ∷ filter p xs) (filter p xs) ++ filter p ys
    by_test true h = ap (λ l. x ∷ l) h
    by_test false h = h

module _ {P S H : Type 0} (k : Control P S H) where
  abbrev can_be_joined : ℕ → Bool
  can_be_joined t = (or_nobody (entry_of k t)).joinable

  -- none of those before the next can be joined
  pub record Searched (next : Option ℕ) : Type 0 where
    pub front : List Ranked
    pub back : List Ranked
    pub split : queue k queues.Dead ≡ front ++ back
    pub next_is : next ≡ head_of back
    pub none : filter can_be_joined (holders front) ≡ []

  one_more : (front : List Ranked) (r : Ranked) (b : Bool) → can_be_joined r.holder ≡ b → filter can_be_joined (holders (front ++ r ∷ [])) ≡ filter can_be_joined (holders front) ++ cond b (r.holder ∷ []) []
  one_more front r b is = ap (filter can_be_joined) (map-append (λ (x : Ranked). x.holder) front (r ∷ [])) ∙ kept can_be_joined (holders front) (r.holder ∷ []) ∙ ap (λ (c : Bool). filter can_be_joined (holders front) ++ cond c (r.holder ∷ []) []) is

  -- the next can't be joined either
  pub search_goes_on : (t : ℕ) (next : Option ℕ) → can_be_joined t ≡ false → Searched (Some t)
      → ((front back : List Ranked) (r : Ranked) → queue k queues.Dead ≡ front ++ r ∷ back → r.holder ≡ t → next ≡ head_of back) → Searched next
  search_goes_on t next isnt w after = by_back w.back w.split w.next_is
    where
      by_back : (back : List Ranked) → queue k queues.Dead ≡ w.front ++ back → Some t ≡ head_of back → Searched next
      by_back [] split head = absurd (cc head)
      by_back (r ∷ back) split head =
          let own : r.holder ≡ t = cc in
          record {
            front = w.front ++ r ∷ [];
            back = back;
            split = split ∙ sym (append_assoc w.front (r ∷ []) back);
            next_is = after w.front back r split own;
            none = one_more w.front r false (ap can_be_joined own ∙ isnt) ∙ ap (λ (l : List ℕ). l ++ []) w.none;
          }

  -- the next can be joined
  pub search_finds : (t : ℕ) → can_be_joined t ≡ true → Searched (Some t) → Some t ≡ first_of (joinable_dead k)
  unfolding joinable_dead
  search_finds t is w = by_back w.back w.split w.next_is
    where
      by_back : (back : List Ranked) → queue k queues.Dead ≡ w.front ++ back → Some t ≡ head_of back → Some t ≡ first_of (filter can_be_joined (holders (queue k queues.Dead)))
      by_back [] split head = absurd (cc head)
      by_back (r ∷ back) split head =
          let own : r.holder ≡ t = cc in
          let rows : filter can_be_joined (holders (queue k queues.Dead)) ≡ r.holder ∷ filter can_be_joined (holders back) =
          ap (λ (l : List Ranked). filter can_be_joined (holders l)) split
          ∙ ap (filter can_be_joined) (map-append (λ (x : Ranked). x.holder) w.front (r ∷ back))
          ∙ kept can_be_joined (holders w.front) (r.holder ∷ holders back)
          ∙ ap (λ (l : List ℕ). l ++ filter can_be_joined (r.holder ∷ holders back)) w.none
          ∙ ap (λ (c : Bool). cond c (r.holder ∷ filter can_be_joined (holders back)) (filter can_be_joined (holders back))) (ap can_be_joined own ∙ is) in
          ap Some (sym own) ∙ sym (ap first_of rows)

  -- nobody is left
  pub search_ends : Searched None → None ≡ first_of (joinable_dead k)
  unfolding joinable_dead
  search_ends w = by_back w.back w.split w.next_is
    where
      by_back : (back : List Ranked) → queue k queues.Dead ≡ w.front ++ back → None ≡ head_of back → None ≡ first_of (filter can_be_joined (holders (queue k queues.Dead)))
      by_back [] split head = sym (ap first_of (ap (λ (rows : List Ranked). filter can_be_joined (holders rows)) (split ∙ append-nil w.front) ∙ w.none))
      by_back (r ∷ back) split head = absurd (cc head)
