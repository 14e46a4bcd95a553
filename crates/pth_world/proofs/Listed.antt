-- The slots of a queue, as they are listed.
use Rattle.std.proofs.Common.{◌≡◌, ◌≢◌, ℕ, List, [], ◌∷◌, map, All, refl, ap₂, subst}
use Rattle.std.proofs.lemmas.List.Elements.{All-cons, All-nil}
use Rattle.pth_base.specs.declared.ids.Slot.{Slot}
use Rattle.pth_queue.specs.declared.ranked.Ranked.{Ranked}
use Rattle.pth_queue.specs.Ranking.{named_row, IsQueued}
use Rattle.pth_model.specs.Changes.{holders}

-- the names of slots are those of the rows
pub names_listed : (f : ℕ → ℕ) (slots : List Slot) (rows : List Ranked) → map (λ (s : Slot). s.0) slots ≡ map (λ (r : Ranked). r.holder) rows → map (λ (s : Slot). f s.0) slots ≡ holders (map (named_row f) rows)
names_listed f [] [] is = refl
names_listed f [] (r ∷ rows) is = absurd (cc is)
names_listed f (s ∷ slots) [] is = absurd (cc is)
names_listed f (s ∷ slots) (r ∷ rows) is =
    let head : s.0 ≡ r.holder = cc is in
    let tail : map (λ (s : Slot). s.0) slots ≡ map (λ (r : Ranked). r.holder) rows = cc is in
    ap₂ (λ (n : ℕ) (ns : List ℕ). f n ∷ ns) head (names_listed f slots rows tail)

-- and each slot is in use
pub used_listed : (f : ℕ → ℕ) (slots : List Slot) (rows : List Ranked) → map (λ (s : Slot). s.0) slots ≡ map (λ (r : Ranked). r.holder) rows → IsQueued f rows → All (λ (s : Slot). f s.0 ≢ 0) slots
used_listed f [] rows is queued = All-nil (λ (s : Slot). f s.0 ≢ 0)
used_listed f (s ∷ slots) [] is queued = absurd (cc is)
used_listed f (s ∷ slots) (r ∷ rows) is queued =
    let head : r.holder ≡ s.0 = cc is in
    let tail : map (λ (s : Slot). s.0) slots ≡ map (λ (r : Ranked). r.holder) rows = cc is in
    All-cons (λ (s : Slot). f s.0 ≢ 0) s slots (subst (λ (n : ℕ). f n ≢ 0) head queued.0) (used_listed f slots rows tail queued.1)
