-- What may come before a thread at the points of its wait, where one more dispatch follows.
use Rattle.std.proofs.Common.{◌≡◌, ℕ, zero, suc, ◌+◌, ◌<◌, ◌≤◌, Bool, true, false, not, ◌&&◌, ◌||◌, ◌==◌, cond, List, [], ◌∷◌, ◌++◌, length, drop, count_by, All, refl, sym, ap, ◌∙◌, arith, inl, inr, ◌⊎◌, length-drop, append_assoc, append-nil}
use Rattle.std.proofs.lemmas.Bool.{cases_Bool, cases_lt, or_left, or_right}
use Rattle.std.proofs.lemmas.List.{drop-append-le, drop_all}
use Rattle.std.proofs.lemmas.List.Elements.{All-head, All-tail, All-weaker, All-filter, All-drop, filter-append}
use Rattle.std.proofs.lemmas.List.Folds.{list_any-append}
use Rattle.std.proofs.lemmas.List.Sums.{length-filter, count_by-le-length}
use Rattle.pth_model.specs.Standing.{Standing}
use Rattle.pth_model.specs.Allowance.{Point, has_entry, points, takes_another, names_another, waited, number_before, new_at_top, newcomers, beyond}
use Rattle.pth_tables.specs.Counts.{last_ready, Lasts}
use Rattle.pth_tables.proofs.TrailsCounted.{count-cons, count-push, count-none, count-same, none-counted}

-- ---- the points

pub points-push : (e : ℕ) (trail : List Point) (q : Point) → has_entry e q.ready ≡ true → points e (trail ++ q ∷ []) ≡ points e trail ++ q ∷ []
unfolding points
points-push e trail q has = filter-append (λ p. has_entry e p.ready) trail (q ∷ []) ∙ rw has

pub length-points : (e : ℕ) (trail : List Point) → length (points e trail) ≡ count_by (λ p. has_entry e p.ready) trail
unfolding points
length-points e trail = length-filter (λ p. has_entry e p.ready) trail

pub no-points : (e : ℕ) (trail : List Point) → All (λ p. has_entry e p.ready ≡ false) trail → length (points e trail) ≡ 0
no-points e trail none = length-points e trail ∙ count-none (λ p. has_entry e p.ready) trail none

pub waited-le : (s : Standing) (trail : List Point) → waited trail s ≤ length (points s.entry trail)
unfolding waited
waited-le s trail = count_by-le-length (takes_another s) (points s.entry trail)

pub waited-push : (s : Standing) (trail : List Point) (q : Point) → has_entry s.entry q.ready ≡ true → waited (trail ++ q ∷ []) s ≡ waited trail s + cond (takes_another s q) 1 0
unfolding waited
waited-push s trail q has = ap (count_by (takes_another s)) (points-push s.entry trail q has) ∙ count-push (takes_another s) (points s.entry trail) q

-- what holds of each dispatch holds of each point
pub All-points : (P : Point → Type 0) (e : ℕ) (trail : List Point) → All P trail → All P (points e trail)
unfolding points
All-points P e trail all = All-filter (λ p. has_entry e p.ready) P trail all

-- ---- who stood there

pub last-push : (trail : List Point) (q : Point) → last_ready (trail ++ q ∷ []) ≡ q.ready
last-push [] q = refl
last-push (p ∷ []) q = refl
last-push (p ∷ r ∷ ps) q = last-push (r ∷ ps) q

-- who stands in no point stands not in the last
pub last-none : (e : ℕ) (trail : List Point) → All (λ p. has_entry e p.ready ≡ false) trail → has_entry e (last_ready trail) ≡ false
last-none e [] none = refl
last-none e (p ∷ []) none = All-head (λ p. has_entry e p.ready ≡ false) p [] none
last-none e (p ∷ q ∷ ps) none = last-none e (q ∷ ps) (All-tail (λ p. has_entry e p.ready ≡ false) p (q ∷ ps) none)

pub last-drop : (c : ℕ) (ps : List Point) → c < length ps → last_ready (drop c ps) ≡ last_ready ps
last-drop zero ps low = refl
last-drop (suc c) [] low = absurd (omega arith)
last-drop (suc c) (p ∷ []) low = absurd (omega arith)
last-drop (suc c) (p ∷ q ∷ ps) low = last-drop c (q ∷ ps) (omega arith)

-- the points of a wait that lasts end with the trail
pub last-points : (e : ℕ) (trail : List Point) → has_entry e (last_ready trail) ≡ true → last_ready (points e trail) ≡ last_ready trail
unfolding points
last-points e [] has = refl
last-points e (p ∷ []) has = rw has
last-points e (p ∷ q ∷ ps) has = by (has_entry e p.ready) (points e (q ∷ ps)) (last-points e (q ∷ ps) has)
  where
    by : (b : Bool) (rest : List Point) → last_ready rest ≡ last_ready (q ∷ ps) → last_ready (cond b (p ∷ rest) rest) ≡ last_ready (q ∷ ps)
    by true [] same = absurd (let none : has_entry e [] ≡ true = ap (has_entry e) same ∙ has in cc none)
    by true (r ∷ rest) same = same
    by false rest same = same

-- all that stood in these points
abbrev pub seen_in : List Point → List Standing
seen_in [] = []
seen_in (p ∷ ps) = p.ready ++ seen_in ps

seen-cons : (e : ℕ) (p : Point) (ps : List Point) → has_entry e (seen_in (p ∷ ps)) ≡ (has_entry e p.ready || has_entry e (seen_in ps))
seen-cons e p ps = list_any-append (λ x. x.entry == e) p.ready (seen_in ps)

pub seen-none : (e : ℕ) (ps : List Point) → All (λ p. has_entry e p.ready ≡ false) ps → has_entry e (seen_in ps) ≡ false
seen-none e [] none = refl
seen-none e (p ∷ ps) none =
    let Unseen : Point → Type 0 = λ p. has_entry e p.ready ≡ false in
    seen-cons e p ps ∙ rw (All-head Unseen p ps none) (seen-none e ps (All-tail Unseen p ps none))

pub last-seen : (e : ℕ) (ps : List Point) → has_entry e (last_ready ps) ≡ true → has_entry e (seen_in ps) ≡ true
last-seen e [] has = has
last-seen e (p ∷ []) has = seen-cons e p [] ∙ or_left (has_entry e p.ready) false has
last-seen e (p ∷ q ∷ ps) has = seen-cons e p (q ∷ ps) ∙ or_right (has_entry e p.ready) (has_entry e (seen_in (q ∷ ps))) (last-seen e (q ∷ ps) has)

-- ---- newcomers

pub newcomers-push : (seen : List Standing) (ps : List Point) (q : Point) → newcomers seen (ps ++ q ∷ []) ≡ newcomers seen ps + new_at_top (seen ++ seen_in ps) q.ready
unfolding newcomers
newcomers-push seen [] q = rw append-nil (omega arith)
newcomers-push seen (p ∷ ps) q =
    let e : new_at_top ((seen ++ p.ready) ++ seen_in ps) q.ready ≡ new_at_top (seen ++ (p.ready ++ seen_in ps)) q.ready = ap (λ l. new_at_top l q.ready) (append_assoc seen p.ready (seen_in ps)) in
    omega (arith, newcomers-push (seen ++ p.ready) ps q, e)

-- two lists in which the same entries stood
pub new-same : (seen old all : List Standing) → All (λ s. has_entry s.entry seen ≡ has_entry s.entry old) all → new_at_top seen all ≡ new_at_top old all
new-same seen old all same =
    count-same (λ s. s.top && not (has_entry s.entry seen)) (λ s. s.top && not (has_entry s.entry old)) all
    (All-weaker (λ s. has_entry s.entry seen ≡ has_entry s.entry old) (λ s. (s.top && not (has_entry s.entry seen)) ≡ (s.top && not (has_entry s.entry old))) (λ s e. ap (λ b. s.top && not b) e) all same)

-- whoever was seen is no newcomer
pub new-none : (seen all : List Standing) → All (λ s. has_entry s.entry seen ≡ true) all → new_at_top seen all ≡ 0
new-none seen all has =
    count-none (λ s. s.top && not (has_entry s.entry seen)) all
    (All-weaker (λ s. has_entry s.entry seen ≡ true) (λ s. (s.top && not (has_entry s.entry seen)) ≡ false) (λ s e. rw e (and_false s.top)) all has)
  where
    and_false : (b : Bool) → (b && false) ≡ false
    and_false true = refl
    and_false false = refl

-- The newcomers since the last dispatch are the same for every wait, whichever its points are.
pub new_now : (trail : List Point) (ready : List Standing) (s : Standing) (c : ℕ) → All (Lasts trail) ready → Lasts trail s → c < length (points s.entry trail) → new_at_top (seen_in (drop c (points s.entry trail))) ready ≡ new_at_top (last_ready trail) ready
new_now trail ready s c last own far =
    new-same (seen_in (drop c (points s.entry trail))) (last_ready trail) ready
    (All-weaker (Lasts trail) (λ z. has_entry z.entry (seen_in (drop c (points s.entry trail))) ≡ has_entry z.entry (last_ready trail)) each ready last)
  where
    end : last_ready (drop c (points s.entry trail)) ≡ last_ready trail
    end = last-drop c (points s.entry trail) far ∙ last-points s.entry trail (own (omega arith))

    -- who stood at none of all dispatches is not seen
    nowhere : (z : Standing) → Lasts trail z → has_entry z.entry (last_ready trail) ≡ false → (0 < length (points z.entry trail)) ⊎ (length (points z.entry trail) ≤ 0) → has_entry z.entry (seen_in (drop c (points s.entry trail))) ≡ false
    nowhere z stays unseen (inl some) = absurd (let seen = stays some in cc)
    nowhere z stays unseen (inr none) =
        let Unseen : Point → Type 0 = λ p. has_entry z.entry p.ready ≡ false in
        seen-none z.entry (drop c (points s.entry trail))
        (All-drop Unseen c (points s.entry trail) (All-points Unseen s.entry trail (none-counted (λ p. has_entry z.entry p.ready) trail (sym (length-points z.entry trail) ∙ omega arith))))

    each : (z : Standing) → Lasts trail z → has_entry z.entry (seen_in (drop c (points s.entry trail))) ≡ has_entry z.entry (last_ready trail)
    each z stays = elim (cases_Bool (has_entry z.entry (last_ready trail))) [
      | inl seen ↦ last-seen z.entry (drop c (points s.entry trail)) (ap (has_entry z.entry) end ∙ seen) ∙ sym seen
      | inr unseen ↦ nowhere z stays unseen (cases_lt 0 (length (points z.entry trail))) ∙ sym unseen
    ]

-- ---- beyond

-- a dispatch more, after others
beyond-push : (s : Standing) (later : List Point) (q : Point) → 0 < length later → beyond s (later ++ q ∷ []) ≡ beyond s later + cond (names_another s q) 1 0 + new_at_top (seen_in later) q.ready
unfolding beyond
beyond-push s [] q some = absurd (omega arith)
beyond-push s (p ∷ ps) q some = omega (arith, newcomers-push p.ready ps q, count-push (names_another s) (p ∷ ps) q)

-- the first dispatch that counts
beyond-first : (s : Standing) (q : Point) → beyond s (q ∷ []) ≡ number_before s q.ready + cond (names_another s q) 1 0
unfolding beyond newcomers
beyond-first s q = omega (arith, count-cons (names_another s) q [])

module _ (trail : List Point) (q : Point) (s : Standing) (c : ℕ) (has : has_entry s.entry q.ready ≡ true) where
  later-push : c ≤ length (points s.entry trail) → drop c (points s.entry (trail ++ q ∷ [])) ≡ drop c (points s.entry trail) ++ q ∷ []
  later-push le = ap (drop c) (points-push s.entry trail q has) ∙ drop-append-le c (points s.entry trail) (q ∷ []) le

  -- the dispatch is the point after c
  pub beyond-at : length (points s.entry trail) ≡ c → beyond s (drop c (points s.entry (trail ++ q ∷ []))) ≡ number_before s q.ready + cond (names_another s q) 1 0
  beyond-at now = ap (beyond s) (later-push (omega arith)) ∙ ap (λ l. beyond s (l ++ q ∷ [])) (drop_all c (points s.entry trail) (omega arith)) ∙ beyond-first s q

  -- it comes later
  pub beyond-past : All (Lasts trail) q.ready → Lasts trail s → c < length (points s.entry trail) → beyond s (drop c (points s.entry (trail ++ q ∷ []))) ≡ beyond s (drop c (points s.entry trail)) + new_at_top (last_ready trail) q.ready + cond (names_another s q) 1 0
  beyond-past last own far =
      ap (beyond s) (later-push (omega arith))
      ∙ omega (arith, beyond-push s (drop c (points s.entry trail)) q (omega (arith, length-drop c (points s.entry trail))), new_now trail q.ready s c last own far)
