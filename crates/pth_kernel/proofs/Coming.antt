-- The entries that have come are those of the stamps before a place.
use Rattle.std.proofs.Common.{◌≡◌, ℕ, zero, suc, ◌==◌, ◌+◌, ◌<◌, ◌≤◌, min, Bool, true, false, cond, ◌&&◌, ltb, leb, List, [], ◌∷◌, ◌++◌, length, get_or, take, drop, map, filter, All, Option, Some, refl, sym, ◌∙◌, ap, arith}
use Rattle.std.specs.Prelude.{slice_get}
use Rattle.std.proofs.lemmas.Bool.{and_from, and_left, and_right, lt-ltb, le-ltb, le-leb, lt-leb}
use Rattle.std.proofs.lemmas.List.{append-nil, map-append, take-append-drop, take_all}
use Rattle.std.proofs.lemmas.List.Elements.{filter-append, filter_more, All-tail, All-head}
use Rattle.pth_base.specs.Limits.{last_moment}
use Rattle.pth_kernel.specs.declared.trace.Entry.{Entry}
use Rattle.pth_kernel.specs.declared.trace.Stamp.{Stamp}
use Rattle.pth_kernel.specs.Moments.{least_by, least_after}
use Rattle.pth_kernel.specs.Kernel.{Kernel, came_to}
use Rattle.pth_kernel.specs.Kept.{IsSoundStamp, IsRising, IsDivided, entries}

abbrev is_for : ℕ → Stamp → Bool
is_for f s = s.fd.0 == f

abbrev what_of : Stamp → Entry
what_of s = s.what

-- ---- one stamp more

filtered : (f n : ℕ) (ss : List Stamp) (s : Stamp) (b : Bool) → n < length ss → s ≡ get_or ss n s → is_for f s ≡ b → filter (is_for f) (take (n + 1) ss) ≡ filter (is_for f) (take n ss) ++ cond b (s ∷ []) []
filtered f n ss s b h at is =
    filter_more (is_for f) ss n s h
    ∙ ap (λ (x : Stamp). filter (is_for f) (take n ss) ++ cond (is_for f x) (x ∷ []) []) (sym at)
    ∙ ap (λ (c : Bool). filter (is_for f) (take n ss) ++ cond c (s ∷ []) []) is

pub entries-none : (f : ℕ) (ss : List Stamp) → entries f 0 ss ≡ []
unfolding entries
entries-none f ss = refl

pub entries-here : (f n : ℕ) (ss : List Stamp) (s : Stamp) → n < length ss → s ≡ get_or ss n s → is_for f s ≡ true → entries f (n + 1) ss ≡ entries f n ss ++ s.what ∷ []
unfolding entries
entries-here f n ss s h at is = ap (map what_of) (filtered f n ss s true h at is) ∙ map-append what_of (filter (is_for f) (take n ss)) (s ∷ [])

pub entries-other : (f n : ℕ) (ss : List Stamp) (s : Stamp) → n < length ss → s ≡ get_or ss n s → is_for f s ≡ false → entries f (n + 1) ss ≡ entries f n ss
unfolding entries
entries-other f n ss s h at is = ap (map what_of) (filtered f n ss s false h at is ∙ append-nil (filter (is_for f) (take n ss)))

-- the entries of the first n stamps come before those of the others
pub rest_of : ℕ → ℕ → List Stamp → List Entry
rest_of f n ss = map what_of (filter (is_for f) (drop n ss))

pub entries-rest : (f n : ℕ) (ss : List Stamp) → entries f (length ss) ss ≡ entries f n ss ++ rest_of f n ss
unfolding entries rest_of
entries-rest f n ss =
    ap (λ (l : List Stamp). map what_of (filter (is_for f) l)) (take_all (length ss) ss (omega arith) ∙ sym (take-append-drop n ss))
    ∙ ap (map what_of) (filter-append (is_for f) (take n ss) (drop n ss))
    ∙ map-append what_of (filter (is_for f) (take n ss)) (filter (is_for f) (drop n ss))

-- ---- the stamps before a place are those that have come

abbrev has_come : ℕ → ℕ → Stamp → Bool
has_come f now s = (s.fd.0 == f) && leb s.at now

and-true : (a b : Bool) → b ≡ true → (a && b) ≡ a
and-true true b h = h
and-true false b h = refl

-- at a list of at least one, each fact of the places is one of the places of its rest
past-rest : (now n : ℕ) (s : Stamp) (ss : List Stamp) → ((k : ℕ) (d : Stamp) → k < suc n → (get_or (s ∷ ss) k d).at ≤ now) → (k : ℕ) (d : Stamp) → k < n → (get_or ss k d).at ≤ now
past-rest now n s ss past k d h = past (suc k) d (omega arith)

to_come-rest : (now n : ℕ) (s : Stamp) (ss : List Stamp) → ((d : Stamp) → suc n < length (s ∷ ss) → now < (get_or (s ∷ ss) (suc n) d).at) → (d : Stamp) → n < length ss → now < (get_or ss n d).at
to_come-rest now n s ss to_come d h = to_come d (omega arith)

divided-rest : (now n : ℕ) (s : Stamp) (ss : List Stamp) → IsDivided (s ∷ ss) now (suc n) → IsDivided ss now n
divided-rest now n s ss v = record { within = let w = v.within in omega arith; past = past-rest now n s ss v.past; to_come = to_come-rest now n s ss v.to_come }

none_later : (f now at : ℕ) (ss : List Stamp) → IsRising at ss → now < at → filter (has_come f now) ss ≡ []
none_later f now at [] up late = refl
none_later f now at (s ∷ ss) up late =
    let later : now < s.at = omega (arith, up.0) in
    let none : has_come f now s ≡ false = and_right (s.fd.0 == f) (leb s.at now) (lt-leb s.at now later) in
    ap (λ (b : Bool). cond b (s ∷ filter (has_come f now) ss) (filter (has_come f now) ss)) none ∙ none_later f now s.at ss up.1 later

filter-first : (f now at : ℕ) (ss : List Stamp) (n : ℕ) → IsRising at ss → IsDivided ss now n → filter (has_come f now) ss ≡ filter (is_for f) (take n ss)
filter-first f now at [] zero up v = refl
filter-first f now at [] (suc n) up v = refl
filter-first f now at (s ∷ ss) zero up v =
    let later : now < s.at = v.to_come s (omega arith) in
    let from : IsRising s.at (s ∷ ss) = (omega arith, up.1) in
    none_later f now s.at (s ∷ ss) from later
filter-first f now at (s ∷ ss) (suc n) up v =
    let come : has_come f now s ≡ is_for f s = and-true (s.fd.0 == f) (leb s.at now) (le-leb s.at now (v.past zero s (omega arith))) in
    let rest = filter-first f now s.at ss n up.1 (divided-rest now n s ss v) in
    ap (λ (b : Bool). cond b (s ∷ filter (has_come f now) ss) (filter (has_come f now) ss)) come
    ∙ ap (λ (l : List Stamp). cond (is_for f s) (s ∷ l) l) rest

pub came-first : (k : Kernel) (f place : ℕ) → IsRising 0 k.trace → IsDivided k.trace k.now place → came_to k f ≡ entries f place k.trace
unfolding came_to entries
came-first k f place up v = ap (map what_of) (filter-first f k.now 0 k.trace place up v)

-- ---- the next time is that of the stamp at the place

abbrev time_of : Stamp → ℕ
time_of s = s.at

lower : (a b : ℕ) (ss : List Stamp) → IsRising b ss → a ≤ b → IsRising a ss
lower a b [] up h = tt
lower a b (s ∷ ss) up h = (omega (arith, up.0), up.1)

min-first : (a b : ℕ) → a ≤ b → min a b ≡ a
min-first a b h = omega arith

least_by-least : (a b : ℕ) (o : Option ℕ) → a ≤ b → least_by b o ≡ Some b → least_by a (least_by b o) ≡ Some a
least_by-least a b o h is = ap (least_by a) is ∙ ap (λ (n : ℕ). Some n) (min-first a b h)

by_test : (a at : ℕ) (b : Bool) (o : Option ℕ) → least_by a (least_by at o) ≡ Some a → least_by a o ≡ Some a → least_by a (cond b (least_by at o) o) ≡ Some a
by_test a at true o met not_met = met
by_test a at false o met not_met = not_met

least_from : (now at : ℕ) (ss : List Stamp) → IsRising at ss → least_by at (least_after now (map time_of ss)) ≡ Some at
least_from now at [] up = refl
least_from now at (s ∷ ss) up =
    by_test at s.at (ltb now s.at && leb s.at last_moment) (least_after now (map time_of ss))
    (least_by-least at s.at (least_after now (map time_of ss)) up.0 (least_from now s.at ss up.1))
    (least_from now at ss (lower at s.at ss up.1 up.0))

pub least-next : (now at : ℕ) (ss : List Stamp) (n : ℕ) → IsRising at ss → All IsSoundStamp ss → IsDivided ss now n → least_after now (map time_of ss) ≡ slice_get (map time_of ss) n
least-next now at [] zero up all v = refl
least-next now at [] (suc n) up all v = refl
least-next now at (s ∷ ss) zero up all v =
    let early = (All-head IsSoundStamp s ss all).early in
    let low : s.at ≤ last_moment = omega arith in
    let met : (ltb now s.at && leb s.at last_moment) ≡ true = and_from _ _ (lt-ltb now s.at (v.to_come s (omega arith))) (le-leb s.at last_moment low) in
    ap (λ (b : Bool). cond b (least_by s.at (least_after now (map time_of ss))) (least_after now (map time_of ss))) met ∙ least_from now s.at ss up.1
least-next now at (s ∷ ss) (suc n) up all v =
    let not_met : (ltb now s.at && leb s.at last_moment) ≡ false = and_left _ _ (le-ltb now s.at (v.past zero s (omega arith))) in
    ap (λ (b : Bool). cond b (least_by s.at (least_after now (map time_of ss))) (least_after now (map time_of ss))) not_met
    ∙ least-next now s.at ss n up.1 (All-tail IsSoundStamp s ss all) (divided-rest now n s ss v)
