-- Every sound world shows a state.
use Rattle.std.proofs.Common.{◌≡◌, ◌∙◌, ℕ, ℤ, ◌≤ℤ◌, int_lt, true, false, Bool, if◌then◌else◌, List, [], ◌∷◌, ◌++◌, map, reverse, AllPairs, All, is_some, refl, ap, subst, arith}
use Rattle.pth_world.specs.Leading.{AllAwaitRightly}
use Rattle.std.proofs.lemmas.Int.{ints}
use Rattle.std.proofs.lemmas.List.{append_assoc, append-nil, map-append, reverse-append}
use Rattle.pth_model.specs.Allowance.{standing_of}
use Rattle.std.proofs.lemmas.List.Elements.{All-append, All-cons, All-head, All-nil, All-tail, All-weaker}
use Rattle.pth_queue.specs.Ranking.{named_row}
use Rattle.pth_queue.specs.Queues.{rows_of}
use Rattle.pth_queue.specs.declared.ranked.Ranked.{Ranked}
use Rattle.pth_queue.specs.declared.queue.Queue.{Queue}
use Rattle.pth_queue.specs.declared.queue.Queue.TheVariants.{New, Ready, Waiting, Suspended, Dead}
use Rattle.pth_threads.specs.Threads.{tid_at}
use Rattle.pth_model.specs.Standing.{Standing, height, order, put_behind, raises_of, row_at, shown}
use Rattle.pth_model.proofs.Sorted.{pairs-head, pairs-tail}
use Rattle.pth_world.specs.World.{WorldOf}
use Rattle.pth_world.specs.Shows.{StandsFor}
use Rattle.pth_world.specs.Sound.{IsSound}
use Rattle.pth_world.specs.StateOf.{entered_as, standing_at, state_of}

abbrev NotAbove : Ranked → Ranked → Type 0
NotAbove x y = y.rank ≤ℤ x.rank

none_raised : (q : Queue) → raises_of 0 q ≡ 0
none_raised New = refl
none_raised Ready = refl
none_raised Waiting = refl
none_raised Suspended = refl
none_raised Dead = refl

-- rows that fall, entered in their order under other names, stand in it
module _ (name : ℕ → ℕ) where
  abbrev entered : Ranked → Standing
  entered r = standing_at (named_row name r)

  -- the last of them stands behind all others
  enters_last : (e : Ranked) (rows : List Ranked) → All (λ x. NotAbove x e) rows → put_behind (entered e) (map entered rows) ≡ map entered rows ++ entered e ∷ []
  unfolding put_behind
  enters_last e [] low = refl
  enters_last e (x ∷ rows) low = by_test (int_lt (height (entered x)) (height (entered e))) refl (enters_last e rows (All-tail (λ y. NotAbove y e) x rows low))
    where
      by_test : (b : Bool) → int_lt (height (entered x)) (height (entered e)) ≡ b → put_behind (entered e) (map entered rows) ≡ map entered rows ++ entered e ∷ [] → (if b then entered e ∷ map entered (x ∷ rows) else entered x ∷ put_behind (entered e) (map entered rows)) ≡ map entered (x ∷ rows) ++ entered e ∷ []
      by_test true is others = (let least : e.rank ≤ℤ x.rank = All-head (λ y. NotAbove y e) x rows low in absurd (grind (arith, ints)))
      by_test false is others = ap (λ (xs : List Standing). entered x ∷ xs) others

  abbrev StandsAs : List Ranked → Type 0
  StandsAs rows = order (reverse (map entered rows)) ≡ map entered rows

  one_more : (front : List Ranked) (e : Ranked) → StandsAs front → All (λ x. NotAbove x e) front → StandsAs (front ++ e ∷ [])
  unfolding order
  one_more front e stands low =
      rw (map-append entered front (e ∷ []), reverse-append (map entered front) (entered e ∷ []), stands) (enters_last e front low)

  all_more : (front back : List Ranked) → StandsAs front → All (λ x. All (λ y. NotAbove x y) back) front → AllPairs NotAbove back → StandsAs (front ++ back)
  all_more front [] stands low falls = rw (append-nil front) stands
  all_more front (e ∷ back) stands low falls =
      let last = All-weaker (λ x. All (λ y. NotAbove x y) (e ∷ back)) (λ x. NotAbove x e) (λ x h. All-head (λ y. NotAbove x y) e back h) front low in
      let others = All-weaker (λ x. All (λ y. NotAbove x y) (e ∷ back)) (λ x. All (λ y. NotAbove x y) back) (λ x h. All-tail (λ y. NotAbove x y) e back h) front low in
      let own = All-cons (λ x. All (λ y. NotAbove x y) back) e [] (pairs-head NotAbove e back falls) (All-nil (λ x. All (λ y. NotAbove x y) back)) in
      subst StandsAs (append_assoc front (e ∷ []) back)
      (all_more (front ++ e ∷ []) back (one_more front e stands last) (All-append (λ x. All (λ y. NotAbove x y) back) front (e ∷ []) others own) (pairs-tail NotAbove e back falls))

  all_stand : (rows : List Ranked) → AllPairs NotAbove rows → StandsAs rows
  unfolding order
  all_stand rows falls = all_more [] rows refl (All-nil (λ x. All (λ y. NotAbove x y) rows)) falls

  renamed : (rows : List Ranked) → map standing_at (map (named_row name) rows) ≡ map entered rows
  renamed [] = refl
  renamed (r ∷ rows) = ap (λ (xs : List Standing). entered r ∷ xs) (renamed rows)

  same_row : (r : Ranked) → row_at 0 (entered r) ≡ named_row name r
  same_row r = ap (λ (rank : ℤ). record { rank = rank; holder = name r.holder }) (grind (arith, ints))

  same_rows : (rows : List Ranked) → map (row_at 0) (map entered rows) ≡ map (named_row name) rows
  same_rows [] = refl
  same_rows (r ∷ rows) = ap (λ (x : Ranked). x ∷ map (row_at 0) (map entered rows)) (same_row r) ∙ ap (λ (xs : List Ranked). named_row name r ∷ xs) (same_rows rows)

  shows_rows : (q : Queue) (rows : List Ranked) → AllPairs NotAbove rows → shown (raises_of 0 q) (entered_as (map (named_row name) rows)) ≡ map (named_row name) rows
  unfolding shown
  shows_rows q rows falls = rw (none_raised q, renamed rows, all_stand rows falls) (same_rows rows)

no_history : {A : Type 0} → false ≡ true → A
no_history e = absurd (cc e)

pub stands_for_state : {P S H : Type 0} (w : WorldOf P S H) → IsSound w.threads → StandsFor w (state_of w)
unfolding state_of
stands_for_state w sound = record {
  control = record {
    program = refl;
    shared = refl;
    threads = record {
      made = refl;
      known = refl;
      progress = refl;
      standing = λ q. shows_rows (tid_at w.threads.records) q (rows_of q w.threads.queues) (sound.orderly.each q).falling;
      top = refl;
      waits = λ h. no_history (All-head (λ p. is_some (standing_of p.taken p.ready) ≡ true) _ [] h.taken);
    };
    attributes = record { made = refl; objects = refl };
    events = refl;
    conditions = refl;
    barriers = refl;
    kernel = refl;
    used = refl;
    scheduler = refl;
  };
  store = refl;
}

pub state_awaits_rightly : {P S H : Type 0} (w : WorldOf P S H) → AllAwaitRightly (state_of w)
unfolding state_of
state_awaits_rightly w t = refl
