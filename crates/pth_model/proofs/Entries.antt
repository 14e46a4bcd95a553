-- What runs keep of entries: each is counted, and one at Top is above those before it.
use Rattle.std.proofs.Common.{◌≡◌, ◌≢◌, ℕ, ◌+◌, ◌<◌, ◌==◌, not, Bool, true, false, if◌then◌else◌, ℤ, pos, ◌+ℤ◌, ◌-ℤ◌, ◌<ℤ◌, List, [], ◌∷◌, All, AllPairs, refl, sym, subst, map, arith, inl, inr, length, get_or}
use Rattle.std.proofs.lemmas.Int.{ints}
use Rattle.std.proofs.lemmas.Bool.{cases_lt}
use Rattle.std.proofs.lemmas.List.Elements.{All-nil, All-cons, All-weaker, All-filter, All-contains, All-from_get_or}
use Rattle.std.proofs.lemmas.List.Kept.{AllPairs-cons, AllPairs-filter}
use Rattle.std.proofs.lemmas.List.Sorted.{IsPermutation-sym, All-permutation}
use Rattle.pth_queue.specs.declared.queue.Queue.{Queue}
use Rattle.pth_queue.specs.Ranking.{favour_top}
use Rattle.pth_model.specs.Standing.{Standing, height, rank_now, order, row_at, shown, left_by, is_queue, raises_of}
use Rattle.pth_model.specs.State.{Control}
use Rattle.pth_model.specs.Changes.{enters, leaves_queue}
use Rattle.pth_model.specs.Order.{StandsBefore, IsTopped}
use Rattle.pth_model.proofs.Sorted.{pairs-head, pairs-nil, same-order, sorted-order}
use Rattle.pth_model.proofs.Queues.{is_queue_same, is_queue_self}

-- x entered after y, and above it where it entered at Top
pub record Follows (x y : Standing) : Type 0 where
  pub later : y.entry < x.entry
  pub above : x.top ≡ true → height y <ℤ height x

-- the standings of one queue, each of them with a meaning
pub record IsListed (Meant : Standing → Type 0) (entries : ℕ) (all : List Standing) : Type 0 where
  pub counted : All (λ x. x.entry < entries) all
  pub follows : AllPairs Follows all
  pub meant : All Meant all

-- ---- one queue

module _ (Meant : Standing → Type 0) where
  pub listed_none : (n : ℕ) → IsListed Meant n []
  listed_none n = record { counted = All-nil (λ x. x.entry < n); follows = pairs-nil Follows; meant = All-nil Meant }

  pub listed_enter : (n : ℕ) (s : Standing) (all : List Standing) → s.entry ≡ n → (s.top ≡ true → All (λ y. height y <ℤ height s) all) → Meant s → IsListed Meant n all → IsListed Meant (n + 1) (s ∷ all)
  listed_enter n s all now above meant l = record {
    counted = All-cons (λ x. x.entry < n + 1) s all (omega (arith, now)) (All-weaker (λ x. x.entry < n) (λ x. x.entry < n + 1) (λ x h. omega (arith, h)) all l.counted);
    follows = AllPairs-cons Follows s all (λ k d low. record { later = let h = l.counted k d low in omega (arith, h, now); above = λ top. above top k d low }) l.follows;
    meant = All-cons Meant s all meant l.meant;
  }

  listed_later : (n : ℕ) (all : List Standing) → IsListed Meant n all → IsListed Meant (n + 1) all
  listed_later n all l = record { counted = All-weaker (λ x. x.entry < n) (λ x. x.entry < n + 1) (λ x h. omega (arith, h)) all l.counted; follows = l.follows; meant = l.meant }

  listed_left : (n t : ℕ) (all : List Standing) → IsListed Meant n all → IsListed Meant n (left_by t all)
  listed_left n t all l = record {
    counted = All-filter (λ s. not (s.tid == t)) (λ x. x.entry < n) all l.counted;
    follows = AllPairs-filter Follows (λ s. not (s.tid == t)) all l.follows;
    meant = All-filter (λ s. not (s.tid == t)) Meant all l.meant;
  }

-- x is above y, where it entered later and at Top
abbrev Tops : Standing → Standing → Type 0
Tops x y = x.top ≡ true → y.entry < x.entry → height y <ℤ height x

tops_at : (all : List Standing) (d : Standing) (i j : ℕ) → AllPairs Follows all → i < length all → j < length all → Tops (get_or all i d) (get_or all j d)
tops_at all d i j p here there top earlier = elim (cases_lt i j) [
  | inl low ↦ (p i j d low there).above top
  | inr high ↦ elim (cases_lt j i) [
    | inl low ↦ absurd (let later = (p j i d low here).later in omega (arith, later, earlier))
    | inr same ↦ (
        let e : i ≡ j = omega (arith, high, same) in
        let less : (get_or all j d).entry < (get_or all j d).entry = subst (λ (k : ℕ). (get_or all j d).entry < (get_or all k d).entry) e earlier in
        absurd (omega (arith, less)))
  ]
]

pub listed_topped : (raises : ℕ) (all : List Standing) → AllPairs Follows all → IsTopped raises all
listed_topped raises all follows x y a b top earlier =
    let each : All (λ x. All (Tops x) all) all = All-from_get_or (λ x. All (Tops x) all) all x (λ i here. All-from_get_or (Tops (get_or all i x)) all x (λ j there. tops_at all x i j follows here there)) in
    let above : height y <ℤ height x = All-contains (Tops x) all y (All-contains (λ x. All (Tops x) all) all x each a) b top earlier in
    omega (arith, ints, above)

-- ---- what a queue's top is

at_most : (raises : ℕ) (x y : Standing) → StandsBefore raises x y → rank_now raises y <ℤ (rank_now raises x +ℤ pos 1)
at_most raises x y (inl above) = omega (arith, ints, above)
at_most raises x y (inr same) = let e = same.0 in omega (arith, ints, e)

top_by : (top raises : ℕ) (xs : List Standing) → AllPairs (StandsBefore raises) xs → All (λ y. rank_now raises y <ℤ favour_top top (map (row_at raises) xs)) xs
top_by top raises [] p = All-nil (λ y. rank_now raises y <ℤ pos top)
top_by top raises (x ∷ xs) p =
    let Below : Standing → Type 0 = λ y. rank_now raises y <ℤ (rank_now raises x +ℤ pos 1) in
    All-cons Below x xs (omega (arith, ints)) (All-weaker (StandsBefore raises x) Below (at_most raises x) xs (pairs-head (StandsBefore raises) x xs p))

-- a queue's top is above all that stand there
pub top_above : (greatest raises : ℕ) (all : List Standing) → AllPairs Follows all → All (λ y. height y <ℤ (favour_top greatest (shown raises all) -ℤ pos raises)) all
unfolding shown
top_above greatest raises all follows =
    let Later : Standing → Standing → Type 0 = λ x y. y.entry < x.entry in
    let top = favour_top greatest (map (row_at raises) (order all)) in
    let Below : Standing → Type 0 = λ y. rank_now raises y <ℤ top in
    let falling : AllPairs Later all = λ i j d less low. (follows i j d less low).later in
    let below : All Below all = All-permutation Below (order all) all (IsPermutation-sym _ _ (same-order all)) (top_by greatest raises (order all) (sorted-order raises all falling)) in
    All-weaker Below (λ y. height y <ℤ (top -ℤ pos raises)) (λ y h. less_raised raises y top h) all below
  where
    less_raised : (raises : ℕ) (y : Standing) (top : ℤ) → rank_now raises y <ℤ top → height y <ℤ (top -ℤ pos raises)
    less_raised raises y top h = omega (arith, ints, h)

-- ---- every queue of a state

abbrev pub Differs : Standing → Standing → Type 0
Differs x y = x.entry ≢ y.entry

-- the standings of all queues: none of one queue has the number of one of another
pub record IsKept (Meant : Standing → Type 0) (entries : ℕ) (all : Queue → List Standing) : Type 0 where
  pub listed : (q : Queue) → IsListed Meant entries (all q)
  pub apart : (p q : Queue) → is_queue p q ≡ false → All (λ x. All (Differs x) (all q)) (all p)

module _ {P S H : Type 0} (Meant : Standing → Type 0) where
  abbrev pub Kept : Control P S H → Type 0
  Kept s = IsKept Meant s.threads.entries s.threads.standing

  module _ (s : Control P S H) where
    pub kept_enter : (t : ℕ) (q : Queue) (rank : ℤ) (top : Bool) → ((x : Standing) → x.tid ≡ t → x.top ≡ top → Meant x) → (top ≡ true → All (λ y. height y <ℤ (rank -ℤ pos (raises_of s.threads.raises q))) (s.threads.standing q)) → Kept s → Kept (enters t q rank top s)
    unfolding enters
    kept_enter t q rank top meant above k = record { listed = λ p. entered p (is_queue p q) refl; apart = λ p r other. parted p r (is_queue p q) (is_queue r q) refl refl other }
      where
        here : Standing
        here = record { tid = t; rank = rank; since = raises_of s.threads.raises q; entry = s.threads.entries; top = top }

        entered : (p : Queue) (b : Bool) → is_queue p q ≡ b → IsListed Meant (s.threads.entries + 1) (if b then here ∷ s.threads.standing p else s.threads.standing p)
        entered p true e = listed_enter Meant s.threads.entries here (s.threads.standing p) refl (λ favoured. subst (λ (r : Queue). All (λ y. height y <ℤ (rank -ℤ pos (raises_of s.threads.raises q))) (s.threads.standing r)) (sym (is_queue_same p q e)) (above favoured)) (meant here refl refl) (k.listed p)
        entered p false e = listed_later Meant s.threads.entries (s.threads.standing p) (k.listed p)

        parted : (p r : Queue) (b c : Bool) → is_queue p q ≡ b → is_queue r q ≡ c → is_queue p r ≡ false → All (λ x. All (Differs x) (if c then here ∷ s.threads.standing r else s.threads.standing r)) (if b then here ∷ s.threads.standing p else s.threads.standing p)
        parted p r true true e h other = absurd (let same : is_queue p r ≡ true = rw (is_queue_same p q e, is_queue_same r q h) (is_queue_self q) in cc)
        parted p r true false e h other =
            All-cons (λ x. All (Differs x) (s.threads.standing r)) here (s.threads.standing p)
            (All-weaker (λ y. y.entry < s.threads.entries) (Differs here) (λ y low same. omega (arith, low, same)) (s.threads.standing r) (k.listed r).counted)
            (k.apart p r other)
        parted p r false true e h other = λ n d low. All-cons (Differs (get_or (s.threads.standing p) n d)) here (s.threads.standing r) (λ same. let h = (k.listed p).counted n d low in omega (arith, h, same)) (k.apart p r other n d low)
        parted p r false false e h other = k.apart p r other

    pub kept_plain : (t : ℕ) (q : Queue) (rank : ℤ) → ((x : Standing) → x.top ≡ false → Meant x) → Kept s → Kept (enters t q rank false s)
    kept_plain t q rank plain k = kept_enter t q rank false (λ x tid top. plain x top) (λ e. absurd (not_top e)) k
      where
        not_top : false ≡ true → ⊥
        not_top e = cc

    pub kept_leave : (t : ℕ) → Kept s → Kept (leaves_queue t s)
    unfolding leaves_queue
    kept_leave t k = record {
      listed = λ q. listed_left Meant s.threads.entries t (s.threads.standing q) (k.listed q);
      apart = λ p r other. All-filter (λ x. not (x.tid == t)) (λ x. All (Differs x) (left_by t (s.threads.standing r))) (s.threads.standing p)
          (λ n d low. All-filter (λ x. not (x.tid == t)) (Differs (get_or (s.threads.standing p) n d)) (s.threads.standing r) (k.apart p r other n d low));
    }
