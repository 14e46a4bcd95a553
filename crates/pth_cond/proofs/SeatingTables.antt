-- The conditions before and after a call.
use Rattle.std.proofs.Common.{◌≡◌, ℕ, suc, ◌+◌, ◌<◌, ◌≤◌, Bool, true, false, List, [], ◌∷◌, ◌++◌, length, get_or, set, map, take, drop, Some, None, Result, Ok, Err, OnOk, OnErr, refl, sym, ◌∙◌, ap, subst, option_map, is_some, inl, inr, append-nil, arith}
use Rattle.std.proofs.lemmas.List.{get_or_past, get_or_default, get_or-map, length-map, take_all, drop_all}
use Rattle.std.proofs.lemmas.List.Edits.{map_over_more}
use Rattle.std.proofs.lemmas.List.Sums.{sum_by-cons}
use Rattle.std.proofs.lemmas.Bool.{cases_lt, cases_eq}
use mathlib.Core.Path.{fun_ext}
use Rattle.pth_base.specs.Table.{put}
use Rattle.pth_base.proofs.Tables.{put_by, put_here, put_other}
use Rattle.pth_base.proofs.Lists.{table_set, put_none}
use Rattle.pth_lock.specs.Objects.{object_limit}
use Rattle.pth_cond.specs.declared.seats.Taken.{Taken}
use Rattle.pth_cond.specs.Seats.{event_seats, marks_stand_first}
use Rattle.pth_cond.specs.Conditions.{Condition, ConditionTable, conditions_of, all_event_seats, event_seats_here, with_seats, no_conditions, all_left, all_seats_left, HasFewEvents, IsAnyLive, IsInOrder, ConditionsAreKept}

-- ---- one condition

module _ (xs : List Condition) (k : ℕ) (low : k < length xs) where
  -- another stands there
  pub condition_set : (y : Condition) → conditions_of (set xs k y) ≡ put (conditions_of xs) k y
  condition_set y = table_set xs k y None low

  module _ (d : Condition) (change : List Taken → List Taken) where
    stood : (y : Condition) → get_or xs k d ≡ y → conditions_of xs k ≡ y
    stood y was = get_or_default xs k None d low ∙ was

    -- it was initialised, and its seats are others
    pub seats_changed : (ts us : List Taken) → get_or xs k d ≡ Some ts → us ≡ change ts → conditions_of (set xs k (Some us)) ≡ with_seats k change (conditions_of xs)
    seats_changed ts us was is = condition_set (Some us) ∙ ap (put (conditions_of xs) k) (ap Some is ∙ sym (ap (option_map change) (stood (Some ts) was)))

    -- it was not
    pub seats_none : get_or xs k d ≡ None → conditions_of (set xs k (get_or xs k d)) ≡ with_seats k change (conditions_of xs)
    seats_none was = condition_set (get_or xs k d) ∙ ap (put (conditions_of xs) k) (was ∙ sym (ap (option_map change) (stood None was)))

-- there is no such condition
pub seats_past : (xs : List Condition) (k : ℕ) (change : List Taken → List Taken) → length xs ≤ k → conditions_of xs ≡ with_seats k change (conditions_of xs)
seats_past xs k change high =
    let none : conditions_of xs k ≡ None = get_or_past xs k None high in
    sym (put_none (conditions_of xs) k (option_map change (conditions_of xs k)) (none ∙ sym (ap (option_map change) none)))

-- ---- what holds at every moment

abbrev KeepsOrder : (List Taken → List Taken) → Type 0
KeepsOrder change = (ts : List Taken) → marks_stand_first ts ≡ true → marks_stand_first (change ts) ≡ true

in_order : (change : List Taken → List Taken) → KeepsOrder change → (y : Condition) → IsInOrder y → IsInOrder (option_map change y)
in_order change keeps (Some ts) order = keeps ts order
in_order change keeps None order = tt

-- where the same are initialised, the flag stays right
not_live : (y : Condition) → is_some y ≡ false → y ≡ None
not_live (Some ts) none = absurd (cc none)
not_live None none = refl

any_live_kept : (live : Bool) (x y : ConditionTable) → ((c : ℕ) → is_some (y c) ≡ is_some (x c)) → IsAnyLive live x → IsAnyLive live y
any_live_kept true x y same (c, some) = (c, same c ∙ some)
any_live_kept false x y same none = fun_ext (λ c. not_live (y c) (same c ∙ ap (λ (f : ConditionTable). is_some (f c)) none))

live_here : (change : List Taken → List Taken) (y : Condition) → is_some (option_map change y) ≡ is_some y
live_here change (Some ts) = refl
live_here change None = refl

live_with_seats : (k : ℕ) (change : List Taken → List Taken) (x : ConditionTable) (c : ℕ) → is_some (with_seats k change x c) ≡ is_some (x c)
live_with_seats k change x c = put_by (λ y. is_some y ≡ is_some (x c)) x k (option_map change (x k)) c (λ here. live_here change (x k) ∙ ap (λ (i : ℕ). is_some (x i)) (sym here)) (λ apart. refl)

-- events have no more seats than before
abbrev Lessens : (List Taken → List Taken) → Type 0
Lessens change = (ts : List Taken) → event_seats (change ts) ≤ event_seats ts

few_lessened : (change : List Taken → List Taken) → Lessens change → (y : Condition) → HasFewEvents y → HasFewEvents (option_map change y)
few_lessened change lessens (Some ts) few = omega (arith, lessens ts, few)
few_lessened change lessens None few = few

few_left : (y : Condition) → HasFewEvents (all_left y)
few_left (Some ts) = omega arith
few_left None = omega arith

module _ {live : Bool} {n : ℕ} (olds news : List Condition) (kept : ConditionsAreKept live n olds) (long : length news ≡ length olds) where
  -- where the seats of one condition are others
  few_after : (k : ℕ) (change : List Taken → List Taken) → conditions_of news ≡ with_seats k change (conditions_of olds) → HasFewEvents (conditions_of news k) → (c : ℕ) → HasFewEvents (conditions_of news c)
  few_after k change is here c = elim (cases_eq c k) [
    | inl same ↦ rw same here
    | inr apart ↦ subst HasFewEvents (sym (ap (λ (f : ConditionTable). f c) is ∙ put_other (conditions_of olds) k (option_map change (conditions_of olds k)) c apart)) (kept.few c)
  ]

  pub few_here : (k : ℕ) (change : List Taken → List Taken) → Lessens change → conditions_of news ≡ with_seats k change (conditions_of olds) → HasFewEvents (conditions_of news k)
  few_here k change lessens is =
      let at = ap (λ (f : ConditionTable). f k) is ∙ put_here (conditions_of olds) k (option_map change (conditions_of olds k)) in
      subst HasFewEvents (sym at) (few_lessened change lessens (conditions_of olds k) (kept.few k))

  pub kept_changed : {m : ℕ} (k : ℕ) (change : List Taken → List Taken) → KeepsOrder change → conditions_of news ≡ with_seats k change (conditions_of olds) → m ≡ all_event_seats news → HasFewEvents (conditions_of news k) → ConditionsAreKept live m news
  kept_changed k change keeps is count few = record {
    many = long ∙ kept.many;
    order = λ c. subst IsInOrder (sym (ap (λ (f : ConditionTable). f c) is))
        (put_by IsInOrder (conditions_of olds) k (option_map change (conditions_of olds k)) c (λ here. in_order change keeps (conditions_of olds k) (kept.order k)) (λ apart. kept.order c));
    live = any_live_kept live (conditions_of olds) (conditions_of news) (λ c. ap (λ (f : ConditionTable). is_some (f c)) is ∙ live_with_seats k change (conditions_of olds) c) kept.live;
    count = count;
    few = few_after k change is few;
  }

  -- the same of a call that may be refused
  pub kept_answered : {T E : Type 0} (r : Result T E) {m : ℕ} (k : ℕ) (change : List Taken → List Taken) → KeepsOrder change → OnOk r (conditions_of news ≡ with_seats k change (conditions_of olds)) → OnErr r (news ≡ olds) → m ≡ all_event_seats news → OnOk r (HasFewEvents (conditions_of news k)) → ConditionsAreKept live m news
  kept_answered (Ok done) k change keeps is same count few = kept_changed k change keeps is count few
  kept_answered (Err e) k change keeps is same count few = record { many = long ∙ kept.many; order = rw same kept.order; live = rw same kept.live; count = count; few = rw same kept.few }

  pub kept_left : conditions_of news ≡ all_seats_left (conditions_of olds) → all_event_seats news ≡ 0 → ConditionsAreKept live 0 news
  kept_left is none = record {
    many = long ∙ kept.many;
    order = λ c. subst IsInOrder (sym (ap (λ (f : ConditionTable). f c) is)) (in_order (λ ts. []) (λ ts order. refl) (conditions_of olds c) (kept.order c));
    live = any_live_kept live (conditions_of olds) (conditions_of news) (λ c. ap (λ (f : ConditionTable). is_some (f c)) is ∙ live_here (λ ts. []) (conditions_of olds c)) kept.live;
    count = sym none;
    few = λ c. subst HasFewEvents (sym (ap (λ (f : ConditionTable). f c) is)) (few_left (conditions_of olds c));
  }

module _ {live : Bool} {n : ℕ} (xs : List Condition) (kept : ConditionsAreKept live n xs) where
  pub within : (k : ℕ) → k < object_limit → k < length xs
  within k low = let many = kept.many in omega arith

  pub beyond : (k : ℕ) → object_limit ≤ k → length xs ≤ k
  beyond k high = let many = kept.many in omega arith

-- ---- none is initialised

-- and so no event has a seat
no_seats : (xs : List Condition) → ((c : ℕ) → conditions_of xs c ≡ None) → all_event_seats xs ≡ 0
no_seats [] none = refl
no_seats (x ∷ xs) none =
    let here : event_seats_here x ≡ 0 = ap event_seats_here (none 0) in
    let rest = no_seats xs (λ c. none (suc c)) in
    sum_by-cons event_seats_here x xs ∙ omega arith

module _ (xs : List Condition) (long : length xs ≡ object_limit) (none : (k : ℕ) → k < object_limit → get_or xs k None ≡ None) where
  none_at : (c : ℕ) → conditions_of xs c ≡ None
  none_at c = elim (cases_lt c object_limit) [ inl low ↦ none c low | inr high ↦ get_or_past xs c None (omega arith) ]

  pub conditions_none : conditions_of xs ≡ no_conditions
  conditions_none = fun_ext none_at

  pub kept_none : ConditionsAreKept false 0 xs
  kept_none = record {
    many = long;
    order = λ c. subst IsInOrder (sym (none_at c)) tt;
    live = conditions_none;
    count = sym (no_seats xs none_at);
    few = λ c. subst HasFewEvents (sym (none_at c)) (omega arith);
  }

-- ---- all seats are left

-- one condition more
pub left_more : (xs ys : List Condition) (i : ℕ) (d y : Condition) → i < length xs → length ys ≡ length xs → ys ≡ map all_left (take i xs) ++ drop i xs → y ≡ all_left (get_or ys i d) → set ys i y ≡ map all_left (take (i + 1) xs) ++ drop (i + 1) xs
left_more xs ys i d y low long now is = ap (set ys i) is ∙ map_over_more all_left xs ys i (get_or ys i d) low now (get_or_default ys i d (get_or ys i d) (omega arith))

left_at : (xs : List Condition) (c : ℕ) → conditions_of (map all_left xs) c ≡ all_left (conditions_of xs c)
left_at xs c = elim (cases_lt c (length xs)) [
  | inl low ↦ get_or-map all_left xs c None None low
  | inr high ↦ get_or_past (map all_left xs) c None (rw length-map high) ∙ sym (ap all_left (get_or_past xs c None high))
]

pub left_end : (xs ys : List Condition) (i : ℕ) → length xs ≤ i → ys ≡ map all_left (take i xs) ++ drop i xs → conditions_of ys ≡ all_seats_left (conditions_of xs)
left_end xs ys i end now =
    let all : ys ≡ map all_left xs = now ∙ rw (take_all, drop_all) (append-nil (map all_left xs)) in
    ap conditions_of all ∙ fun_ext (left_at xs)
