-- The barriers before and after a call.
use Rattle.std.proofs.Common.{◌≡◌, ◌≢◌, ℕ, ℤ, pos, negsuc, ◌≤ℤ◌, ◌+◌, ◌<◌, ◌≤◌, false, List, [], ◌∷◌, ◌++◌, length, get_or, set, Option, Some, None, option_map, refl, sym, ◌∙◌, ap, subst, arith, inl, inr, length-append}
use Rattle.std.proofs.lemmas.Int.{ints}
use lib.IntN.{nat_abs}
use Rattle.std.proofs.lemmas.List.{get_or_past, get_or_default, length-map, length-set, map_push}
use Rattle.std.proofs.lemmas.Bool.{cases_lt, cases_eq}
use Rattle.std.proofs.lemmas.Bool.Decides.{nat_tests}
use Rattle.std.proofs.lemmas.Option.{same_Some}
use mathlib.Core.Path.{fun_ext}
use Rattle.pth_base.specs.Table.{put}
use Rattle.pth_base.proofs.Tables.{put_here, put_other}
use Rattle.pth_base.proofs.Lists.{table_set, put_none}
use Rattle.pth_lock.specs.Objects.{object_limit, object_named}
use Rattle.pth_cond.specs.Barriers.{Arrived, Barrier, BarrierTable, arrival_limit, arrived_in, without_thread, late_behind, barriers_of, no_barriers, size_given, with_barrier, barrier_initialised, all_withdrawn, BarrierIsSound}
use Rattle.pth_base.specs.declared.ids.Tid.{Tid}
use Rattle.pth_cond.specs.Kept.{arrival_of, arrivals_of, BarrierIsKept, BarriersAreKept}
use Rattle.pth_cond.specs.declared.barriers.arrivals.Waiter.{Waiter}
use Rattle.pth_cond.proofs.Arrivals.{arrived_in-push, arrived_in-without, arrived_in-late_behind, length-without, length-late_behind}

-- ---- one barrier

-- other arrivals wait, and for no round more than before
pub kept_fewer : (n m room space : ℕ) (b : Barrier) (xs : List Arrived) → BarrierIsKept n room b → ((r : ℕ) → arrived_in r xs ≤ arrived_in r b.arrivals) → length xs ≤ length b.arrivals → m ≡ arrived_in b.round xs → room ≤ space → BarrierIsKept m space (record b { arrivals = xs })
kept_fewer n m room space b xs kept fewer shorter counted more =
    let was = kept.sound.waiting in
    let count = fewer b.round in
    record {
      sound = record { some = kept.sound.some; many = kept.sound.many; first = kept.sound.first; waiting = omega (arith, was, count); few = let few = kept.sound.few in omega (arith, few, shorter) };
      count = counted;
      later = λ r after. let none = kept.later r after in let few = fewer r in omega (arith, none, few);
      space = let had = kept.space in omega (arith, had);
    }

-- one more waits
module _ (n room : ℕ) (b : Barrier) (kept : BarrierIsKept n room b) (t : ℕ) where
  abbrev newcomer : Arrived
  newcomer = record { tid = t; round = b.round; late = false }

  pub kept_more : n + 1 ≢ b.size → length b.arrivals < arrival_limit → BarrierIsKept (n + 1) room (record b { arrivals = b.arrivals ++ newcomer ∷ [] })
  kept_more lacking fits = record {
    sound = record { some = kept.sound.some; many = kept.sound.many; first = kept.sound.first; waiting = let was = kept.sound.waiting in let count = kept.count in omega (arith, was, count, here); few = omega (arith, length-append b.arrivals (newcomer ∷ []), fits) };
    count = let count = kept.count in omega (arith, count, here);
    later = λ r after. let none = kept.later r after in omega (arith, none, apart r after);
    space = kept.space;
  }
    where
      here : arrived_in b.round (b.arrivals ++ newcomer ∷ []) ≡ arrived_in b.round b.arrivals + 1
      here = grind (arith, nat_tests, arrived_in-push b.round newcomer b.arrivals)

      apart : (r : ℕ) → b.round < r → arrived_in r (b.arrivals ++ newcomer ∷ []) ≡ arrived_in r b.arrivals
      apart r after = grind (arith, nat_tests, arrived_in-push r newcomer b.arrivals)

-- the same of the arrivals as they are kept
pub kept_pushed : (n room space size round : ℕ) (es fs : List Waiter) (t : Tid) → BarrierIsKept n room (record { size = size; round = round; arrivals = arrivals_of es }) → n + 1 ≢ size → length es < arrival_limit → fs ≡ es ++ (record { tid = t; round = round; late = false }) ∷ [] → space ≡ room → BarrierIsKept (n + 1) space (record { size = size; round = round; arrivals = arrivals_of fs })
kept_pushed n room space size round es fs t kept lacking fits pushed same =
    rw (pushed, same) (rw map_push (kept_more n room (record { size = size; round = round; arrivals = arrivals_of es }) kept t.0 lacking (omega (arith, length-map es arrival_of, fits))))

-- the arrivals of a thread are gone
pub kept_forgotten : (n m room space size round : ℕ) (es fs : List Waiter) (t : ℕ) → BarrierIsKept n room (record { size = size; round = round; arrivals = arrivals_of es }) → arrivals_of fs ≡ without_thread t (arrivals_of es) → m ≡ arrived_in round (arrivals_of fs) → space ≡ room → BarrierIsKept m space (record { size = size; round = round; arrivals = arrivals_of fs })
kept_forgotten n m room space size round es fs t kept gone counted same =
    kept_fewer n m room space (record { size = size; round = round; arrivals = arrivals_of es }) (arrivals_of fs) kept
    (λ r. let few = arrived_in-without r t (arrivals_of es) in rw gone few) (rw gone (length-without t (arrivals_of es))) counted (omega arith)

-- some are late
pub kept_marked : (n room size round q : ℕ) (es fs : List Waiter) (t : ℕ) → BarrierIsKept n room (record { size = size; round = round; arrivals = arrivals_of es }) → arrivals_of fs ≡ late_behind t q (arrivals_of es) → BarrierIsKept n room (record { size = size; round = round; arrivals = arrivals_of fs })
kept_marked n room size round q es fs t kept late =
    kept_fewer n n room room (record { size = size; round = round; arrivals = arrivals_of es }) (arrivals_of fs) kept
    (λ r. omega (arith, same r)) (rw late (omega (arith, length-late_behind q t (arrivals_of es)))) (kept.count ∙ sym (same round)) (omega arith)
  where
    same : (r : ℕ) → arrived_in r (arrivals_of fs) ≡ arrived_in r (arrivals_of es)
    same r = ap (arrived_in r) late ∙ arrived_in-late_behind r q t (arrivals_of es)

-- a size that is some threads
pub size_is : (n : ℤ) → pos 1 ≤ℤ n → nat_abs n ≡ size_given n
size_is (pos n) some = refl
size_is (negsuc n) some = absurd (omega (arith, ints))

-- ---- the list

abbrev pub BarrierList : Type 0
BarrierList = List (Option Barrier)

-- no barrier of a list is initialised
pub none_is : (xs : BarrierList) → length xs ≡ object_limit → ((b : ℕ) → b < object_limit → get_or xs b None ≡ None) → barriers_of xs ≡ no_barriers
none_is xs long each = fun_ext (λ b. elim (cases_lt b object_limit) [ inl low ↦ each b low | inr high ↦ get_or_past xs b None (omega arith) ])

pub kept_none : (xs : BarrierList) → length xs ≡ object_limit → barriers_of xs ≡ no_barriers → BarriersAreKept xs
kept_none xs long none = record {
  many = long;
  sound = record {
    past = λ b high. ap (λ (f : BarrierTable). f b) none;
    each = λ b y is. let no : barriers_of xs b ≡ None = ap (λ (f : BarrierTable). f b) none in absurd (cc);
  };
}

module _ (xs : BarrierList) (kept : BarriersAreKept xs) (k : ℕ) (low : k < object_limit) where
  pub within : k < length xs
  within = let many = kept.many in omega (arith, many)

  -- one of them is another
  barriers_set : (x : Option Barrier) → barriers_of (set xs k x) ≡ put (barriers_of xs) k x
  barriers_set x = table_set xs k x None within

  -- what holds at every moment holds after it
  kept_put : (z : Option Barrier) → ((y : Barrier) → z ≡ Some y → BarrierIsSound y) → BarriersAreKept (set xs k z)
  kept_put z sound = record {
    many = length-set xs k z ∙ kept.many;
    sound = record {
      past = λ b high. let apart : b ≢ k = omega (arith, low, high) in ap (λ (f : BarrierTable). f b) (barriers_set z) ∙ put_other (barriers_of xs) k z b apart ∙ kept.sound.past b high;
      each = λ b y some. elim (cases_eq b k) [
        | inl same ↦ sound y (sym (ap (λ (f : BarrierTable). f k) (barriers_set z) ∙ put_here (barriers_of xs) k z) ∙ ap (barriers_of (set xs k z)) (sym same) ∙ some)
        | inr apart ↦ kept.sound.each b y (sym (ap (λ (f : BarrierTable). f b) (barriers_set z) ∙ put_other (barriers_of xs) k z b apart) ∙ some)
      ];
    };
  }

  pub kept_sound : (z : Barrier) → BarrierIsSound z → BarriersAreKept (set xs k (Some z))
  kept_sound z sound = kept_put (Some z) (λ y is. subst BarrierIsSound (same_Some z y is) sound)

  pub kept_back : (z : Option Barrier) → z ≡ None → BarriersAreKept (set xs k z)
  kept_back z none = kept_put z (λ y some. absurd (cc))

  -- an operand names it
  module _ (b : ℤ) (named : k ≡ object_named b) (d : Option Barrier) where
    read : barriers_of xs k ≡ get_or xs k d
    read = get_or_default xs k None d within

    pub barriers_initialised : (n : ℤ) (z : Barrier) → z ≡ record { size = size_given n; round = 1; arrivals = [] } → barriers_of (set xs k (Some z)) ≡ barrier_initialised b n (barriers_of xs)
    barriers_initialised n z is = barriers_set (Some z) ∙ ap (put (barriers_of xs) k) (ap Some is) ∙ ap (λ (i : ℕ). put (barriers_of xs) i (Some (record { size = size_given n; round = 1; arrivals = [] }))) named

    -- one is made of the one that stood there
    put_changed : (z : Option Barrier) (change : Barrier → Barrier) → z ≡ option_map change (barriers_of xs k) → barriers_of (set xs k z) ≡ with_barrier b change (barriers_of xs)
    put_changed z change is = barriers_set z ∙ ap (put (barriers_of xs) k) is ∙ ap (λ (i : ℕ). put (barriers_of xs) i (option_map change (barriers_of xs i))) named

    pub barriers_changed : (y z : Barrier) (change : Barrier → Barrier) → get_or xs k d ≡ Some y → z ≡ change y → barriers_of (set xs k (Some z)) ≡ with_barrier b change (barriers_of xs)
    barriers_changed y z change was is = put_changed (Some z) change (ap Some is ∙ ap (option_map change) (sym was ∙ sym read))

    -- there is none
    pub none_changed : (change : Barrier → Barrier) → get_or xs k d ≡ None → barriers_of (set xs k (get_or xs k d)) ≡ with_barrier b change (barriers_of xs)
    none_changed change was = put_changed (get_or xs k d) change (was ∙ ap (option_map change) (sym was ∙ sym read))

-- no barrier has the number
pub past_changed : (xs : BarrierList) → BarriersAreKept xs → (b : ℤ) (change : Barrier → Barrier) → object_limit ≤ object_named b → barriers_of xs ≡ with_barrier b change (barriers_of xs)
past_changed xs kept b change high =
    let none = kept.sound.past (object_named b) high in
    sym (put_none (barriers_of xs) (object_named b) (option_map change (barriers_of xs (object_named b))) (none ∙ ap (option_map change) (sym none)))

-- ---- no arrival waits anywhere

-- a barrier where nobody waits
abbrev emptied : Barrier → Barrier
emptied y = record y { arrivals = [] }

emptied_sound : (y : Barrier) → BarrierIsSound y → BarrierIsSound (emptied y)
emptied_sound y sound = record { some = sound.some; many = sound.many; first = sound.first; waiting = sound.some; few = omega arith }

-- nobody waits at the barriers below one, and the others are as they were
pub record IsEmptiedBelow (old new : BarrierList) (end : ℕ) : Type 0 where
  pub below : (b : ℕ) → b < end → barriers_of new b ≡ all_withdrawn (barriers_of old) b
  pub later : (b : ℕ) → end ≤ b → barriers_of new b ≡ barriers_of old b

pub kept_emptied : (xs ys : BarrierList) → BarriersAreKept xs → length ys ≡ object_limit → barriers_of ys ≡ all_withdrawn (barriers_of xs) → BarriersAreKept ys
kept_emptied xs ys kept long is = record {
  many = long;
  sound = record {
    past = λ b high. at b ∙ ap (option_map emptied) (kept.sound.past b high);
    each = λ b y some. one b (barriers_of xs b) y refl (sym (at b) ∙ some);
  };
}
  where
    at : (b : ℕ) → barriers_of ys b ≡ option_map emptied (barriers_of xs b)
    at b = ap (λ (f : BarrierTable). f b) is

    one : (b : ℕ) (x : Option Barrier) (y : Barrier) → barriers_of xs b ≡ x → option_map emptied x ≡ Some y → BarrierIsSound y
    one b (Some x) y was some = subst BarrierIsSound (same_Some (emptied x) y some) (emptied_sound x (kept.sound.each b x was))
    one b None y was some = absurd (cc)
