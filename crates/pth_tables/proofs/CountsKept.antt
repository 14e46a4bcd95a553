-- What is kept for the waits stays that of the trail, where threads enter and leave.
use Rattle.std.proofs.Common.{◌≡◌, ℕ, ◌+◌, ◌%◌, ◌<◌, ◌≤◌, ◌==◌, Bool, true, false, not, ◌&&◌, cond, List, [], ◌∷◌, length, drop, All, Contains, Option, Some, refl, sym, ap, ◌∙◌, subst, arith}
use Rattle.std.proofs.lemmas.List.Elements.{All-nil, All-cons, All-weaker, All-filter, All-contains}
use Rattle.std.proofs.lemmas.List.Kept.{AllPairs-cons, AllPairs-filter}
use Rattle.pth_base.proofs.Tables.{same_means, same_fails, put_here, put_other}
use Rattle.pth_model.specs.Standing.{Standing, left_by}
use Rattle.pth_model.specs.Allowance.{Point, has_entry, points, standing_of, grace, beyond, new_at_top}
use Rattle.pth_model.specs.Order.{IsNumbered, stands}
use Rattle.pth_model.proofs.Sorted.{pairs-nil}
use Rattle.pth_tables.specs.declared.waits.Wait.{Wait}
use Rattle.pth_tables.specs.Waits.{WaitsOf, words, no_waits, one_more, enters_ready, leaves_ready, is_pending}
use Rattle.pth_tables.specs.Counts.{AreSameWord, last_ready, IsCounted, Counts}
use Rattle.pth_tables.proofs.TrailsCounted.{count-cons, count-yes, count-no, none-counted, found-is, found-standing, count-left, All-from_contained}
use Rattle.pth_tables.proofs.TrailsBeyond.{length-points, no-points, waited-le, last-none}
use Rattle.pth_tables.proofs.CountsWords.{more-same, less-same}

pub counts_start : (slot : ℕ → Option ℕ) (top : ℕ) → Counts slot (no_waits top) [] [] 0
counts_start slot top = record {
  numbered = record { counted = All-nil (λ z. z.entry < 0); falling = pairs-nil (λ z y. y.entry < z.entry) };
  once = λ t. omega arith;
  past = λ e le. All-nil (λ p. has_entry e p.ready ≡ false);
  dispatches = refl;
  pending = refl;
  counted = All-nil (IsCounted slot (no_waits top) []);
  few = All-nil _;
}

-- ---- those that are listed

pub numbered_later : (entries : ℕ) (all : List Standing) → IsNumbered entries all → IsNumbered (entries + 1) all
numbered_later entries all n = record {
  counted = All-weaker (λ z. z.entry < entries) (λ z. z.entry < entries + 1) (λ z h. omega (arith, h)) all n.counted;
  falling = n.falling;
}

pub numbered_left : (entries t : ℕ) (all : List Standing) → IsNumbered entries all → IsNumbered entries (left_by t all)
numbered_left entries t all n = record {
  counted = All-filter (λ z. not (z.tid == t)) (λ z. z.entry < entries) all n.counted;
  falling = AllPairs-filter (λ z y. y.entry < z.entry) (λ z. not (z.tid == t)) all n.falling;
}

-- one leaves that stood there once
pub once_left : (t : ℕ) (s : Standing) (all : List Standing) → standing_of t all ≡ Some s → ((z : ℕ) → stands z all ≤ 1) → (z : ℕ) → stands z (left_by t all) ≤ 1
once_left t s all found once z = omega (arith, count-left (λ x. x.tid == z) t s all found (once t), once z)

module _ (slot : ℕ → Option ℕ) (x : WaitsOf) (trail : List Point) (ready : List Standing) (entries : ℕ) (c : Counts slot x trail ready entries) where
  -- where its wait is the same
  still_counted : (other : ℕ → Option ℕ) (pending : ℕ) (waits : ℕ → Wait) (s : Standing) (k : IsCounted slot x trail s) → other s.tid ≡ Some k.at → waits k.at ≡ x.waits k.at → IsCounted other (record x { pending = pending; waits = waits }) trail s
  still_counted other pending waits s k has same = record {
    at = k.at;
    has_slot = has;
    since = ap (λ (w : Wait). length (points s.entry trail) + w.entered) same ∙ k.since;
    others = k.others;
    lasts = k.lasts;
    first = ap (λ (w : Wait). w.grace) same ∙ k.first;
    favoured = ap (λ (w : Wait). w.top) same ∙ k.favoured;
    later = λ far. subst (λ (w : Wait). AreSameWord (w.number + (x.named + x.tops)) (beyond s (drop (grace x.top s.rank) (points s.entry trail)))) (sym same) (k.later far);
  }

  counted_at : (s : Standing) → Contains ready s → IsCounted slot x trail s
  counted_at s h = All-contains (IsCounted slot x trail) ready s c.counted h

  -- an entry into another queue
  pub counts_later : Counts slot x trail ready (entries + 1)
  counts_later = record {
    numbered = numbered_later entries ready c.numbered;
    once = c.once;
    past = λ e le. c.past e (omega arith);
    dispatches = c.dispatches;
    pending = c.pending;
    counted = c.counted;
    few = c.few;
  }

  -- the same slots of those that are ready
  pub counts_slots : (other : ℕ → Option ℕ) → ((z : Standing) → Contains ready z → other z.tid ≡ slot z.tid) → Counts other x trail ready entries
  counts_slots other agree = record {
    numbered = c.numbered;
    once = c.once;
    past = c.past;
    dispatches = c.dispatches;
    pending = c.pending;
    counted = All-from_contained (IsCounted other x trail) ready (λ z h. let k = counted_at z h in still_counted other x.pending x.waits z k (agree z h ∙ k.has_slot) refl);
    few = c.few;
  }

  -- nobody is ready
  pub counts_none : (y : WaitsOf) → y.dispatches ≡ x.dispatches → y.pending ≡ 0 → Counts slot y trail [] entries
  counts_none y same none = record {
    numbered = record { counted = All-nil (λ z. z.entry < entries); falling = pairs-nil (λ z y. y.entry < z.entry) };
    once = λ t. omega arith;
    past = c.past;
    dispatches = same ∙ c.dispatches;
    pending = ap (λ n. n % words) none;
    counted = All-nil (IsCounted slot y trail);
    few = c.few;
  }

  -- ---- a thread enters

  module _ (s : Standing) (u : ℕ) (own : slot s.tid ≡ Some u) (nowhere : stands s.tid ready ≡ 0) (others : (z : Standing) → Contains ready z → slot z.tid ≡ Some u → ⊥) (now : s.entry ≡ entries) where
    unseen : All (λ p. has_entry s.entry p.ready ≡ false) trail
    unseen = c.past s.entry (omega (arith, now))

    none : length (points s.entry trail) ≡ 0
    none = no-points s.entry trail unseen

    abbrev here : Wait
    here = record { entered = x.dispatches; grace = grace x.top s.rank; number = 0; top = s.top }

    counted_new : IsCounted slot (enters_ready u s.rank s.top x) trail s
    unfolding enters_ready
    counted_new =
        let is = put_here x.waits u here in
        record {
          at = u;
          has_slot = own;
          since = (let e = ap (λ (w : Wait). w.entered) is in omega (arith, none, e));
          others = omega (arith, none, waited-le s trail);
          lasts = λ some. absurd (omega (arith, none, some));
          first = ap (λ (w : Wait). w.grace) is;
          favoured = ap (λ (w : Wait). w.top) is;
          later = λ far. absurd (omega (arith, none, far));
        }

    counted_old : (z : Standing) → Contains ready z → IsCounted slot (enters_ready u s.rank s.top x) trail z
    unfolding enters_ready
    counted_old z h =
        let k = counted_at z h in
        still_counted slot (one_more s.top x.pending) _ z k k.has_slot (put_other x.waits u here k.at (λ same. others z h (k.has_slot ∙ ap Some same)))

    one_newcomer : new_at_top (last_ready trail) (s ∷ ready) ≡ cond s.top 1 0 + new_at_top (last_ready trail) ready
    one_newcomer = count-cons (λ z. z.top && not (has_entry z.entry (last_ready trail))) s ready ∙ rw (last-none s.entry trail unseen) (by s.top)
      where
        by : (b : Bool) → cond (b && true) 1 0 + new_at_top (last_ready trail) ready ≡ cond b 1 0 + new_at_top (last_ready trail) ready
        by true = refl
        by false = refl

    once_by : (t : ℕ) (b : Bool) → (s.tid == t) ≡ b → stands t (s ∷ ready) ≤ 1
    once_by t true test = (let same : stands t ready ≡ 0 = ap (λ n. stands n ready) (sym (same_means s.tid t test)) ∙ nowhere in omega (arith, same, count-yes (λ z. z.tid == t) s ready test))
    once_by t false test = omega (arith, c.once t, count-no (λ z. z.tid == t) s ready test)

    pub counts_entered : Counts slot (enters_ready u s.rank s.top x) trail (s ∷ ready) (entries + 1)
    unfolding enters_ready
    counts_entered = record {
      numbered = record {
        counted = All-cons (λ z. z.entry < entries + 1) s ready (omega (arith, now)) (numbered_later entries ready c.numbered).counted;
        falling = AllPairs-cons (λ z y. y.entry < z.entry) s ready (All-weaker (λ z. z.entry < entries) (λ z. z.entry < s.entry) (λ z h. omega (arith, h, now)) ready c.numbered.counted) c.numbered.falling;
      };
      once = λ t. once_by t (s.tid == t) refl;
      past = λ e le. c.past e (omega arith);
      dispatches = c.dispatches;
      pending = more-same s.top x.pending (new_at_top (last_ready trail) ready) c.pending ∙ ap (λ n. n % words) (sym one_newcomer);
      counted = All-cons (IsCounted slot (enters_ready u s.rank s.top x) trail) s ready counted_new (All-from_contained (IsCounted slot (enters_ready u s.rank s.top x) trail) ready counted_old);
      few = c.few;
    }

  -- ---- a thread leaves, and is not dispatched

  module _ (t u : ℕ) (own : slot t ≡ Some u) (s : Standing) (found : standing_of t ready ≡ Some s) where
    k : IsCounted slot x trail s
    k = counted_at s (found-is t ready s found).1

    same_slot : k.at ≡ u
    same_slot = let e : slot s.tid ≡ Some u = ap slot (found-is t ready s found).0 ∙ own in let f = k.has_slot in cc

    -- it entered since the last dispatch exactly if it did not stand there
    entered_now : (b : Bool) → ((x.waits k.at).entered == x.dispatches) ≡ b → has_entry s.entry (last_ready trail) ≡ not b
    entered_now true test =
        let same : (x.waits k.at).entered ≡ x.dispatches = same_means (x.waits k.at).entered x.dispatches test in
        let since = k.since in
        last-none s.entry trail (none-counted (λ p. has_entry s.entry p.ready) trail (sym (length-points s.entry trail) ∙ omega arith))
    entered_now false test =
        let other = same_fails (x.waits k.at).entered x.dispatches test in
        let since = k.since in
        k.lasts (omega arith)

    pending_is : is_pending u x ≡ (s.top && not (has_entry s.entry (last_ready trail)))
    pending_is =
        ap (λ n. is_pending n x) (sym same_slot)
        ∙ ap (λ b. b && ((x.waits k.at).entered == x.dispatches)) k.favoured
        ∙ ap (λ b. s.top && b) (sym (ap not (entered_now ((x.waits k.at).entered == x.dispatches) refl) ∙ not_not ((x.waits k.at).entered == x.dispatches)))
      where
        not_not : (b : Bool) → not (not b) ≡ b
        not_not true = refl
        not_not false = refl

    one_left : new_at_top (last_ready trail) ready ≡ cond (is_pending u x) 1 0 + new_at_top (last_ready trail) (left_by t ready)
    one_left = count-left (λ z. z.top && not (has_entry z.entry (last_ready trail))) t s ready found (c.once t) ∙ ap (λ b. cond b 1 0 + new_at_top (last_ready trail) (left_by t ready)) (sym pending_is)

    left_found : Counts slot (leaves_ready u x) trail (left_by t ready) entries
    unfolding leaves_ready
    left_found = record {
      numbered = numbered_left entries t ready c.numbered;
      once = once_left t s ready found c.once;
      past = c.past;
      dispatches = c.dispatches;
      pending = less-same (is_pending u x) x.pending (new_at_top (last_ready trail) (left_by t ready)) (c.pending ∙ ap (λ n. n % words) one_left);
      counted = All-filter (λ z. not (z.tid == t)) (IsCounted slot (leaves_ready u x) trail) ready
          (All-weaker (IsCounted slot x trail) (IsCounted slot (leaves_ready u x) trail) (λ z k. still_counted slot _ x.waits z k k.has_slot refl) ready c.counted);
      few = c.few;
    }

  pub counts_left : (t u : ℕ) → slot t ≡ Some u → 1 ≤ stands t ready → Counts slot (leaves_ready u x) trail (left_by t ready) entries
  counts_left t u own some = let f = found-standing t ready some in left_found t u own f.0 f.1
