-- Each turn is the one that its Dispatch begins.
use Rattle.std.proofs.Common.{◌≡◌, ◌∙◌, ℕ, zero, suc, ◌+◌, Bool, true, false, if◌then◌else◌, List, [], ◌∷◌, ◌++◌, length, slice_get, Option, Some, None, is_some, IfSome, refl, sym, ap, subst, add-zero, arith}
use Rattle.std.specs.List.{count_by, filter, list_any}
use Rattle.std.proofs.lemmas.Bool.{or_from}
use Rattle.std.proofs.lemmas.List.{append_assoc, length-append}
use Rattle.std.proofs.lemmas.List.Elements.{filter-append}
use Rattle.std.proofs.lemmas.List.Sums.{length-filter}
use Rattle.pth_base.specs.declared.mark.Mark.{Mark}
use Rattle.pth_drawing.specs.States.{Turn, dispatched, up_to_dispatch, turn_begun, turns_after, turns_of}
use Rattle.pth_drawing.specs.Turning.{is_dispatch, BeginsTurn, IsTurn}

-- ---- how many

counted : List Mark → ℕ
counted ms = length (filter is_dispatch ms)

count_first : (m : Mark) (ms : List Mark) → counted (m ∷ ms) ≡ (if is_dispatch m then suc (counted ms) else counted ms)
unfolding counted
count_first m ms = by (is_dispatch m)
  where
    by : (b : Bool) → length (if b then m ∷ filter is_dispatch ms else filter is_dispatch ms) ≡ (if b then suc (length (filter is_dispatch ms)) else length (filter is_dispatch ms))
    by true = refl
    by false = refl

count_more : (ms : List Mark) (m : Mark) → counted (ms ++ m ∷ []) ≡ counted ms + (if is_dispatch m then 1 else 0)
unfolding counted
count_more ms m = ap length (filter-append is_dispatch ms (m ∷ [])) ∙ length-append (filter is_dispatch ms) (filter is_dispatch (m ∷ [])) ∙ by (is_dispatch m)
  where
    by : (b : Bool) → length (filter is_dispatch ms) + length (if b then m ∷ [] else []) ≡ length (filter is_dispatch ms) + (if b then 1 else 0)
    by true = refl
    by false = refl

length_begun : (before : List Mark) (o : Option ℕ) (after : List Mark) (ts : List Turn) → length (turn_begun before o after ++ ts) ≡ (if is_some o then suc (length ts) else length ts)
length_begun before None after ts = refl
length_begun before (Some t) after ts = refl

count_all : (before ms : List Mark) → length (turns_after before ms) ≡ counted ms
unfolding turns_after counted
count_all before [] = refl
count_all before (m ∷ ms) =
    length_begun before (dispatched m) ms (turns_after (before ++ m ∷ []) ms)
    ∙ ap (λ (n : ℕ). if is_dispatch m then suc n else n) (count_all (before ++ m ∷ []) ms)
    ∙ sym (count_first m ms)

pub all_told : (marks : List Mark) → length (turns_of marks) ≡ count_by is_dispatch marks
unfolding counted
all_told marks = count_all [] marks ∙ length-filter is_dispatch marks

-- ---- the marks in a turn

after_turn : List Mark → List Mark
after_turn [] = []
after_turn (m ∷ ms) = if is_dispatch m then m ∷ ms else after_turn ms

split_turn : (ms : List Mark) → ms ≡ up_to_dispatch ms ++ after_turn ms
unfolding up_to_dispatch after_turn
split_turn [] = refl
split_turn (m ∷ ms) = by (is_dispatch m) (split_turn ms)
  where
    by : (b : Bool) → ms ≡ up_to_dispatch ms ++ after_turn ms → m ∷ ms ≡ (if b then [] else m ∷ up_to_dispatch ms) ++ (if b then m ∷ ms else after_turn ms)
    by true rest = refl
    by false rest = ap (λ (l : List Mark). m ∷ l) rest

none_in_turn : (ms : List Mark) → list_any is_dispatch (up_to_dispatch ms) ≡ false
unfolding up_to_dispatch
none_in_turn [] = refl
none_in_turn (m ∷ ms) = by (is_dispatch m) refl (none_in_turn ms)
  where
    by : (b : Bool) → is_dispatch m ≡ b → list_any is_dispatch (up_to_dispatch ms) ≡ false → list_any is_dispatch (if b then [] else m ∷ up_to_dispatch ms) ≡ false
    by true is rest = refl
    by false is rest = or_from (is_dispatch m) (list_any is_dispatch (up_to_dispatch ms)) is rest

begins_next : (ms : List Mark) → BeginsTurn (after_turn ms)
unfolding after_turn
begins_next [] = tt
begins_next (m ∷ ms) = by (is_dispatch m) refl (begins_next ms)
  where
    by : (b : Bool) → is_dispatch m ≡ b → BeginsTurn (after_turn ms) → BeginsTurn (if b then m ∷ ms else after_turn ms)
    by true is rest = is
    by false is rest = rest

-- ---- a turn

count_before : (ms : List Mark) → count_by is_dispatch ms ≡ counted ms + 0
unfolding counted
count_before ms = sym (length-filter is_dispatch ms) ∙ sym (add-zero (length (filter is_dispatch ms)))

told_after : (before ms : List Mark) (k : ℕ) (turn : Turn) → slice_get (turns_after before ms) k ≡ Some turn → IsTurn (before ++ ms) (counted before + k) turn
unfolding turns_after
told_after before [] k turn is = absurd (cc)
told_after before (m ∷ ms) k turn is = by (dispatched m) refl k is (λ n at. told_after (before ++ m ∷ []) ms n turn at)
  where
    -- from what is told of the marks after this one
    later : (i n : ℕ) → counted (before ++ m ∷ []) + n ≡ counted before + i → IsTurn ((before ++ m ∷ []) ++ ms) (counted (before ++ m ∷ []) + n) turn → IsTurn (before ++ m ∷ ms) (counted before + i) turn
    later i n same rest = subst (λ (l : List Mark). IsTurn l (counted before + i) turn) (append_assoc before (m ∷ []) ms) (subst (λ (j : ℕ). IsTurn ((before ++ m ∷ []) ++ ms) j turn) same rest)

    here : (t : ℕ) → dispatched m ≡ Some t → IsTurn (before ++ m ∷ ms) (counted before + 0) (record { before = before; thread = t; during = up_to_dispatch ms })
    here t is = record {
      dispatch = m;
      rest = after_turn ms;
      whole = ap (λ (l : List Mark). before ++ m ∷ l) (split_turn ms);
      others = count_before before;
      thread = is;
      alone = none_in_turn ms;
      next = begins_next ms;
    }

    by : (o : Option ℕ) → dispatched m ≡ o → (k : ℕ) → slice_get (turn_begun before o ms ++ turns_after (before ++ m ∷ []) ms) k ≡ Some turn
        → ((n : ℕ) → slice_get (turns_after (before ++ m ∷ []) ms) n ≡ Some turn → IsTurn ((before ++ m ∷ []) ++ ms) (counted (before ++ m ∷ []) + n) turn)
        → IsTurn (before ++ m ∷ ms) (counted before + k) turn
    by None o k at rest =
        let same : counted (before ++ m ∷ []) ≡ counted before + 0 = count_more before m ∙ ap (λ (x : Option ℕ). counted before + (if is_some x then 1 else 0)) o in
        later k k (omega arith) (rest k at)
    by (Some t) o zero at rest =
        let same : record { before = before; thread = t; during = up_to_dispatch ms } ≡ turn = cc in
        subst (λ (x : Turn). IsTurn (before ++ m ∷ ms) (counted before + 0) x) same (here t o)
    by (Some t) o (suc k) at rest =
        let same : counted (before ++ m ∷ []) ≡ counted before + 1 = count_more before m ∙ ap (λ (x : Option ℕ). counted before + (if is_some x then 1 else 0)) o in
        later (suc k) k (omega arith) (rest k at)

some_told : (marks : List Mark) (k : ℕ) (o : Option Turn) → slice_get (turns_of marks) k ≡ o → IfSome o (IsTurn marks k)
unfolding counted
some_told marks k None is = tt
some_told marks k (Some turn) is =
    let same : 0 + k ≡ k = omega arith in
    subst (λ (i : ℕ). IsTurn marks i turn) same (told_after [] marks k turn is)

pub each_told : (marks : List Mark) (k : ℕ) → IfSome (slice_get (turns_of marks) k) (IsTurn marks k)
each_told marks k = some_told marks k (slice_get (turns_of marks) k) refl
