-- A thread that is drawn was dispatched or answered to a spawn, or it is main.
use Rattle.std.proofs.Common.{◌≡◌, ◌∙◌, ℕ, zero, suc, ◌-◌, ◌<◌, ◌≤◌, ◌==◌, ◌||◌, not, pos, Bool, true, false, if◌then◌else◌, List, [], ◌∷◌, ◌++◌, take, drop, fold, Option, Some, None, is_some, refl, sym, ap, subst, arith}
use Rattle.std.specs.List.{list_any}
use Rattle.std.proofs.lemmas.Bool.{or_parts, or_from}
use Rattle.std.proofs.lemmas.List.{append_assoc}
use Rattle.std.proofs.lemmas.List.Folds.{list_any-append}
use Rattle.std.proofs.lemmas.List.Sums.{fold-append}
use Rattle.pth_base.proofs.Tables.{not_same}
use Rattle.pth_base.specs.declared.answer.Answer.TheVariants.{Int}
use Rattle.pth_base.specs.declared.call.Call.TheVariants as call
use Rattle.pth_base.specs.declared.mark.Mark.{Mark}
use Rattle.pth_base.specs.declared.mark.Mark.TheVariants as mark
use Rattle.pth_drawing.specs.declared.chart.Shown.{Shown}
use Rattle.pth_drawing.specs.Drawing.{columns_of, greatest_after, greatest_of, is_drawn, row_of}
use Rattle.pth_drawing.specs.States.{Turn, dispatched, turn_begun, turns_after, turns_of, shown_in, shown_as, shown_after, has_ended, is_waiting, up_to_dispatch, Running, Over, Absent, Waiting, Ready}
use Rattle.pth_transcript.specs.Threads.{is_spawn_of, is_there}

-- ---- the greatest number

rises_at : (n : ℕ) (m : Mark) → n ≤ greatest_after n m
rises_at n (mark.Dispatch turn at t rank waited allowed) = omega arith
rises_at n (mark.Answered u (call.Spawn b v a) (Int (pos t))) = omega arith
rises_at n m = omega arith

spawned_below : (t n : ℕ) (m : Mark) → greatest_after n m < t → is_spawn_of t m ≡ false
spawned_below t n (mark.Answered u (call.Spawn b v a) (Int (pos k))) low = not_same k t (λ e. absurd (omega arith))
spawned_below t n m low = refl

dispatched_below : (n u : ℕ) (m : Mark) → dispatched m ≡ Some u → u ≤ greatest_after n m
dispatched_below n u (mark.Dispatch turn at t rank waited allowed) is =
    let same : t.0 ≡ u = cc in
    omega arith
dispatched_below n u m is = absurd (cc)

rises : (n : ℕ) (ms : List Mark) → n ≤ fold greatest_after n ms
rises n [] = omega arith
rises n (m ∷ ms) = omega (arith, rises_at n m, rises (greatest_after n m) ms)

none_spawned : (t n : ℕ) (ms : List Mark) → fold greatest_after n ms < t → list_any (is_spawn_of t) ms ≡ false
none_spawned t n [] low = refl
none_spawned t n (m ∷ ms) low =
    or_from (is_spawn_of t m) (list_any (is_spawn_of t) ms) (spawned_below t n m (omega (arith, rises (greatest_after n m) ms))) (none_spawned t (greatest_after n m) ms low)

-- ---- a turn

absent : (ended waiting : Bool) → is_some (shown_as (if ended then Over else (if not false then Absent else (if waiting then Waiting else Ready)))) ≡ false
absent true waiting = refl
absent false waiting = refl

not_there : (t : ℕ) (marks : List Mark) → greatest_of marks < t → is_there t marks ≡ false
not_there t marks low = or_from (1 == t) (list_any (is_spawn_of t) marks) (not_same 1 t (λ e. absurd (omega (arith, rises 1 marks)))) (none_spawned t 1 marks low)

not_shown : (t u : ℕ) (before during : List Mark) → (u == t) ≡ false → is_there t before ≡ false → is_some (shown_in t (record { before = before; thread = u; during = during })) ≡ false
not_shown t u before during other away =
    ap (λ b. is_some (shown_as (if b then Running else (if has_ended t before then Over else (if not (is_there t before) then Absent else (if is_waiting t before then Waiting else Ready)))))) other
    ∙ ap (λ b. is_some (shown_as (if has_ended t before then Over else (if not b then Absent else (if is_waiting t before then Waiting else Ready))))) away
    ∙ absent (has_ended t before) (is_waiting t before)

begun_unseen : (t : ℕ) (before after : List Mark) (o : Option ℕ) → ((u : ℕ) → o ≡ Some u → (u == t) ≡ false) → is_there t before ≡ false → list_any (λ c. is_some (shown_in t c)) (turn_begun before o after) ≡ false
begun_unseen t before after None other away = refl
begun_unseen t before after (Some u) other away = or_from (is_some (shown_in t (record { before = before; thread = u; during = up_to_dispatch after }))) false (not_shown t u before (up_to_dispatch after) (other u refl) away) refl

turns_unseen : (t : ℕ) (before ms : List Mark) → greatest_of (before ++ ms) < t → list_any (λ c. is_some (shown_in t c)) (turns_after before ms) ≡ false
unfolding turns_after
turns_unseen t before [] low = refl
turns_unseen t before (m ∷ ms) low =
    let whole : greatest_of (before ++ m ∷ ms) ≡ fold greatest_after (greatest_after (greatest_of before) m) ms = fold-append greatest_after 1 before (m ∷ ms) in
    let step = rises_at (greatest_of before) m in
    let later = rises (greatest_after (greatest_of before) m) ms in
    list_any-append (λ c. is_some (shown_in t c)) (turn_begun before (dispatched m) ms) (turns_after (before ++ m ∷ []) ms)
    ∙ or_from (list_any (λ c. is_some (shown_in t c)) (turn_begun before (dispatched m) ms)) (list_any (λ c. is_some (shown_in t c)) (turns_after (before ++ m ∷ []) ms))
    (begun_unseen t before ms (dispatched m) (λ u is. not_same u t (λ e. absurd (omega (arith, dispatched_below (greatest_of before) u m is)))) (not_there t before (omega arith)))
    (turns_unseen t (before ++ m ∷ []) ms (subst (λ (l : List Mark). greatest_of l < t) (sym (append_assoc before (m ∷ []) ms)) low))

-- ---- columns

none_taken : {A : Type 0} (test : A → Bool) (n : ℕ) (xs : List A) → list_any test xs ≡ false → list_any test (take n xs) ≡ false
none_taken test zero xs none = refl
none_taken test (suc n) [] none = refl
none_taken test (suc n) (x ∷ xs) none =
    let parts = or_parts (test x) (list_any test xs) none in
    or_from (test x) (list_any test (take n xs)) parts.0 (none_taken test n xs parts.1)

none_dropped : {A : Type 0} (test : A → Bool) (n : ℕ) (xs : List A) → list_any test xs ≡ false → list_any test (drop n xs) ≡ false
none_dropped test zero xs none = none
none_dropped test (suc n) [] none = refl
none_dropped test (suc n) (x ∷ xs) none = none_dropped test n xs (or_parts (test x) (list_any test xs) none).1

columns_unseen : (from turns : ℕ) (marks : List Mark) (t : ℕ) → greatest_of marks < t → list_any (λ c. is_some (shown_in t c)) (columns_of from turns marks) ≡ false
columns_unseen from turns marks t low =
    none_taken (λ c. is_some (shown_in t c)) turns (drop (from - 1) (turns_of marks))
    (none_dropped (λ c. is_some (shown_in t c)) (from - 1) (turns_of marks) (turns_unseen t [] marks low))

any_of_row : (t : ℕ) (columns : List Turn) → list_any is_some (row_of t columns) ≡ list_any (λ c. is_some (shown_in t c)) columns
any_of_row t [] = refl
any_of_row t (c ∷ cs) = ap (λ b. is_some (shown_in t c) || b) (any_of_row t cs)

-- ---- the end

unseen_after : (t : ℕ) (marks : List Mark) → greatest_of marks < t → is_some (shown_after t marks) ≡ false
unseen_after t marks low =
    ap (λ b. is_some (shown_as (if has_ended t marks then Over else (if not b then Absent else (if is_waiting t marks then Waiting else Ready))))) (not_there t marks low)
    ∙ absent (has_ended t marks) (is_waiting t marks)

end_unseen : (cut : Bool) (t : ℕ) (marks : List Mark) → greatest_of marks < t → list_any is_some (if cut then [] else shown_after t marks ∷ []) ≡ false
end_unseen true t marks low = refl
end_unseen false t marks low = or_from (is_some (shown_after t marks)) false (unseen_after t marks low) refl

pub undrawn_above : (cut : Bool) (from turns : ℕ) (marks : List Mark) (t : ℕ) → greatest_of marks < t → is_drawn cut marks (columns_of from turns marks) t ≡ false
undrawn_above cut from turns marks t low =
    let columns = columns_of from turns marks in
    let end : List (Option Shown) = if cut then [] else shown_after t marks ∷ [] in
    list_any-append is_some (row_of t columns) end
    ∙ or_from (list_any is_some (row_of t columns)) (list_any is_some end) (any_of_row t columns ∙ columns_unseen from turns marks t low) (end_unseen cut t marks low)
