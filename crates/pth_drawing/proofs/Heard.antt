-- What is drawn of a thread, after one mark more.
use Rattle.std.proofs.Common.{◌≡◌, ◌∙◌, ℕ, ◌+◌, ◌-◌, ◌<◌, ◌≤◌, ◌==◌, ◌||◌, not, Bool, true, false, if◌then◌else◌, List, [], ◌∷◌, ◌++◌, length, slice_get, Option, Some, None, ◌⊎◌, inl, inr, refl, sym, ap, arith}
use Rattle.std.specs.List.{list_any}
use Rattle.std.proofs.Math.Bool.{or-false}
use Rattle.std.proofs.lemmas.Bool.{le-ltb, lt-ltb, cases_lt}
use Rattle.std.proofs.lemmas.List.{length_push, map_push, length-map, append-nil}
use Rattle.std.proofs.lemmas.List.Folds.{list_any-append}
use Rattle.pth_base.specs.declared.mark.Mark.{Mark}
use Rattle.pth_laws.specs.Marks.{is_end_of, is_cancellation_of}
use Rattle.pth_drawing.specs.declared.chart.Shown.{Shown}
use Rattle.pth_drawing.specs.declared.chart.Shown.TheVariants as shown
use Rattle.pth_drawing.specs.declared.chart.Stretch.{Stretch}
use Rattle.pth_drawing.specs.declared.thread_event.Event.{Event}
use Rattle.pth_drawing.specs.declared.thread_event.Event.TheVariants as event
use Rattle.pth_drawing.specs.declared.thread_event.ThreadEvent.{ThreadEvent}
use Rattle.pth_drawing.specs.Drawing.{places, row_of, stretches_of, is_canceled_in, ends_in}
use Rattle.pth_drawing.specs.Follow.{Knows, HasLane}
use Rattle.pth_drawing.specs.States.{Turn, shown_in, shown_as, shown_after, has_ended, is_waiting, Running, Over, Absent, Waiting, Ready}
use Rattle.pth_transcript.specs.Threads.{is_there}
use Rattle.pth_drawing.specs.Tracks.{TrackSeen, thread_event_of, after, last_of, with_place, first_of, settled, shown_idle, up_to, with_columns, run}
use Rattle.pth_drawing.proofs.DrawnTurns.{length_heard}
use Rattle.pth_drawing.proofs.PlacesOf.{NotesIn, places_heard, first_heard, places_more}
use Rattle.pth_drawing.proofs.Standing.{heard_by, canceled_after, first_after}
use Rattle.pth_drawing.proofs.Turns.{heard}
use Rattle.pth_drawing.proofs.WithColumns.{stretches_more, stretches_none, columns_more}

-- ---- one mark more in the last turn

row_heard : (t : ℕ) (m : Mark) (columns : List Turn) → row_of t (heard m columns) ≡ row_of t columns
row_heard t m [] = refl
row_heard t m (x ∷ []) = refl
row_heard t m (x ∷ y ∷ ys) = ap (λ l. shown_in t x ∷ l) (row_heard t m (y ∷ ys))

-- no column comes from a column to itself
pub none_between : (o : Option Shown) (n : ℕ) (xs : List Stretch) → up_to o n n xs ≡ xs
none_between None n xs = refl
none_between (Some s) n xs = ap (λ b. if b then with_columns s n (n - n) xs else xs) (le-ltb n n (omega arith))

settled_after : (e : Event) (n : ℕ) (x : TrackSeen) → settled n (after e n x) ≡ settled n x
settled_after event.Spawned n x = none_between (shown_idle true x.has_ended x.is_waiting) n (settled n x)
settled_after event.Waits n x = none_between (shown_idle x.is_there x.has_ended true) n (settled n x)
settled_after event.Woke n x = none_between (shown_idle x.is_there x.has_ended false) n (settled n x)
settled_after event.Canceled n x = refl
settled_after event.Ended n x = none_between (shown_idle x.is_there true x.is_waiting) n (settled n x)

since_after : (e : Event) (n : ℕ) (x : TrackSeen) → x.since ≤ n → (after e n x).since ≤ n
since_after event.Spawned n x h = omega arith
since_after event.Waits n x h = omega arith
since_after event.Woke n x h = omega arith
since_after event.Canceled n x h = h
since_after event.Ended n x h = omega arith

settled_heard : (t n : ℕ) (o : Option ThreadEvent) (x : TrackSeen) → settled n (heard_by t n o x) ≡ settled n x
settled_heard t n None x = refl
settled_heard t n (Some thread_event) x = by (thread_event.thread == t)
  where
    by : (b : Bool) → settled n (if b then after thread_event.event n x else x) ≡ settled n x
    by true = settled_after thread_event.event n x
    by false = refl

since_heard : (t n : ℕ) (o : Option ThreadEvent) (x : TrackSeen) → x.since ≤ n → (heard_by t n o x).since ≤ n
since_heard t n None x h = h
since_heard t n (Some thread_event) x h = by (thread_event.thread == t)
  where
    by : (b : Bool) → (if b then after thread_event.event n x else x).since ≤ n
    by true = since_after thread_event.event n x h
    by false = h

notes : (test : Mark → Bool) (m : Mark) → NotesIn (λ c. list_any test c.during) m (test m)
notes test m c = list_any-append test c.during (m ∷ []) ∙ ap (λ (b : Bool). list_any test c.during || b) (or-false (test m))

pub drawn_heard : (t : ℕ) (m : Mark) (columns : List Turn) (x : TrackSeen) → HasLane t columns x → HasLane t (heard m columns) (heard_by t (length columns) (thread_event_of m) x)
drawn_heard t m columns x d = record {
  stretches = ap (λ (n : ℕ). settled n (heard_by t (length columns) (thread_event_of m) x)) (length_heard m columns) ∙ settled_heard t (length columns) (thread_event_of m) x ∙ d.stretches ∙ ap stretches_of (sym (row_heard t m columns));
  since = omega (arith, since_heard t (length columns) (thread_event_of m) x d.since, length_heard m columns);
  canceled = canceled_after t (length columns) x m ∙ ap (λ is. if is_cancellation_of t m then with_place (last_of (length columns)) is else is) d.canceled ∙ places_heard (is_canceled_in t) m (is_cancellation_of t m) (notes (is_cancellation_of t) m) columns;
  ended = first_after t (length columns) x m ∙ ap (λ o. if is_end_of t m then first_of o (last_of (length columns)) else o) d.ended ∙ first_heard (ends_in t) m (is_end_of t m) (notes (is_end_of t) m) columns;
}

-- ---- one column more

idle_shown : (there ended waiting : Bool)
    → shown_as (if ended then Over else (if not there then Absent else (if waiting then Waiting else Ready))) ≡ shown_idle there ended waiting
idle_shown true true true = refl
idle_shown true true false = refl
idle_shown true false true = refl
idle_shown true false false = refl
idle_shown false true true = refl
idle_shown false true false = refl
idle_shown false false true = refl
idle_shown false false false = refl

-- after marks a thread is drawn by how it stands
pub shown_of_known : (t : ℕ) (marks : List Mark) (x : TrackSeen) → Knows t marks x → shown_after t marks ≡ shown_idle x.is_there x.has_ended x.is_waiting
shown_of_known t marks x k =
    idle_shown (is_there t marks) (has_ended t marks) (is_waiting t marks)
    ∙ ap (λ b. shown_idle b (has_ended t marks) (is_waiting t marks)) (sym k.is_there)
    ∙ ap (λ b. shown_idle x.is_there b (is_waiting t marks)) (sym k.has_ended)
    ∙ ap (λ b. shown_idle x.is_there x.has_ended b) (sym k.is_waiting)

-- while a thread does not run it is drawn by how it stands
shown_of_idle : (t : ℕ) (marks during : List Mark) (thread : ℕ) (x : TrackSeen) → Knows t marks x → (thread == t) ≡ false
    → shown_in t (record { before = marks; thread = thread; during = during }) ≡ shown_idle x.is_there x.has_ended x.is_waiting
shown_of_idle t marks during thread x k other =
    ap (λ b. shown_as (if b then Running else (if has_ended t marks then Over else (if not (is_there t marks) then Absent else (if is_waiting t marks then Waiting else Ready))))) other
    ∙ shown_of_known t marks x k

shown_running : (t : ℕ) (marks during : List Mark) (thread : ℕ) → (thread == t) ≡ true → shown_in t (record { before = marks; thread = thread; during = during }) ≡ Some shown.Running
shown_running t marks during thread same =
    ap (λ b. shown_as (if b then Running else (if has_ended t marks then Over else (if not (is_there t marks) then Absent else (if is_waiting t marks then Waiting else Ready))))) same

pub settled_more : (o : Option Shown) (since n : ℕ) (xs : List Stretch) (row : List (Option Shown)) → since ≤ n → length row ≡ n → up_to o since n xs ≡ stretches_of row
    → up_to o since (n + 1) xs ≡ stretches_of (row ++ o ∷ [])
settled_more None since n xs row h len is = is ∙ sym (stretches_none 0 row)
settled_more (Some s) since n xs row h len is = more ∙ sym (stretches_more 0 n row s (omega arith))
  where
    now : up_to (Some s) since (n + 1) xs ≡ with_columns s since (n + 1 - since) xs
    now = ap (λ b. if b then with_columns s since (n + 1 - since) xs else xs) (lt-ltb since (n + 1) (omega arith))

    by : (since < n) ⊎ (n ≤ since) → with_columns s since (n + 1 - since) xs ≡ with_columns s n 1 (up_to (Some s) since n xs)
    by (inl below) =
        let more : n + 1 - since ≡ n - since + 1 = omega arith in
        let end : since + (n - since) ≡ n = omega arith in
        ap (λ (k : ℕ). with_columns s since k xs) more
        ∙ columns_more s since (n - since) xs
        ∙ ap (λ (k : ℕ). with_columns s k 1 (with_columns s since (n - since) xs)) end
        ∙ ap (λ b. with_columns s n 1 (if b then with_columns s since (n - since) xs else xs)) (sym (lt-ltb since n below))
    by (inr above) =
        let here : since ≡ n = omega arith in
        let one : n + 1 - since ≡ 1 = omega arith in
        ap (λ (k : ℕ). with_columns s since k xs) one
        ∙ ap (λ (k : ℕ). with_columns s k 1 xs) here
        ∙ ap (λ b. with_columns s n 1 (if b then with_columns s since (n - since) xs else xs)) (sym (le-ltb since n above))

    more : up_to (Some s) since (n + 1) xs ≡ with_columns s n 1 (stretches_of row)
    more = now ∙ by (cases_lt since n) ∙ ap (with_columns s n 1) is

module _ (t : ℕ) (columns : List Turn) (marks : List Mark) (thread : ℕ) (x : TrackSeen) (d : HasLane t columns x) (k : Knows t marks x) where
  abbrev turn : Turn
  turn = record { before = marks; thread = thread; during = [] }

  abbrev n : ℕ
  n = length columns

  abbrev wider : List Turn
  wider = columns ++ turn ∷ []

  row_more : (o : Option Shown) → shown_in t (turn) ≡ o → stretches_of (row_of t columns ++ o ∷ []) ≡ stretches_of (row_of t wider)
  row_more o is = ap (λ (o : Option Shown). stretches_of (row_of t columns ++ o ∷ [])) (sym is) ∙ ap stretches_of (sym (map_push (shown_in t) columns (turn)))

  length_row : length (row_of t columns) ≡ n
  length_row = length-map columns (shown_in t)

  canceled_same : places (is_canceled_in t) columns ≡ places (is_canceled_in t) wider
  canceled_same = sym (append-nil (places (is_canceled_in t) columns)) ∙ sym (places_more (is_canceled_in t) columns (turn))

  ended_same : places (ends_in t) columns ≡ places (ends_in t) wider
  ended_same = sym (append-nil (places (ends_in t) columns)) ∙ sym (places_more (ends_in t) columns (turn))

  runs : (thread == t) ≡ true → HasLane t wider (run n x)
  runs same = record {
    stretches =
        ap (λ (i : ℕ). settled i (run n x)) (length_push columns (turn))
        ∙ none_between (shown_idle x.is_there x.has_ended x.is_waiting) (n + 1) (with_columns shown.Running n 1 (settled n x))
        ∙ ap (with_columns shown.Running n 1) d.stretches
        ∙ sym (stretches_more 0 n (row_of t columns) shown.Running (omega (arith, length_row)))
        ∙ row_more (Some shown.Running) (shown_running t marks [] thread same);
    since = omega (arith, length_push columns (turn));
    canceled = d.canceled ∙ canceled_same;
    ended = d.ended ∙ ap (λ (l : List ℕ). slice_get l 0) ended_same;
  }

  idles : (thread == t) ≡ false → HasLane t wider x
  idles other = record {
    stretches =
        ap (λ (i : ℕ). settled i x) (length_push columns (turn))
        ∙ settled_more (shown_idle x.is_there x.has_ended x.is_waiting) x.since n x.stretches (row_of t columns) d.since length_row d.stretches
        ∙ row_more (shown_idle x.is_there x.has_ended x.is_waiting) (shown_of_idle t marks [] thread x k other);
    since = omega (arith, length_push columns (turn), d.since);
    canceled = d.canceled ∙ canceled_same;
    ended = d.ended ∙ ap (λ (l : List ℕ). slice_get l 0) ended_same;
  }

  -- a Dispatch of a thread in a column
  pub drawn_more : HasLane t wider (if thread == t then run n x else x)
  drawn_more = by (thread == t) refl
    where
      by : (b : Bool) → (thread == t) ≡ b → HasLane t wider (if b then run n x else x)
      by true is = runs is
      by false is = idles is
