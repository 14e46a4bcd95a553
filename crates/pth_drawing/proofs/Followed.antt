-- A drawing that has what marks tell has what they tell with one mark more.
use Rattle.std.proofs.Common.{◌≡◌, ◌∙◌, ℕ, ◌+◌, ◌-◌, ◌<◌, ◌≤◌, ◌==◌, Bool, true, false, if◌then◌else◌, List, [], ◌∷◌, ◌++◌, length, Option, Some, None, refl, sym, ap, subst, arith}
use Rattle.std.proofs.lemmas.Bool.{false≢true}
use Rattle.std.proofs.lemmas.List.{length_push, append_assoc, append-nil}
use Rattle.std.proofs.lemmas.List.Sums.{fold-append}
use Rattle.pth_base.specs.declared.mark.Mark.{Mark}
use Rattle.pth_base.specs.declared.mark.Mark.TheVariants as mark
use Rattle.pth_drawing.specs.declared.chart.Moment.{Moment}
use Rattle.pth_drawing.specs.declared.sheet.Sheet.{Sheet}
use Rattle.pth_drawing.specs.declared.drawing.Drawing.{Drawing}
use Rattle.pth_drawing.specs.Drawing.{columns_of, moved_after, moved_in, moment_at, moments_from}
use Rattle.pth_drawing.specs.Follow.{HasLane, Knows, IsColumnMore, IsWithin, Draws}
use Rattle.pth_drawing.specs.States.{Turn, dispatched, turns_of}
use Rattle.pth_drawing.specs.Tracks.{TrackSeen, thread_event_of, track_in, run}
use Rattle.pth_drawing.proofs.DrawnTurns.{part, part_before, length_part, part_more, part_after, length_heard, part_heard, part_heard_after}
use Rattle.pth_drawing.proofs.Heard.{drawn_heard, drawn_more}
use Rattle.pth_drawing.proofs.Standing.{heard_by, knows_more}
use Rattle.pth_drawing.proofs.Turns.{heard, turns_more, turns_same}

-- ---- a Dispatch

no_thread_event : (m : Mark) (t : ℕ) → dispatched m ≡ Some t → thread_event_of m ≡ None
no_thread_event (mark.Dispatch turn at u rank waited allowed) t is = refl
no_thread_event m t is = absurd (cc)

moved_none : (m : Mark) (t : ℕ) (last : Option ℕ) → dispatched m ≡ Some t → moved_after last m ≡ None
moved_none (mark.Dispatch turn at u rank waited allowed) t last is = refl
moved_none m t last is = absurd (cc)

moved_more : (marks : List Mark) (m : Mark) → moved_in (marks ++ m ∷ []) ≡ moved_after (moved_in marks) m
moved_more marks m = fold-append moved_after None marks (m ∷ [])

knows_dispatched : (t u : ℕ) (marks : List Mark) (m : Mark) (x : TrackSeen) → dispatched m ≡ Some u → Knows t marks x → Knows t (marks ++ m ∷ []) x
knows_dispatched t u marks m x is k = subst (Knows t (marks ++ m ∷ [])) (ap (λ o. heard_by t 0 o x) (no_thread_event m u is)) (knows_more t 0 marks m x k)

knows_running : (b : Bool) (t n : ℕ) (marks : List Mark) (x : TrackSeen) → Knows t marks x → Knows t marks (if b then run n x else x)
knows_running true t n marks x k = record { is_there = k.is_there; has_ended = k.has_ended; is_waiting = k.is_waiting }
knows_running false t n marks x k = k

-- ---- moments

moments_from_more : (i k : ℕ) (columns : List Turn) (c : Turn) → i + length columns ≡ k → moments_from i (columns ++ c ∷ []) ≡ moments_from i columns ++ moment_at k (moved_in c.before)
unfolding moments_from
moments_from_more i k [] c at =
    let here : i ≡ k = omega arith in
    append-nil (moment_at i (moved_in c.before)) ∙ ap (λ (j : ℕ). moment_at j (moved_in c.before)) here
moments_from_more i k (x ∷ xs) c at =
    ap (λ (l : List Moment). moment_at i (moved_in x.before) ++ l) (moments_from_more (i + 1) k xs c (omega arith))
    ∙ sym (append_assoc (moment_at i (moved_in x.before)) (moments_from (i + 1) xs) (moment_at k (moved_in c.before)))

moments_heard : (i : ℕ) (m : Mark) (columns : List Turn) → moments_from i (heard m columns) ≡ moments_from i columns
unfolding moments_from
moments_heard i m [] = refl
moments_heard i m (x ∷ []) = refl
moments_heard i m (x ∷ y ∷ ys) = ap (λ (l : List Moment). moment_at i (moved_in x.before) ++ l) (moments_heard (i + 1) m (y ∷ ys))

-- ---- a drawing

module _ (from turns : ℕ) (marks : List Mark) where
  abbrev columns : List Turn
  columns = columns_of from turns marks

  abbrev begun : ℕ
  begun = length (turns_of marks)

  -- how many columns there are, up to the turn after the last one
  few_columns : begun ≤ from - 1 + turns → length columns ≡ begun - (from - 1)
  few_columns few = length_part (from - 1) turns (turns_of marks) few

  module _ (m : Mark) where
    abbrev after : List Mark
    after = marks ++ m ∷ []

    -- ---- a mark that begins no turn

    module _ (other : dispatched m ≡ None) where
      turns_heard : length (turns_of after) ≡ begun
      turns_heard = ap length (turns_same marks m other) ∙ length_heard m (turns_of marks)

      columns_heard : begun ≤ from - 1 + turns → columns_of from turns after ≡ heard m columns
      columns_heard few = ap (part (from - 1) turns) (turns_same marks m other) ∙ part_heard (from - 1) turns m (turns_of marks) few

      columns_heard_after : from - 1 + turns < begun → columns_of from turns after ≡ columns
      columns_heard_after over = ap (part (from - 1) turns) (turns_same marks m other) ∙ part_heard_after (from - 1) turns m (turns_of marks) over

    -- ---- a mark that begins one

    module _ (t : ℕ) (is : dispatched m ≡ Some t) where
      abbrev turn : Turn
      turn = record { before = marks; thread = t; during = [] }

      turns_begun : length (turns_of after) ≡ begun + 1
      turns_begun = ap length (turns_more marks m t is) ∙ length_push (turns_of marks) turn

      columns_ahead : begun < from - 1 → columns_of from turns after ≡ columns
      columns_ahead few =
          part_before (from - 1) turns (turns_of after) (omega (arith, turns_begun))
          ∙ sym (part_before (from - 1) turns (turns_of marks) (omega arith))

      columns_begun : from - 1 ≤ begun → begun < from - 1 + turns → columns_of from turns after ≡ columns ++ turn ∷ []
      columns_begun low high = ap (part (from - 1) turns) (turns_more marks m t is) ∙ part_more (from - 1) turns (turns_of marks) turn low high

      columns_over : from - 1 + turns ≤ begun → columns_of from turns after ≡ columns
      columns_over over = ap (part (from - 1) turns) (turns_more marks m t is) ∙ part_after (from - 1) turns (turns_of marks) turn over

module _ (d : Drawing) (from turns : ℕ) (marks : List Mark) (m : Mark) (f : Draws d from turns marks) where
  abbrev now : List Turn
  now = columns_of from turns marks

  abbrev next : List Turn
  next = columns_of from turns (marks ++ m ∷ [])

  -- ---- after the last column

  dispatch_or : (o : Option ℕ) → dispatched m ≡ o → from - 1 + turns < length (turns_of marks) → (next ≡ now) × (length (turns_of marks) ≤ length (turns_of (marks ++ m ∷ [])))
  dispatch_or None is over = (columns_heard_after from turns marks m is over, omega (arith, turns_heard from turns marks m is))
  dispatch_or (Some t) is over = (columns_over from turns marks m t is (omega arith), omega (arith, turns_begun from turns marks m t is))

  pub over_more : d.is_over ≡ true → Draws d from turns (marks ++ m ∷ [])
  over_more over =
      let same = dispatch_or (dispatched m) refl (f.over over) in
      let back : now ≡ next = sym same.0 in
      record {
        wanted = f.wanted;
        count = f.count ∙ ap length back;
        moments = f.moments ∙ ap (moments_from 0) back;
        drawn = λ t. subst (λ (l : List Turn). HasLane t l (track_in d.sheet.tracks.by_thread t)) back (f.drawn t);
        over = λ h. omega (arith, f.over over, same.1);
        within = λ h. absurd (false≢true (sym h ∙ over));
        moved = λ h. absurd (false≢true (sym h ∙ over));
        known = λ h. absurd (false≢true (sym h ∙ over));
      }

  -- ---- a turn

  module _ (t : ℕ) (is : dispatched m ≡ Some t) (going : d.is_over ≡ false) where
    w : IsWithin d from turns (length (turns_of marks))
    w = f.within going

    more : length (turns_of (marks ++ m ∷ [])) ≡ length (turns_of marks) + 1
    more = turns_begun from turns marks m t is

    none_moved : None ≡ moved_in (marks ++ m ∷ [])
    none_moved = sym (moved_more marks m ∙ moved_none m t (moved_in marks) is)

    -- before the first column
    pub ahead_more : 0 < d.ahead → Draws (record d { ahead = d.ahead - 1; moved = None }) from turns (marks ++ m ∷ [])
    ahead_more some =
        let back : now ≡ next = sym (columns_ahead from turns marks m t is (omega (arith, w.ahead))) in
        record {
          wanted = f.wanted;
          count = f.count ∙ ap length back;
          moments = f.moments ∙ ap (moments_from 0) back;
          drawn = λ u. subst (λ (l : List Turn). HasLane u l (track_in d.sheet.tracks.by_thread u)) back (f.drawn u);
          over = λ h. absurd (false≢true (sym going ∙ h));
          within = λ h. record { ahead = omega (arith, w.ahead, more); within = omega (arith, w.ahead, more) };
          moved = λ h. none_moved;
          known = λ h u. knows_dispatched u t marks m (track_in d.sheet.tracks.by_thread u) is (f.known going u);
        }

    -- after the last column
    pub over_begun : d.ahead ≤ 0 → d.turns ≤ d.sheet.count → Draws (record d { is_over = true; moved = None }) from turns (marks ++ m ∷ [])
    over_begun none full =
        let count = few_columns from turns marks w.within in
        let all : from - 1 + turns ≤ length (turns_of marks) = omega (arith, w.ahead, f.wanted, f.count) in
        let back : now ≡ next = sym (columns_over from turns marks m t is all) in
        record {
          wanted = f.wanted;
          count = f.count ∙ ap length back;
          moments = f.moments ∙ ap (moments_from 0) back;
          drawn = λ u. subst (λ (l : List Turn). HasLane u l (track_in d.sheet.tracks.by_thread u)) back (f.drawn u);
          over = λ h. omega (arith, all, more);
          within = λ h. absurd (false≢true (sym h));
          moved = λ h. absurd (false≢true (sym h));
          known = λ h. absurd (false≢true (sym h));
        }

    -- in a column
    pub column_more : (new : Sheet) → d.ahead ≤ 0 → d.sheet.count < d.turns → IsColumnMore d.sheet t d.moved new → Draws (record d { moved = None; sheet = new }) from turns (marks ++ m ∷ [])
    column_more new none room c =
        let count = few_columns from turns marks w.within in
        let low : from - 1 ≤ length (turns_of marks) = omega (arith, w.ahead) in
        let high : length (turns_of marks) < from - 1 + turns = omega (arith, f.wanted, f.count) in
        let back : now ++ record { before = marks; thread = t; during = [] } ∷ [] ≡ next = sym (columns_begun from turns marks m t is low high) in
        record {
          wanted = f.wanted;
          count = c.count ∙ ap (λ (n : ℕ). n + 1) f.count ∙ sym (length_push now (record { before = marks; thread = t; during = [] })) ∙ ap length back;
          moments =
              c.moments
              ∙ ap (λ (l : List Moment). l ++ moment_at d.sheet.count d.moved) f.moments
              ∙ ap (λ (o : Option ℕ). moments_from 0 now ++ moment_at d.sheet.count o) (f.moved going)
              ∙ ap (λ (n : ℕ). moments_from 0 now ++ moment_at n (moved_in marks)) f.count
              ∙ sym (moments_from_more 0 (length now) now (record { before = marks; thread = t; during = [] }) (omega arith))
              ∙ ap (moments_from 0) back;
          drawn = λ u. subst (HasLane u next) (sym (tracks u)) (subst (λ (l : List Turn). HasLane u l (ran u)) back (drawn_more u now marks t (track_in d.sheet.tracks.by_thread u) (f.drawn u) (f.known going u)));
          over = λ h. absurd (false≢true (sym going ∙ h));
          within = λ h. record { ahead = omega (arith, w.ahead, more); within = omega (arith, high, more) };
          moved = λ h. none_moved;
          known = λ h u. subst (Knows u (marks ++ m ∷ [])) (sym (tracks u)) (knows_running (t == u) u (length now) (marks ++ m ∷ []) (track_in d.sheet.tracks.by_thread u) (knows_dispatched u t marks m (track_in d.sheet.tracks.by_thread u) is (f.known going u)));
        }
      where
        ran : ℕ → TrackSeen
        ran u = if t == u then run (length now) (track_in d.sheet.tracks.by_thread u) else track_in d.sheet.tracks.by_thread u

        tracks : (u : ℕ) → track_in new.tracks.by_thread u ≡ ran u
        tracks u = c.tracks u ∙ ap (λ (n : ℕ). if t == u then run n (track_in d.sheet.tracks.by_thread u) else track_in d.sheet.tracks.by_thread u) f.count

  -- ---- another mark

  -- columns with what a mark tells
  pub record IsHeard (new : Sheet) : Type 0 where
    pub count : new.count ≡ d.sheet.count
    pub moments : new.moments.items ≡ d.sheet.moments.items
    pub tracks : (t : ℕ) → track_in new.tracks.by_thread t ≡ heard_by t d.sheet.count (thread_event_of m) (track_in d.sheet.tracks.by_thread t)

  pub heard_more : dispatched m ≡ None → d.is_over ≡ false → (new : Sheet) (last : Option ℕ) → IsHeard new → last ≡ moved_after d.moved m → Draws (record d { moved = last; sheet = new }) from turns (marks ++ m ∷ [])
  heard_more other going new last c moved =
      let w = f.within going in
      let back : heard m now ≡ next = sym (columns_heard from turns marks m other w.within) in
      let more = turns_heard from turns marks m other in
      record {
        wanted = f.wanted;
        count = c.count ∙ f.count ∙ sym (length_heard m now) ∙ ap length back;
        moments = c.moments ∙ f.moments ∙ sym (moments_heard 0 m now) ∙ ap (moments_from 0) back;
        drawn = λ t. subst (HasLane t next) (sym (tracks t)) (subst (λ (l : List Turn). HasLane t l (heard_by t (length now) (thread_event_of m) (track_in d.sheet.tracks.by_thread t))) back (drawn_heard t m now (track_in d.sheet.tracks.by_thread t) (f.drawn t)));
        over = λ h. absurd (false≢true (sym going ∙ h));
        within = λ h. record { ahead = omega (arith, w.ahead, more); within = omega (arith, w.within, more) };
        moved = λ h. moved ∙ ap (λ (o : Option ℕ). moved_after o m) (f.moved going) ∙ sym (moved_more marks m);
        known = λ h t. subst (Knows t (marks ++ m ∷ [])) (sym (tracks t)) (knows_more t (length now) marks m (track_in d.sheet.tracks.by_thread t) (f.known going t));
      }
    where
      tracks : (t : ℕ) → track_in new.tracks.by_thread t ≡ heard_by t (length now) (thread_event_of m) (track_in d.sheet.tracks.by_thread t)
      tracks t = c.tracks t ∙ ap (λ (n : ℕ). heard_by t n (thread_event_of m) (track_in d.sheet.tracks.by_thread t)) f.count
