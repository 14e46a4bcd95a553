-- What a mark tells of a thread is how it stands from then on.
use Rattle.std.proofs.Common.{◌≡◌, ◌∙◌, ℕ, ◌==◌, ◌||◌, pos, Bool, true, false, if◌then◌else◌, List, [], ◌∷◌, ◌++◌, Option, Some, None, refl, sym, ap}
use Rattle.std.specs.List.{list_any}
use Rattle.std.proofs.Math.Bool.{or-false}
use Rattle.std.proofs.lemmas.List.Folds.{list_any-append}
use Rattle.std.proofs.lemmas.List.Sums.{fold-append}
use Rattle.pth_base.specs.declared.answer.Answer.TheVariants.{Int}
use Rattle.pth_base.specs.declared.call.Call.TheVariants as call
use Rattle.pth_base.specs.declared.mark.Mark.{Mark}
use Rattle.pth_base.specs.declared.mark.Mark.TheVariants as mark
use Rattle.pth_laws.specs.Marks.{is_end_of, is_cancellation_of}
use Rattle.pth_drawing.specs.declared.thread_event.ThreadEvent.{ThreadEvent}
use Rattle.pth_drawing.specs.Follow.{Knows}
use Rattle.pth_drawing.specs.States.{waits_after}
use Rattle.pth_transcript.specs.Threads.{is_spawn_of}
use Rattle.pth_drawing.specs.Tracks.{TrackSeen, thread_event_of, after, last_of, with_place, first_of}

-- a track after a mark
abbrev pub heard_by : ℕ → ℕ → Option ThreadEvent → TrackSeen → TrackSeen
heard_by t columns None x = x
heard_by t columns (Some n) x = if n.thread == t then after n.event columns x else x

or-true : (b : Bool) → true ≡ (b || true)
or-true true = refl
or-true false = refl

-- a fact of a track, if it hears the event or not
there_if : (b c : Bool) → (if b then true else c) ≡ (c || b)
there_if true c = or-true c
there_if false c = sym (or-false c)

module _ (t columns : ℕ) (x : TrackSeen) where
  -- what an event leaves as it was
  kept : {A : Type 0} (f : TrackSeen → A) (b : Bool) (y : TrackSeen) → f y ≡ f x → f (if b then y else x) ≡ f x
  kept f true y is = is
  kept f false y is = refl

  changed_to : {A : Type 0} (f : TrackSeen → A) (b : Bool) (y : TrackSeen) (a : A) → f y ≡ a → f (if b then y else x) ≡ (if b then a else f x)
  changed_to f true y a is = is
  changed_to f false y a is = refl

  same_there : (b : Bool) (y : TrackSeen) → y.is_there ≡ x.is_there → (if b then y else x).is_there ≡ (x.is_there || false)
  same_there b y is = kept (λ z. z.is_there) b y is ∙ sym (or-false x.is_there)

  same_ended : (b : Bool) (y : TrackSeen) → y.has_ended ≡ x.has_ended → (if b then y else x).has_ended ≡ (x.has_ended || false)
  same_ended b y is = kept (λ z. z.has_ended) b y is ∙ sym (or-false x.has_ended)

  same_waits : (b : Bool) (y : TrackSeen) → y.is_waiting ≡ x.is_waiting → (if b then y else x).is_waiting ≡ x.is_waiting
  same_waits b y is = kept (λ z. z.is_waiting) b y is

  pub there_after : (m : Mark) → (heard_by t columns (thread_event_of m) x).is_there ≡ (x.is_there || is_spawn_of t m)
  there_after (mark.Answered u (call.Spawn b v a) (Int (pos n))) = changed_to (λ y. y.is_there) (n == t) _ true refl ∙ there_if (n == t) x.is_there
  there_after (mark.Waits u c) = same_there (u.0 == t) _ refl
  there_after (mark.Retakes u c) = same_there (u.0 == t) _ refl
  there_after (mark.Woke u rank) = same_there (u.0 == t) _ refl
  there_after (mark.Canceled u c) = same_there (u.0 == t) _ refl
  there_after (mark.Ended u v) = same_there (u.0 == t) _ refl
  there_after m = sym (or-false x.is_there)

  pub ended_after : (m : Mark) → (heard_by t columns (thread_event_of m) x).has_ended ≡ (x.has_ended || is_end_of t m)
  ended_after (mark.Answered u (call.Spawn b v a) (Int (pos n))) = same_ended (n == t) _ refl
  ended_after (mark.Waits u c) = same_ended (u.0 == t) _ refl
  ended_after (mark.Retakes u c) = same_ended (u.0 == t) _ refl
  ended_after (mark.Woke u rank) = same_ended (u.0 == t) _ refl
  ended_after (mark.Canceled u c) = same_ended (u.0 == t) _ refl
  ended_after (mark.Ended u v) = changed_to (λ y. y.has_ended) (u.0 == t) _ true refl ∙ there_if (u.0 == t) x.has_ended
  ended_after m = sym (or-false x.has_ended)

  pub waiting_after : (m : Mark) → (heard_by t columns (thread_event_of m) x).is_waiting ≡ waits_after t x.is_waiting m
  waiting_after (mark.Answered u (call.Spawn b v a) (Int (pos n))) = same_waits (n == t) _ refl
  waiting_after (mark.Waits u c) = changed_to (λ y. y.is_waiting) (u.0 == t) _ true refl
  waiting_after (mark.Retakes u c) = changed_to (λ y. y.is_waiting) (u.0 == t) _ true refl
  waiting_after (mark.Woke u rank) = changed_to (λ y. y.is_waiting) (u.0 == t) _ false refl
  waiting_after (mark.Canceled u c) = same_waits (u.0 == t) _ refl
  waiting_after (mark.Ended u v) = same_waits (u.0 == t) _ refl
  waiting_after m = refl

  pub canceled_after : (m : Mark) → (heard_by t columns (thread_event_of m) x).canceled ≡ (if is_cancellation_of t m then with_place (last_of columns) x.canceled else x.canceled)
  canceled_after (mark.Answered u (call.Spawn b v a) (Int (pos n))) = kept (λ y. y.canceled) (n == t) _ refl
  canceled_after (mark.Waits u c) = kept (λ y. y.canceled) (u.0 == t) _ refl
  canceled_after (mark.Retakes u c) = kept (λ y. y.canceled) (u.0 == t) _ refl
  canceled_after (mark.Woke u rank) = kept (λ y. y.canceled) (u.0 == t) _ refl
  canceled_after (mark.Canceled u c) = changed_to (λ y. y.canceled) (u.0 == t) _ _ refl
  canceled_after (mark.Ended u v) = kept (λ y. y.canceled) (u.0 == t) _ refl
  canceled_after m = refl

  pub first_after : (m : Mark) → (heard_by t columns (thread_event_of m) x).ended ≡ (if is_end_of t m then first_of x.ended (last_of columns) else x.ended)
  first_after (mark.Answered u (call.Spawn b v a) (Int (pos n))) = kept (λ y. y.ended) (n == t) _ refl
  first_after (mark.Waits u c) = kept (λ y. y.ended) (u.0 == t) _ refl
  first_after (mark.Retakes u c) = kept (λ y. y.ended) (u.0 == t) _ refl
  first_after (mark.Woke u rank) = kept (λ y. y.ended) (u.0 == t) _ refl
  first_after (mark.Canceled u c) = kept (λ y. y.ended) (u.0 == t) _ refl
  first_after (mark.Ended u v) = changed_to (λ y. y.ended) (u.0 == t) _ _ refl
  first_after m = refl

-- ---- the same of all marks

any_more : (test : Mark → Bool) (marks : List Mark) (m : Mark) → list_any test (marks ++ m ∷ []) ≡ (list_any test marks || test m)
any_more test marks m = list_any-append test marks (m ∷ []) ∙ ap (λ (b : Bool). list_any test marks || b) (or-false (test m))

or_assoc : (a b c : Bool) → ((a || b) || c) ≡ (a || (b || c))
or_assoc true b c = refl
or_assoc false b c = refl

pub knows_more : (t columns : ℕ) (marks : List Mark) (m : Mark) (x : TrackSeen) → Knows t marks x → Knows t (marks ++ m ∷ []) (heard_by t columns (thread_event_of m) x)
knows_more t columns marks m x k = record {
  is_there = there_after t columns x m ∙ ap (λ b. b || is_spawn_of t m) k.is_there ∙ or_assoc (1 == t) (list_any (is_spawn_of t) marks) (is_spawn_of t m) ∙ ap (λ b. (1 == t) || b) (sym (any_more (is_spawn_of t) marks m));
  has_ended = ended_after t columns x m ∙ ap (λ b. b || is_end_of t m) k.has_ended ∙ sym (any_more (is_end_of t) marks m);
  is_waiting = waiting_after t columns x m ∙ ap (λ b. waits_after t b m) k.is_waiting ∙ sym (fold-append (waits_after t) false marks (m ∷ []));
}
