-- The waiting threads are gone over: the events of their rings are looked at, and those that are to wake are listed.
use Rattle.std.proofs.Common.{◌≡◌, ◌∙◌, ℕ, Bool, true, false, ◌||◌, if◌then◌else◌, List, [], ◌∷◌, ◌++◌, filter, flat_map, Option, Some, None, option_map, refl, sym, ap, ap₂, subst, append_assoc, append-nil}
use Rattle.std.specs.List.{list_any}
use Rattle.std.proofs.lemmas.List.Elements.{filter-append}
use mathlib.Core.Path.{fun_ext}
use Rattle.pth_base.specs.Program.{Functions}
use Rattle.pth_ring.specs.declared.event.Event.{Event}
use Rattle.pth_ring.specs.Arena.{events_of}
use Rattle.pth_ring.specs.Ring.{each, ring_holds}
use Rattle.pth_ring.specs.Rings.{is_settled}
use Rattle.pth_model.specs.declared.awaits.Awaits.{Awaits}
use Rattle.pth_model.specs.declared.awaits.Awaits.TheVariants.{Nothing}
use Rattle.pth_model.specs.Awaits.{awaits_in}
use Rattle.pth_model.specs.Calls.{wakes}
use Rattle.pth_model.specs.Cancellation.{may_be_canceled}
use Rattle.pth_model.specs.Changes.{blocked_of}
use Rattle.pth_model.specs.Coming.{has_any_died, has_come}
use Rattle.pth_model.specs.Looks.{after_looks, comes, looked_at, looks_at}
use Rattle.pth_model.specs.Pass.{comes_for, is_to_wake, looks, to_wake, waiting}
use Rattle.pth_model.specs.RingWaits.{awaited_events}
use Rattle.pth_model.specs.State.{Control, State}
use Rattle.pth_model.specs.ThreadControl.{joinable_dead}
use Rattle.pth_model.specs.ThreadEnds.{is_alone}
use Rattle.pth_model.proofs.Looked.{looked_again, looks_joined}
use Rattle.pth_world.specs.Shows.{Shows, StandsFor}
use Rattle.pth_world.specs.World.{WorldOf}
use Rattle.pth_world.proofs.Events.{events_show}
use Rattle.pth_world.proofs.Telling.{has_still}

-- ---- lists

flat_more : {A B : Type 0} (g : A → List B) (xs : List A) (x : A) → flat_map g (xs ++ x ∷ []) ≡ flat_map g xs ++ g x
flat_more g [] x = append-nil (g x)
flat_more g (y ∷ ys) x = ap (λ l. g y ++ l) (flat_more g ys x) ∙ sym (append_assoc (g y) (flat_map g ys) (g x))

-- ---- what a look leaves as it was

-- who is to wake does not hang on what was looked at
module _ {P S H : Type 0} (f : P → Functions S H) (s : State P S H) (xs : List ℕ) where
  abbrev seen : State P S H
  seen = after_looks f s xs

  comes_still : (b : Bool) (e : ℕ) (o : Option Event) → comes f seen e (if b then option_map (looked_at f s e) o else o) ≡ comes f s e o
  comes_still false e o = refl
  comes_still true e None = refl
  comes_still true e (Some x) = ap (λ (y : Event). is_settled (Some y)) (looked_again f s e x)

  come_for_still : (t : ℕ) → comes_for f seen t ≡ comes_for f s t
  unfolding comes_for each
  come_for_still t = ap (λ (p : ℕ → Bool). list_any p (awaited_events s.control t)) (fun_ext (λ e. comes_still (ring_holds e xs) e (s.control.events.events e)))

  canceled_still : (t : ℕ) → may_be_canceled seen.control t ≡ may_be_canceled s.control t
  unfolding may_be_canceled
  canceled_still t = refl

  has_come_still : (t : ℕ) (a : Awaits) → has_come seen t a ≡ has_come s t a
  unfolding is_alone joinable_dead
  has_come_still t Nothing = refl
  has_come_still t a = refl

  to_wake_still : (t : ℕ) → is_to_wake f seen t ≡ is_to_wake f s t
  unfolding wakes
  to_wake_still t =
      ap₂ (λ (a b : Bool). a || b)
      (ap₂ (λ (a b : Bool). a || b) (has_come_still t (awaits_in (blocked_of s.control t))) (come_for_still t))
      (canceled_still t)

-- ---- the threads, one after another

-- Of the threads ts some were gone over, and rest are left: the events for which the former wait were looked at, and those of them
-- that are to wake are listed.
pub record GoneOver {P S H : Type 0} (f : P → Functions S H) (old now : WorldOf P S H) (ts rest list : List ℕ) : Type 0 where
  pub done : List ℕ
  pub split : ts ≡ done ++ rest
  pub shows : (s : State P S H) → StandsFor old s → Shows now (looks_at f s (flat_map (awaited_events s.control) done) s.control)
  pub listed : (s : State P S H) → StandsFor old s → list ≡ filter (is_to_wake f s) done
  pub made : now.events.made ≡ old.events.made
  pub same : now ≡ record old { events = now.events }

none_seen : {P S H : Type 0} (f : P → Functions S H) (s : State P S H) → s.control ≡ looks_at f s [] s.control
unfolding each
none_seen f s = ap (λ (g : ℕ → Option Event). record s.control { events = record s.control.events { events = g } }) (fun_ext (λ e. refl))

-- whether a thread that can be joined has died does not hang on events
pub dead_still : {P S H : Type 0} (old now : WorldOf P S H) (any : Bool) → now ≡ record old { events = now.events } → ((k : Control P S H) → Shows old k → any ≡ has_any_died k) → (k : Control P S H) → Shows now k → any ≡ has_any_died k
unfolding joinable_dead
dead_still {P} {S} {H} old now any same dead k sh =
    let there : Shows (record old { events = now.events }) k = subst (λ (w : WorldOf P S H). Shows w k) same sh in
    dead (record k { events = events_of old.events }) (events_show (record old { events = now.events }) old.events k _ there refl)

module _ {P S H : Type 0} (f : P → Functions S H) (old : WorldOf P S H) where
  pub gone_none : (ts : List ℕ) → GoneOver f old old ts ts []
  gone_none ts = record {
    done = [];
    split = refl;
    shows = λ s st. subst (λ (j : Control P S H). Shows old j) (none_seen f s) st.control;
    listed = λ s st. refl;
    made = refl;
    same = refl;
  }

  module _ (now x : WorldOf P S H) (ts rest list more : List ℕ) (t : ℕ) (so_far : GoneOver f old now ts (t ∷ rest) list)
      (shows : (s : State P S H) → StandsFor now s → Shows x (looks_at f s (awaited_events s.control t) s.control))
      (made : x.events.made ≡ now.events.made) (same : x ≡ record now { events = x.events })
      (is : (s : State P S H) → StandsFor now s → more ≡ list ++ (if is_to_wake f s t then t ∷ [] else [])) where
    abbrev events : Control P S H → List ℕ
    events k = flat_map (awaited_events k) so_far.done

    -- the world that was left stands for the state in which what was gone over was looked at
    stands_seen : (s : State P S H) → StandsFor old s → StandsFor now (after_looks f s (events s.control))
    stands_seen s st = record {
      control = so_far.shows s st;
      store = has_still old now s (ap (λ (w : WorldOf P S H). w.store) so_far.same) st.store;
    }

    pub gone_more : GoneOver f old x ts rest more
    gone_more = record {
      done = so_far.done ++ t ∷ [];
      split = so_far.split ∙ sym (append_assoc so_far.done (t ∷ []) rest);
      shows = λ s st. subst (λ (j : Control P S H). Shows x j)
          (ap (λ (u : State P S H). u.control) (looks_joined f s (events s.control) (awaited_events s.control t)) ∙ ap (λ (es : List ℕ). looks_at f s es s.control) (sym (flat_more (awaited_events s.control) so_far.done t)))
          (shows (after_looks f s (events s.control)) (stands_seen s st));
      listed = λ s st.
          is (after_looks f s (events s.control)) (stands_seen s st)
          ∙ ap₂ (λ (l : List ℕ) (b : Bool). l ++ (if b then t ∷ [] else [])) (so_far.listed s st) (to_wake_still f s (events s.control) t)
          ∙ sym (filter-append (is_to_wake f s) so_far.done (t ∷ []));
      made = made ∙ so_far.made;
      same = same ∙ ap (λ (w : WorldOf P S H). record w { events = x.events }) so_far.same;
    }

  -- all were gone over
  module _ (now : WorldOf P S H) (ts list : List ℕ) (all : GoneOver f old now ts [] list) where
    all_done : all.done ≡ ts
    all_done = sym (all.split ∙ append-nil all.done)

    pub gone_shows : (s : State P S H) → StandsFor old s → ts ≡ waiting s.control → Shows now (looks f s s.control)
    unfolding looks
    gone_shows s st is = subst (λ (l : List ℕ). Shows now (looks_at f s (flat_map (awaited_events s.control) l) s.control)) (all_done ∙ is) (all.shows s st)

    pub gone_listed : (s : State P S H) → StandsFor old s → ts ≡ waiting s.control → list ≡ to_wake f s
    unfolding to_wake
    gone_listed s st is = all.listed s st ∙ ap (filter (is_to_wake f s)) (all_done ∙ is)
