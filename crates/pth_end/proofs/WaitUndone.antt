-- The wait of a thread that ends is undone as the definitions say.
use Rattle.std.proofs.Common.{◌≡◌, ◌≢◌, ◌∙◌, ℕ, ℤ, Bool, true, false, List, [], ◌∷◌, ◌++◌, refl, ap, sym, subst, append-nil, arith, ◌==◌, ◌||◌, not, if◌then◌else◌, Option, Some, None, option_map}
use Rattle.pth_world.proofs.Conditions.{seated_frame}
use Rattle.pth_model.specs.Conditions.{hands_on_seat, hands_on_seats}
use Rattle.pth_base.specs.Cut.{IsCut}
use Rattle.pth_base.proofs.Tables.{put_is}
use Rattle.pth_base.specs.declared.mark.Mark.{Mark}
use Rattle.pth_base.specs.declared.mark.Mark.TheVariants.{Withdrew}
use Rattle.pth_base.specs.declared.ids.Tid.{Tid}
use Rattle.pth_cond.specs.Barriers.{Arrived, Barrier, BarrierTable, barriers_of, waits_among, waits_at, waits_here, without_thread, withdrawn}
use Rattle.pth_lock.specs.Objects.{object_named}
use Rattle.pth_model.specs.Barriers.{withdraws, withdraws_from}
use Rattle.pth_model.specs.Changes.{blocked_of, with_barriers}
use Rattle.pth_model.specs.Ending.{undoes_wait}
use Rattle.pth_model.specs.Resources.{told}
use Rattle.pth_model.specs.RingWaits.{awaited_in, stops_waiting}
use Rattle.pth_model.specs.State.{Control, State}
use Rattle.pth_model.specs.Transition.{Transition, changes, controlled, silent, tells, tid, where_so, ◌and_then◌, ◌and◌}
use Rattle.pth_model.specs.declared.awaits.Awaited.{Awaited}
use Rattle.pth_model.specs.declared.awaits.Awaits.{Awaits}
use Rattle.pth_model.specs.declared.awaits.Awaits.TheVariants.{Notice, Round}
use Rattle.pth_world.proofs.Barriers.{barred_frame, barred_shows}
use Rattle.pth_world.proofs.Frames.{frame_then}
use Rattle.pth_world.proofs.Ranks.{ranks_none, ranks_same}
use Rattle.pth_world.proofs.Telling.{has_still, quiet_leads}
use Rattle.pth_world.specs.Frame.{Frame}
use Rattle.pth_world.specs.Leading.{Leads, IsQuiet}
use Rattle.pth_world.specs.Numbering.{Thread, Object, Event, Port, no_numbers}
use Rattle.pth_world.specs.Shows.{Shows, StandsFor}
use Rattle.pth_world.specs.WellFormed.{WellFormed}
use Rattle.pth_world.specs.Sound.{IsAlive, lives}
use Rattle.pth_world.specs.World.{WorldOf, ThreadsBySlot}
use Rattle.pth_base.specs.Naming.{seen}
use Rattle.pth_threads.specs.Threads.{ThreadsOf, slot_of, entry_at}
use Rattle.pth_end.proofs.Chains.{leads_then, cut_one}

-- that an arrival was taken back tells nothing of what threads have
quiet_withdrew : (t : Tid) (b : ℕ) → IsQuiet (Withdrew t b)
unfolding told
quiet_withdrew t b x = refl

module _ {P S H : Type 0} where
  -- nothing is done
  pub silent_leads : (w : WorldOf P S H) (s : State P S H) (old new : List Mark) → StandsFor w s → new ≡ old → Leads w old new (silent s)
  silent_leads w s old new st same = record { stands = st; tells = same ∙ sym (append-nil old) }

  -- barriers alone changed, without a word
  barred_stands : (w : WorldOf P S H) (b : List (Option Barrier)) (g : BarrierTable → BarrierTable) (s : State P S H) → StandsFor w s → barriers_of b ≡ g (barriers_of w.barriers) → StandsFor (record w { barriers = b }) (controlled (with_barriers g) s)
  barred_stands w b g s st is = record { control = barred_shows w b g s.control st.control is; store = st.store }

  -- an arrival was taken back, and that was told
  taken_leads : (w : WorldOf P S H) (b : List (Option Barrier)) (t : Tid) (x : ℤ) (s : State P S H) (old new : List Mark) → StandsFor w s → barriers_of b ≡ withdrawn x t.0 (barriers_of w.barriers) → new ≡ old ++ Withdrew t (object_named x) ∷ []
      → Leads (record w { barriers = b }) old new ((changes (with_barriers (withdrawn x t.0)) and_then tells (Withdrew (tid t.0) (object_named x))) s)
  taken_leads w b t x s old new st is appended =
      let l = quiet_leads (record w { barriers = b }) (controlled (with_barriers (withdrawn x t.0)) s) (Withdrew t (object_named x)) old new (quiet_withdrew t (object_named x)) (barred_stands w b (withdrawn x t.0) s st is) appended in
      record { stands = l.stands; tells = l.tells }

-- nobody's arrival is taken back
others_stay : (t : ℕ) (xs : List Arrived) → waits_among t xs ≡ false → without_thread t xs ≡ xs
others_stay t [] none = refl
others_stay t (a ∷ rest) none = by_test (a.tid == t) none (others_stay t rest)
  where
    by_test : (own : Bool) → (own || waits_among t rest) ≡ false → (waits_among t rest ≡ false → without_thread t rest ≡ rest) → (if not own then a ∷ without_thread t rest else without_thread t rest) ≡ a ∷ rest
    by_test true none stay = absurd (cc none)
    by_test false none stay = ap (λ (xs : List Arrived). a ∷ xs) (stay none)

barrier_stays : (t : ℕ) (o : Option Barrier) → waits_here t o ≡ false → option_map (λ (y : Barrier). record y { arrivals = without_thread t y.arrivals }) o ≡ o
barrier_stays t None none = refl
barrier_stays t (Some y) none = ap (λ (xs : List Arrived). Some (record y { arrivals = xs })) (others_stay t y.arrivals none)

barriers_stay : (x : BarrierTable) (b : ℤ) (t : ℕ) → waits_at x b t ≡ false → withdrawn b t x ≡ x
barriers_stay x b t none = sym (put_is x x (object_named b) _ (sym (barrier_stays t (x (object_named b)) none)) (λ i other. refl))

module _ {P S H : Type 0} (w : WorldOf P S H) (c : List (Option Barrier)) (t : Tid) (b : ℤ) (is : barriers_of c ≡ withdrawn b t.0 (barriers_of w.barriers)) (s : State P S H) (st : StandsFor w s) where
  here_is : waits_at (barriers_of w.barriers) b t.0 ≡ waits_at s.control.barriers b t.0
  here_is = ap (λ (x : BarrierTable). waits_at x b t.0) (sym st.control.barriers)

  by_arrival : (here : Bool) → waits_at s.control.barriers b t.0 ≡ here → (old new : List Mark) → Leads (record w { barriers = c }) old new (where_so here (changes (with_barriers (withdrawn b t.0)) and_then tells (Withdrew (tid t.0) (object_named b))) s) → Leads (record w { barriers = c }) old new (withdraws t.0 b s)
  unfolding withdraws
  by_arrival here same old new l = rw same l

  -- an arrival was there, and it was told that it was taken back
  pub told_withdrawal : (old new : List Mark) → waits_at (barriers_of w.barriers) b t.0 ≡ true → new ≡ old ++ Withdrew t (object_named b) ∷ [] → Leads (record w { barriers = c }) old new (withdraws t.0 b s)
  told_withdrawal old new here appended = by_arrival true (sym here_is ∙ here) old new (taken_leads w c t b s old new st is appended)

  -- none was there
  pub no_withdrawal : (old new : List Mark) → waits_at (barriers_of w.barriers) b t.0 ≡ false → new ≡ old → Leads (record w { barriers = c }) old new (withdraws t.0 b s)
  no_withdrawal old new none same =
      let stays : barriers_of c ≡ barriers_of w.barriers = is ∙ barriers_stay (barriers_of w.barriers) b t.0 none in
      by_arrival false (sym here_is ∙ none) old new (silent_leads (record w { barriers = c }) s old new (record { control = barred_shows w c (λ x. x) s.control st.control stays; store = st.store }) same)

module _ {P S H : Type 0} (t : ℕ) (b : ℤ) (round : ℕ) (s : State P S H) where
  -- the thread awaits a round
  pub from_round : (v : WorldOf P S H) (old new : List Mark) → Leads v old new (withdraws t b s) → Leads v old new (withdraws_from t (Round b round) s)
  unfolding withdraws_from
  from_round v old new l = l

  pub cut_from_round : (old new : List Mark) → IsCut old new (withdraws t b s).marks → IsCut old new (withdraws_from t (Round b round) s).marks
  unfolding withdraws_from
  cut_from_round old new cut = cut

-- what awaits no round
abbrev pub IsNoRound : Awaits → Type 0
IsNoRound (Round b round) = ⊥
IsNoRound a = Unit {0}

no_round_by : (a : Awaits) → ((b : ℤ) (round : ℕ) → a ≢ Round b round) → IsNoRound a
no_round_by (Round b round) other = other b round refl
no_round_by a other = tt

-- what awaits no condition has no seat to hand on
pub no_seat : {P S H : Type 0} (t : ℕ) (a : Awaits) (k : Control P S H) → ((c : ℤ) → a ≢ Notice c) → hands_on_seat t a k ≡ k
unfolding hands_on_seat
no_seat t (Notice c) k other = absurd (other c refl)
no_seat t a k other = refl

module _ {P S H : Type 0} where
  from_other : (t : ℕ) (a : Awaits) (s : State P S H) → IsNoRound a → withdraws_from t a s ≡ silent s
  unfolding withdraws_from
  from_other t (Round b round) s none = absurd none
  from_other t a s none = refl

  pub no_round : (w : WorldOf P S H) (t : ℕ) (a : Awaits) (s : State P S H) (old new : List Mark) → ((b : ℤ) (round : ℕ) → a ≢ Round b round) → StandsFor w s → new ≡ old → Leads w old new (withdraws_from t a s)
  no_round w t a s old new other st same = subst (λ (x : Transition P S H). Leads w old new x) (sym (from_other t a s (no_round_by a other))) (silent_leads w s old new st same)

  -- then its seats are handed on, the call that blocks it is taken out, and the claim given back
  undone_as : (v x z : WorldOf P S H) (t : ℕ) (a : Awaited) (s : State P S H) (old new : List Mark) → Leads v old new (withdraws_from t a.what s) → ((k : Control P S H) → Shows v k → Shows x (hands_on_seats t a k)) → ((k : Control P S H) → Shows x k → Shows z (stops_waiting t k)) → z.store ≡ v.store
      → Leads z old new ((withdraws_from t a.what and_then changes (hands_on_seats t a and stops_waiting t)) s)
  undone_as v x z t a s old new first hands shows stored =
      let s1 = (withdraws_from t a.what s).state in
      let g = hands_on_seats t a and stops_waiting t in
      let second = silent_leads z (controlled g s1) new new (record { control = shows _ (hands s1.control first.stands.control); store = has_still v z s1 stored first.stands.store }) refl in
      let l = leads_then v z s (withdraws_from t a.what) (changes g) old new new first (record { stands = second.stands; tells = second.tells }) in
      record { stands = l.stands; tells = l.tells }

  pub undone_leads : (v x z : WorldOf P S H) (t : ℕ) (a : Awaited) (s : State P S H) (old new : List Mark) → a ≡ awaited_in (blocked_of s.control t) → Leads v old new (withdraws_from t a.what s) → ((k : Control P S H) → Shows v k → Shows x (hands_on_seats t a k)) → ((k : Control P S H) → Shows x k → Shows z (stops_waiting t k)) → z.store ≡ v.store → Leads z old new (undoes_wait t s)
  undone_leads v x z t a s old new is first hands shows stored =
      subst (λ (b : Awaited). Leads z old new ((withdraws_from t b.what and_then changes (hands_on_seats t b and stops_waiting t)) s)) is (undone_as v x z t a s old new first hands shows stored)

  pub cut_undoing : (t : ℕ) (a : Awaited) (s : State P S H) (old new : List Mark) → a ≡ awaited_in (blocked_of s.control t) → IsCut old new (withdraws_from t a.what s).marks → IsCut old new (undoes_wait t s).marks
  cut_undoing t a s old new is cut =
      subst (λ (b : Awaited). IsCut old new ((withdraws_from t b.what and_then changes (hands_on_seats t b and stops_waiting t)) s).marks) is (cut_one s (withdraws_from t a.what) (changes (hands_on_seats t a and stops_waiting t)) old new cut)

  pub undone_frame : (w v x z : WorldOf P S H) → WellFormed w → v ≡ record w { barriers = v.barriers } → x ≡ record v { conditions = x.conditions } → (WellFormed x → WellFormed z) → z.events.made ≡ x.events.made → z ≡ record x { threads = record x.threads { progress = z.threads.progress }; events = z.events; conditions = z.conditions } → Frame w z no_numbers w.scheduler.running false
  undone_frame w v x z whole barred seated wholes made same =
      let r = w.scheduler.running in
      let first : Frame w v no_numbers r false = subst (λ (y : WorldOf P S H). Frame w y no_numbers r false) (sym barred) (barred_frame w v.barriers whole) in
      let second : Frame v x no_numbers r false = subst (λ (o : Option ℕ). Frame v x no_numbers o false) first.runs (subst (λ (y : WorldOf P S H). Frame v y no_numbers v.scheduler.running false) (sym seated) (seated_frame v x.conditions first.whole)) in
      frame_then no_numbers w x z r r false (frame_then no_numbers w v x r r false first second) (record {
        whole = wholes second.whole;
        runs = ap (λ (k : WorldOf P S H). k.scheduler.running) same ∙ second.runs;
        made = elim [
          | Thread ↦ (let e = ap (λ (k : WorldOf P S H). k.threads.records.made) same in omega arith)
          | Object ↦ (let e = ap (λ (k : WorldOf P S H). k.attributes.objects.made) same in omega arith)
          | Event ↦ omega arith
          | Port ↦ (let e = ap (λ (k : WorldOf P S H). k.store.ports.made) same in omega arith)
        ];
        ranks = ranks_same 0 x.threads x.threads z.threads (ap (λ (k : WorldOf P S H). k.threads.queues) same) (ranks_none x.threads);
        preferred = ap (λ (k : WorldOf P S H). k.scheduler.preferred) same;
      })

-- who is alive still is
pub alive_by : {S : Type 0} (x y : ThreadsBySlot S) (t : ℕ) → y.records ≡ x.records → IsAlive x t → IsAlive y t
alive_by x y t same alive = ap (λ (r : ThreadsOf). lives (seen None (slot_of r) (entry_at r) t)) same ∙ alive
