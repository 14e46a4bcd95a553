-- Whoever is in the system is somewhere in its program.
use Rattle.std.proofs.Common.{◌≡◌, ℕ, ◌+◌, ◌==◌, Bool, true, false, if◌then◌else◌, ℤ, pos, Option, Some, None, is_some, option_map, refl, sym, ◌∙◌, ap, subst}
use Rattle.std.proofs.lemmas.Bool.{true≢false}
use Rattle.pth_base.specs.Program.{Functions}
use Rattle.pth_base.specs.Table.{put}
use Rattle.pth_base.specs.declared.answer.Answer.TheVariants as answer
use Rattle.pth_base.proofs.Tables.{put_by}
use Rattle.pth_threads.specs.Threads.{changed, made_of}
use Rattle.pth_threads.specs.declared.entry.Change.{Change}
use Rattle.pth_threads.specs.declared.entry.Entry.{Entry}
use Rattle.pth_threads.specs.declared.entry.NewThread.{NewThread}
use Rattle.pth_model.specs.declared.progress.Progress.{Progress}
use Rattle.pth_model.specs.Changes.{sets, makes, forgets, goes_on, blocking, blocked_of, is_blocked_by}
use Rattle.pth_model.specs.LibraryControl.{vanish_all_but}
use Rattle.pth_model.specs.Pass.{looks}
use Rattle.pth_model.specs.RingWaits.{claims, gives_back, stops_waiting, ring_held}
use Rattle.pth_model.specs.Run.{run}
use Rattle.pth_model.specs.State.{State, Control, Given, Threads, start, main, main_entry}
use Rattle.pth_model.specs.Transition.{controlled}
use Rattle.pth_laws.proofs.Along.{KeptAlong, run_keeps}

changed_some : (c : Change) (o : Option Entry) → is_some (option_map (changed c) o) ≡ is_some o
changed_some c None = refl
changed_some c (Some e) = refl

module _ {S : Type 0} where
  abbrev pub AreThere : Threads S → Type 0
  AreThere x = (u : ℕ) → is_some (x.known u) ≡ true → is_some (x.progress u) ≡ true

  -- where the threads are as before
  there_so : (x y : Threads S) → y ≡ x → AreThere x → AreThere y
  there_so x y same there = subst AreThere (sym same) there

  moved_some : (g : Progress S → Progress S) (o : Option (Progress S)) → is_some (option_map g o) ≡ is_some o
  moved_some g None = refl
  moved_some g (Some p) = refl

module _ {P S H : Type 0} where
  abbrev Are : State P S H → Type 0
  Are s = AreThere s.control.threads

  there_set : (t : ℕ) (c : Change) (k : Control P S H) → AreThere k.threads → AreThere (sets t c k).threads
  unfolding sets
  there_set t c k there u = put_by (λ o. is_some o ≡ true → is_some (k.threads.progress u) ≡ true) k.threads.known t (option_map (changed c) (k.threads.known t)) u (λ here h. there u (ap (λ v. is_some (k.threads.known v)) here ∙ sym (changed_some c (k.threads.known t)) ∙ h)) (λ other h. there u h)

  there_goes : (t : ℕ) (g : Progress S → Progress S) (k : Control P S H) → AreThere k.threads → AreThere (goes_on t g k).threads
  unfolding goes_on
  there_goes t g k there u h = put_by (λ o. is_some o ≡ true) k.threads.progress t (option_map g (k.threads.progress t)) u (λ here. moved_some g (k.threads.progress t) ∙ ap (λ v. is_some (k.threads.progress v)) (sym here) ∙ there u h) (λ other. there u h)

  claims_threads : (t : ℕ) (e : Option ℤ) (k : Control P S H) → (claims t e k).threads ≡ k.threads
  unfolding claims
  claims_threads t None k = refl
  claims_threads t (Some e) k = refl

  back_threads : (e : Option ℤ) (k : Control P S H) → (gives_back e k).threads ≡ k.threads
  unfolding gives_back
  back_threads None k = refl
  back_threads (Some e) k = refl

  there_stops : (t : ℕ) (k : Control P S H) → AreThere k.threads → AreThere (stops_waiting t k).threads
  unfolding stops_waiting
  there_stops t k there =
      let j = is_blocked_by t None k in
      there_so j.threads (gives_back (ring_held (blocked_of k t)) j).threads (back_threads (ring_held (blocked_of k t)) j) (there_goes t (blocking None) k there)

  there_claimed : (t : ℕ) (e : Option ℤ) (k : Control P S H) → AreThere k.threads → AreThere (claims t e k).threads
  there_claimed t e k there = there_so k.threads (claims t e k).threads (claims_threads t e k) there

  there_kept : (f : P → Functions S H) → KeptAlong f Are
  unfolding makes put forgets vanish_all_but looks
  there_kept f = record {
    handlers = record { shared = λ h s r. r; seated = λ x s fewer r. r; told = λ m s may r. r };
    placed = λ standing entries raises trail s r. r;
    scheduled = λ x s r. r;
    timed = λ x s r. r;
    used = λ o s r. r;
    set = λ t c s safe life r. there_set t c s.control r;
    made = λ t b v a s next r. made_there _ s b v r;
    forgotten = λ t s gone r. forgotten_there t s r;
    vanished = λ t s free r. vanished_there t s r;
    added = λ s r. r;
    bound = λ t s r. r;
    renewed = λ n s r. r;
    valued = λ a v x s there inside r. r;
    destroyed = λ n s r. r;
    arranges = λ x s may r. r;
    looked = λ s r. looked_there s r;
    barred = λ x s fewer all r. r;
    reached = λ t b round s free alive there waits r. there_goes t _ _ r;
    goes = λ t g s same r. there_goes t g s.control r;
    blocked = λ t c a s free here other none may r. there_goes t _ _ (there_claimed t _ s.control r);
    waits_on = λ t a b s at names stays other plain r. there_goes t _ s.control r;
    stopped = λ t x y s fewer others seats left gone r. there_stops t _ r;
    takes_seat = λ t c m e s free alive there may r. there_goes t _ _ (there_claimed t _ _ r);
    retakes = λ t c m e a o y s fewer gone at r. there_goes t _ _ (there_stops t _ r);
  }
    where
      made_there : (of : NewThread) (s : State P S H) (b : ℕ) (v : ℤ) → Are s → Are (controlled (makes f b v of) s)
      made_there of s b v there u h = by_test (u == s.control.threads.made + 1) h
        where
          n : ℕ
          n = s.control.threads.made + 1

          by_test : (c : Bool) → is_some (if c then Some (made_of of n) else s.control.threads.known u) ≡ true → is_some (if c then Some (record { state = (f s.control.program).start b v; owed = answer.None; blocked = None }) else s.control.threads.progress u) ≡ true
          by_test true h = refl
          by_test false h = there u h

      forgotten_there : (t : ℕ) (s : State P S H) → Are s → Are (controlled (forgets t) s)
      forgotten_there t s there u h = by_test (u == t) h
        where
          by_test : (c : Bool) → is_some (if c then None else s.control.threads.known u) ≡ true → is_some (if c then None else s.control.threads.progress u) ≡ true
          by_test true h = absurd (true≢false (sym h))
          by_test false h = there u h

      vanished_there : (t : ℕ) (s : State P S H) → Are s → Are (controlled (vanish_all_but t) s)
      vanished_there t s there u h = by_test (u == t) h
        where
          by_test : (c : Bool) → is_some (if c then s.control.threads.known u else None) ≡ true → is_some (if c then s.control.threads.progress u else None) ≡ true
          by_test true h = there u h
          by_test false h = absurd (true≢false (sym h))

      looked_there : (s : State P S H) → Are s → Are (controlled (looks f s) s)
      looked_there s there = there

  there_start : (f : P → Functions S H) (g : Given P) → Are (start f g)
  unfolding start put
  there_start f g u h = by_test (u == main) h
    where
      by_test : (c : Bool) → is_some (if c then Some main_entry else None) ≡ true → is_some {T = Progress S} (if c then Some (record { state = (f g.program).start 0 (pos 0); owed = answer.None; blocked = None }) else None) ≡ true
      by_test true h = refl
      by_test false h = absurd (true≢false (sym h))

  pub run_there : (f : P → Functions S H) (g : Given P) (i : ℕ) → AreThere (run f g i).state.control.threads
  run_there f g i = run_keeps f Are (there_kept f) g (there_start f g) i
