-- Runs in which a descriptor is open from the start.
use Rattle.std.proofs.Common.{◌≡◌, ◌<◌, ◌≢◌, ℕ, ◌==◌, not, Bool, true, false, if◌then◌else◌, List, [], ◌∷◌, ◌++◌, map, Option, Some, None, refl, ap, ap₂, sym, ◌∙◌, subst, ◌||◌, true≢false, lt_trans}
use Rattle.std.proofs.lemmas.List.Elements.{All-head, All-tail}
use mathlib.Core.Path.{fun_ext}
use Rattle.pth_base.proofs.Tables.{put_other, not_same, same_means, same_fails}
use Rattle.pth_base.specs.Program.{Functions}
use Rattle.pth_base.specs.Table.{put}
use Rattle.pth_kernel.specs.Kernel.{Kernel, Descriptor, came_to}
use Rattle.pth_kernel.specs.Moments.{least_after}
use Rattle.pth_kernel.specs.declared.trace.Stamp.{Stamp}
use Rattle.pth_ring.specs.Rings.{Events}
use Rattle.pth_ring.specs.declared.event.Event.{Event}
use Rattle.pth_model.specs.declared.blocked.Blocked.{Blocked}
use Rattle.pth_model.specs.declared.progress.Progress.{Progress}
use Rattle.pth_model.specs.Changes.{sets, enters, raises_ready, moves_to, blocked_of, blocked_in}
use Rattle.pth_model.specs.Course.{Course}
use Rattle.pth_model.specs.Part.{Part, Move, Take, Step, Close, Halt, next_part, placed_by, is_placed, is_put_back, is_put_waiting, turn_ends}
use Rattle.pth_model.specs.Run.{run}
use Rattle.pth_model.specs.State.{Control, Given, now_of}
use Rattle.pth_agreement.specs.Agreement.{given_to}
use Rattle.pth_agreement.specs.Descriptors.{IsNoneOf, NeverNamesUpTo, named_by_call, asked_by_call, with_opened, AgreesWithOpened}
use Rattle.pth_agreement.proofs.Asked.{asked_by_wait, asked_by_event}
use Rattle.pth_agreement.proofs.Clear.{IsClear, blocked_asks, event_asks}
use Rattle.pth_agreement.proofs.ClearRuns.{NamesNot, run_clear}
use Rattle.pth_agreement.proofs.Waits.{asks_of}
use Rattle.pth_base.specs.declared.call.Call.{Call}
use Rattle.pth_base.specs.declared.call.Call.TheVariants as call
use Rattle.pth_agreement.proofs.Others.{Others, AllLeft}
use Rattle.pth_agreement.proofs.Placed.{Bare}
use Rattle.pth_agreement.proofs.Kernels.{ShowsSame, WaitLeft, EventLeft, AsksLeft}
use Rattle.pth_agreement.proofs.Passes.{moments_same}
use Rattle.pth_agreement.proofs.Parts.{CallLeftBy, PartSame, next_part_same}
use Rattle.pth_agreement.proofs.WholeRuns.{only_trace, bare_given, ends_kernel, gives_own, own, own_trace, run_same, run_bare}

-- an open descriptor
abbrev live : Descriptor → Descriptor
live x = record x { live = true }

-- two entries of a table, put in either order
put_both : (ds : ℕ → Descriptor) (d f : ℕ) (x y : Descriptor) → f ≢ d → put (put ds f x) d y ≡ put (put ds d y) f x
unfolding put
put_both ds d f x y apart = fun_ext (λ i. at i (i == d) (i == f) refl refl)
  where
    at : (i : ℕ) (b c : Bool) → (i == d) ≡ b → (i == f) ≡ c → (if b then y else (if c then x else ds i)) ≡ (if c then x else (if b then y else ds i))
    at i true true own others = absurd (apart (sym (same_means i f others) ∙ same_means i d own))
    at i true false own others = refl
    at i false c own others = refl

left_apart : (d f : ℕ) → not (f == d) ≡ true → f ≢ d
left_apart d f left = same_fails f d (not_true (f == d) left)
  where
    not_true : (b : Bool) → not b ≡ true → b ≡ false
    not_true true h = sym h
    not_true false h = refl

open_puts : (d : ℕ) (ds : ℕ → Descriptor) (f : ℕ) (x : Descriptor) → f ≢ d → put (put ds f x) d (live (put ds f x d)) ≡ put (put ds d (live (ds d))) f x
open_puts d ds f x apart = ap (λ y. put (put ds f x) d (live y)) (put_other ds f x d (λ same. apart (sym same))) ∙ put_both ds d f x (live (ds d)) apart

open_opens : (d : ℕ) (ds : ℕ → Descriptor) (f : ℕ) → put (put ds f (live (ds f))) d (live (put ds f (live (ds f)) d)) ≡ put (put ds d (live (ds d))) f (live (put ds d (live (ds d)) f))
open_opens d ds f = by_test (f == d) refl
  where
    by_test : (b : Bool) → (f == d) ≡ b → put (put ds f (live (ds f))) d (live (put ds f (live (ds f)) d)) ≡ put (put ds d (live (ds d))) f (live (put ds d (live (ds d)) f))
    by_test true same = subst (λ e. put (put ds f (live (ds f))) e (live (put ds f (live (ds f)) e)) ≡ put (put ds e (live (ds e))) f (live (put ds e (live (ds e)) f))) (same_means f d same) refl
    by_test false apart = open_puts d ds f (live (ds f)) (same_fails f d apart) ∙ ap (λ x. put (put ds d (live (ds d))) f (live x)) (sym (put_other ds d (live (ds d)) f (same_fails f d apart)))

-- the same trace, and descriptor d open
abbrev with_open : ℕ → List Stamp → Others
with_open d trace = record {
  trace = trace;
  descriptors = λ ds. put ds d (live (ds d));
  left = λ f. not (f == d);
  same_at = λ ds f left. put_other ds d (live (ds d)) f (left_apart d f left);
  puts = λ ds f x left. open_puts d ds f x (left_apart d f left);
  opens = λ ds f. open_opens d ds f;
}

unasked : (d : ℕ) (fs : List ℕ) → IsNoneOf d fs → asks_of d fs ≡ false
unasked d [] h = refl
unasked d (f ∷ fs) h = ap (λ b. b || asks_of d fs) (not_same f d (All-head (λ f. f ≢ d) f fs h)) ∙ unasked d fs (All-tail (λ f. f ≢ d) f fs h)

module _ (d : ℕ) (trace : List Stamp) where
  none_left : (fs : List ℕ) → IsNoneOf d fs → AllLeft (with_open d trace) fs
  none_left [] h = tt
  none_left (f ∷ fs) h = (ap not (not_same f d (All-head (λ f. f ≢ d) f fs h)), none_left fs (All-tail (λ f. f ≢ d) f fs h))

  not_or : (b c : Bool) → (b || c) ≡ false → (b ≡ false) × (c ≡ false)
  not_or true c h = absurd (true≢false h)
  not_or false c h = (refl, h)

  unasked_left : (fs : List ℕ) → asks_of d fs ≡ false → AllLeft (with_open d trace) fs
  unasked_left [] h = tt
  unasked_left (f ∷ fs) h = let both = not_or (f == d) (asks_of d fs) h in (ap not both.0, unasked_left fs both.1)

  wait_is_left : (o : Option Blocked) → blocked_asks d o ≡ false → WaitLeft (with_open d trace) o
  wait_is_left None h = tt
  wait_is_left (Some b) h = unasked_left (asked_by_wait b.awaits) h

  event_is_left : (o : Option Event) → event_asks d o ≡ false → EventLeft (with_open d trace) o
  event_is_left None h = tt
  event_is_left (Some x) h = unasked_left (asked_by_event x.spec) h

  asked_left : (c : Call) → AllLeft (with_open d trace) (named_by_call c) → AllLeft (with_open d trace) (asked_by_call c)
  asked_left (call.EvFd goals fd) h = tt
  asked_left (call.EvSelect r w x) h = tt
  asked_left (call.Chain e l) h = tt
  asked_left c h = h

  shows_open : (k : Kernel) → k.trace ≡ trace → ShowsSame (with_open d trace) k
  unfolding came_to
  shows_open k own = ap (λ (l : List Stamp). came_to (record k { trace = l })) (sym own)

-- a turn that is closed changes no wait and no event
put_asks : {P S H : Type 0} (t : ℕ) (r : Option ℕ) (b : Option Blocked) (k : Control P S H) → ((placed_by t r b k).threads.progress ≡ k.threads.progress) × ((placed_by t r b k).events ≡ k.events)
unfolding is_put_back is_put_waiting sets enters
put_asks t None b k = (refl, refl)
put_asks t (Some r) (Some b) k = (refl, refl)
put_asks t (Some r) None k = (refl, refl)

ends_asks : {P S H : Type 0} (t : ℕ) (k : Control P S H) → ((turn_ends t k).threads.progress ≡ k.threads.progress) × ((turn_ends t k).events ≡ k.events)
unfolding is_placed raises_ready
ends_asks t k = put_asks t k.scheduler.running (blocked_of k t) (raises_ready k)

module _ {P S H : Type 0} (f : P → Functions S H) (g : Given P) (d : ℕ) where
  abbrev trace : List Stamp
  trace = g.kernel.trace

  abbrev other : Others
  other = with_open d trace

  abbrev bare : Unit {0} → Functions S H
  bare = own f g.program

  -- what is asked for, by what blocks the thread and how far it is
  abbrev AsksOther : (o : Option (Progress S)) → H → Type 0
  AsksOther o shared = (p : Progress S) → o ≡ Some p → p.blocked ≡ None → IsNoneOf d (named_by_call ((f g.program).step p.state shared p.owed).call)

  call_left : (o : Option (Progress S)) (shared : H) → AsksOther o shared → CallLeftBy g.program other f (f g.program).step (blocked_in o) o shared
  call_left None shared h = tt
  call_left (Some p) shared h = by_call p.blocked refl
    where
      by_call : (b : Option Blocked) → p.blocked ≡ b → CallLeftBy g.program other f (f g.program).step b (Some p) shared
      by_call None free = let c = ((f g.program).step p.state shared p.owed).call in asked_left d trace c (none_left d trace (named_by_call c) (h p refl free))
      by_call (Some b) blocked = tt

  names_not : (t : ℕ) (o : Option (Progress S)) (shared : H) → AsksOther o shared → NamesNot d bare t (blocked_in o) o (f g.program) shared
  names_not t None shared h = tt
  names_not t (Some p) shared h = by_call p.blocked refl
    where
      by_call : (b : Option Blocked) → p.blocked ≡ b → NamesNot d bare t b (Some p) (f g.program) shared
      by_call None free = unasked d (named_by_call ((f g.program).step p.state shared p.owed).call) (h p refl free)
      by_call (Some b) blocked = tt

  module _ (c : Course (Unit {0}) S H) (kept : c.state.control.kernel.trace ≡ trace) (clear : IsClear d c.state) (asks : (t : ℕ) → next_part c.state c.turn ≡ Step t → AsksOther (c.state.control.threads.progress t) c.state.control.shared) where
    abbrev s : Bare S H
    s = c.state

    asks_now : (k : Control (Unit {0}) S H) → k.kernel.trace ≡ trace → k.threads.progress ≡ s.control.threads.progress → k.events ≡ s.control.events → AsksLeft other k
    asks_now k own progress events = record {
      shows = shows_open d trace k.kernel own;
      waits = λ t. wait_is_left d trace (blocked_of k t) (ap (λ (x : ℕ → Option (Progress S)). blocked_asks d (blocked_in (x t))) progress ∙ clear.0 t);
      events = λ e. event_is_left d trace (k.events.events e) (ap (λ (y : Events). event_asks d (y.events e)) events ∙ clear.1 e);
    }

    part_asked : (a : Part) → next_part s c.turn ≡ a → PartSame g.program other f (f g.program).step s a
    part_asked Move next = (
      ap₂ (λ (l : List Stamp) ms. least_after (now_of s.control) (map (λ (x : Stamp). x.at) l ++ ms)) (sym kept) (moments_same g.program other f (f g.program).step s),
      λ m leads. asks_now (moves_to m s.control) kept refl refl,
    )
    part_asked Take next = tt
    part_asked (Step t) next = (
      asks_now s.control kept refl refl,
      gives_own (f g.program) (blocked_of s.control t) (s.control.threads.progress t) s.control.shared,
      call_left (s.control.threads.progress t) s.control.shared (asks t next),
    )
    part_asked (Close t) next = let same = ends_asks t s.control in asks_now (turn_ends t s.control) (ap (λ (k : Kernel). k.trace) (ends_kernel t s) ∙ kept) same.0 same.1
    part_asked Halt next = tt

  -- what is asked for in the run, and in the run without its program
  asks_bare : (i : ℕ) → NeverNamesUpTo d f g i → (j t : ℕ) → j < i → let c = run bare (bare_given g) j in next_part c.state c.turn ≡ Step t → AsksOther (c.state.control.threads.progress t) c.state.control.shared
  asks_bare i never j t before next p at free =
      let c = run bare (bare_given g) j in
      let same = run_bare f g j in
      subst (λ (e : Course P S H). IsNoneOf d (named_by_call (given_to (f g.program) p e).call)) same (never j t p before (record {
        steps = ap (λ (e : Course P S H). next_part e.state e.turn) same ∙ next_part_same g.program (only_trace trace) c.state c.turn ∙ next;
        is_so_far = ap (λ (e : Course P S H). e.state.control.threads.progress t) same ∙ at;
        unblocked = free;
      }))

  pub opened_agree : (i : ℕ) → NeverNamesUpTo d f g i → AgreesWithOpened f g d i
  opened_agree i never =
      run_same g.program other f (f g.program).step (bare_given g) i (λ j before.
      let c = run bare (bare_given g) j in
      let clear = run_clear d bare (bare_given g) j (λ k t earlier next. let e = run bare (bare_given g) k in names_not t (e.state.control.threads.progress t) e.state.control.shared (asks_bare i never k t (lt_trans earlier before) next)) in
      part_asked c (own_trace bare (bare_given g) j) clear (λ t next. asks_bare i never j t before next) (next_part c.state c.turn) refl)
      ∙ sym (ap (with_opened d) (run_bare f g i))
