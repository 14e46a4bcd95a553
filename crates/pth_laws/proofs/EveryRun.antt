-- Every run is lawful, and its states fit its marks.
use Rattle.std.proofs.Common.{◌≡◌, ◌≢◌, ℕ, zero, suc, ◌≤◌, ◌&&◌, ◌||◌, not, Bool, true, false, ℤ, pos, negsuc, List, [], ◌∷◌, ◌++◌, All, Option, Some, None, is_some, option_map, refl, sym, ◌∙◌, ◌⊎◌, inl, inr, ap, ap₂, subst, arith, append-nil}
use Rattle.pth_model.specs.Awaits.{is_canceled_in}
use Rattle.std.specs.List.{list_any}
use Rattle.std.proofs.lemmas.List.Elements.{All-nil, All-cons, All-append, All-weaker}
use Rattle.std.proofs.lemmas.Bool.Decides.{nat_tests}
use Rattle.std.proofs.lemmas.Bool.{true≢false, and_parts, not-true}
use Rattle.std.proofs.lemmas.Option.{none-some}
use Rattle.pth_base.specs.Program.{Functions}
use Rattle.pth_base.specs.Table.{put}
use Rattle.pth_base.specs.declared.answer.Answer.{Answer}
use Rattle.pth_base.specs.declared.mark.Mark.{Mark}
use Rattle.pth_base.specs.declared.outcome.Outcome.{Outcome}
use Rattle.pth_base.specs.declared.outcome.Outcome.TheVariants as outcome
use Rattle.pth_base.proofs.Tables.{put_by, same_means}
use Rattle.pth_lock.specs.Mutexes.{Mutex, has, levels_of}
use Rattle.pth_lock.specs.RwLocks.{is_one}
use Rattle.pth_queue.specs.declared.queue.Queue.{Queue}
use Rattle.pth_queue.specs.declared.queue.Queue.TheVariants.{New, Ready, Waiting, Suspended, Dead}
use Rattle.pth_cond.specs.declared.seats.Seat.TheVariants.{Await}
use Rattle.pth_cond.specs.Conditions.{has_seat}
use Rattle.pth_lock.specs.Objects.{object_named}
use Rattle.pth_ring.specs.Rings.{is_claimed}
use Rattle.pth_model.specs.EventSeats.{event_seat, condition_in}
use Rattle.pth_model.specs.Transition.{tid}
use Rattle.pth_model.specs.Standing.{Standing, is_queue, raises_of}
use Rattle.pth_model.specs.State.{State, Control, Given, Turn, start, no_turn, main, main_entry, main_standing}
use Rattle.pth_model.specs.Course.{Course, followed}
use Rattle.pth_model.specs.declared.next.Next.{Next}
use Rattle.pth_model.specs.declared.next.Next.TheVariants.{Done}
use Rattle.pth_model.specs.declared.next.Next.TheVariants as next
use Rattle.pth_model.specs.declared.progress.Progress.{Progress}
use Rattle.pth_model.specs.Changes.{blocked_in, blocked_of}
use Rattle.pth_model.specs.Living.{lives, is_made}
use Rattle.pth_model.specs.Part.{Step, Close, part, part_by, next_part, next_part_by, unless_ended, is_idle, steps_on}
use Rattle.pth_model.specs.Store.{Resources, HasNothing}
use Rattle.pth_model.specs.Run.{parts, run}
use Rattle.pth_model.proofs.Once.{shown-all}
use Rattle.pth_laws.proofs.Book.{Book, empty_book, after, book_of, is_kill}
use Rattle.pth_laws.specs.Clean.{IsClean, round_held, has_arrived, condition_held}
use Rattle.pth_laws.proofs.Laws.{EachMark, IsLawful, IsExclusiveMark}
use Rattle.pth_laws.specs.Marks.{thread_of}
use Rattle.pth_laws.specs.Marks.{at_number}
use Rattle.pth_laws.specs.Orderly.{Orderly, key_at}
use Rattle.pth_laws.specs.Exclusive.{Exclusive}
use Rattle.pth_laws.specs.Initialised.{Initialised}
use Rattle.pth_laws.specs.InOrder.{InOrder, mail}
use Rattle.pth_laws.specs.InTime.{InTime}
use Rattle.pth_laws.specs.Tied.{IsTiedTo}
use Rattle.pth_laws.specs.Valid.{Lives, IsValid, IsOver}
use Rattle.pth_laws.proofs.Living.{queue_to_run, IsToRun, NamesToRun, running_not_to_run, over_not_to_run, living-over, made_more, runs_alive}
use Rattle.pth_laws.proofs.Going.{Going, IsSound, going_sound}
use Rattle.pth_laws.proofs.Awaits.{Tells, flags}
use Rattle.pth_laws.proofs.Locked.{Locked, has_some, locked_none, locked_along}
use Rattle.pth_laws.proofs.Walk.{Walk, IsOfMade, IsLawfulOf, each_lawful, each_in_time, each-weaker, each-append, book-append}
use Rattle.pth_laws.proofs.Parts.{IsSettled, PartWalk, part_walk, step_goes}
use Rattle.pth_laws.proofs.Steps.{AfterStep}
use Rattle.pth_laws.proofs.Leftovers.{each_empty, unmarked_nothing}
use Rattle.pth_laws.proofs.KeyMarks.{KeysFit, keys_fit_none, keys_fit_along}
use Rattle.pth_laws.proofs.MailMarks.{MailFits, ports_as, mail_told, lawful_in_order}
use Rattle.pth_laws.proofs.OrderlyMarks.{lawful_orderly, unkilled, ended_told, canceled_is, pending_are, closed_along}
use Rattle.pth_laws.proofs.Shares.{not_had}
use Rattle.pth_laws.proofs.ExclusiveMarks.{Fits, fits_none, fits_along, levels_are, reads_are, writes_are, lawful_exclusive, lawful_initialised}

abbrev IsKilled : Outcome → Type 0
IsKilled o = o ≡ outcome.Killed

-- the marks of a run so far: they are lawful, and unless it was killed its state fits them
pub record IsLawfulRun {P S H : Type 0} (c : Course P S H) : Type 0 where
  pub law : EachMark IsLawful empty_book c.marks
  pub made : (IsKilled c.turn.outcome → ⊥) → All (λ m. IsOfMade c.state.control.threads.made (thread_of m)) c.marks
  pub settled : (IsKilled c.turn.outcome → ⊥) → IsSettled c.state.control.threads.made (book_of empty_book c.marks) c.state c.turn

each_made : (n : ℕ) (b : Book) (ms : List Mark) → EachMark (IsLawfulOf n) b ms → All (λ m. IsOfMade n (thread_of m)) ms
each_made n b [] law = All-nil (λ m. IsOfMade n (thread_of m))
each_made n b (m ∷ ms) law = All-cons (λ x. IsOfMade n (thread_of x)) m ms law.0.1 (each_made n (after b m) ms law.1)

of_more : (n k : ℕ) (o : Option ℕ) → n ≤ k → IsOfMade n o → IsOfMade k o
of_more n k None le h = tt
of_more n k (Some t) le h = made_more n k t le h

-- ---- the start

alone_lives : (t : ℕ) → t ≡ main → lives (put (λ (u : ℕ). None) main (Some main_entry) t) ≡ true
unfolding put
alone_lives t same = rw same refl

main_over : (t : ℕ) → false ≡ (is_made 1 t && not (lives (put (λ u. None) main (Some main_entry) t)))
main_over t = put_by (λ o. false ≡ (is_made 1 t && not (lives o))) (λ u. None) main (Some main_entry) t (λ here. rw here refl) (λ other. unmade t other)
  where
    unmade : (t : ℕ) → t ≢ main → false ≡ (is_made 1 t && true)
    unmade zero other = refl
    unmade (suc zero) other = absurd (other refl)
    unmade (suc (suc t)) other = grind (arith, nat_tests)

main_known : (t : ℕ) → is_some (put (λ u. None) main (Some main_entry) t) ≡ true → is_made 1 t ≡ true
main_known t = put_by (λ o. is_some o ≡ true → is_made 1 t ≡ true) (λ u. None) main (Some main_entry) t (λ here h. rw here refl) (λ other h. absurd (true≢false (sym h)))

main_stands : (q : Queue) → is_queue q Dead ≡ false → All (λ (z : Standing). lives (put (λ u. None) main (Some main_entry) z.tid) ≡ true) (main_standing q)
main_stands Ready living = All-cons (λ (z : Standing). lives (put (λ u. None) main (Some main_entry) z.tid) ≡ true) (record { tid = main; rank = pos 0; since = 0; entry = 0; top = false }) [] (alone_lives main refl) (All-nil (λ (z : Standing). lives (put (λ u. None) main (Some main_entry) z.tid) ≡ true))
main_stands New living = All-nil (λ (z : Standing). lives (put (λ u. None) main (Some main_entry) z.tid) ≡ true)
main_stands Waiting living = All-nil (λ (z : Standing). lives (put (λ u. None) main (Some main_entry) z.tid) ≡ true)
main_stands Suspended living = All-nil (λ (z : Standing). lives (put (λ u. None) main (Some main_entry) z.tid) ≡ true)
main_stands Dead living = absurd (true≢false living)

-- nothing blocks a thread, and nothing is told of it
nothing_told : (t : ℕ) → Tells (flags empty_book (λ u. false)) t None
nothing_told t = record { fits = refl; uncanceled = λ up. refl; retakes = λ e. absurd (true≢false (sym e)) }

-- ---- every run

not_killed : IsKilled outcome.Running → ⊥
not_killed h = cc

-- the part that comes next is a step of t
step_next : (o : Outcome) (gave r : Option ℕ) (idle : Bool) (t : ℕ) → unless_ended o (next_part_by gave r idle) ≡ Step t → (o ≡ outcome.Running) × (gave ≡ None) × (r ≡ Some t)
step_next outcome.Running (Some u) r idle t h = absurd (cc h)
step_next outcome.Running None (Some u) idle t h = let same : u ≡ t = cc in (refl, refl, ap Some same)
step_next outcome.Running None None true t h = absurd (cc h)
step_next outcome.Running None None false t h = absurd (cc h)
step_next o gave r idle t h = absurd (cc h)

-- t closes its turn
close_next : (o : Outcome) (gave r : Option ℕ) (idle : Bool) (t : ℕ) → unless_ended o (next_part_by gave r idle) ≡ Close t → (o ≡ outcome.Running) × (gave ≡ Some t)
close_next outcome.Running (Some u) r idle t h = let same : u ≡ t = cc in (refl, ap Some same)
close_next outcome.Running None (Some u) idle t h = absurd (cc h)
close_next outcome.Running None None true t h = absurd (cc h)
close_next outcome.Running None None false t h = absurd (cc h)
close_next o gave r idle t h = absurd (cc h)

module _ {P S H : Type 0} (f : P → Functions S H) where
  start_settled : (g : Given P) → IsSettled 1 empty_book (start f g) no_turn
  unfolding start
  start_settled g = record {
    resources = refl;
    closed = refl;
    living = record { grown = omega arith; numbered = main_known; over = main_over; stands = main_stands; dead = All-nil (λ (z : Standing). false ≡ true) };
    claims = λ e t h. absurd (none-some t h);
    awaits = λ t. (put_by (λ (o : Option (Progress S)). Tells (flags empty_book (λ u. false)) t (blocked_in o)) (λ u. None) main _ t (λ here. nothing_told t) (λ other. nothing_told t), (λ awaiting. absurd (true≢false (sym awaiting))));
    runs = λ t h. absurd (none-some t h);
    gave = λ t g. absurd (none-some t g);
    preferred = λ t h. absurd (none-some t h);
    unnamed = λ t h g. refl;
  }

  -- n threads were made, and now there are more
  rebased : (b : Book) (s : State P S H) (x : Turn) (n : ℕ) → IsSettled n b s x → IsSettled s.control.threads.made b s x
  rebased b s x n z = record {
    resources = z.resources;
    closed = z.closed;
    living = record { grown = omega arith; numbered = z.living.numbered; over = z.living.over; stands = z.living.stands; dead = z.living.dead };
    claims = z.claims;
    awaits = z.awaits;
    runs = z.runs;
    gave = z.gave;
    preferred = z.preferred;
    unnamed = z.unnamed;
  }

  -- a run that was killed goes no further
  killed_halts : (c : Course P S H) → IsKilled c.turn.outcome → ((part f c.turn c.state).marks ≡ []) × IsKilled (part f c.turn c.state).turn.outcome
  unfolding part next_part
  killed_halts c killed = by_outcome c.turn.outcome refl killed
    where
      by_outcome : (o : Outcome) → c.turn.outcome ≡ o → IsKilled o → ((part_by f c.turn c.state (unless_ended o (next_part_by c.turn.gave c.state.control.scheduler.running (is_idle c.state.control)))).marks ≡ []) × IsKilled (part_by f c.turn c.state (unless_ended o (next_part_by c.turn.gave c.state.control.scheduler.running (is_idle c.state.control)))).turn.outcome
      by_outcome outcome.Running same k = absurd (cc k)
      by_outcome o same k = (refl, killed)

  goes_on_killed : (c : Course P S H) → IsKilled c.turn.outcome → IsLawfulRun c → IsLawfulRun (followed c (part f c.turn c.state))
  goes_on_killed c killed l =
      let h = killed_halts c killed in
      record {
        law = subst (λ ms. EachMark IsLawful empty_book (c.marks ++ ms)) (sym h.0) (subst (EachMark IsLawful empty_book) (sym (append-nil c.marks)) l.law);
        made = λ on. absurd (on h.1);
        settled = λ on. absurd (on h.1);
      }

  locked_so_far : (c : Course P S H) → IsLawfulRun c → Locked (book_of empty_book c.marks).resources
  locked_so_far c l = locked_along empty_book c.marks (each-weaker IsLawful IsExclusiveMark (λ d m h. h.1) empty_book c.marks l.law) locked_none

  goes_on_settled : (c : Course P S H) → (IsKilled c.turn.outcome → ⊥) → IsLawfulRun c → IsLawfulRun (followed c (part f c.turn c.state))
  goes_on_settled c on l =
      let n = c.state.control.threads.made in
      let b = book_of empty_book c.marks in
      let next = part f c.turn c.state in
      let w : PartWalk n b next = part_walk n f c.turn b c.state refl (l.settled on) in
      let law : EachMark (IsLawfulOf n) b next.marks = each_lawful n b next.marks (locked_so_far c l) w.law in
      record {
        law = each-append IsLawful empty_book c.marks next.marks l.law (each-weaker (IsLawfulOf n) IsLawful (λ d m h. h.0) b next.marks law);
        made = λ still.
            let grown = (w.post still).living.grown in
            let more : (m : Mark) → IsOfMade n (thread_of m) → IsOfMade next.state.control.threads.made (thread_of m) = λ m h. of_more n next.state.control.threads.made (thread_of m) grown h in
            All-append (λ m. IsOfMade next.state.control.threads.made (thread_of m)) c.marks next.marks
            (All-weaker (λ m. IsOfMade n (thread_of m)) (λ m. IsOfMade next.state.control.threads.made (thread_of m)) more c.marks (l.made on))
            (All-weaker (λ m. IsOfMade n (thread_of m)) (λ m. IsOfMade next.state.control.threads.made (thread_of m)) more next.marks (each_made n b next.marks law));
        settled = λ still. subst (λ (d : Book). IsSettled next.state.control.threads.made d next.state next.turn) (sym (book-append empty_book c.marks next.marks)) (rebased (book_of b next.marks) next.state next.turn n (w.post still));
      }

  goes_on_by : (o : Outcome) (c : Course P S H) → c.turn.outcome ≡ o → IsLawfulRun c → IsLawfulRun (followed c (part f c.turn c.state))
  goes_on_by outcome.Killed c same l = goes_on_killed c same l
  goes_on_by o c same l = goes_on_settled c (λ killed. not_killed (sym same ∙ killed)) l
    where
      not_killed : IsKilled o → ⊥
      not_killed h = cc

  run_lawful : (g : Given P) (i : ℕ) → IsLawfulRun (run f g i)
  unfolding parts
  run_lawful g zero = record { law = tt; made = λ on. All-nil (λ m. IsOfMade (start f g).control.threads.made (thread_of m)); settled = λ on. rebased empty_book (start f g) no_turn 1 (start_settled g) }
  run_lawful g (suc i) = goes_on_by (run f g i).turn.outcome (run f g i) refl (run_lawful g i)

  -- who makes a step runs, and has not given up control
  stepping : (g : Given P) (i t : ℕ) → next_part (run f g i).state (run f g i).turn ≡ Step t → let c = run f g i in IsSettled c.state.control.threads.made (book_of empty_book c.marks) c.state c.turn × (c.turn.gave ≡ None) × (c.state.control.scheduler.running ≡ Some t)
  unfolding next_part
  stepping g i t next =
      let c = run f g i in
      let x = step_next c.turn.outcome c.turn.gave c.state.control.scheduler.running (is_idle c.state.control) t next in
      ((run_lawful g i).settled (λ killed. not_killed (sym x.0 ∙ killed)), x.1, x.2)

  -- it is sound
  pub run_sound : (g : Given P) (i t : ℕ) → next_part (run f g i).state (run f g i).turn ≡ Step t → IsSound t (run f g i).state.control
  run_sound g i t next =
      let c = run f g i in
      let n = c.state.control.threads.made in
      let ended = (book_of empty_book c.marks).ended in
      let x = stepping g i t next in
      let z = x.0 in
      let going : Going n ended t c.state.control = record { living = z.living; runs = z.runs t x.2; running = x.2; preferred = z.unnamed t x.2 x.1 } in
      going_sound n ended t c.state.control going (z.awaits t).0.retakes

  -- what its step tells, and leaves
  step_walked : (g : Given P) (i t : ℕ) → next_part (run f g i).state (run f g i).turn ≡ Step t → let c = run f g i in let n = c.state.control.threads.made in Walk n (book_of empty_book c.marks) (AfterStep n t (steps_on f t c.state).next) (steps_on f t c.state).told
  step_walked g i t step =
      let c = run f g i in
      let x = stepping g i t step in
      step_goes c.state.control.threads.made f c.turn t (book_of empty_book c.marks) c.state x.1 x.2 refl x.0

  -- its step tells no dispatch, and if it goes on it still runs
  pub run_steps : (g : Given P) (i t : ℕ) → next_part (run f g i).state (run f g i).turn ≡ Step t → let w = steps_on f t (run f g i).state in InTime w.told.marks × ((a : Answer) → w.next ≡ Done a → w.told.state.control.scheduler.running ≡ Some t)
  run_steps g i t step =
      let c = run f g i in
      let n = c.state.control.threads.made in
      let b = book_of empty_book c.marks in
      let u = (steps_on f t c.state).told in
      let w = step_walked g i t step in
      (each_in_time n b u.marks (locked_so_far c (run_lawful g i)) w.law, λ a goes. (subst (λ y. AfterStep n t y (book_of b u.marks) u.state) goes w.post).left.0)

  -- unless it kills the run, who is named afterwards waits to run, and it does not
  pub run_names : (g : Given P) (i t : ℕ) → next_part (run f g i).state (run f g i).turn ≡ Step t → let w = steps_on f t (run f g i).state in (w.next ≡ next.Killed → ⊥) → NamesToRun t w.told.state.control
  run_names g i t step on = by_next (steps_on f t c.state).next on (step_walked g i t step).post
    where
      c : Course P S H
      c = run f g i

      n : ℕ
      n = c.state.control.threads.made

      u : State P S H
      u = (steps_on f t c.state).told.state

      b : Book
      b = book_of (book_of empty_book c.marks) (steps_on f t c.state).told.marks

      nobody_named : u.control.scheduler.preferred ≡ None → (v : ℕ) → u.control.scheduler.preferred ≡ Some v → IsToRun (u.control.threads.known v)
      nobody_named none v named = absurd (none-some v (sym none ∙ named))

      by_next : (y : Next) → (y ≡ next.Killed → ⊥) → AfterStep n t y b u → NamesToRun t u.control
      by_next (next.Done a) on h = (running_not_to_run (u.control.threads.known t) h.left.1, nobody_named h.left.2)
      by_next (next.Yields a) on h = (running_not_to_run (u.control.threads.known t) h.left.1, h.left.2)
      by_next next.Blocks on h = (running_not_to_run (u.control.threads.known t) h.left.1, nobody_named h.left.2)
      by_next (next.Ended v) on h = (over_not_to_run (u.control.threads.known t) (living-over n b.ended u.control.threads.made u.control.threads.known u.control.threads.standing h.living t h.gone), nobody_named h.left.1)
      by_next next.Killed on h = absurd (on refl)

  -- who gave up control and still runs does not wait to run
  pub run_closes : (g : Given P) (i t : ℕ) → next_part (run f g i).state (run f g i).turn ≡ Close t → let k = (run f g i).state.control in (u : ℕ) → k.scheduler.running ≡ Some u → queue_to_run (k.threads.known t) ≡ None
  unfolding next_part
  run_closes g i t close u running = running_not_to_run (k.threads.known t) (z.runs t (by_gave (z.gave t x.1)))
    where
      c : Course P S H
      c = run f g i

      k : Control P S H
      k = c.state.control

      x : (c.turn.outcome ≡ outcome.Running) × (c.turn.gave ≡ Some t)
      x = close_next c.turn.outcome c.turn.gave k.scheduler.running (is_idle k) t close

      z : IsSettled k.threads.made (book_of empty_book c.marks) c.state c.turn
      z = (run_lawful g i).settled (λ killed. not_killed (sym x.0 ∙ killed))

      by_gave : (k.scheduler.running ≡ Some t) ⊎ ((k.scheduler.running ≡ None) × ((book_of empty_book c.marks).ended t ≡ true)) → k.scheduler.running ≡ Some t
      by_gave (inl runs) = runs
      by_gave (inr rests) = absurd (none-some u (sym rests.0 ∙ running))

  -- ---- what is told of every run

  pub run_orderly : (g : Given P) (i : ℕ) → Orderly (run f g i).marks
  run_orderly g i = lawful_orderly (run f g i).marks (run_lawful g i).law

  pub run_exclusive : (g : Given P) (i : ℕ) → Exclusive (run f g i).marks
  run_exclusive g i = lawful_exclusive (run f g i).marks (run_lawful g i).law

  pub run_initialised : (g : Given P) (i : ℕ) → Initialised (run f g i).marks
  run_initialised g i = lawful_initialised (run f g i).marks (run_lawful g i).law

  pub run_in_order : (g : Given P) (i : ℕ) → InOrder (run f g i).marks
  run_in_order g i = lawful_in_order (run f g i).marks (run_lawful g i).law

  -- ---- of a run that was not killed

  nobody_killed : (g : Given P) (i : ℕ) → (IsKilled (run f g i).turn.outcome → ⊥) → list_any is_kill (run f g i).marks ≡ false
  nobody_killed g i on = unkilled (run f g i).marks 0 (((run_lawful g i).settled on).living.over 0)

  unmade : (g : Given P) (i : ℕ) → (IsKilled (run f g i).turn.outcome → ⊥) → (t : ℕ) → is_made (run f g i).state.control.threads.made t ≡ false → All (λ m. thread_of m ≢ Some t) (run f g i).marks
  unmade g i on t none =
      let c = run f g i in
      let n = c.state.control.threads.made in
      All-weaker (λ m. IsOfMade n (thread_of m)) (λ m. thread_of m ≢ Some t) (λ m h same. true≢false (sym (subst (IsOfMade n) same h) ∙ none)) c.marks ((run_lawful g i).made on)

  pub run_valid : (g : Given P) (i : ℕ) → (IsKilled (run f g i).turn.outcome → ⊥) → IsValid (run f g i).state (run f g i).turn
  run_valid g i on =
      let c = run f g i in
      let l = run_lawful g i in
      let z = l.settled on in
      let k = c.state.control in
      record {
        made = z.living.numbered;
        stands = λ q living. shown-all (Lives c.state) (raises_of k.threads.raises q) (k.threads.standing q) (z.living.stands q living);
        runs = λ t h. runs_alive (k.threads.known t) (z.runs t h);
        preferred = z.preferred;
        gave = λ t g. by_gave t (z.gave t g);
        unnamed = z.unnamed;
        awaits = λ t. (z.awaits t).0.fits;
        empty = λ t over. subst (λ r. HasNothing r.store t) z.resources (each_empty empty_book c.marks l.law (nobody_killed g i on) (λ u h. absurd (true≢false (sym h))) t (z.living.over t ∙ rw (over.made, over.gone) refl));
      }
    where
      by_gave : (t : ℕ) → ((run f g i).state.control.scheduler.running ≡ Some t) ⊎ (((run f g i).state.control.scheduler.running ≡ None) × ((book_of empty_book (run f g i).marks).ended t ≡ true)) → ((run f g i).state.control.scheduler.running ≡ Some t) ⊎ IsOver (run f g i).state t
      by_gave t (inl runs) = inl runs
      by_gave t (inr rests) =
          let k = (run f g i).state.control in
          let living = ((run_lawful g i).settled on).living in
          let over = and_parts (is_made k.threads.made t) (not (lives (k.threads.known t))) (sym (living.over t) ∙ rests.1) in
          inr (record { made = over.0; gone = not-true (lives (k.threads.known t)) over.1 })

  -- who does not live has nothing: it is over, or was not made
  nothing_left : (g : Given P) (i : ℕ) → (IsKilled (run f g i).turn.outcome → ⊥) → (t : ℕ) → lives ((run f g i).state.control.threads.known t) ≡ false → HasNothing (run f g i).state.resources.store t
  nothing_left g i on t gone = by_made (is_made (run f g i).state.control.threads.made t) refl
    where
      by_made : (b : Bool) → is_made (run f g i).state.control.threads.made t ≡ b → HasNothing (run f g i).state.resources.store t
      by_made true made = (run_valid g i on).empty t (record { made = made; gone = gone })
      by_made false none =
          subst (λ (r : Resources). HasNothing r.store t) ((run_lawful g i).settled on).resources (unmarked_nothing t empty_book (run f g i).marks (unmade g i on t none) (record { cleanups = refl; values = λ k. refl; mutexes = λ m. refl; locks = λ l. refl }))

  -- who has a mutex is one thread
  same_owner : (t u : ℕ) (z : Mutex) → has t z ≡ true → has u z ≡ true → t ≡ u
  same_owner t u None a b = absurd (true≢false (sym a))
  same_owner t u (Some None) a b = absurd (true≢false (sym a))
  same_owner t u (Some (Some o)) a b = sym (same_means o.owner t a) ∙ same_means o.owner u b

  writes_some : (t : ℕ) (w : Option ℕ) → is_one t w ≡ true → is_some w ≡ true
  writes_some t None h = absurd (true≢false (sym h))
  writes_some t (Some v) h = refl

  module _ (g : Given P) (i : ℕ) (on : IsKilled (run f g i).turn.outcome → ⊥) where
    abbrev marks : List Mark
    marks = (run f g i).marks

    abbrev s : State P S H
    s = (run f g i).state

    abbrev book : Book
    book = book_of empty_book marks

    settled : IsSettled s.control.threads.made book s (run f g i).turn
    settled = (run_lawful g i).settled on

    same : book.resources ≡ s.resources
    same = settled.resources

    none : list_any is_kill marks ≡ false
    none = nobody_killed g i on

    fit : Fits s.resources marks
    fit = subst (λ (k : Resources). Fits k marks) same (fits_along empty_book [] marks none (run_lawful g i).law fits_none)

    mail_fit : MailFits s.resources.store.mail (mail marks)
    mail_fit = subst (λ (k : Resources). MailFits k.store.mail (mail marks)) same (mail_told marks (run_lawful g i).law)

    fit_keys : (t : ℕ) → KeysFit t s.resources.store.keys marks
    fit_keys t = subst (λ (k : Resources). KeysFit t k.store.keys marks) same (keys_fit_along t empty_book [] marks none (run_lawful g i).law (keys_fit_none t))

    keys_in : (key : ℤ) → key_at key marks ≡ at_number None s.resources.store.keys.keys key
    keys_in (pos key) = (fit_keys 0).keys key
    keys_in (negsuc key) = (fit_keys 0).low key

    no_level : (t : ℕ) → HasNothing s.resources.store t → (m : ℤ) → levels_of t (at_number None s.resources.store.mutexes m) ≡ 0
    no_level t nothing (pos m) = not_had t (s.resources.store.mutexes m) (nothing.mutexes m)
    no_level t nothing (negsuc m) = refl

    no_hold : (t : ℕ) → HasNothing s.resources.store t → (l : ℤ) → (is_one t (at_number None s.resources.store.rw_locks.writer l) || at_number false (λ k. s.resources.store.rw_locks.reads k t) l) ≡ false
    no_hold t nothing (pos l) = nothing.locks l
    no_hold t nothing (negsuc l) = refl

    uncanceled : (t : ℕ) → Lives s t → book.canceled t ≡ is_canceled_in (blocked_of s.control t)
    uncanceled t alive = (settled.awaits t).0.uncanceled (settled.living.over t ∙ (ap (λ b. is_made s.control.threads.made t && not b) alive ∙ and_false (is_made s.control.threads.made t)))
      where
        and_false : (b : Bool) → (b && false) ≡ false
        and_false true = refl
        and_false false = refl

    pub run_tied : IsTiedTo s marks
    run_tied = record {
      unmade = unmade g i on;
      ended = λ t there. sym (ended_told marks t none) ∙ (settled.living.over t ∙ ap (λ b. b && not (lives (s.control.threads.known t))) there);
      canceled = λ t alive. sym (canceled_is marks t) ∙ uncanceled t alive;
      closed = λ t. closed_along t empty_book marks settled.closed;
      cleanups = λ t. sym (pending_are marks none t) ∙ ap (λ (k : Resources). k.store.cleanups t) same;
      keys = keys_in;
      values = λ t. (fit_keys t).values;
      mutexes = levels_are s.resources marks fit;
      readers = reads_are s.resources marks fit;
      writers = writes_are s.resources marks fit;
      ports = ports_as s.resources.store.mail (mail marks) mail_fit;
      held = mail_fit.kept;
      put = mail_fit.made;
      awaiting = λ t. fit.awaiting t ∙ (settled.awaits t).0.fits;
      gone_has_no_level = λ t m gone. levels_are s.resources marks fit t m ∙ no_level t (nothing_left g i on t gone) m;
      gone_holds_no_lock = λ t l gone. ap₂ (λ (x y : Bool). x || y) (writes_are s.resources marks fit t l) (reads_are s.resources marks fit t l) ∙ no_hold t (nothing_left g i on t gone) l;
      one_owner = λ t u m. same_owner t u (s.resources.store.mutexes m);
      one_hold = λ t u l writing. fit.sound.alone l (writes_some t (s.resources.store.rw_locks.writer l) writing) u;
    }

  pub run_clean : (g : Given P) (i : ℕ) → (IsKilled (run f g i).turn.outcome → ⊥) → ((b round t : ℕ) → has_arrived (run f g i).state.control.barriers b round t ≡ true → Lives (run f g i).state t × (round_held (blocked_of (run f g i).state.control t) ≡ Some (b, round)))
      → ((c t : ℕ) → has_seat (run f g i).state.control.conditions c (Await (tid t)) ≡ true → Lives (run f g i).state t × (condition_held (blocked_of (run f g i).state.control t) ≡ Some c)) → ((c e : ℕ) → has_seat (run f g i).state.control.conditions c (event_seat e) ≡ true → (option_map object_named (condition_in ((run f g i).state.control.events.events e)) ≡ Some c) × (is_claimed (run f g i).state.control.events e ≡ true)) → IsClean (run f g i).state
  run_clean g i on arrivals seats event_seats = record {
    claims = ((run_lawful g i).settled on).claims;
    mutexes = λ m t had. (alive t (λ nothing. true≢false (sym had ∙ nothing.mutexes m)), locked.mutexes m (has_some t (s.resources.store.mutexes m) had));
    locks = λ l t held. (alive t (λ nothing. true≢false (sym held ∙ nothing.locks l)), locked.locks l (locked.held l t held));
    arrivals = arrivals;
    seats = seats;
    event_seats = event_seats;
  }
    where
      s : State P S H
      s = (run f g i).state

      locked : Locked s.resources
      locked = subst Locked ((run_lawful g i).settled on).resources (locked_so_far (run f g i) (run_lawful g i))

      alive : (t : ℕ) → (HasNothing s.resources.store t → ⊥) → lives (s.control.threads.known t) ≡ true
      alive t something = by_life (lives (s.control.threads.known t)) refl
        where
          by_life : (b : Bool) → lives (s.control.threads.known t) ≡ b → lives (s.control.threads.known t) ≡ true
          by_life true h = h
          by_life false h = absurd (something (nothing_left g i on t h))
