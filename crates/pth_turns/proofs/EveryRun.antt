-- Every run is in turns.
use Rattle.std.proofs.Common.{◌≡◌, ◌≤◌, ℕ, zero, suc, ◌==◌, ◌||◌, not, Bool, true, false, List, [], ◌∷◌, ◌++◌, Option, Some, None, ◌⊎◌, inl, inr, refl, sym, ◌∙◌, ap, subst, arith, append-nil}
use Rattle.std.specs.List.{list_any}
use Rattle.std.proofs.lemmas.Bool.{true≢false}
use Rattle.std.proofs.lemmas.Option.{none-some}
use Rattle.pth_base.specs.Limits.{last_moment}
use Rattle.pth_base.specs.Program.{Functions}
use Rattle.pth_base.specs.Table.{put}
use Rattle.pth_base.specs.declared.answer.Answer.{Answer}
use Rattle.pth_base.specs.declared.answer.Answer.TheVariants as answer
use Rattle.pth_base.specs.declared.call.Call.{Call}
use Rattle.pth_base.specs.declared.call.Call.TheVariants as call
use Rattle.pth_base.specs.declared.mark.Mark.{Mark}
use Rattle.pth_base.specs.declared.mark.Mark.TheVariants as mark
use Rattle.pth_base.specs.declared.outcome.Outcome.{Outcome}
use Rattle.pth_base.specs.declared.outcome.Outcome.TheVariants as outcome
use Rattle.pth_base.specs.declared.thread.ThreadState.TheVariants as state
use Rattle.pth_base.proofs.Tables.{same_self, put_by}
use Rattle.pth_queue.specs.declared.queue.Queue.TheVariants.{Waiting}
use Rattle.pth_threads.specs.declared.entry.Entry.{Entry}
use Rattle.pth_model.specs.Changes.{or_nobody, holders}
use Rattle.pth_model.specs.Course.{Course, followed}
use Rattle.pth_model.specs.Living.{is_made, lives}
use Rattle.pth_model.specs.Part.{Part, Move, Take, Step, Close, Halt, next_part, next_part_by, unless_ended, is_idle, part, part_by, takes, moves}
use Rattle.pth_model.specs.Pass.{moment}
use Rattle.pth_model.specs.Run.{parts, run}
use Rattle.pth_model.specs.Standing.{raises_of}
use Rattle.pth_model.specs.State.{State, Given, Turn, start, no_turn, queue, main, main_entry}
use Rattle.pth_laws.specs.Marks.{is_end_of}
use Rattle.pth_laws.specs.Tied.{IsTiedTo}
use Rattle.pth_laws.specs.Valid.{IsValid, Lives}
use Rattle.pth_laws.proofs.EveryRun.{run_steps, run_tied, run_valid}
use Rattle.pth_laws.proofs.Living.{lives_some}
use Rattle.pth_turns.specs.Turns.{Account, account_of, InTurns, first_account, account_after, answered, ends, is_up}
use Rattle.pth_turns.proofs.Accounts.{Leads, leads_nowhere, leads_then}
use Rattle.pth_turns.proofs.Parts.{Fits, HasWaited, Leaves, ahead, moved_leaves, take_leaves, takes_made, takes_outcome, close_leaves, step_leaves}
use Rattle.pth_turns.proofs.Progress.{run_there}
use Rattle.pth_turns.proofs.Steps.{and_both}
use Rattle.pth_turns.proofs.Waiting.{all_at, shown_in, Waits, Waiters}

-- ---- who has ended, by the account and by the marks

answered_ended : (a : Account) (c : Call) (x : Answer) (v : ℕ) → (answered a c x).ended v ≡ true → (a.ended v ≡ true) ⊎ ((answered a c x).ended 0 ≡ true)
answered_ended a call.Kill (answer.Int n) v h = inr refl
answered_ended a (call.Spawn b w k) (answer.Int n) v h = inl h
answered_ended a (call.Yield n) (answer.Int w) v h = inl h
answered_ended a c x v h = inl h

answered_stays : (a : Account) (c : Call) (x : Answer) (v : ℕ) → a.ended v ≡ true → (answered a c x).ended v ≡ true
answered_stays a call.Kill (answer.Int n) v h = refl
answered_stays a (call.Spawn b w k) (answer.Int n) v h = h
answered_stays a (call.Yield n) (answer.Int w) v h = h
answered_stays a c x v h = h

ends_ended : (a : Account) (o : Option ℕ) (t v : ℕ) → (ends a o t).ended v ≡ put a.ended t true v
ends_ended a None t v = refl
ends_ended a (Some u) t v = refl

-- by one mark
ended_by : (a : Account) (m : Mark) (v : ℕ) → (account_after a m).ended v ≡ true → (a.ended v ≡ true) ⊎ ((is_end_of v m ≡ true) ⊎ ((account_after a m).ended 0 ≡ true))
ended_by a (mark.Ended t x) v h =
    put_by (λ b. b ≡ true → (a.ended v ≡ true) ⊎ ((is_end_of v (mark.Ended t x) ≡ true) ⊎ ((account_after a (mark.Ended t x)).ended 0 ≡ true))) a.ended t.0 true v
    (λ here now. inr (inl (ap (λ i. t.0 == i) here ∙ same_self t.0)))
    (λ other now. inl now) (sym (ends_ended a a.canceled t.0 v) ∙ h)
ended_by a (mark.Answered t c x) v h = elim (answered_ended a c x v h) [ inl was ↦ inl was | inr all ↦ inr (inr all) ]
ended_by a (mark.Canceled t None) v h = inl h
ended_by a m v h = inl h

ended_stays : (a : Account) (m : Mark) (v : ℕ) → a.ended v ≡ true → (account_after a m).ended v ≡ true
ended_stays a (mark.Ended t x) v h = ends_ended a a.canceled t.0 v ∙ put_by (λ b. b ≡ true) a.ended t.0 true v (λ here. refl) (λ other. h)
ended_stays a (mark.Answered t c x) v h = answered_stays a c x v h
ended_stays a (mark.Canceled t None) v h = h
ended_stays a m v h = h

all_stay : (a : Account) (ms : List Mark) (v : ℕ) → a.ended v ≡ true → (account_of a ms).ended v ≡ true
all_stay a [] v h = h
all_stay a (m ∷ ms) v h = all_stay (account_after a m) ms v (ended_stays a m v h)

or_right : (a b : Bool) → b ≡ true → (a || b) ≡ true
or_right true b h = refl
or_right false b h = h

or_left : (a b : Bool) → a ≡ true → (a || b) ≡ true
or_left true b h = refl
or_left false b h = absurd (true≢false (sym h))

-- who has ended has its end among the marks, unless all have
ended_told : (a : Account) (ms : List Mark) (v : ℕ) → (account_of a ms).ended v ≡ true → (a.ended v ≡ true) ⊎ ((list_any (is_end_of v) ms ≡ true) ⊎ ((account_of a ms).ended 0 ≡ true))
ended_told a [] v h = inl h
ended_told a (m ∷ ms) v h = by_rest (ended_told (account_after a m) ms v h)
  where
    goal : Type 0
    goal = (a.ended v ≡ true) ⊎ ((list_any (is_end_of v) (m ∷ ms) ≡ true) ⊎ ((account_of a (m ∷ ms)).ended 0 ≡ true))

    by_mark : (a.ended v ≡ true) ⊎ ((is_end_of v m ≡ true) ⊎ ((account_after a m).ended 0 ≡ true)) → goal
    by_mark (inl was) = inl was
    by_mark (inr (inl here)) = inr (inl (or_left (is_end_of v m) (list_any (is_end_of v) ms) here))
    by_mark (inr (inr all)) = inr (inr (all_stay (account_after a m) ms 0 all))

    by_rest : ((account_after a m).ended v ≡ true) ⊎ ((list_any (is_end_of v) ms ≡ true) ⊎ ((account_of (account_after a m) ms).ended 0 ≡ true)) → goal
    by_rest (inl now) = by_mark (ended_by a m v now)
    by_rest (inr (inl later)) = inr (inl (or_right (is_end_of v m) (list_any (is_end_of v) ms) later))
    by_rest (inr (inr all)) = inr (inr all)

any_later : (p : Mark → Bool) (xs ys : List Mark) → list_any p xs ≡ true → list_any p (xs ++ ys) ≡ true
any_later p [] ys h = absurd (true≢false (sym h))
any_later p (x ∷ xs) ys h = by_test (p x) h (any_later p xs ys)
  where
    by_test : (b : Bool) → (b || list_any p xs) ≡ true → (list_any p xs ≡ true → list_any p (xs ++ ys) ≡ true) → (b || list_any p (xs ++ ys)) ≡ true
    by_test true h more = refl
    by_test false h more = more h

-- ---- the part that comes next

part_rests : (o : Outcome) (gave r : Option ℕ) (idle : Bool) (p : Part) → (p ≡ Move) ⊎ (p ≡ Take) → unless_ended o (next_part_by gave r idle) ≡ p → (gave ≡ None) × (r ≡ None)
part_rests outcome.Running (Some u) r idle p (inl is) h = absurd (cc (h ∙ is))
part_rests outcome.Running (Some u) r idle p (inr is) h = absurd (cc (h ∙ is))
part_rests outcome.Running None (Some u) idle p (inl is) h = absurd (cc (h ∙ is))
part_rests outcome.Running None (Some u) idle p (inr is) h = absurd (cc (h ∙ is))
part_rests outcome.Running None None idle p is h = (refl, refl)
part_rests o gave r idle p (inl is) h = absurd (cc (h ∙ is))
part_rests o gave r idle p (inr is) h = absurd (cc (h ∙ is))

step_next : (o : Outcome) (gave r : Option ℕ) (idle : Bool) (t : ℕ) → unless_ended o (next_part_by gave r idle) ≡ Step t → (gave ≡ None) × (r ≡ Some t)
step_next outcome.Running (Some u) r idle t h = absurd (cc h)
step_next outcome.Running None (Some u) idle t h = let same : u ≡ t = cc in (refl, ap Some same)
step_next outcome.Running None None true t h = absurd (cc h)
step_next outcome.Running None None false t h = absurd (cc h)
step_next o gave r idle t h = absurd (cc h)

close_next : (o : Outcome) (gave r : Option ℕ) (idle : Bool) (t : ℕ) → unless_ended o (next_part_by gave r idle) ≡ Close t → gave ≡ Some t
close_next outcome.Running (Some u) r idle t h = let same : u ≡ t = cc in ap Some same
close_next outcome.Running None (Some u) idle t h = absurd (cc h)
close_next outcome.Running None None true t h = absurd (cc h)
close_next outcome.Running None None false t h = absurd (cc h)
close_next o gave r idle t h = absurd (cc h)

waiting_lives : (o : Option Entry) → (or_nobody o).state ≡ state.Waiting → lives o ≡ true
waiting_lives None h = absurd (cc h)
waiting_lives (Some e) h = rw h refl

module _ {P S H : Type 0} where
  -- a course's marks lead to an account, which fits while the run goes on
  record IsInTurns (c : Course P S H) : Type 0 where
    to : Account
    leads : Leads first_account c.marks to
    fits : c.turn.outcome ≡ outcome.Running → Fits to c.state c.turn

  -- who lives at these marks, or later, was made and has not ended
  up_of : (a : Account) (marks rest : List Mark) (s : State P S H) (x : Turn) → account_of first_account marks ≡ a → a.ended 0 ≡ false → a.made ≡ s.control.threads.made → IsValid s x → IsTiedTo s (marks ++ rest) → (v : ℕ) → lives (s.control.threads.known v) ≡ true → is_up a v ≡ true
  up_of a marks rest s x to nobody made valid tied v alive = and_both (is_made a.made v) (not (a.ended v)) (ap (λ n. is_made n v) made ∙ there) (by_ended (a.ended v) refl)
    where
      there : is_made s.control.threads.made v ≡ true
      there = valid.made v (lives_some (s.control.threads.known v) alive)

      by_marks : (first_account.ended v ≡ true) ⊎ ((list_any (is_end_of v) marks ≡ true) ⊎ ((account_of first_account marks).ended 0 ≡ true)) → ⊥
      by_marks (inl odd) = true≢false (sym odd)
      by_marks (inr (inl told)) = true≢false (sym (any_later (is_end_of v) marks rest told) ∙ (tied.ended v there ∙ ap not alive))
      by_marks (inr (inr all)) = true≢false (sym all ∙ (ap (λ (b : Account). b.ended 0) to ∙ nobody))

      by_ended : (b : Bool) → a.ended v ≡ b → not b ≡ true
      by_ended false same = refl
      by_ended true same = absurd (by_marks (ended_told first_account marks v (ap (λ (b : Account). b.ended v) to ∙ same)))

  -- whoever waits lives
  waiter_lives : (s : State P S H) (x : Turn) → IsValid s x → (v : ℕ) → Waits s.control v → lives (s.control.threads.known v) ≡ true
  waiter_lives s x valid v (inl stands) = all_at (Lives s) (holders (queue s.control Waiting)) v (valid.stands Waiting refl) (shown_in v (raises_of s.control.threads.raises Waiting) (s.control.threads.standing Waiting) stands)
  waiter_lives s x valid v (inr at) = waiting_lives (s.control.threads.known v) at

  module _ (f : P → Functions S H) (g : Given P) (early : g.kernel.now ≤ last_moment) where
    on_killed : outcome.Running ≡ outcome.Killed → ⊥
    on_killed h = cc

    -- a run that has an outcome goes no further
    halted : (c : Course P S H) (o : Outcome) → c.turn.outcome ≡ o → (o ≡ outcome.Running → ⊥) → ((part f c.turn c.state).marks ≡ []) × ((part f c.turn c.state).turn.outcome ≡ o)
    unfolding part next_part
    halted c o same over = by_outcome c.turn.outcome refl
      where
        p : Part
        p = next_part_by c.turn.gave c.state.control.scheduler.running (is_idle c.state.control)

        by_outcome : (q : Outcome) → c.turn.outcome ≡ q → ((part_by f c.turn c.state (unless_ended q p)).marks ≡ []) × ((part_by f c.turn c.state (unless_ended q p)).turn.outcome ≡ o)
        by_outcome outcome.Running is = absurd (over (sym same ∙ is))
        by_outcome q is = (refl, same)

    goes_nowhere : (c : Course P S H) (o : Outcome) → c.turn.outcome ≡ o → (o ≡ outcome.Running → ⊥) → IsInTurns c → IsInTurns (followed c (part f c.turn c.state))
    goes_nowhere c o same over t =
        let h = halted c o same over in
        record {
          to = t.to;
          leads = subst (λ (ms : List Mark). Leads first_account (c.marks ++ ms) t.to) (sym h.0) (leads_then first_account c.marks [] t.to t.to t.leads (leads_nowhere t.to));
          fits = λ on. absurd (over (sym h.1 ∙ on));
        }

    module _ (i : ℕ) where
      abbrev c : Course P S H
      c = run f g i

      -- the next part, by what it is
      leaves : (a : Account) (p : Part) → next_part c.state c.turn ≡ p → c.turn.outcome ≡ outcome.Running → account_of first_account c.marks ≡ a → Fits a c.state c.turn → IsValid c.state c.turn → IsTiedTo c.state c.marks → let d = part_by f c.turn c.state p in ((d.turn.outcome ≡ outcome.Killed → ⊥) → IsValid d.state d.turn × IsTiedTo d.state (c.marks ++ d.marks)) → Leaves a d
      unfolding next_part moves
      leaves a p is on to h valid tied later = by_part p is later
        where
          s : State P S H
          s = c.state

          idle : Bool
          idle = is_idle s.control

          up : (v : ℕ) → lives (s.control.threads.known v) ≡ true → is_up a v ≡ true
          up = up_of a c.marks [] s c.turn to h.nobody h.made valid (subst (IsTiedTo s) (sym (append-nil c.marks)) tied)

          have : Waiters (HasWaited a) s.control
          have v waits = (h.places.waiters v waits, up v (waiter_lives s c.turn valid v waits))

          taken_up : let d = takes c.turn s in ((d.turn.outcome ≡ outcome.Killed → ⊥) → IsValid d.state d.turn × IsTiedTo d.state (c.marks ++ d.marks)) → (t : ℕ) → d.state.control.scheduler.running ≡ Some t → is_up a t ≡ true
          taken_up later t runs =
              let d = takes c.turn s in
              let z = later (λ killed. on_killed (sym on ∙ (sym (takes_outcome c.turn s) ∙ killed))) in
              up_of a c.marks d.marks d.state d.turn to h.nobody (h.made ∙ sym (takes_made c.turn s)) z.0 z.1 t (z.0.runs t runs)

          by_part : (p : Part) → next_part s c.turn ≡ p → let d = part_by f c.turn s p in ((d.turn.outcome ≡ outcome.Killed → ⊥) → IsValid d.state d.turn × IsTiedTo d.state (c.marks ++ d.marks)) → Leaves a d
          by_part Move is later = let r = part_rests c.turn.outcome c.turn.gave s.control.scheduler.running idle Move (inl refl) is in moved_leaves f c.turn (moment f s) a s (ahead f s) r.0 r.1 have h
          by_part Take is later =
              let r = part_rests c.turn.outcome c.turn.gave s.control.scheduler.running idle Take (inr refl) is in
              take_leaves c.turn a s (taken_up later) (record { none = r.0; rests = r.1; stopped = h.running r.0 ∙ r.1 }) h
          by_part (Step t) is later =
              let r = step_next c.turn.outcome c.turn.gave s.control.scheduler.running idle t is in
              let alive = valid.runs t r.1 in
              step_leaves f c.turn t a s (run_there f g i t (lives_some (s.control.threads.known t) alive)) up r.0 r.1 (up t alive) (λ y done. (run_steps f g i t is).1 y done) h
          by_part (Close t) is later = close_leaves f c.turn t a s (close_next c.turn.outcome c.turn.gave s.control.scheduler.running idle t is) (λ runs. let alive = valid.runs t runs in (up t alive, run_there f g i t (lives_some (s.control.threads.known t) alive))) have h
          by_part Halt is later = record { to = a; leads = leads_nowhere a; fits = λ goes. h }

    run_in_turns_by : (i : ℕ) (o : Outcome) → (run f g i).turn.outcome ≡ o → IsInTurns (run f g i) → IsInTurns (run f g (suc i))
    unfolding parts part
    run_in_turns_by i outcome.Running on t =
        let c = run f g i in
        let d = part f c.turn c.state in
        let not_killed : c.turn.outcome ≡ outcome.Killed → ⊥ = λ killed. on_killed (sym on ∙ killed) in
        let l : Leaves t.to d = leaves i t.to (next_part c.state c.turn) refl on t.leads.to (t.fits on) (run_valid f g i not_killed) (run_tied f g i not_killed) (λ goes. (run_valid f g (suc i) goes, run_tied f g (suc i) goes)) in
        record {
          to = l.to;
          leads = leads_then first_account c.marks d.marks t.to l.to t.leads l.leads;
          fits = l.fits;
        }
    run_in_turns_by i o on t = goes_nowhere (run f g i) o on (λ odd. absurd (cc odd)) t

    first_fits : Fits first_account (start f g) no_turn
    unfolding start
    first_fits = record {
      turn = refl;
      moment = omega arith;
      early = early;
      canceled = refl;
      made = refl;
      nobody = refl;
      running = λ gave. refl;
      over = λ t gave. absurd (none-some t gave);
      gave = λ t gave. absurd (none-some t gave);
      blocked = λ t gave. absurd (none-some t gave);
      free = λ t gave runs. refl;
      aside = λ t runs. absurd (none-some t runs);
      places = record { waiters = λ v waits. absurd (nobody_waits v waits); runners = λ v runs. refl; once = tt };
      of_made = λ v waits. absurd (true≢false (sym waits));
    }
      where
        nobody_waits : (v : ℕ) → Waits (start f g).control v → ⊥
        nobody_waits v (inl stands) = absurd stands
        nobody_waits v (inr at) = put_by (λ o. (or_nobody o).state ≡ state.Waiting → ⊥) (λ u. None) main (Some main_entry) v (λ here now. cc) (λ other now. cc) at

    run_in_turns : (i : ℕ) → IsInTurns (run f g i)
    unfolding parts
    run_in_turns zero = record { to = first_account; leads = leads_nowhere first_account; fits = λ on. first_fits }
    run_in_turns (suc i) = run_in_turns_by i (run f g i).turn.outcome refl (run_in_turns i)

    pub every_run_in_turns : (i : ℕ) → InTurns (run f g i).marks
    every_run_in_turns i = (run_in_turns i).leads.allowed
