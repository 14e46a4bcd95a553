-- A thread's handlers and destructors, walked.
use Rattle.std.proofs.Common.{◌≡◌, ℕ, zero, suc, ◌+◌, Bool, true, false, ℤ, pos, List, Option, Some, None, refl, sym, ◌∙◌, ap, subst}
use Rattle.pth_base.specs.Program.{Functions}
use Rattle.pth_base.specs.declared.act.Act.{Act}
use Rattle.pth_base.specs.declared.act.Act.TheVariants as act
use Rattle.pth_base.specs.declared.answer.Answer.{Answer}
use Rattle.pth_base.specs.declared.answer.Answer.TheVariants as answer
use Rattle.pth_base.specs.declared.call.Call.{Call}
use Rattle.pth_base.specs.declared.call.Call.TheVariants as call
use Rattle.pth_base.specs.declared.ids.HandlerId.{HandlerId}
use Rattle.pth_base.specs.declared.mark.Mark.{Mark}
use Rattle.pth_base.specs.declared.mark.Mark.TheVariants as mark
use Rattle.pth_base.proofs.Tables.{same_self}
use Rattle.pth_store.specs.Cleanups.{PushedHandler}
use Rattle.pth_model.specs.Resources.{told, act_told, answer_told}
use Rattle.pth_model.specs.Store.{Resources}
use Rattle.pth_model.specs.State.{State, Control}
use Rattle.pth_model.specs.Transition.{Piece, changes, tells, tid, nothing, controlled, ◌and_then◌}
use Rattle.pth_model.specs.Changes.{shares, with_conditions}
use Rattle.pth_model.specs.Mutexes.{mutex_release}
use Rattle.pth_model.specs.Ports.{port_put}
use Rattle.pth_model.specs.Row.{unless_refused, refuses}
use Rattle.pth_model.specs.Acts.{acts, acts_from, act_limit, answer_in, row_of_act, handled, goes_on_after, runs_handler}
use Rattle.pth_model.specs.Living.{is_made}
use Rattle.pth_laws.proofs.Book.{Book, Open, BlockRun, ran_by, with_handler}
use Rattle.pth_laws.proofs.Laws.{IsAnswerExclusive, IsExclusiveMark}
use Rattle.pth_laws.proofs.Awaits.{act_awaits}
use Rattle.pth_laws.proofs.Locking.{release_said, put_said}
use Rattle.pth_laws.proofs.Walk.{Walk, walk_tells, walk_then}

pub block_open : (t : ℕ) (x : BlockRun) → ran_by (Open t x) t ≡ x
unfolding ran_by
block_open t x = rw (same_self t) refl

-- a handler's acts touch no stack of cleanups
act_cleanups : (k : Resources) (t : ℕ) (x : Act) (a : Answer) → (act_told k t x a).store.cleanups ≡ k.store.cleanups
unfolding act_told answer_told
act_cleanups k t (act.SetKey key v) (answer.Int (pos (suc zero))) = refl
act_cleanups k t (act.Release m) (answer.Int v) = refl
act_cleanups k t (act.Put p v) (answer.Int w) = refl
act_cleanups k t x a = refl

-- what stays the same while t runs handlers: who has ended, who was canceled, its cleanups, who awaits, and the control but
-- for the program's shared value and the seats of conditions; and what it has run so far
pub record IsRunning {P S H : Type 0} (t : ℕ) (over dropped : ℕ → Bool) (had : Resources) (y : Control P S H) (x : BlockRun) (b : Book) (s : State P S H) : Type 0 where
  pub resources : b.resources ≡ s.resources
  pub ended : b.ended ≡ over
  pub canceled : b.canceled ≡ dropped
  pub ran : ran_by b.block t ≡ x
  pub cleanups : s.resources.store.cleanups t ≡ had.store.cleanups t
  pub awaits : s.resources.awaits ≡ had.awaits
  pub control : s.control ≡ record y { shared = s.control.shared; conditions = s.control.conditions }

module _ {P S H : Type 0} where
  -- one that changes nothing, refused or not
  nothing_tells : (m : Mark) (s : State P S H) (b : Bool) → let a = (unless_refused b (changes nothing) and_then tells m) s in a ≡ tells m (controlled (with_conditions (λ y. a.state.control.conditions)) s)
  nothing_tells m s true = refl
  nothing_tells m s false = refl

  -- an act is a mark: nothing else changes but seats
  acts_tell : (t : ℕ) (x : Act) (s : State P S H) → acts t x s ≡ tells (mark.Acted (tid t) x (answer_in (row_of_act s t x).begin.verdict)) (controlled (with_conditions (λ y. (acts t x s).state.control.conditions)) s)
  unfolding acts
  acts_tell t (act.Notify c v) s = by_refusal (refuses (row_of_act s t (act.Notify c v)).begin.verdict)
    where
      m : Mark
      m = mark.Acted (tid t) (act.Notify c v) (answer_in (row_of_act s t (act.Notify c v)).begin.verdict)

      by_refusal : (b : Bool) → let a = (unless_refused b (row_of_act s t (act.Notify c v)).begin.effect and_then tells m) s in a ≡ tells m (controlled (with_conditions (λ y. a.state.control.conditions)) s)
      by_refusal true = refl
      by_refusal false = refl
  acts_tell t (act.SetKey k v) s = nothing_tells (mark.Acted (tid t) (act.SetKey k v) (answer_in (row_of_act s t (act.SetKey k v)).begin.verdict)) s (refuses (row_of_act s t (act.SetKey k v)).begin.verdict)
  acts_tell t (act.Release i) s = nothing_tells (mark.Acted (tid t) (act.Release i) (answer_in (row_of_act s t (act.Release i)).begin.verdict)) s (refuses (row_of_act s t (act.Release i)).begin.verdict)
  acts_tell t (act.Put p v) s = nothing_tells (mark.Acted (tid t) (act.Put p v) (answer_in (row_of_act s t (act.Put p v)).begin.verdict)) s (refuses (row_of_act s t (act.Put p v)).begin.verdict)
  acts_tell t x s = refl

  module _ (f : P → Functions S H) (n t : ℕ) (over dropped : ℕ → Bool) (up : over t ≡ false) (made : is_made n t ≡ true) (had : Resources) (y : Control P S H) where
    abbrev pub Runs : BlockRun → Book → State P S H → Type 0
    Runs x = IsRunning t over dropped had y x

    pub run_up : (x : BlockRun) (b : Book) (s : State P S H) → Runs x b s → b.ended t ≡ false
    run_up x b s w = ap (λ (e : ℕ → Bool). e t) w.ended ∙ up

    -- what the state says of an answer, the book says
    by_book : (b : Book) (r : Resources) (c : Call) (a : Answer) → b.resources ≡ r → IsAnswerExclusive r t c a → IsAnswerExclusive b.resources t c a
    by_book b r c a same law = subst (λ (k : Resources). IsAnswerExclusive k t c a) (sym same) law

    -- a mutex is given back by who has it, and a message goes to a port that is there
    act_exclusive : (b : Book) (s : State P S H) (a : Act) → b.resources ≡ s.resources → IsExclusiveMark b (mark.Acted (tid t) a (answer_in (row_of_act s t a).begin.verdict))
    act_exclusive b s (act.Release m) same = by_book b s.resources (call.MutexRelease m) (answer_in (mutex_release s t m).begin.verdict) same (release_said s.resources t m)
    act_exclusive b s (act.Put p v) same = by_book b s.resources (call.PortPut p v (pos 0)) (answer_in (port_put s p (pos 0)).begin.verdict) same (put_said s.resources t p v (pos 0))
    act_exclusive b s a same = tt

    act_walk : (x : BlockRun) (a : Act) (b : Book) (s : State P S H) → Runs x b s → Walk n b (Runs x) (acts t a s)
    unfolding told
    act_walk x a b s w =
        let r = answer_in (row_of_act s t a).begin.verdict in
        let seats = (acts t a s).state.control.conditions in
        subst (Walk n b (Runs x)) (sym (acts_tell t a s))
        (walk_tells n (Runs x) b (mark.Acted (tid t) a r) (controlled (with_conditions (λ y. seats)) s) (λ locked. (((run_up x b s w, tt), act_exclusive b s a w.resources), made)) (record {
          resources = ap (λ k. told k (mark.Acted (tid t) a r)) w.resources;
          ended = w.ended;
          canceled = w.canceled;
          ran = block_open t (ran_by b.block t) ∙ w.ran;
          cleanups = ap (λ (c : ℕ → List PushedHandler). c t) (act_cleanups s.resources t a r) ∙ w.cleanups;
          awaits = act_awaits s.resources t a r ∙ w.awaits;
          control = ap (λ (k : Control P S H). record k { conditions = seats }) w.control;
        }))

    look_walk : (x : BlockRun) (a : Option Act) (next : Piece P S H) → ((c : Book) (u : State P S H) → Runs x c u → Walk n c (Runs x) (next u)) → (b : Book) (s : State P S H) → Runs x b s → Walk n b (Runs x) (goes_on_after t a next s)
    look_walk x None next goes b s w = record { law = tt; post = w }
    look_walk x (Some a) next goes b s w = walk_then n (Runs x) (Runs x) b (acts t a) next s (act_walk x a b s w) (λ c v. goes c (acts t a s).state v)

    acts_walk : (x : BlockRun) (h : HandlerId) (v : ℤ) (looks i : ℕ) (b : Book) (s : State P S H) → Runs x b s → Walk n b (Runs x) (acts_from f t h v looks i s)
    unfolding acts_from
    acts_walk x h v zero i b s w = record { law = tt; post = w }
    acts_walk x h v (suc looks) i b s w =
        let found = (f s.control.program).act h.0 v i s.control.shared in
        let goes = look_walk x found.act (acts_from f t h v looks (i + 1)) (acts_walk x h v looks (i + 1)) b (controlled (shares found.shared) s) (record { resources = w.resources; ended = w.ended; canceled = w.canceled; ran = w.ran; cleanups = w.cleanups; awaits = w.awaits; control = ap (λ (k : Control P S H). record k { shared = found.shared }) w.control }) in
        record { law = goes.law; post = goes.post }

    -- a handler's acts
    pub handled_walk : (x : BlockRun) (h : HandlerId) (v : ℤ) (b : Book) (s : State P S H) → Runs x b s → Walk n b (Runs x) (handled f t h v s)
    handled_walk x h v b s w = acts_walk x h v (suc act_limit) 0 b s w

    -- a handler, with its mark
    pub handler_walk : (x : BlockRun) (h : HandlerId) (v : ℤ) (b : Book) (s : State P S H) → Runs x b s → Walk n b (Runs (with_handler (h, v) x)) (runs_handler f t h v s)
    unfolding told
    handler_walk x h v b s w =
        walk_then n (Runs (with_handler (h, v) x)) (Runs (with_handler (h, v) x)) b (tells (mark.Handler (tid t) h v)) (handled f t h v) s
        (walk_tells n (Runs (with_handler (h, v) x)) b (mark.Handler (tid t) h v) s (λ locked. (((run_up x b s w, tt), tt), made)) (record {
          resources = w.resources;
          ended = w.ended;
          canceled = w.canceled;
          ran = block_open t (with_handler (h, v) (ran_by b.block t)) ∙ ap (with_handler (h, v)) w.ran;
          cleanups = w.cleanups;
          awaits = w.awaits;
          control = w.control;
        }))
        (λ c u. handled_walk (with_handler (h, v) x) h v c (tells (mark.Handler (tid t) h v) s).state u)
