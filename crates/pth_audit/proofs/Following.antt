-- What the judge of endings has of marks goes on with one mark more, and says of a mark whether it is orderly.
use Rattle.std.proofs.Common.{◌≡◌, ◌||◌, ◌∙◌, ℕ, zero, suc, ℤ, pos, Bool, true, false, List, [], ◌∷◌, ◌++◌, Option, Some, None, refl, sym, ap, subst}
use Rattle.std.specs.List.{list_any}
use Rattle.std.specs.Ordering.{nat_cmp, int_cmp}
use Rattle.std.specs.BTreeMap.{get, IsOrdered}
use Rattle.std.specs.BTreeSet.{contains}
use Rattle.std.proofs.Math.Bool.{or-false}
use Rattle.std.proofs.lemmas.Bool.{false≢true}
use Rattle.std.proofs.lemmas.List.Folds.{list_any-append}
use Rattle.std.proofs.lemmas.List.Sums.{fold-append}
use Rattle.pth_base.specs.declared.answer.Answer.TheVariants.{Int}
use Rattle.pth_base.specs.declared.call.Call.TheVariants as call
use Rattle.pth_base.specs.declared.ids.HandlerId.{HandlerId}
use Rattle.pth_base.specs.declared.ids.Tid.{Tid}
use Rattle.pth_base.specs.declared.mark.Mark.{Mark}
use Rattle.pth_base.specs.declared.mark.Mark.TheVariants as mark
use Rattle.pth_base.proofs.Tables.{same_self, same_means}
use Rattle.pth_numbered.specs.Operands.{is_zero}
use Rattle.pth_store.specs.Cleanups.{PushedHandler}
use Rattle.pth_laws.specs.Marks.{thread_of, is_end_of, is_cancellation_of, is_call_of, block_at_end, before_block}
use Rattle.pth_laws.specs.Orderly.{handlers_in, pending_after, pending_handlers, key_after, value_after, Stage, first_stage, RanLast, IsNoneNext, IsSequence, IsOrderlyAt}
use Rattle.pth_laws.proofs.OrderlyMarks.{parts}
use Rattle.pth_audit.specs.declared.values.Due.{Due}
use Rattle.pth_audit.specs.declared.endings.Endings.{Endings}
use Rattle.pth_audit.specs.Endings.{FollowsEndings, pending_in, value_in, Run, run_in, ran_nothing, run_after, RunFits, IsWay, is_so_of, is_so_of_call, next_in, PopsRightly, MayEnd, EndsRightly, AsksAll}
use Rattle.pth_audit.proofs.Blocks.{fits_none, fits_more}
use Rattle.pth_audit.proofs.NextOnes.{SaysNext, next_said, next_or_none}
use Rattle.pth_audit.proofs.Ways.{way_once, way_sequence, sequence_way}

any_more : (test : Mark → Bool) (marks : List Mark) (m : Mark) → list_any test (marks ++ m ∷ []) ≡ (list_any test marks || test m)
any_more test marks m = list_any-append test marks (m ∷ []) ∙ ap (λ (b : Bool). list_any test marks || b) (or-false (test m))

-- which destructor is next is told rightly
next_in_said : (e : Endings) (marks : List Mark) → FollowsEndings e marks → (t : ℕ) (x : Stage) → SaysNext t marks x (next_in e.values t x)
next_in_said e marks f t x = next_said t marks (value_in e.values.values t) e.values.keys.entries (f.values t) f.keys f.ordered x

-- before the first mark no thread has a block
pub starts : (t : ℕ) (x : Run) → x ≡ ran_nothing → RunFits t (before_block t []) (block_at_end t []) x
unfolding before_block block_at_end
starts t x is = subst (RunFits t [] []) (sym is) (fits_none t [])

-- ---- a mark more

-- one judge is another after a mark
pub record IsAfter (e : Endings) (m : Mark) (after : Endings) : Type 0 where
  pub ended : (t : ℕ) → contains nat_cmp after.threads.ended t ≡ (contains nat_cmp e.threads.ended t || is_end_of t m)
  pub canceled : (t : ℕ) → contains nat_cmp after.threads.canceled t ≡ (contains nat_cmp e.threads.canceled t || is_cancellation_of t m)
  pub pending : (t : ℕ) → pending_in after.handlers.stacks t ≡ pending_after t (pending_in e.handlers.stacks t) m
  pub keys : (key : ℤ) → get int_cmp after.values.keys key ≡ key_after key (get int_cmp e.values.keys key) m
  pub ordered : IsOrdered int_cmp e.values.keys → IsOrdered int_cmp after.values.keys
  pub values : (t : ℕ) (key : ℤ) → value_in after.values.values t key ≡ value_after t key (value_in e.values.values t key) m
  pub block : (t : ℕ) → run_in after.block t ≡ run_after t (next_in e.values t) (run_in e.block t) m

pub follows_more : (e after : Endings) (marks : List Mark) (m : Mark) → IsAfter e m after → FollowsEndings e marks → FollowsEndings after (marks ++ m ∷ [])
follows_more e after marks m is f = record {
  ended = λ t. is.ended t ∙ ap (λ (b : Bool). b || is_end_of t m) (f.ended t) ∙ sym (any_more (is_end_of t) marks m);
  canceled = λ t. is.canceled t ∙ ap (λ (b : Bool). b || is_cancellation_of t m) (f.canceled t) ∙ sym (any_more (is_cancellation_of t) marks m);
  pending = λ t. is.pending t ∙ ap (λ (cs : List PushedHandler). pending_after t cs m) (f.pending t) ∙ sym (fold-append (pending_after t) [] marks (m ∷ []));
  keys = λ key. is.keys key ∙ ap (λ (o : Option (Option HandlerId)). key_after key o m) (f.keys key) ∙ sym (fold-append (key_after key) None marks (m ∷ []));
  ordered = is.ordered f.ordered;
  values = λ t key. is.values t key ∙ ap (λ (v : ℤ). value_after t key v m) (f.values t key) ∙ sym (fold-append (value_after t key) (pos 0) marks (m ∷ []));
  block = λ t. subst (RunFits t (before_block t (marks ++ m ∷ [])) (block_at_end t (marks ++ m ∷ []))) (sym (is.block t))
      (fits_more t marks m (run_in e.block t) (next_in e.values t) (f.block t) (next_in_said e marks f t (run_in e.block t).stage));
}

-- ---- what is said of a mark

-- a mark that is of a call of t
so_of_call : (test : ℕ → Bool) (m : Mark) (t : ℕ) → is_call_of t m ≡ true → is_so_of_call test m ≡ test t
so_of_call test (mark.Answered u c a) t is = ap test (same_means u.0 t is)
so_of_call test (mark.Waits u c) t is = ap test (same_means u.0 t is)
so_of_call test (mark.Noted u v) t is = ap test (same_means u.0 t is)
so_of_call test m t is = absurd (false≢true is)

-- none of a call passes a test that fails for the threads of calls
none_of_call : (test : ℕ → Bool) (m : Mark) → ((t : ℕ) → is_call_of t m ≡ true → test t ≡ false) → is_so_of_call test m ≡ false
none_of_call test (mark.Answered u c a) none = none u.0 (same_self u.0)
none_of_call test (mark.Waits u c) none = none u.0 (same_self u.0)
none_of_call test (mark.Noted u v) none = none u.0 (same_self u.0)
none_of_call test m none = refl

none_of_thread : (test : ℕ → Bool) (o : Option ℕ) → ((t : ℕ) → o ≡ Some t → test t ≡ false) → is_so_of test o ≡ false
none_of_thread test None none = refl
none_of_thread test (Some t) none = none t refl

module _ (e : Endings) (marks : List Mark) (f : FollowsEndings e marks) where
  -- by what the judge has, the block is a sequence
  sequence_of : (t : ℕ) (v : ℤ) → MayEnd e t v → IsSequence t (before_block t marks) first_stage (block_at_end t marks)
  sequence_of t v may =
      let stage = (run_in e.block t).stage in
      let none = subst (SaysNext t marks stage) may.none_next (next_in_said e marks f t stage) in
      way_sequence t (before_block t marks) (block_at_end t marks) first_stage stage ((f.block t).in_turn may.in_turn)
      (subst (λ (ms : List Mark). IsNoneNext t ms stage) (sym (parts t marks)) none)

  -- ---- what the judge asks is what is said

  last_said : (t : ℕ) → RanLast (run_in e.block t).handlers (pending_in e.handlers.stacks t) → RanLast (handlers_in (block_at_end t marks)) (pending_handlers t marks)
  last_said t h = subst (λ (cs : List PushedHandler). RanLast cs (pending_handlers t marks)) (sym (f.block t).handlers) (subst (RanLast (run_in e.block t).handlers) (f.pending t) h)

  last_asked : (t : ℕ) → RanLast (handlers_in (block_at_end t marks)) (pending_handlers t marks) → RanLast (run_in e.block t).handlers (pending_in e.handlers.stacks t)
  last_asked t h = subst (λ (cs : List PushedHandler). RanLast cs (pending_in e.handlers.stacks t)) (f.block t).handlers (subst (RanLast (handlers_in (block_at_end t marks))) (sym (f.pending t)) h)

  pub said : (m : Mark) → AsksAll e m → IsOrderlyAt marks m
  said m a = record {
    no_mark_after_end = λ t is. sym (f.ended t) ∙ (ap (is_so_of (contains nat_cmp e.threads.ended)) (sym is) ∙ a.living);
    no_call_after_cancellation = λ t is. sym (f.canceled t) ∙ (sym (so_of_call (contains nat_cmp e.threads.canceled) m t is) ∙ a.uncanceled);
    canceled_ends_with_minus_one = λ t v is canceled. (ends t v is).minus_one (f.canceled t.0 ∙ canceled);
    pop_runs_last_pending = λ t v is some. last_said t.0 (pops t v is some);
    end_runs_all_pending = λ t v is. (f.block t.0).handlers ∙ (ends t v is).all_pending ∙ f.pending t.0;
    end_runs_handlers_first = λ t v is. (f.block t.0).first (ends t v is).handlers_first;
    end_runs_all_destructors = λ t v is. sequence_of t.0 v (ends t v is);
  }
    where
      ends : (t : Tid) (v : ℤ) → m ≡ mark.Ended t v → MayEnd e t.0 v
      ends t v is = subst (EndsRightly e) is a.ends

      pops : (t : Tid) (v : ℤ) → m ≡ mark.Answered t (call.CleanupPop v) (Int (pos 1)) → is_zero v ≡ false → RanLast (run_in e.block t.0).handlers (pending_in e.handlers.stacks t.0)
      pops t v is = subst (PopsRightly e) is a.pops

  -- ---- what is said is what the judge asks

  pops_asked : (m : Mark) → IsOrderlyAt marks m → PopsRightly e m
  pops_asked (mark.Answered t (call.CleanupPop v) (Int (pos (suc zero)))) o = λ some. last_asked t.0 (o.pop_runs_last_pending t v refl some)
  pops_asked m o = tt

  end_asked : (t : Tid) (v : ℤ) → IsOrderlyAt marks (mark.Ended t v) → MayEnd e t.0 v
  end_asked t v o = record {
    minus_one = λ canceled. o.canceled_ends_with_minus_one t v refl (sym (f.canceled t.0) ∙ canceled);
    all_pending = sym (f.block t.0).handlers ∙ o.end_runs_all_pending t v refl ∙ sym (f.pending t.0);
    handlers_first = first (run_in e.block t.0).handlers_first refl;
    in_turn = turn (run_in e.block t.0).in_turn refl;
    none_next = none (next_in e.values t.0 (run_in e.block t.0).stage) (next_in_said e marks f t.0 (run_in e.block t.0).stage);
  }
    where
      first : (b : Bool) → (run_in e.block t.0).handlers_first ≡ b → b ≡ true
      first true e = refl
      first false e = absurd ((f.block t.0).not_first e (o.end_runs_handlers_first t v refl))

      way : (y : Stage) × IsWay t.0 (before_block t.0 marks) first_stage (block_at_end t.0 marks) y × IsNoneNext t.0 (before_block t.0 marks ++ block_at_end t.0 marks) y
      way = sequence_way t.0 (before_block t.0 marks) (block_at_end t.0 marks) first_stage (o.end_runs_all_destructors t v refl)

      turn : (b : Bool) → (run_in e.block t.0).in_turn ≡ b → b ≡ true
      turn true e = refl
      turn false e = absurd ((f.block t.0).not_in_turn e way.0 way.1)

      none_here : IsNoneNext t.0 marks (run_in e.block t.0).stage
      none_here =
          let same = way_once t.0 (before_block t.0 marks) (block_at_end t.0 marks) first_stage way.0 (run_in e.block t.0).stage way.1 ((f.block t.0).in_turn (turn (run_in e.block t.0).in_turn refl)) in
          subst (λ (ms : List Mark). IsNoneNext t.0 ms (run_in e.block t.0).stage) (parts t.0 marks) (subst (IsNoneNext t.0 (before_block t.0 marks ++ block_at_end t.0 marks)) same way.2)

      none : (d : Option Due) → SaysNext t.0 marks (run_in e.block t.0).stage d → d ≡ None
      none None says = refl
      none (Some d) says = absurd (next_or_none t.0 marks (run_in e.block t.0).stage d.key d.value d.rounds none_here says)

  ends_asked : (m : Mark) → IsOrderlyAt marks m → EndsRightly e m
  ends_asked (mark.Ended t v) o = end_asked t v o
  ends_asked m o = tt

  pub asked : (m : Mark) → IsOrderlyAt marks m → AsksAll e m
  asked m o = record {
    living = none_of_thread (contains nat_cmp e.threads.ended) (thread_of m) (λ t is. f.ended t ∙ o.no_mark_after_end t is);
    uncanceled = none_of_call (contains nat_cmp e.threads.canceled) m (λ t is. f.canceled t ∙ o.no_call_after_cancellation t is);
    pops = pops_asked m o;
    ends = ends_asked m o;
  }
