-- What calls tell before their answers: in the turn of their thread it leaves the account as it is. And only a spawn makes a thread.
use Rattle.std.proofs.Common.{◌≡◌, ℕ, not, Bool, true, false, if◌then◌else◌, ℤ, [], Option, Some, None, refl, sym}
use Rattle.std.proofs.lemmas.Bool.{true≢false}
use Rattle.pth_base.specs.Program.{Functions}
use Rattle.pth_base.specs.declared.answer.Answer.{Answer}
use Rattle.pth_base.specs.declared.answer.Answer.TheVariants as answer
use Rattle.pth_base.specs.declared.attr.AttrValue.{AttrValue}
use Rattle.pth_base.specs.declared.call.Call.{Call}
use Rattle.pth_base.specs.declared.call.Call.TheVariants as call
use Rattle.pth_base.specs.declared.event.EventSpec.{EventSpec}
use Rattle.pth_base.specs.declared.event.EvLine.TheVariants as line
use Rattle.pth_base.specs.declared.mark.Mark.TheVariants as mark
use Rattle.pth_base.specs.declared.query.Query.{Query}
use Rattle.pth_base.specs.declared.query.Query.TheVariants as query
use Rattle.pth_cond.specs.Barriers.{has_passed, round_answer, round_answered}
use Rattle.pth_numbered.specs.Operands.{number, is_zero}
use Rattle.pth_queue.specs.declared.queue.Queue.{Queue}
use Rattle.pth_store.specs.Cleanups.{PushedHandler}
use Rattle.pth_base.specs.declared.ids.HandlerId.{HandlerId}
use Rattle.pth_threads.specs.declared.attribute.Attribute.{Attribute}
use Rattle.pth_threads.specs.declared.attribute.Attribute.TheVariants.{Free, Bound}
use Rattle.pth_threads.specs.declared.entry.Change as change_of_record
use Rattle.pth_threads.specs.declared.entry.Change.TheVariants as change
use Rattle.pth_threads.specs.Attributes.{change_of}
use Rattle.pth_model.specs.declared.awaits.Awaits.{Awaits}
use Rattle.pth_model.specs.declared.awaits.Awaits.TheVariants as awaits
use Rattle.pth_model.specs.declared.verdict.Verdict.{Verdict}
use Rattle.pth_model.specs.declared.verdict.Verdict.TheVariants.{Says, Blocks}
use Rattle.pth_model.specs.Awaits.{round_in}
use Rattle.pth_model.specs.AttributeHandling.{object, sets_field, sets_value}
use Rattle.pth_model.specs.Barriers.{tries_round}
use Rattle.pth_model.specs.Calls.{interrupted, unless_settled}
use Rattle.pth_model.specs.Cancellation.{takes_request, is_to_cancel}
use Rattle.pth_model.specs.Changes.{sets, enters, leaves_queue, forgets, uses, or_nobody, entry_of, queue_for, with_barriers}
use Rattle.pth_model.specs.Cleanups.{runs_pushed, last_pushed}
use Rattle.pth_model.specs.Acts.{runs_handler}
use Rattle.pth_model.specs.EventHandling.{spec_of, made_as}
use Rattle.pth_model.specs.LibraryControl.{ctrl}
use Rattle.pth_model.specs.Resources.{handler}
use Rattle.pth_model.specs.Row.{unless_refused, refuses, effect_of, ◌trying◌}
use Rattle.pth_model.specs.Rows.{row_of}
use Rattle.pth_model.specs.State.{State}
use Rattle.pth_model.specs.ThreadControl.{suspends, resumes, returns_to, to_join, takes_joined}
use Rattle.pth_model.specs.Transition.{Transition, Piece, Change, silent, nothing, changes, tid, controlled, where_so, ◌and_then◌}
use Rattle.pth_turns.specs.Turns.{Account, has_turn, answered, is_next_made}
use Rattle.pth_turns.proofs.Accounts.{Leads, leads_nowhere, leads_one, turn_may_end}
use Rattle.pth_turns.proofs.Blocks.{IsMadeAs, Blocks as BlockOf, handler_block}

-- calls that leave the account as it is, whatever they are answered
abbrev pub is_unmarked : Call → Bool
is_unmarked (call.Spawn b v a) = false
is_unmarked (call.Yield n) = false
is_unmarked call.Kill = false
is_unmarked c = true

pub unmarked_stays : (a : Account) (c : Call) (x : Answer) → is_unmarked c ≡ true → (answered a c x ≡ a) × (is_next_made a.made c x ≡ true)
unmarked_stays a (call.Spawn b v k) x h = absurd (true≢false (sym h))
unmarked_stays a (call.Yield n) x h = absurd (true≢false (sym h))
unmarked_stays a call.Kill x h = absurd (true≢false (sym h))
unmarked_stays a c x h = (refl, refl)

-- calls that, besides, end no other thread
abbrev pub is_plain : Call → Bool
is_plain (call.Spawn b v a) = false
is_plain (call.Yield n) = false
is_plain call.Kill = false
is_plain (call.Cancel n) = false
is_plain (call.Abort n) = false
is_plain c = true

module _ {P S H : Type 0} where
  -- in t's turn it leaves the account as it is, and no thread is made
  pub record Quiet (t : ℕ) (s : State P S H) (x : Transition P S H) : Type 0 where
    pub leads : (a : Account) → has_turn a t ≡ true → Leads a x.marks a
    pub made : IsMadeAs s x.state

  module _ (t : ℕ) where
    quiet_block : (s : State P S H) (x : Transition P S H) → BlockOf t s x → Quiet t s x
    quiet_block s x b = record { leads = λ a h. b.leads a (turn_may_end a t h); made = b.made }

    pub quiet_change : (s u : State P S H) → IsMadeAs s u → Quiet t s (record { state = u; marks = [] })
    quiet_change s u same = record { leads = λ a h. leads_nowhere a; made = same }

    -- t takes a request up
    pub request_quiet : (c : Call) (s : State P S H) → Quiet t s (takes_request t c s)
    unfolding sets
    request_quiet c s = record { leads = λ a h. leads_one a (mark.Canceled (tid t) (Some c)) h; made = refl }

    quiet_unless : (b : Bool) (p : Piece P S H) (s : State P S H) → Quiet t s (p s) → Quiet t s (unless_refused b p s)
    quiet_unless true p s h = quiet_change s s refl
    quiet_unless false p s h = h

    ctrl_quiet : (s u : State P S H) (x : Query) → Quiet t u ((ctrl s x).begin.effect u)
    ctrl_quiet s u query.Threads = quiet_change u u refl
    ctrl_quiet s u x = record { leads = λ a h. leads_nowhere a; made = refl }

    ctrl_again : (s u : State P S H) (x : Query) (b : Awaits) → Quiet t u (((ctrl s x).again b).effect u)
    ctrl_again s u query.Threads b = quiet_change u u refl
    ctrl_again s u x b = record { leads = λ a h. leads_nowhere a; made = refl }

    made_quiet : (spec : Option EventSpec) (v : EventSpec → Verdict) (g : EventSpec → Change P S H) (u : State P S H) → ((x : EventSpec) → IsMadeAs u (controlled (g x) u)) → Quiet t u ((made_as spec v g).begin.effect u)
    made_quiet None v g u same = quiet_change u u refl
    made_quiet (Some x) v g u same = quiet_change u (controlled (g x) u) (same x)

    made_again : (spec : Option EventSpec) (v : EventSpec → Verdict) (g : EventSpec → Change P S H) (b : Awaits) (u : State P S H) → Quiet t u (((made_as spec v g).again b).effect u)
    made_again None v g b u = quiet_change u u refl
    made_again (Some x) v g b u = quiet_change u u refl

    fields_quiet : (s : State P S H) (u : ℕ) (o : Option change_of_record.Change) → Quiet t s (changes (sets_field u o) s)
    unfolding sets
    fields_quiet s u None = quiet_change s s refl
    fields_quiet s u (Some c) = record { leads = λ a h. leads_nowhere a; made = refl }

    values_quiet : (s : State P S H) (a : ℤ) (v : AttrValue) (o : Option Attribute) → Quiet t s (changes (sets_value a v o) s)
    values_quiet s a v None = quiet_change s s refl
    values_quiet s a v (Some (Free x)) = record { leads = λ a h. leads_nowhere a; made = refl }
    values_quiet s a v (Some (Bound u)) = fields_quiet s u.0 (change_of v)

    states_quiet : (s : State P S H) (n : ℤ) (b : Bool) → Quiet t s (changes (if b then nothing else sets t (change.Cancel (number n))) s)
    unfolding sets
    states_quiet s n true = quiet_change s s refl
    states_quiet s n false = record { leads = λ a h. leads_nowhere a; made = refl }

    points_quiet : (s : State P S H) (b : Bool) → Quiet t s (where_so b (takes_request t call.CancelPoint) s)
    points_quiet s true = request_quiet call.CancelPoint s
    points_quiet s false = quiet_change s s refl

    returns_quiet : (s : State P S H) (u : ℕ) (q : Option Queue) → Quiet t s (changes (returns_to u q) s)
    unfolding sets enters leaves_queue
    returns_quiet s u None = quiet_change s s refl
    returns_quiet s u (Some q) = record { leads = λ a h. leads_nowhere a; made = refl }

    joins_quiet : (s : State P S H) (o : Option ℕ) → Quiet t s (changes (takes_joined o) s)
    unfolding forgets leaves_queue
    joins_quiet s None = quiet_change s s refl
    joins_quiet s (Some u) = record { leads = λ a h. leads_nowhere a; made = refl }

    round_quiet : (s : State P S H) (b : ℤ) (round : ℕ) → Quiet t s ((tries_round s t b round).effect s)
    round_quiet s b round = by_test (has_passed s.control.barriers b round)
      where
        by_test : (passed : Bool) → Quiet t s ((if passed then (Says (answer.Int (round_answer s.control.barriers b round t)) trying changes (with_barriers (round_answered b round t))) else (Blocks (awaits.Round b round) trying silent)).effect s)
        by_test true = record { leads = λ a h. leads_nowhere a; made = refl }
        by_test false = quiet_change s s refl

  module _ (f : P → Functions S H) (t : ℕ) (s : State P S H) where
    pops_quiet : (o : Option PushedHandler) (b : Bool) → Quiet t s (where_so b (runs_pushed f t o) s)
    pops_quiet o false = quiet_change t s s refl
    pops_quiet None true = quiet_change t s s refl
    pops_quiet (Some c) true = quiet_block t s (runs_handler f t c.0 c.1 s) (handler_block f t c.0 c.1 s)

    once_quiet : (o : ℕ) (h : HandlerId) (v : ℤ) (b : Bool) → Quiet t s (where_so b (changes (uses o) and_then runs_handler f t h v) s)
    once_quiet o h v false = quiet_change t s s refl
    once_quiet o h v true =
        let b = handler_block f t h v (controlled (uses o) s) in
        quiet_block t s ((changes (uses o) and_then runs_handler f t h v) s) (record { leads = b.leads; made = b.made })

    does_quiet : (c : Call) → is_plain c ≡ true → Quiet t s ((row_of f s t c).begin.effect s)
    unfolding row_of suspends resumes sets enters leaves_queue
    does_quiet call.Kill plain = absurd (true≢false (sym plain))
    does_quiet (call.Spawn b v k) plain = absurd (true≢false (sym plain))
    does_quiet (call.Yield n) plain = absurd (true≢false (sym plain))
    does_quiet (call.Cancel n) plain = absurd (true≢false (sym plain))
    does_quiet (call.Abort n) plain = absurd (true≢false (sym plain))
    does_quiet (call.CleanupPop v) plain = pops_quiet (last_pushed f s t) (not (is_zero v))
    does_quiet (call.Once o h v) plain = once_quiet (number o) (handler h) v (not (s.control.used (number o)))
    does_quiet call.CancelPoint plain = points_quiet t s (is_to_cancel (or_nobody (entry_of s.control t)))
    does_quiet (call.CancelState n) plain = states_quiet t s n (is_zero n)
    does_quiet (call.Ctrl x) plain = ctrl_quiet t s s x
    does_quiet (call.AttrSet a v) plain = values_quiet t s a v (object s.control a)
    does_quiet (call.EvFd goals fd) plain = made_quiet t (spec_of (line.Fd goals fd)) _ _ s (λ x. refl)
    does_quiet (call.EvTime m) plain = made_quiet t (spec_of (line.Time m)) _ _ s (λ x. refl)
    does_quiet (call.EvFunc c v l) plain = made_quiet t (spec_of (line.Func c v l)) _ _ s (λ x. refl)
    does_quiet (call.Chain e l) plain = made_quiet t (spec_of l) _ _ s (λ x. refl)
    does_quiet (call.Resume n) plain = returns_quiet t s (number n) (queue_for (or_nobody (entry_of s.control (number n))).state)
    does_quiet (call.Join n) plain = joins_quiet t s (to_join s.control n)
    does_quiet c plain = record { leads = λ a h. leads_nowhere a; made = refl }

    -- as a call begins
    pub effect_quiet : (c : Call) → is_plain c ≡ true → Quiet t s (effect_of (row_of f s t c).begin s)
    effect_quiet c plain = quiet_unless t (refuses (row_of f s t c).begin.verdict) (row_of f s t c).begin.effect s (does_quiet c plain)

    does_again : (c : Call) (b : Awaits) → Quiet t s (((row_of f s t c).again b).effect s)
    unfolding row_of
    does_again (call.Ctrl x) b = ctrl_again t s s x b
    does_again (call.EvFd goals fd) b = made_again t (spec_of (line.Fd goals fd)) _ _ b s
    does_again (call.EvTime m) b = made_again t (spec_of (line.Time m)) _ _ b s
    does_again (call.EvFunc c v l) b = made_again t (spec_of (line.Func c v l)) _ _ b s
    does_again (call.Chain e l) b = made_again t (spec_of l) _ _ b s
    does_again (call.BarrierReach x) b = round_quiet t s x (round_in b)
    does_again (call.Join n) b = joins_quiet t s (to_join s.control n)
    does_again c b = record { leads = λ a h. leads_nowhere a; made = refl }

    -- as it is tried again
    pub again_quiet : (c : Call) (b : Awaits) (come : Bool) → Quiet t s (effect_of (unless_settled come ((row_of f s t c).again b)) s)
    again_quiet c b false = quiet_unless t (refuses ((row_of f s t c).again b).verdict) ((row_of f s t c).again b).effect s (does_again c b)
    again_quiet c b true = quiet_unless t (refuses (interrupted ((row_of f s t c).again b).verdict)) ((row_of f s t c).again b).effect s (does_again c b)
