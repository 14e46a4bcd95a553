use Rattle.std.proofs.Common.{◌≡◌, ◌<◌, ℕ, zero, suc, refl, sym, subst, Some, None, Option, pos, arith, lt-suc_self, lt_irrefl}
use Rattle.pth_base.specs.declared.answer.Answer.TheVariants as answer
use Rattle.pth_base.specs.Table.{put}
use Rattle.pth_numbered.specs.Numbered.{number_known}
use Rattle.pth_threads.specs.Threads.{changed, made_of}
use Rattle.pth_model.specs.Resources.{told, answer_told}
use Rattle.pth_model.specs.Standing.{put_behind, order, shown}
use Rattle.pth_model.specs.Allowance.{points, waited, grace, is_before, newcomers, beyond, allowed}
use Rattle.pth_model.specs.State.{start}
use Rattle.pth_model.specs.Transition.{tells_each}
use Rattle.pth_model.specs.Changes.{sets, goes_on, enters, leaves_queue, trails, raises_ready, makes, forgets}
use Rattle.pth_model.specs.RingWaits.{claims, gives_back, stops_waiting}
use Rattle.pth_model.specs.Barriers.{withdraws_from}
use Rattle.pth_model.specs.Conditions.{hands_on_seat}
use Rattle.pth_model.specs.Ending.{is_dead_with, leaves, runs_each, next_destructor, destructs, ending, mutexes_had, locks_held}
use Rattle.pth_model.specs.ThreadEnds.{is_alone}
use Rattle.pth_model.specs.Cancellation.{may_be_canceled}
use Rattle.pth_model.specs.Rows.{row_of}
use Rattle.pth_model.specs.Calls.{begun, gone_on, tried_again, wakes}
use Rattle.pth_model.specs.Pass.{is_ready_at, woken, all_woken, looks, comes_for, to_wake, pass}
use Rattle.pth_model.specs.Part.{Step, moves, readies, readies_all, runs, dispatches, takes, steps, is_put_back, is_put_waiting, is_placed, closes, next_part, part}
use Rattle.pth_model.specs.Run.{parts, run}
use Rattle.pth_line.specs.LineSteps.{stepped}
use Rattle.pth_line.specs.Script.{first_frame, functions_of}
use Rattle.pth_operand.specs.LastAnswer.{heard}
use Rattle.pth_operand.specs.declared.frame.Frame.{Frame}
use Rattle.pth_model.specs.declared.progress.Progress.{Progress}
use Rattle.pth_agreement.specs.Agreement.{AsksForCall}
use Rattle.pth_agreement.specs.Example.{one_note}
use Rattle.pth_agreement.proofs.example.a_line_more.Goals as goal

step_same : (t u : ℕ) → Step t ≡ Step u → t ≡ u
step_same t u same = cc same

some_same : (p q : Progress Frame) → Some p ≡ Some q → p ≡ q
some_same p q same = cc same

-- how far a thread is that is there
abbrev the : Option (Progress Frame) → Progress Frame
the None = record { state = first_frame 0 (pos 0); owed = answer.None; blocked = None }
the (Some p) = p

-- nobody asks in the first part, and main asks at its line in the second
asked_first : (t : ℕ) (p : Progress Frame) → AsksForCall (run functions_of one_note 0) t p → ⊥
unfolding parts start part next_part closes is_placed is_put_waiting is_put_back steps takes dispatches runs trails readies_all readies moves pass looks comes_for to_wake all_woken woken is_ready_at wakes gone_on tried_again may_be_canceled begun row_of is_alone withdraws_from hands_on_seat ending mutexes_had locks_held tells_each runs_each destructs next_destructor leaves is_dead_with forgets makes raises_ready leaves_queue enters goes_on claims gives_back stops_waiting sets number_known shown order put_behind put changed made_of told answer_told points waited grace is_before newcomers beyond allowed functions_of stepped heard
asked_first t p asks = cc asks.steps

asked_second : (t : ℕ) (p : Progress Frame) → AsksForCall (run functions_of one_note 1) t p → p.state.line < 1
unfolding parts start part next_part closes is_placed is_put_waiting is_put_back steps takes dispatches runs trails readies_all readies moves pass looks comes_for to_wake all_woken woken is_ready_at wakes gone_on tried_again may_be_canceled begun row_of is_alone withdraws_from hands_on_seat ending mutexes_had locks_held tells_each runs_each destructs next_destructor leaves is_dead_with forgets makes raises_ready leaves_queue enters goes_on claims gives_back stops_waiting sets number_known shown order put_behind put changed made_of told answer_told points waited grace is_before newcomers beyond allowed functions_of stepped heard
asked_second t p asks =
    let its_thread : t ≡ 1 = sym (step_same 1 t asks.steps) in
    let so_far = subst (λ u. (run functions_of one_note 1).state.control.threads.progress u ≡ Some p) its_thread asks.is_so_far in
    subst (λ (q : Progress Frame). q.state.line < 1) (some_same (the ((run functions_of one_note 1).state.control.threads.progress 1)) p so_far) (lt-suc_self 0)

pub returns-clause-before_the_end : goal.returns-clause-before_the_end
returns-clause-before_the_end c zero t p before asks same = absurd (asked_first t p asks)
returns-clause-before_the_end c (suc zero) t p before asks same = asked_second t p asks
returns-clause-before_the_end c (suc (suc j)) t p before asks same = omega arith

pub returns-clause-at_the_end : goal.returns-clause-at_the_end
unfolding parts start part next_part closes is_placed is_put_waiting is_put_back steps takes dispatches runs trails readies_all readies moves pass looks comes_for to_wake all_woken woken is_ready_at wakes gone_on tried_again may_be_canceled begun row_of is_alone withdraws_from hands_on_seat ending mutexes_had locks_held tells_each runs_each destructs next_destructor leaves is_dead_with forgets makes raises_ready leaves_queue enters goes_on claims gives_back stops_waiting sets number_known shown order put_behind put changed made_of told answer_told points waited grace is_before newcomers beyond allowed functions_of stepped heard
returns-clause-at_the_end c never =
    let at = the ((run functions_of one_note 2).state.control.threads.progress 1) in
    lt_irrefl 1 (never 2 1 at (lt-suc_self 2) (record { steps = refl; is_so_far = refl; unblocked = refl }) refl)

pub returns-clause-noted : goal.returns-clause-noted
unfolding parts start part next_part closes is_placed is_put_waiting is_put_back steps takes dispatches runs trails readies_all readies moves pass looks comes_for to_wake all_woken woken is_ready_at wakes gone_on tried_again may_be_canceled begun row_of is_alone withdraws_from hands_on_seat ending mutexes_had locks_held tells_each runs_each destructs next_destructor leaves is_dead_with forgets makes raises_ready leaves_queue enters goes_on claims gives_back stops_waiting sets number_known shown order put_behind put changed made_of told answer_told points waited grace is_before newcomers beyond allowed functions_of stepped heard
returns-clause-noted c = refl

pub returns-clause-noted_too : goal.returns-clause-noted_too
unfolding parts start part next_part closes is_placed is_put_waiting is_put_back steps takes dispatches runs trails readies_all readies moves pass looks comes_for to_wake all_woken woken is_ready_at wakes gone_on tried_again may_be_canceled begun row_of is_alone withdraws_from hands_on_seat ending mutexes_had locks_held tells_each runs_each destructs next_destructor leaves is_dead_with forgets makes raises_ready leaves_queue enters goes_on claims gives_back stops_waiting sets number_known shown order put_behind put changed made_of told answer_told points waited grace is_before newcomers beyond allowed functions_of stepped heard
returns-clause-noted_too c = refl

pub returns-clause-ended : goal.returns-clause-ended
unfolding parts start part next_part closes is_placed is_put_waiting is_put_back steps takes dispatches runs trails readies_all readies moves pass looks comes_for to_wake all_woken woken is_ready_at wakes gone_on tried_again may_be_canceled begun row_of is_alone withdraws_from hands_on_seat ending mutexes_had locks_held tells_each runs_each destructs next_destructor leaves is_dead_with forgets makes raises_ready leaves_queue enters goes_on claims gives_back stops_waiting sets number_known shown order put_behind put changed made_of told answer_told points waited grace is_before newcomers beyond allowed functions_of stepped heard
returns-clause-ended c = refl

pub returns-clause-noted_again : goal.returns-clause-noted_again
unfolding parts start part next_part closes is_placed is_put_waiting is_put_back steps takes dispatches runs trails readies_all readies moves pass looks comes_for to_wake all_woken woken is_ready_at wakes gone_on tried_again may_be_canceled begun row_of is_alone withdraws_from hands_on_seat ending mutexes_had locks_held tells_each runs_each destructs next_destructor leaves is_dead_with forgets makes raises_ready leaves_queue enters goes_on claims gives_back stops_waiting sets number_known shown order put_behind put changed made_of told answer_told points waited grace is_before newcomers beyond allowed functions_of stepped heard
returns-clause-noted_again c = refl
