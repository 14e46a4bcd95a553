use Rattle.std.proofs.Common.{◌≡◌, ◌≤◌, ℕ, zero, suc, refl, sym, ◌∙◌, subst, arith, le_refl, not-suc-le-zero, le_of_suc-le-suc}
use Rattle.pth_base.specs.Table.{put}
use Rattle.pth_numbered.specs.Numbered.{number_known}
use Rattle.pth_threads.specs.Threads.{changed, made_of}
use Rattle.pth_kernel.specs.Kernel.{came_to, unread}
use Rattle.pth_io.specs.Attempts.{read_answer, read_after}
use Rattle.pth_model.specs.Resources.{told, answer_told}
use Rattle.pth_model.specs.Standing.{put_behind, order, shown}
use Rattle.pth_model.specs.Allowance.{points, waited, grace, is_before, newcomers, beyond, allowed}
use Rattle.pth_model.specs.State.{start, now_of}
use Rattle.pth_model.specs.Transition.{tells_each}
use Rattle.pth_model.specs.Changes.{sets, goes_on, enters, leaves_queue, trails, raises_ready, makes, forgets}
use Rattle.pth_model.specs.RingWaits.{claims, gives_back, stops_waiting}
use Rattle.pth_model.specs.Barriers.{withdraws_from}
use Rattle.pth_model.specs.Conditions.{hands_on_seat}
use Rattle.pth_model.specs.Ending.{is_dead_with, leaves, runs_each, next_destructor, destructs, ending, mutexes_had, locks_held}
use Rattle.pth_model.specs.ThreadEnds.{is_alone}
use Rattle.pth_model.specs.Cancellation.{may_be_canceled}
use Rattle.pth_model.specs.Rows.{row_of}
use Rattle.pth_model.specs.Calls.{begun, gone_on, tried_again, wakes, waits_until}
use Rattle.pth_model.specs.Pass.{is_ready_at, woken, all_woken, looks, comes_for, to_wake, pass}
use Rattle.pth_model.specs.Part.{moves, readies, readies_all, runs, dispatches, takes, steps, is_put_back, is_put_waiting, is_placed, closes, next_part, part}
use Rattle.pth_model.specs.Run.{parts, run}
use Rattle.pth_base.specs.declared.outcome.Outcome.TheVariants.{Running, Stalled}
use Rattle.pth_model.specs.Course.{Course}
use Rattle.pth_model.specs.Example.{Place, reading_bodies}
use Rattle.pth_agreement.specs.Example.{given_nothing}
use Rattle.pth_agreement.specs.Traces.{IsNotPast}
use Rattle.pth_agreement.proofs.example.a_stamp_more.Goals as goal

running : Running ≡ Stalled → ⊥
running same = cc same

not_past : (n : ℕ) (c : Course ℕ Place ℕ) → now_of c.state.control ≡ n → c.turn.outcome ≡ Running → n ≤ 4 → IsNotPast 4 c
not_past n c now runs early = record { now = subst (λ n. n ≤ 4) (sym now) early; not_stalled = λ stalled. running (sym runs ∙ stalled) }

never_past : (j : ℕ) → j ≤ 3 → IsNotPast 4 (run reading_bodies given_nothing j)
unfolding read_answer read_after came_to unread parts start part next_part closes is_placed is_put_waiting is_put_back steps takes dispatches runs trails readies_all readies moves pass looks comes_for to_wake all_woken woken is_ready_at wakes waits_until gone_on tried_again may_be_canceled begun row_of is_alone withdraws_from hands_on_seat ending mutexes_had locks_held tells_each runs_each destructs next_destructor leaves is_dead_with forgets makes raises_ready leaves_queue enters goes_on claims gives_back stops_waiting sets number_known shown order put_behind put changed made_of told answer_told points waited grace is_before newcomers beyond allowed
never_past zero before = not_past 0 (run reading_bodies given_nothing 0) refl refl (omega arith)
never_past (suc zero) before = not_past 0 (run reading_bodies given_nothing 1) refl refl (omega arith)
never_past (suc (suc zero)) before = not_past 0 (run reading_bodies given_nothing 2) refl refl (omega arith)
never_past (suc (suc (suc zero))) before = not_past 1 (run reading_bodies given_nothing 3) refl refl (omega arith)
never_past (suc (suc (suc (suc j)))) before = absurd (not-suc-le-zero (le_of_suc-le-suc (le_of_suc-le-suc (le_of_suc-le-suc before))))

pub returns-clause-before : goal.returns-clause-before
returns-clause-before c = record { moment = 4; same = refl; not_past = never_past }

pub returns-clause-then : goal.returns-clause-then
unfolding read_answer read_after came_to unread parts start part next_part closes is_placed is_put_waiting is_put_back steps takes dispatches runs trails readies_all readies moves pass looks comes_for to_wake all_woken woken is_ready_at wakes waits_until gone_on tried_again may_be_canceled begun row_of is_alone withdraws_from hands_on_seat ending mutexes_had locks_held tells_each runs_each destructs next_destructor leaves is_dead_with forgets makes raises_ready leaves_queue enters goes_on claims gives_back stops_waiting sets number_known shown order put_behind put changed made_of told answer_told points waited grace is_before newcomers beyond allowed
returns-clause-then c differs = (differs.not_past 4 (le_refl 4)).not_stalled refl

pub returns-clause-stalled : goal.returns-clause-stalled
unfolding read_answer read_after came_to unread parts start part next_part closes is_placed is_put_waiting is_put_back steps takes dispatches runs trails readies_all readies moves pass looks comes_for to_wake all_woken woken is_ready_at wakes waits_until gone_on tried_again may_be_canceled begun row_of is_alone withdraws_from hands_on_seat ending mutexes_had locks_held tells_each runs_each destructs next_destructor leaves is_dead_with forgets makes raises_ready leaves_queue enters goes_on claims gives_back stops_waiting sets number_known shown order put_behind put changed made_of told answer_told points waited grace is_before newcomers beyond allowed
returns-clause-stalled c = refl

pub returns-clause-goes_on : goal.returns-clause-goes_on
unfolding read_answer read_after came_to unread parts start part next_part closes is_placed is_put_waiting is_put_back steps takes dispatches runs trails readies_all readies moves pass looks comes_for to_wake all_woken woken is_ready_at wakes waits_until gone_on tried_again may_be_canceled begun row_of is_alone withdraws_from hands_on_seat ending mutexes_had locks_held tells_each runs_each destructs next_destructor leaves is_dead_with forgets makes raises_ready leaves_queue enters goes_on claims gives_back stops_waiting sets number_known shown order put_behind put changed made_of told answer_told points waited grace is_before newcomers beyond allowed
returns-clause-goes_on c = refl
