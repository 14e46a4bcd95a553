use Rattle.std.proofs.Common.{◌≡◌, ℕ, zero, suc, None, refl, lt-suc_self, not-suc-le-zero, le_of_suc-le-suc}
use Rattle.pth_base.specs.Table.{put}
use Rattle.pth_numbered.specs.Numbered.{number_known}
use Rattle.pth_threads.specs.Threads.{changed, made_of}
use Rattle.pth_kernel.specs.Kernel.{came_to, unread}
use Rattle.pth_io.specs.Attempts.{read_answer, read_after}
use Rattle.pth_model.specs.Resources.{told, answer_told}
use Rattle.pth_model.specs.Standing.{put_behind, order, shown}
use Rattle.pth_model.specs.Allowance.{points, waited, grace, is_before, newcomers, beyond, allowed}
use Rattle.pth_model.specs.State.{start}
use Rattle.pth_model.specs.Transition.{tells_each}
use Rattle.pth_model.specs.Changes.{sets, goes_on, enters, leaves_queue, trails, raises_ready, makes, forgets}
use Rattle.pth_model.specs.RingWaits.{claims, gives_back, stops_waiting}
use Rattle.pth_model.specs.Barriers.{withdraws_from}
use Rattle.pth_model.specs.Conditions.{hands_on_seat}
use Rattle.pth_model.specs.Ending.{is_dead_with, leaves, runs_each, next_destructor, destructs, ending, mutexes_had, locks_held}
use Rattle.pth_model.specs.ThreadEnds.{is_alone}
use Rattle.pth_model.specs.Cancellation.{may_be_canceled}
use Rattle.pth_model.specs.Rows.{row_of}
use Rattle.pth_model.specs.Calls.{begun, gone_on, tried_again, wakes, waits_until}
use Rattle.pth_model.specs.Pass.{is_ready_at, woken, all_woken, looks, comes_for, to_wake, pass}
use Rattle.pth_model.specs.Part.{Take, Step, moves, readies, readies_all, runs, dispatches, takes, steps, is_put_back, is_put_waiting, is_placed, closes, next_part, part}
use Rattle.pth_model.specs.Run.{parts}
use Rattle.pth_base.specs.declared.answer.Answer.TheVariants as answer
use Rattle.pth_model.specs.Example.{Place}
use Rattle.pth_model.specs.declared.progress.Progress.{Progress}
use Rattle.pth_agreement.proofs.example.a_descriptor_more.Goals as goal

no_step : (t : ℕ) → Take ≡ Step t → ⊥
no_step t same = cc same

pub returns-clause-before : goal.returns-clause-before
unfolding read_answer read_after came_to unread parts start part next_part closes is_placed is_put_waiting is_put_back steps takes dispatches runs trails readies_all readies moves pass looks comes_for to_wake all_woken woken is_ready_at wakes waits_until gone_on tried_again may_be_canceled begun row_of is_alone withdraws_from hands_on_seat ending mutexes_had locks_held tells_each runs_each destructs next_destructor leaves is_dead_with forgets makes raises_ready leaves_queue enters goes_on claims gives_back stops_waiting sets number_known shown order put_behind put changed made_of told answer_told points waited grace is_before newcomers beyond allowed
returns-clause-before c zero t p before asks = absurd (no_step t asks.steps)
returns-clause-before c (suc j) t p before asks = absurd (not-suc-le-zero (le_of_suc-le-suc before))

pub returns-clause-then : goal.returns-clause-then
unfolding read_answer read_after came_to unread parts start part next_part closes is_placed is_put_waiting is_put_back steps takes dispatches runs trails readies_all readies moves pass looks comes_for to_wake all_woken woken is_ready_at wakes waits_until gone_on tried_again may_be_canceled begun row_of is_alone withdraws_from hands_on_seat ending mutexes_had locks_held tells_each runs_each destructs next_destructor leaves is_dead_with forgets makes raises_ready leaves_queue enters goes_on claims gives_back stops_waiting sets number_known shown order put_behind put changed made_of told answer_told points waited grace is_before newcomers beyond allowed
returns-clause-then c never =
    let main : Progress Place = record { state = record { body = 0; gone = 0 }; owed = answer.None; blocked = None } in
    never 1 1 main (lt-suc_self 1) (record { steps = refl; is_so_far = refl; unblocked = refl }) 0 0 (lt-suc_self 0) refl

pub returns-clause-refused : goal.returns-clause-refused
unfolding read_answer read_after came_to unread parts start part next_part closes is_placed is_put_waiting is_put_back steps takes dispatches runs trails readies_all readies moves pass looks comes_for to_wake all_woken woken is_ready_at wakes waits_until gone_on tried_again may_be_canceled begun row_of is_alone withdraws_from hands_on_seat ending mutexes_had locks_held tells_each runs_each destructs next_destructor leaves is_dead_with forgets makes raises_ready leaves_queue enters goes_on claims gives_back stops_waiting sets number_known shown order put_behind put changed made_of told answer_told points waited grace is_before newcomers beyond allowed
returns-clause-refused c = refl

pub returns-clause-waits : goal.returns-clause-waits
unfolding read_answer read_after came_to unread parts start part next_part closes is_placed is_put_waiting is_put_back steps takes dispatches runs trails readies_all readies moves pass looks comes_for to_wake all_woken woken is_ready_at wakes waits_until gone_on tried_again may_be_canceled begun row_of is_alone withdraws_from hands_on_seat ending mutexes_had locks_held tells_each runs_each destructs next_destructor leaves is_dead_with forgets makes raises_ready leaves_queue enters goes_on claims gives_back stops_waiting sets number_known shown order put_behind put changed made_of told answer_told points waited grace is_before newcomers beyond allowed
returns-clause-waits c = refl
