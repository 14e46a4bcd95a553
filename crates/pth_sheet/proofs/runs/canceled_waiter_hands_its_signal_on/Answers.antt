use Rattle.std.proofs.Common.{refl}
use Rattle.pth_base.specs.Table.{put}
use Rattle.pth_numbered.specs.Numbered.{number_known}
use Rattle.pth_threads.specs.Threads.{changed, made_of}
use Rattle.pth_model.specs.Resources.{told, answer_told}
use Rattle.pth_model.specs.Standing.{put_behind, order, shown}
use Rattle.pth_model.specs.Allowance.{points, waited, grace, is_before, newcomers, beyond, allowed}
use Rattle.pth_model.specs.State.{start}
use Rattle.pth_model.specs.Transition.{tells_each}
use Rattle.pth_model.specs.Changes.{sets, goes_on, enters, leaves_queue, trails, raises_ready, makes, forgets}
use Rattle.pth_model.specs.RingWaits.{claims, gives_back, stops_waiting}
use Rattle.pth_model.specs.Barriers.{withdraws, withdraws_from}
use Rattle.pth_model.specs.Conditions.{leaves_seat, hands_on_seat}
use Rattle.pth_model.specs.Ending.{is_dead_with, leaves, runs_each, next_destructor, destructs, ending, mutexes_had, locks_held}
use Rattle.pth_model.specs.ThreadControl.{joinable_dead}
use Rattle.pth_model.specs.ThreadEnds.{is_alone}
use Rattle.pth_model.specs.Cancellation.{may_be_canceled}
use Rattle.pth_model.specs.Rows.{row_of}
use Rattle.pth_model.specs.Calls.{begun, gone_on, tried_again, wakes, waits_until}
use Rattle.pth_model.specs.Pass.{is_ready_at, woken, all_woken, looks, comes_for, to_wake, pass}
use Rattle.pth_model.specs.Part.{moves, readies, readies_all, runs, dispatches, takes, steps, is_put_back, is_put_waiting, is_placed, closes, next_part, part}
use Rattle.pth_model.specs.Run.{parts}
use Rattle.pth_sheet.proofs.runs.canceled_waiter_hands_its_signal_on.Goals as goal

pub returns-clause-marks : goal.returns-clause-marks
unfolding parts start part next_part closes is_placed is_put_waiting is_put_back steps takes dispatches runs trails readies_all readies moves pass looks comes_for to_wake all_woken woken is_ready_at wakes waits_until gone_on tried_again may_be_canceled begun row_of is_alone joinable_dead withdraws withdraws_from leaves_seat hands_on_seat ending mutexes_had locks_held tells_each runs_each destructs next_destructor leaves is_dead_with forgets makes raises_ready leaves_queue enters goes_on claims gives_back stops_waiting sets number_known shown order put_behind put changed made_of told answer_told points waited grace is_before newcomers beyond allowed
returns-clause-marks c = refl

pub returns-clause-outcome : goal.returns-clause-outcome
unfolding parts start part next_part closes is_placed is_put_waiting is_put_back steps takes dispatches runs trails readies_all readies moves pass looks comes_for to_wake all_woken woken is_ready_at wakes waits_until gone_on tried_again may_be_canceled begun row_of is_alone joinable_dead withdraws withdraws_from leaves_seat hands_on_seat ending mutexes_had locks_held tells_each runs_each destructs next_destructor leaves is_dead_with forgets makes raises_ready leaves_queue enters goes_on claims gives_back stops_waiting sets number_known shown order put_behind put changed made_of told answer_told points waited grace is_before newcomers beyond allowed
returns-clause-outcome c = refl
