use Rattle.std.proofs.Common.{arith, refl}
use Rattle.pth_base.specs.declared.mark.Mark.TheVariants.{Answered}
use Rattle.pth_end.proofs.Answers.{answered_told, each_told}
use Rattle.std.proofs.lemmas.Result.{on_ok_weaker}
use Rattle.pth_world.proofs.Frames.{frame_as, one_at_most}
use Rattle.pth_world.specs.Numbering.{Thread, Object, Event, Port, no_numbers, one_of, one_of_each}
use Rattle.pth_calls.proofs.plain.answer.Goals as goal

pub returns-in-Library-clause-told : goal.returns-in-Library-clause-told
returns-in-Library-clause-told g c = answered_told c.args.w.now c.answer_library.new.w _ _ _ c.answer_library.ensures.quiet c.answer_library.ensures.answered

pub returns-in-Attributes-clause-told : goal.returns-in-Attributes-clause-told
returns-in-Attributes-clause-told g c = each_told c.args.w.now c.answer_attributes.new.w (Answered c.args.t c.args.call.now) c.answer_attributes.result _ c.answer_attributes.ensures.quiet c.answer_attributes.ensures.answered

pub returns-in-Threads-clause-told : goal.returns-in-Threads-clause-told
returns-in-Threads-clause-told g c = each_told c.args.w.now c.answer_threads.new.w (Answered c.args.t c.args.call.now) c.answer_threads.result _ c.answer_threads.ensures.quiet c.answer_threads.ensures.answered

pub returns-in-Events-clause-told : goal.returns-in-Events-clause-told
returns-in-Events-clause-told g c = each_told c.args.w.now c.answer_events.new.w (Answered c.args.t c.args.call.now) c.answer_events.result _ c.answer_events.ensures.quiet c.answer_events.ensures.answered

pub returns-in-Utilities-clause-told : goal.returns-in-Utilities-clause-told
returns-in-Utilities-clause-told g c = answered_told c.args.w.now c.answer_utilities.new.w _ _ _ (c.answer_utilities.ensures.quiet c.args.t.0) (c.answer_utilities.ensures.answered c.args.t.0)

pub returns-in-Conditions-clause-told : goal.returns-in-Conditions-clause-told
returns-in-Conditions-clause-told g c = answered_told c.args.w.now c.answer_conditions.new.w _ _ _ c.answer_conditions.ensures.quiet c.answer_conditions.ensures.answered

pub returns-in-Barriers-clause-told : goal.returns-in-Barriers-clause-told
returns-in-Barriers-clause-told g c = each_told c.args.w.now c.answer_barriers.new.w (Answered c.args.t c.args.call.now) c.answer_barriers.result _ c.answer_barriers.ensures.quiet c.answer_barriers.ensures.answered

pub returns-in-Io-clause-told : goal.returns-in-Io-clause-told
returns-in-Io-clause-told g c = answered_told c.args.w.now c.answer_descriptors.new.w _ _ _ (c.answer_descriptors.ensures.quiet c.args.t.0) (c.answer_descriptors.ensures.answered c.args.t.0)

pub returns-in-Cancellation-clause-told : goal.returns-in-Cancellation-clause-told
returns-in-Cancellation-clause-told g c = answered_told c.args.w.now c.answer_cancellation.new.w _ _ _ c.answer_cancellation.ensures.quiet c.answer_cancellation.ensures.answered

pub returns-in-Library-clause-frame : goal.returns-in-Library-clause-frame
returns-in-Library-clause-frame g c = frame_as no_numbers one_of_each c.args.w.now c.answer_library.new.w _ _ (λ k. omega arith) refl c.answer_library.ensures.frame

pub returns-in-Attributes-clause-frame : goal.returns-in-Attributes-clause-frame
returns-in-Attributes-clause-frame g c = on_ok_weaker c.answer_attributes.result (λ told. frame_as (one_of Object) one_of_each c.args.w.now c.answer_attributes.new.w _ _ (one_at_most Object) refl told) c.answer_attributes.ensures.frame

pub returns-in-Threads-clause-frame : goal.returns-in-Threads-clause-frame
returns-in-Threads-clause-frame g c = on_ok_weaker c.answer_threads.result (λ told. frame_as (one_of Thread) one_of_each c.args.w.now c.answer_threads.new.w _ _ (one_at_most Thread) refl told) c.answer_threads.ensures.frame

pub returns-in-Events-clause-frame : goal.returns-in-Events-clause-frame
returns-in-Events-clause-frame g c = on_ok_weaker c.answer_events.result (λ told. frame_as (one_of Event) one_of_each c.args.w.now c.answer_events.new.w _ _ (one_at_most Event) refl told) c.answer_events.ensures.frame

pub returns-in-Cancellation-clause-frame : goal.returns-in-Cancellation-clause-frame
returns-in-Cancellation-clause-frame g c = frame_as no_numbers one_of_each c.args.w.now c.answer_cancellation.new.w _ _ (λ k. omega arith) refl c.answer_cancellation.ensures.frame

pub returns-in-Utilities-clause-frame : goal.returns-in-Utilities-clause-frame
returns-in-Utilities-clause-frame g c = frame_as no_numbers one_of_each c.args.w.now c.answer_utilities.new.w _ _ (λ k. omega arith) c.requires.runs c.answer_utilities.ensures.frame

pub returns-in-Keys-clause-frame : goal.returns-in-Keys-clause-frame
returns-in-Keys-clause-frame g c = on_ok_weaker c.answer_keys.result (λ told. frame_as no_numbers one_of_each c.args.w.now c.answer_keys.new.w _ _ (λ k. omega arith) refl told) c.answer_keys.ensures.frame

pub returns-in-Ports-clause-frame : goal.returns-in-Ports-clause-frame
returns-in-Ports-clause-frame g c = on_ok_weaker c.answer_ports.result (λ told. frame_as (one_of Port) one_of_each c.args.w.now c.answer_ports.new.w _ _ (one_at_most Port) refl told) c.answer_ports.ensures.frame

pub returns-in-Cleanups-clause-frame : goal.returns-in-Cleanups-clause-frame
returns-in-Cleanups-clause-frame g c = on_ok_weaker c.answer_cleanups.result (λ told. frame_as no_numbers one_of_each c.args.w.now c.answer_cleanups.new.w _ _ (λ k. omega arith) refl told) c.answer_cleanups.ensures.frame

pub returns-in-Mutexes-clause-frame : goal.returns-in-Mutexes-clause-frame
returns-in-Mutexes-clause-frame g c = frame_as no_numbers one_of_each c.args.w.now c.answer_mutexes.new.w _ _ (λ k. omega arith) refl c.answer_mutexes.ensures.frame

pub returns-in-Rwlocks-clause-frame : goal.returns-in-Rwlocks-clause-frame
returns-in-Rwlocks-clause-frame g c = frame_as no_numbers one_of_each c.args.w.now c.answer_rwlocks.new.w _ _ (λ k. omega arith) refl c.answer_rwlocks.ensures.frame

pub returns-in-Conditions-clause-frame : goal.returns-in-Conditions-clause-frame
returns-in-Conditions-clause-frame g c = frame_as no_numbers one_of_each c.args.w.now c.answer_conditions.new.w _ _ (λ k. omega arith) refl c.answer_conditions.ensures.frame

pub returns-in-Barriers-clause-frame : goal.returns-in-Barriers-clause-frame
returns-in-Barriers-clause-frame g c = on_ok_weaker c.answer_barriers.result (λ told. frame_as no_numbers one_of_each c.args.w.now c.answer_barriers.new.w _ _ (λ k. omega arith) refl told) c.answer_barriers.ensures.frame

pub returns-in-Io-clause-frame : goal.returns-in-Io-clause-frame
returns-in-Io-clause-frame g c = frame_as no_numbers one_of_each c.args.w.now c.answer_descriptors.new.w _ _ (λ k. omega arith) c.requires.runs c.answer_descriptors.ensures.frame
