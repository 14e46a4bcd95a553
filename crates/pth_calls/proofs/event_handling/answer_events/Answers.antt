use Rattle.std.proofs.Common.{◌∙◌, sym, SFits, w64, to_z-of_z, rules, arith}
use Rattle.pth_model.specs.Rows.{row_of}
use Rattle.pth_end.proofs.Answers.{if_ok_all}
use Rattle.pth_calls.proofs.Making.{line_answered}
use Rattle.pth_calls.proofs.Plains.{quiet_event_call}
use Rattle.std.proofs.lemmas.Result.{on_ok_weaker}
use Rattle.pth_world.proofs.Frames.{frame_as, still_frame}
use Rattle.pth_world.specs.Numbering.{Event, no_numbers, one_of}
use Rattle.pth_calls.proofs.event_handling.answer_events.Goals as goal

pub returns-in-Some-clause-answered : goal.returns-in-Some-clause-answered
returns-in-Some-clause-answered g c = line_answered g.P.Program.functions c.args.w.now c.make_event.new.w c.make_event.result c.args.t.0 c.args.call.now c.in-Some.line (sym c.line_of.ensures ∙ c.in-Some.is) c.make_event.ensures.answered

pub returns-in-Some-clause-quiet : goal.returns-in-Some-clause-quiet
returns-in-Some-clause-quiet g c = if_ok_all c.make_event.result _ (λ a. quiet_event_call c.args.t c.args.call.now a c.requires.events)

pub returns-in-Chain-clause-answered : goal.returns-in-Chain-clause-answered
unfolding row_of
returns-in-Chain-clause-answered g c =
    let e : SFits w64 c.in-Chain.e = search rules in
    rw c.in-Chain.is (simp to_z-of_z at c.chain.ensures.answered)

pub returns-in-Chain-clause-quiet : goal.returns-in-Chain-clause-quiet
returns-in-Chain-clause-quiet g c = if_ok_all c.chain.result _ (λ a. quiet_event_call c.args.t c.args.call.now a c.requires.events)

pub returns-in-EvConcat-clause-answered : goal.returns-in-EvConcat-clause-answered
unfolding row_of
returns-in-EvConcat-clause-answered g c =
    let e : SFits w64 c.in-EvConcat.e = search rules in
    let f : SFits w64 c.in-EvConcat.f = search rules in
    rw c.in-EvConcat.is (simp to_z-of_z at c.ev_concat.ensures.answered)

pub returns-in-EvConcat-clause-quiet : goal.returns-in-EvConcat-clause-quiet
returns-in-EvConcat-clause-quiet g c = quiet_event_call c.args.t c.args.call.now c.ev_concat.result c.requires.events

pub returns-in-EvIsolate-clause-answered : goal.returns-in-EvIsolate-clause-answered
unfolding row_of
returns-in-EvIsolate-clause-answered g c =
    let e : SFits w64 c.in-EvIsolate.e = search rules in
    rw c.in-EvIsolate.is (simp to_z-of_z at c.ev_isolate.ensures.answered)

pub returns-in-EvIsolate-clause-quiet : goal.returns-in-EvIsolate-clause-quiet
returns-in-EvIsolate-clause-quiet g c = quiet_event_call c.args.t c.args.call.now c.ev_isolate.result c.requires.events

pub returns-in-EvWalk-clause-answered : goal.returns-in-EvWalk-clause-answered
unfolding row_of
returns-in-EvWalk-clause-answered g c =
    let e : SFits w64 c.in-EvWalk.e = search rules in
    rw c.in-EvWalk.is (simp to_z-of_z at c.ev_walk.ensures)

pub returns-in-EvWalk-clause-quiet : goal.returns-in-EvWalk-clause-quiet
returns-in-EvWalk-clause-quiet g c = quiet_event_call c.args.t c.args.call.now c.ev_walk.result c.requires.events

pub returns-in-EvStatus-clause-answered : goal.returns-in-EvStatus-clause-answered
unfolding row_of
returns-in-EvStatus-clause-answered g c =
    let e : SFits w64 c.in-EvStatus.e = search rules in
    rw c.in-EvStatus.is (simp to_z-of_z at c.ev_status.ensures)

pub returns-in-EvStatus-clause-quiet : goal.returns-in-EvStatus-clause-quiet
returns-in-EvStatus-clause-quiet g c = quiet_event_call c.args.t c.args.call.now c.ev_status.result c.requires.events

pub returns-in-EvKind-clause-answered : goal.returns-in-EvKind-clause-answered
unfolding row_of
returns-in-EvKind-clause-answered g c =
    let e : SFits w64 c.in-EvKind.e = search rules in
    rw c.in-EvKind.is (simp to_z-of_z at c.ev_kind.ensures)

pub returns-in-EvKind-clause-quiet : goal.returns-in-EvKind-clause-quiet
returns-in-EvKind-clause-quiet g c = quiet_event_call c.args.t c.args.call.now c.ev_kind.result c.requires.events

pub returns-in-EvFree-clause-answered : goal.returns-in-EvFree-clause-answered
unfolding row_of
returns-in-EvFree-clause-answered g c =
    let e : SFits w64 c.in-EvFree.e = search rules in
    rw c.in-EvFree.is (simp to_z-of_z at c.ev_free.ensures.answered)

pub returns-in-EvFree-clause-quiet : goal.returns-in-EvFree-clause-quiet
returns-in-EvFree-clause-quiet g c = quiet_event_call c.args.t c.args.call.now c.ev_free.result c.requires.events

pub returns-in-Some-clause-frame : goal.returns-in-Some-clause-frame
returns-in-Some-clause-frame g c = on_ok_weaker c.make_event.result (λ made. frame_as (one_of Event) (one_of Event) c.args.w.now c.make_event.new.w _ _ (λ k. omega arith) c.requires.runs made) c.make_event.ensures.frame

pub returns-in-Chain-clause-frame : goal.returns-in-Chain-clause-frame
returns-in-Chain-clause-frame g c = on_ok_weaker c.chain.result (λ made. frame_as (one_of Event) (one_of Event) c.args.w.now c.chain.new.w _ _ (λ k. omega arith) c.requires.runs made) c.chain.ensures.frame

pub returns-in-EvConcat-clause-frame : goal.returns-in-EvConcat-clause-frame
returns-in-EvConcat-clause-frame g c = frame_as no_numbers (one_of Event) c.args.w.now c.ev_concat.new.w _ _ (λ k. omega arith) c.requires.runs c.ev_concat.ensures.frame

pub returns-in-EvIsolate-clause-frame : goal.returns-in-EvIsolate-clause-frame
returns-in-EvIsolate-clause-frame g c = frame_as no_numbers (one_of Event) c.args.w.now c.ev_isolate.new.w _ _ (λ k. omega arith) c.requires.runs c.ev_isolate.ensures.frame

pub returns-in-EvWalk-clause-frame : goal.returns-in-EvWalk-clause-frame
returns-in-EvWalk-clause-frame g c = still_frame (one_of Event) c.args.w.now _ c.requires.runs c.requires.whole

pub returns-in-EvStatus-clause-frame : goal.returns-in-EvStatus-clause-frame
returns-in-EvStatus-clause-frame g c = still_frame (one_of Event) c.args.w.now _ c.requires.runs c.requires.whole

pub returns-in-EvKind-clause-frame : goal.returns-in-EvKind-clause-frame
returns-in-EvKind-clause-frame g c = still_frame (one_of Event) c.args.w.now _ c.requires.runs c.requires.whole

pub returns-in-EvFree-clause-frame : goal.returns-in-EvFree-clause-frame
returns-in-EvFree-clause-frame g c = frame_as no_numbers (one_of Event) c.args.w.now c.ev_free.new.w _ _ (λ k. omega arith) c.requires.runs c.ev_free.ensures.frame
