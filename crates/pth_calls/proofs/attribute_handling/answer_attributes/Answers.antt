use Rattle.std.proofs.Common.{SFits, w64, to_z-of_z, rules, arith}
use Rattle.pth_model.specs.Rows.{row_of}
use Rattle.pth_end.proofs.Answers.{if_ok_all}
use Rattle.pth_calls.proofs.Plains.{quiet_attribute_call}
use Rattle.std.proofs.lemmas.Result.{on_ok_weaker}
use Rattle.pth_world.proofs.Frames.{frame_as, still_frame}
use Rattle.pth_world.specs.Numbering.{Object, no_numbers, one_of}
use Rattle.pth_calls.proofs.attribute_handling.answer_attributes.Goals as goal

pub returns-in-AttrNew-clause-answered : goal.returns-in-AttrNew-clause-answered
unfolding row_of
returns-in-AttrNew-clause-answered g c = rw c.in-AttrNew.is c.attr_new.ensures.answered

pub returns-in-AttrNew-clause-quiet : goal.returns-in-AttrNew-clause-quiet
returns-in-AttrNew-clause-quiet g c = if_ok_all c.attr_new.result _ (λ a. quiet_attribute_call c.args.t c.args.call.now a c.requires.attributes)

pub returns-in-AttrOf-clause-answered : goal.returns-in-AttrOf-clause-answered
unfolding row_of
returns-in-AttrOf-clause-answered g c =
    let n : SFits w64 c.in-AttrOf.n = search rules in
    rw c.in-AttrOf.is (simp to_z-of_z at c.attr_of.ensures.answered)

pub returns-in-AttrOf-clause-quiet : goal.returns-in-AttrOf-clause-quiet
returns-in-AttrOf-clause-quiet g c = if_ok_all c.attr_of.result _ (λ a. quiet_attribute_call c.args.t c.args.call.now a c.requires.attributes)

pub returns-in-AttrInit-clause-answered : goal.returns-in-AttrInit-clause-answered
unfolding row_of
returns-in-AttrInit-clause-answered g c =
    let a : SFits w64 c.in-AttrInit.a = search rules in
    rw c.in-AttrInit.is (simp to_z-of_z at c.attr_init.ensures.answered)

pub returns-in-AttrInit-clause-quiet : goal.returns-in-AttrInit-clause-quiet
returns-in-AttrInit-clause-quiet g c = quiet_attribute_call c.args.t c.args.call.now c.attr_init.result c.requires.attributes

pub returns-in-AttrSet-clause-answered : goal.returns-in-AttrSet-clause-answered
unfolding row_of
returns-in-AttrSet-clause-answered g c =
    let a : SFits w64 c.in-AttrSet.a = search rules in
    rw c.in-AttrSet.is (simp to_z-of_z at c.attr_set.ensures.answered)

pub returns-in-AttrSet-clause-quiet : goal.returns-in-AttrSet-clause-quiet
returns-in-AttrSet-clause-quiet g c = quiet_attribute_call c.args.t c.args.call.now c.attr_set.result c.requires.attributes

pub returns-in-AttrGet-clause-answered : goal.returns-in-AttrGet-clause-answered
unfolding row_of
returns-in-AttrGet-clause-answered g c =
    let a : SFits w64 c.in-AttrGet.a = search rules in
    rw c.in-AttrGet.is (simp to_z-of_z at c.attr_get.ensures)

pub returns-in-AttrGet-clause-quiet : goal.returns-in-AttrGet-clause-quiet
returns-in-AttrGet-clause-quiet g c = quiet_attribute_call c.args.t c.args.call.now c.attr_get.result c.requires.attributes

pub returns-in-AttrDestroy-clause-answered : goal.returns-in-AttrDestroy-clause-answered
unfolding row_of
returns-in-AttrDestroy-clause-answered g c =
    let a : SFits w64 c.in-AttrDestroy.a = search rules in
    rw c.in-AttrDestroy.is (simp to_z-of_z at c.attr_destroy.ensures.answered)

pub returns-in-AttrDestroy-clause-quiet : goal.returns-in-AttrDestroy-clause-quiet
returns-in-AttrDestroy-clause-quiet g c = quiet_attribute_call c.args.t c.args.call.now c.attr_destroy.result c.requires.attributes

pub returns-in-AttrNew-clause-frame : goal.returns-in-AttrNew-clause-frame
returns-in-AttrNew-clause-frame g c = on_ok_weaker c.attr_new.result (λ made. frame_as (one_of Object) (one_of Object) c.args.w.now c.attr_new.new.w _ _ (λ k. omega arith) c.requires.runs made) c.attr_new.ensures.frame

pub returns-in-AttrOf-clause-frame : goal.returns-in-AttrOf-clause-frame
returns-in-AttrOf-clause-frame g c = on_ok_weaker c.attr_of.result (λ made. frame_as (one_of Object) (one_of Object) c.args.w.now c.attr_of.new.w _ _ (λ k. omega arith) c.requires.runs made) c.attr_of.ensures.frame

pub returns-in-AttrInit-clause-frame : goal.returns-in-AttrInit-clause-frame
returns-in-AttrInit-clause-frame g c = frame_as no_numbers (one_of Object) c.args.w.now c.attr_init.new.w _ _ (λ k. omega arith) c.requires.runs c.attr_init.ensures.frame

pub returns-in-AttrSet-clause-frame : goal.returns-in-AttrSet-clause-frame
returns-in-AttrSet-clause-frame g c = frame_as no_numbers (one_of Object) c.args.w.now c.attr_set.new.w _ _ (λ k. omega arith) c.requires.runs c.attr_set.ensures.frame

pub returns-in-AttrGet-clause-frame : goal.returns-in-AttrGet-clause-frame
returns-in-AttrGet-clause-frame g c = still_frame (one_of Object) c.args.w.now _ c.requires.runs c.requires.whole

pub returns-in-AttrDestroy-clause-frame : goal.returns-in-AttrDestroy-clause-frame
returns-in-AttrDestroy-clause-frame g c = frame_as no_numbers (one_of Object) c.args.w.now c.attr_destroy.new.w _ _ (λ k. omega arith) c.requires.runs c.attr_destroy.ensures.frame
