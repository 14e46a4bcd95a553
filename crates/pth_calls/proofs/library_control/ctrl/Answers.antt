use Rattle.std.proofs.Common.{◌≡◌, pos, arith, SFits, w64, to_z, of_z, to_z-of_z, rules}
use Rattle.pth_model.specs.LibraryControl.{ctrl}
use Rattle.pth_world.proofs.Frames.{frame_as, still_frame}
use Rattle.pth_end.proofs.Deciding.{number_said}
use Rattle.pth_world.specs.Numbering.{no_numbers}
use Rattle.pth_calls.proofs.library_control.ctrl.Goals as goal

pub returns-in-Some-clause-answered : goal.returns-in-Some-clause-answered
returns-in-Some-clause-answered g c =
    let fits : SFits w64 c.from.result = search rules in
    let is : to_z w64 (of_z w64 c.from.result) ≡ pos c.in-Some.n = rw to_z-of_z c.from.ensures in
    number_said c.args.w.now (λ s. ctrl s c.args.q.now) c.in-Some.n _ is c.in-Some.ensures.count

pub returns-in-Some-clause-frame : goal.returns-in-Some-clause-frame
returns-in-Some-clause-frame g c = still_frame no_numbers c.args.w.now _ c.requires.runs c.requires.whole

pub returns-in-Favournew-clause-frame : goal.returns-in-Favournew-clause-frame
returns-in-Favournew-clause-frame g c = frame_as no_numbers no_numbers c.args.w.now c.favour_new.new.w _ _ (λ k. omega arith) c.requires.runs c.favour_new.ensures.frame

pub returns-in-Prio-clause-frame : goal.returns-in-Prio-clause-frame
returns-in-Prio-clause-frame g c = still_frame no_numbers c.args.w.now _ c.requires.runs c.requires.whole

pub returns-in-Name-clause-frame : goal.returns-in-Name-clause-frame
returns-in-Name-clause-frame g c = still_frame no_numbers c.args.w.now _ c.requires.runs c.requires.whole
