use Rattle.pth_end.proofs.Handled.{stored_frame}
use Rattle.pth_world.specs.Numbering.{no_numbers}
use Rattle.pth_world.proofs.Frames.{frame_then}
use Rattle.pth_world.proofs.Conditions.{seated_shows, seated_whole, seated_frame}
use Rattle.pth_model.specs.Conditions.{seat_of}
use Rattle.pth_cond.specs.Conditions.{seat_entered}
use Rattle.std.specs.Result.{is_err}
use Rattle.std.proofs.Common.{◌≡◌, ◌∙◌, false, Result, Ok, Err, OnOk, sym, refl, to_z-of_z}
use Rattle.pth_waits.proofs.conditions.take_seat.Goals as goal

entered : {A B : Type 0} {Q : Type 0} (r : Result A B) → is_err r ≡ false → OnOk r Q → Q
entered (Ok a) is q = q
entered (Err e) is q = absurd (cc is)

pub returns-clause-shows : goal.returns-clause-shows
returns-clause-shows g c =
    let changes = entered c.enter.result (sym c.is_err.ensures.value ∙ c.if-is_err.false) (rw (c.conditions_mut.ensures.value, to_z-of_z c.ranges.c) at c.enter.ensures.changes) in
    λ k sh. c.release_mutex.ensures.keeps.shows _ (seated_shows c.args.w.now c.enter.new.self (seat_entered c.args.c (seat_of c.args.t.0)) k sh changes)

pub returns-clause-frame : goal.returns-clause-frame
returns-clause-frame g c =
    let running = c.args.w.now.scheduler.running in
    let seated = record c.args.w.now { conditions = c.enter.new.self } in
    frame_then no_numbers c.args.w.now seated c.release_mutex.new.self running running false
    (seated_frame c.args.w.now c.enter.new.self c.requires.whole)
    (stored_frame seated running refl c.release_mutex.new.self (seated_whole c.args.w.now c.enter.new.self c.requires.whole) c.release_mutex.ensures.keeps)
