use Rattle.std.proofs.Common.{◌∙◌, ℕ, IfSome, Option, subst, sym, rules, SFits, w64, to_z-of_z}
use Rattle.pth_world.proofs.Barriers.{barred_frame}
use Rattle.pth_world.specs.Sound.{IsKnown}
use Rattle.pth_waits.proofs.Reaching.{arrival_begins}
use Rattle.pth_waits.proofs.Room.{room_wanted}
use Rattle.pth_waits.proofs.barriers.reach_barrier.Goals as goal

pub arrive-arrival-requires : goal.arrive-arrival-requires
arrive-arrival-requires g c =
    let b : SFits w64 c.args.b = search rules in
    let room = rw (c.barriers.ensures, to_z-of_z) at c.has_room.ensures in
    rw (c.barriers_mut.ensures.value, to_z-of_z) (sym room ∙ c.if-not-has_room.false)

pub returns-clause-attempts : goal.returns-clause-attempts
returns-clause-attempts g c =
    let b : SFits w64 c.args.b = search rules in
    let answer = rw (c.barriers_mut.ensures.value, to_z-of_z) at c.arrive-arrival.ensures.answer in
    let changes = rw (c.barriers_mut.ensures.value, to_z-of_z) at c.arrive-arrival.ensures.changes in
    let refused = rw c.barriers_mut.ensures.value at c.arrive-arrival.ensures.refused in
    let said = rw to_z-of_z at c.arrived_as.ensures in
    rw said (arrival_begins c.args.w.now c.arrive-arrival.new.self c.args.t.0 c.args.b c.arrive-arrival.result answer changes refused)

pub returns-clause-frame : goal.returns-clause-frame
returns-clause-frame g c = barred_frame c.args.w.now c.arrive-arrival.new.self c.requires.whole

pub returns-then-not-has_room-clause-wanted : goal.returns-then-not-has_room-clause-wanted
returns-then-not-has_room-clause-wanted g c =
    let w = c.args.w.now in
    let b : SFits w64 c.args.b = search rules in
    let room = rw (c.barriers.ensures, to_z-of_z) at c.has_room.ensures in
    let known = subst (λ (o : Option ℕ). IfSome o (λ r. IsKnown w.threads r)) c.requires.runs c.requires.whole.runner in
    λ free full. room_wanted w full c.args.t.0 known free c.args.b (sym room ∙ c.if-not-has_room.true)
