use Rattle.std.proofs.Common.{◌∙◌, refl, arith}
use Rattle.pth_queue.specs.Arena.{slots_of}
use Rattle.pth_tables.specs.Waits.{waits_of}
use Rattle.pth_tables.specs.Marks.{up_to}
use Rattle.pth_tables.proofs.Places.{at_low, at_home}
use Rattle.pth_tables.proofs.Walks.{at_first, settled, at_next, walk_goes_on, walk_ends}
use Rattle.pth_tables.proofs.dispatching.walk.Goals as goal

pub places-init : goal.places-init
places-init c = (at_first c.args.queues.now (waits_of c.args.waits.now) c.args.due c.args.from c.requires.from c.requires.some, refl)

pub settle-left-requires-clause-room : goal.settle-left-requires-clause-room
settle-left-requires-clause-room c = let low = at_low c.args.queues.now c.requires.orderly c.places.at c.places.invariant.0.at in let long = c.places.invariant.1 in let room = c.requires.room in omega arith

pub settle-left-requires-clause-some : goal.settle-left-requires-clause-some
settle-left-requires-clause-some c = c.places.invariant.0.some

pub returns-then-left-eq0-clause-value : goal.returns-then-left-eq0-clause-value
returns-then-left-eq0-clause-value c =
    let x = waits_of c.args.waits.now in
    let walked = settled c.args.queues.now x c.args.from.place c.args.due c.places.left c.places.at (waits_of c.places.waits) c.places.invariant.0 c.settle-left.result (waits_of c.settle-left.new.waits) c.settle-left.ensures.left c.settle-left.ensures.value in
    walk_ends x (up_to c.args.from.place (slots_of c.args.queues.now.ready)) c.args.due c.settle-left.result c.places.at.place (waits_of c.settle-left.new.waits) walked c.if-left-eq0.true

pub before-requires : goal.before-requires
before-requires c = rw (at_home c.args.queues.now c.requires.orderly c.places.at c.places.invariant.0.at) refl

pub overflow_sub-at : goal.overflow_sub-at
overflow_sub-at c =
    let x = waits_of c.args.waits.now in
    let walked = settled c.args.queues.now x c.args.from.place c.args.due c.places.left c.places.at (waits_of c.places.waits) c.places.invariant.0 c.settle-left.result (waits_of c.settle-left.new.waits) c.settle-left.ensures.left c.settle-left.ensures.value in
    let other = c.if-left-eq0.false in
    walk_goes_on x (up_to c.args.from.place (slots_of c.args.queues.now.ready)) c.args.due c.settle-left.result c.places.at.place (waits_of c.settle-left.new.waits) walked (omega arith) c.requires.told

pub places-smaller : goal.places-smaller
places-smaller c =
    let x = waits_of c.args.waits.now in
    let walked = settled c.args.queues.now x c.args.from.place c.args.due c.places.left c.places.at (waits_of c.places.waits) c.places.invariant.0 c.settle-left.result (waits_of c.settle-left.new.waits) c.settle-left.ensures.left c.settle-left.ensures.value in
    let other = c.if-left-eq0.false in
    let above = walk_goes_on x (up_to c.args.from.place (slots_of c.args.queues.now.ready)) c.args.due c.settle-left.result c.places.at.place (waits_of c.settle-left.new.waits) walked (omega arith) c.requires.told in
    omega arith

pub places-preserved : goal.places-preserved
places-preserved c =
    let x = waits_of c.args.waits.now in
    let walked = settled c.args.queues.now x c.args.from.place c.args.due c.places.left c.places.at (waits_of c.places.waits) c.places.invariant.0 c.settle-left.result (waits_of c.settle-left.new.waits) c.settle-left.ensures.left c.settle-left.ensures.value in
    let other = c.if-left-eq0.false in
    let above = walk_goes_on x (up_to c.args.from.place (slots_of c.args.queues.now.ready)) c.args.due c.settle-left.result c.places.at.place (waits_of c.settle-left.new.waits) walked (omega arith) c.requires.told in (
      at_next c.args.queues.now x c.args.from.place c.args.due c.places.left c.places.at (waits_of c.places.waits) c.places.invariant.0 c.requires.orderly c.settle-left.result (waits_of c.settle-left.new.waits) _ walked (omega arith) above refl c.before-in-places.ensures,
      c.settle-left.ensures.room ∙ c.places.invariant.1,
    )
