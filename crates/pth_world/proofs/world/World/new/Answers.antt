use Rattle.std.proofs.Common.{◌∙◌, ap, arith}
use Rattle.pth_kernel.specs.Kernel.{kernel_of}
use Rattle.pth_world.specs.Numbering.{Thread, Object, Event, Port}
use Rattle.pth_world.specs.Store.{store_of}
use Rattle.pth_world.specs.World.{WorldOf}
use Rattle.pth_world.proofs.Starts.{with_main, main_known, main_new, start_stands}
use Rattle.pth_world.proofs.world.World.new.Goals as goal

pub spawn-requires-clause-few : goal.spawn-requires-clause-few
spawn-requires-clause-few g c = elim [
  | Thread ↦ (let none = c.in_ok-world.ensures.made in omega arith)
  | Object ↦ (let none = c.in_ok-world.ensures.objects in omega arith)
  | Event ↦ (let none = c.in_ok-world.ensures.events in omega arith)
  | Port ↦ (let none = c.in_ok-world.ensures.ports in omega arith)
]

pub make_ready-requires-clause-known : goal.make_ready-requires-clause-known
make_ready-requires-clause-known g c =
    let one = rw c.in_ok-world.ensures.made at c.in-Ok.ensures.tid in
    let shows = rw c.main_thread.ensures at (c.in-Ok.ensures.shows _ c.in_ok-world.ensures.shows) in
    rw one (main_known g.P.Program.functions (record { program = c.args.program; kernel = kernel_of c.args.kernel; top = c.args.top }) _ shows)

pub make_ready-requires-clause-before : goal.make_ready-requires-clause-before
make_ready-requires-clause-before g c =
    let one = rw c.in_ok-world.ensures.made at c.in-Ok.ensures.tid in
    let queues = rw (c.main_thread.ensures, one) at c.in-Ok.ensures.queues in
    rw one (main_new g.P.Program.functions (record { program = c.args.program; kernel = kernel_of c.args.kernel; top = c.args.top }) _ c.in_ok-world.world.threads.queues c.in_ok-world.ensures.queues queues)

pub returns-clause-stands : goal.returns-clause-stands
returns-clause-stands g c =
    let one = rw c.in_ok-world.ensures.made at c.in-Ok.ensures.tid in
    let shows = rw c.main_thread.ensures at (c.in-Ok.ensures.shows _ c.in_ok-world.ensures.shows) in
    let ready = rw one at (c.make_ready.ensures.shows (with_main g.P.Program.functions (record { program = c.args.program; kernel = kernel_of c.args.kernel; top = c.args.top })) shows) in
    let none = c.make_ready.ensures.scheduler.store ∙ ap (λ (k : WorldOf _ _ _). k.store) c.in-Ok.ensures.same in
    start_stands g.P.Program.functions (record { program = c.args.program; kernel = kernel_of c.args.kernel; top = c.args.top }) _ ready (ap store_of none ∙ c.in_ok-world.ensures.store)
