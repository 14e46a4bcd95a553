use Rattle.std.proofs.Common.{◌≡◌, ◌∙◌, true, rules}
use Rattle.pth_sched.specs.MachineOf.{machine_stops}
use Rattle.pth_sched.proofs.Showing.{stops_is}
use Rattle.pth_sched.proofs.schedule.Schedule.stops.Goals as goal

pub returns-in_default : goal.returns-in_default
returns-in_default g c =
    let halt : true ≡ machine_stops c.args.to c.args.self.now = search rules in
    record { stops = halt; run = λ s st. halt ∙ stops_is c.args.to c.args.self.now s st }

pub returns-then-is_some-clause-run : goal.returns-then-is_some-clause-run
returns-then-is_some-clause-run g c = λ s st. search rules ∙ stops_is c.args.to c.args.self.now s st

pub returns-else-is_some-clause-run : goal.returns-else-is_some-clause-run
returns-else-is_some-clause-run g c = λ s st. search rules ∙ stops_is c.args.to c.args.self.now s st
