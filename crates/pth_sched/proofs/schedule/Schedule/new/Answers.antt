use Rattle.std.proofs.Common.{refl, arith}
use Rattle.pth_sched.proofs.Keeping.{start_going, start_nobody, start_stands}
use Rattle.pth_sched.proofs.UpperBounds.{start_bounded}
use Rattle.pth_sched.proofs.schedule.Schedule.new.Goals as goal

pub returns-clause-stands : goal.returns-clause-stands
returns-clause-stands g c = start_stands g.P.Program.functions _ _ c.in_ok-world.ensures.stands

pub returns-clause-rests : goal.returns-clause-rests
returns-clause-rests g c =
    let stands = c.in_ok-world.ensures.stands in
    record {
      keeps = record {
        going = start_going g.P.Program.functions _ _ stands c.in_ok-world.ensures.whole c.in_ok-world.ensures.one c.in_ok-world.ensures.no_objects c.in_ok-world.ensures.no_events c.in_ok-world.ensures.no_ports;
        ranks = start_bounded g.P.Program.functions _ _ stands (start_nobody g.P.Program.functions _ _ stands);
      };
      few = omega arith;
      closed = λ goes nobody. refl;
    }
