use Rattle.pth_sheet.proofs.Passes.{event_passed_over, rings_passed}
use Rattle.pth_sheet.proofs.occurrences.other_events_stay.Goals as goal

pub returns : goal.returns
returns p c = record {
  stay = event_passed_over p.P.Program.functions;
  rings = rings_passed p.P.Program.functions;
}
