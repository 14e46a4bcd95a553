use Rattle.pth_sheet.proofs.Awakenings.{awakened}
use Rattle.pth_sheet.proofs.occurrences.waiting_threads_are_awakened.Goals as goal

pub returns : goal.returns
returns p c = awakened p.P.Program.functions
