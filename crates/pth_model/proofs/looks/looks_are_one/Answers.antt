use Rattle.pth_model.proofs.Looked.{looks_again, looks_joined}
use Rattle.pth_model.proofs.looks.looks_are_one.Goals as goal

pub returns : goal.returns
returns p c = record {
  again = looks_again p.P.Program.functions;
  joined = looks_joined p.P.Program.functions;
}
