use Rattle.pth_snapshot.proofs.Finding.{leads_once}
use Rattle.pth_snapshot.proofs.laws.places_are_one.Goals as goal

pub returns : goal.returns
returns p c = λ g q i j one two. leads_once p.P.Program.functions g q i j one.leads two.leads
