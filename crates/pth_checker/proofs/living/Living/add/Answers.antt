use Rattle.std.proofs.Common.{refl}
use Rattle.pth_checker.proofs.Alive.{follows_more}
use Rattle.pth_checker.proofs.living.Living.add.Goals as goal

pub returns : goal.returns
returns c = λ marks f. follows_more c.args.self.now _ marks c.args.mark f c.in_ok-count.ensures.alive c.in_ok-count.ensures.ended refl
