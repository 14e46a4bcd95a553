use Rattle.pth_audit.proofs.Following.{follows_more}
use Rattle.pth_audit.proofs.endings.Endings.add.Goals as goal

pub returns : goal.returns
returns c = λ marks f. follows_more c.args.self.now _ marks c.args.mark.now
    (record {
      ended = c.in_ok-add-2.ensures.ended;
      canceled = c.in_ok-add-2.ensures.canceled;
      pending = c.in_ok-add-3.ensures;
      keys = c.in_ok-add-4.ensures.keys;
      ordered = c.in_ok-add-4.ensures.ordered;
      values = c.in_ok-add-4.ensures.values;
      block = c.in_ok-add.ensures;
    }) f
