use Rattle.std.proofs.Common.{arith}
use Rattle.pth_drawing.proofs.Followed.{ahead_more, column_more, over_begun}
use Rattle.pth_drawing.proofs.drawing.Drawing.begin.Goals as goal

pub returns-then-self-gt0 : goal.returns-then-self-gt0
returns-then-self-gt0 c = λ m is from turns marks f. ahead_more c.args.self.now from turns marks m f c.args.thread is c.requires c.if-self-gt0.true

pub returns-in_ok-add : goal.returns-in_ok-add
returns-in_ok-add c = λ m is from turns marks f.
    column_more c.args.self.now from turns marks m f c.args.thread is c.requires c.add.new.self c.if-self-gt0.false (omega arith) (c.in_ok-add.ensures)

pub returns-else-count-self : goal.returns-else-count-self
returns-else-count-self c = λ m is from turns marks f.
    over_begun c.args.self.now from turns marks m f c.args.thread is c.requires c.if-self-gt0.false (omega arith)
