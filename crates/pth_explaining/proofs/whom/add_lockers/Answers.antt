use Rattle.std.proofs.Common.{arith}
use Rattle.pth_explaining.proofs.Lockers.{both, called, unwritten, written}
use Rattle.pth_explaining.proofs.whom.add_lockers.Goals as goal

pub returns-then-is_empty : goal.returns-then-is_empty
returns-then-is_empty c =
    called c.add_readers.result _ _ _ _ c.add_readers.ensures
    (unwritten c.args.writers.now c.args.readers.now (let none = c.is_empty.ensures in let is = c.if-is_empty.true in grind (arith, none, is)))

pub returns : goal.returns
returns c =
    both c.add_named-2.result _ _ _ _ _ _ c.add_named-2.ensures c.in_ok-add_named.ensures
    (written c.args.writers.now c.args.readers.now (let some = c.is_empty.ensures in let not = c.if-is_empty.false in grind (arith, some, not)))
