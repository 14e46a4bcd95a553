use Rattle.pth_tables.proofs.Items.{items-set, becomes-set, kept_set}
use Rattle.pth_tables.proofs.progress_table.ProgressTable.set.Goals as goal

pub returns-clause-set : goal.returns-clause-set
returns-clause-set g c = rw (← c.self.view_is) (items-set c.self.inside.items.items c.args.s.0 c.self.invariant.long c.requires c.args.p)

pub invariant_of-self : goal.invariant_of-self
invariant_of-self g c =
    kept_set c.self.inside.items.items _ c.self.inside.awaited.items _ c.self.invariant c.args.s.0 c.requires c.args.p c.awaited_in.result
    (becomes-set c.self.inside.items.items c.args.s.0 c.self.invariant.long c.requires _ c.args.p) c.awaited_in.ensures
