use Rattle.std.proofs.Common.{None, option_map, ap}
use Rattle.pth_base.specs.Table.{table}
use Rattle.pth_model.specs.Changes.{owing}
use Rattle.pth_tables.specs.declared.progress_table.ProgressTable.TheInside.{Inside}
use Rattle.pth_tables.proofs.Items.{Becomes, becomes-some, becomes-none, kept_same, owing_awaited}
use Rattle.pth_tables.proofs.progress_table.ProgressTable.owe.Given as given
use Rattle.pth_tables.proofs.progress_table.ProgressTable.owe.Goals as goal
use Rattle.pth_tables.proofs.progress_table.ProgressTable.owe.Goals.{in-Some, in_default}

changes : (g : given.Over) (c : goal.Joined-index_mut g) → Becomes c.self.inside.items.items c.match-index_mut.self-inside.items.items c.self.inside.awaited.items c.match-index_mut.self-inside.awaited.items c.args.s.0 (option_map (owing c.args.a) (table None c.self.inside.items.items c.args.s.0))
changes g c =
    elim c.match-index_mut.branch [
      | in-Some w ↦ becomes-some c.self.inside.items.items c.args.s.0 c.self.invariant.long c.requires (owing c.args.a) _ _ _ c.index_mut.result.now c.index_mut.ensures.value w.in-Some.p w.in-Some.is (ap (λ (x : Inside g.row.S.Denot). x.items.items) w.self-inside-is) (ap (λ (x : Inside g.row.S.Denot). x.awaited.items) w.self-inside-is)
      | in_default w ↦ becomes-none c.self.inside.items.items c.args.s.0 c.self.invariant.long c.requires (owing c.args.a) _ _ _ c.index_mut.result.now c.index_mut.ensures.value w.in_default.is (ap (λ (x : Inside g.row.S.Denot). x.items.items) w.self-inside-is) (ap (λ (x : Inside g.row.S.Denot). x.awaited.items) w.self-inside-is)
    ]

pub returns-clause-set : goal.returns-clause-set
returns-clause-set g c = rw (← c.self.view_is) (changes g c).changed

pub invariant_of-self : goal.invariant_of-self
invariant_of-self g c =
    kept_same c.self.inside.items.items _ c.self.inside.awaited.items _ c.self.invariant c.args.s.0 c.requires _ (changes g c) (owing_awaited c.args.a (table None c.self.inside.items.items c.args.s.0))
