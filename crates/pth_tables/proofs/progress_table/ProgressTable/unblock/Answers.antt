use Rattle.std.proofs.Common.{None, option_map, ap, set}
use Rattle.pth_base.specs.Table.{table}
use Rattle.pth_tables.specs.Progress.{nothing_awaited}
use Rattle.pth_model.specs.Changes.{blocking}
use Rattle.pth_tables.specs.declared.progress_table.ProgressTable.TheInside.{Inside}
use Rattle.pth_tables.proofs.Items.{Becomes, becomes-some, becomes-none, kept_set, unblocked_awaited}
use Rattle.pth_tables.proofs.progress_table.ProgressTable.unblock.Given as given
use Rattle.pth_tables.proofs.progress_table.ProgressTable.unblock.Goals as goal
use Rattle.pth_tables.proofs.progress_table.ProgressTable.unblock.Goals.{in-Some, in-None}

changes : (g : given.Over) (c : goal.Joined-index_mut g) → Becomes c.self.inside.items.items c.match-index_mut.self-inside.items.items (set c.self.inside.awaited.items c.args.s.0 nothing_awaited) c.match-index_mut.self-inside.awaited.items c.args.s.0 (option_map (blocking None) (table None c.self.inside.items.items c.args.s.0))
changes g c =
    elim c.match-index_mut.branch [
      | in-Some w ↦ becomes-some c.self.inside.items.items c.args.s.0 c.self.invariant.long c.requires (blocking None) _ _ _ c.index_mut-2.result.now c.index_mut-2.ensures.value w.in-Some.p w.in-Some.is (rw w.take.ensures.after at (ap (λ (x : Inside g.row.S.Denot). x.items.items) w.self-inside-is)) (ap (λ (x : Inside g.row.S.Denot). x.awaited.items) w.self-inside-is)
      | in-None w ↦ becomes-none c.self.inside.items.items c.args.s.0 c.self.invariant.long c.requires (blocking None) _ _ _ c.index_mut-2.result.now c.index_mut-2.ensures.value w.in-None.is (ap (λ (x : Inside g.row.S.Denot). x.items.items) w.self-inside-is) (ap (λ (x : Inside g.row.S.Denot). x.awaited.items) w.self-inside-is)
    ]

pub returns-clause-set : goal.returns-clause-set
returns-clause-set g c = rw (← c.self.view_is) (changes g c).changed

pub invariant_of-self : goal.invariant_of-self
invariant_of-self g c =
    kept_set c.self.inside.items.items _ c.self.inside.awaited.items _ c.self.invariant c.args.s.0 c.requires _ nothing_awaited (changes g c) (unblocked_awaited (table None c.self.inside.items.items c.args.s.0))
