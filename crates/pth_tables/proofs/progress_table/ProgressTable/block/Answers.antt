use Rattle.std.proofs.Common.{◌∙◌, Some, refl, sym, ap, set}
use Rattle.pth_model.specs.declared.progress.Progress.{Progress}
use Rattle.pth_model.specs.Changes.{blocking}
use Rattle.pth_tables.specs.Progress.{awaited_at}
use Rattle.pth_tables.proofs.Items.{becomes-set, becomes-some, becomes-none, kept_set}
use Rattle.pth_tables.proofs.progress_table.ProgressTable.block.Goals as goal

pub returns-in-Some-clause-set : goal.returns-in-Some-clause-set
returns-in-Some-clause-set g c =
    rw (← c.self.view_is) (becomes-some c.self.inside.items.items c.args.s.0 c.self.invariant.long c.requires (blocking (Some c.args.b)) _ c.self.inside.awaited.items c.self.inside.awaited.items c.index_mut.result.now c.index_mut.ensures.value
    c.in-Some.p c.in-Some.is (ap (λ (p : Progress g.row.S.Denot). set c.self.inside.items.items c.args.s.0 (Some p)) c.block_by.ensures) refl).changed

pub returns-in-None-clause-set : goal.returns-in-None-clause-set
returns-in-None-clause-set g c =
    rw (← c.self.view_is) (becomes-none c.self.inside.items.items c.args.s.0 c.self.invariant.long c.requires (blocking (Some c.args.b)) _ c.self.inside.awaited.items c.self.inside.awaited.items c.index_mut.result.now c.index_mut.ensures.value c.in-None.is refl refl).changed

pub invariant_of-self : goal.invariant_of-self
invariant_of-self g c =
    kept_set c.self.inside.items.items _ c.self.inside.awaited.items _ c.self.invariant c.args.s.0 c.requires (Some c.block_by.new.p) c.awaited.result
    (becomes-set c.self.inside.items.items c.args.s.0 c.self.invariant.long c.requires _ (Some c.block_by.new.p))
    (c.awaited.ensures ∙ sym (ap (λ (p : Progress g.row.S.Denot). awaited_at (Some p)) c.block_by.ensures))
