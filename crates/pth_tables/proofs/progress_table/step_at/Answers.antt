use Rattle.std.proofs.Common.{◌∙◌, Option, Some, sym, ap}
use Rattle.pth_model.specs.declared.progress.Progress.{Progress}
use Rattle.pth_tables.specs.Progress.{awaited_at}
use Rattle.pth_tables.proofs.Items.{item_is, becomes-set, kept_same}
use Rattle.pth_tables.proofs.progress_table.step_at.Goals as goal

pub invariant_of-progress : goal.invariant_of-progress
invariant_of-progress g c =
    let stepped : Option (Progress g.row.P-State.Denot) = Some (record c.in-Some.p { state = c.step.new.state }) in
    let here = item_is c.progress.inside.items.items c.args.s.0 c.progress.invariant.long c.requires.low c.index_mut.result.now c.index_mut.ensures.value ∙ c.in-Some.is in
    kept_same c.progress.inside.items.items _ c.progress.inside.awaited.items _ c.progress.invariant c.args.s.0 c.requires.low stepped
    (becomes-set c.progress.inside.items.items c.args.s.0 c.progress.invariant.long c.requires.low _ stepped) (ap awaited_at (sym here))
