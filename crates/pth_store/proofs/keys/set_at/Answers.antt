use Rattle.std.proofs.Common.{◌<◌, ◌∙◌, ℕ, ℤ, length, ap, to_z-of_z}
use Rattle.std.proofs.lemmas.Result.{on_ok_weaker, on_err_weaker}
use Rattle.pth_base.specs.Table.{put}
use Rattle.pth_store.proofs.Rows.{under-put, under-same}
use Rattle.pth_store.proofs.keys.set_at.Goals as goal

pub returns-clause-ok : goal.returns-clause-ok
returns-clause-ok c =
    let low : c.args.s < length c.add_rows.new.rows.items = c.in_ok-add_rows.ensures.long in
    on_ok_weaker c.set_in.result
    (λ is. under-put _ c.add_rows.new.rows.items c.args.s c.index_mut.result.now low c.index_mut.ensures.value c.set_in.new.row c.args.k c.args.v is
    ∙ ap (λ (f : ℕ → ℕ → ℤ). put f c.args.k (put (f c.args.k) c.args.s c.args.v)) c.add_rows.ensures.same)
    (rw (to_z-of_z c.ranges.v) at c.set_in.ensures.ok)

pub returns-clause-err : goal.returns-clause-err
returns-clause-err c =
    let low : c.args.s < length c.add_rows.new.rows.items = c.in_ok-add_rows.ensures.long in
    on_err_weaker c.set_in.result
    (λ is. under-same _ c.add_rows.new.rows.items c.args.s c.index_mut.result.now low c.index_mut.ensures.value c.set_in.new.row is ∙ c.add_rows.ensures.same)
    c.set_in.ensures.err
