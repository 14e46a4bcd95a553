use Rattle.std.proofs.Common.{ℕ, List, ◌++◌, codes, decimal}
use Rattle.std.proofs.lemmas.Result.{err_from_is_err_and}
use Rattle.pth_base.proofs.Cuts.{cut_none, cut_then}
use Rattle.pth_print.proofs.Cuts.{cut_at}
use Rattle.pth_print.proofs.set.add_others.Goals as goal

-- a member after a comma
abbrev other : ℕ → List ℕ
other f = codes "," ++ decimal f

pub returns-in_err-push : goal.returns-in_err-push
returns-in_err-push c =
    let p = err_from_is_err_and c.from_residual.result c.from_residual.ensures.1 in
    rw (p.1) (record { ok = tt; err = cut_at other c.args.members.now c.args.out.now c.loop-f.out _ c.loop-f.f-index 0 c.loop-f-test.true c.loop-f.invariant (cut_none _ _ _ c.in_err-push.ensures.err) })

pub returns-in_err-natural : goal.returns-in_err-natural
returns-in_err-natural c =
    let p = err_from_is_err_and c.from_residual-in_err-natural.result c.from_residual-in_err-natural.ensures.1 in
    let cut = cut_then _ _ _ (codes ",") _ c.in_ok-push.ensures.ok (cut_none _ _ _ c.in_err-natural.ensures.err) in
    rw (p.1) (record { ok = tt; err = cut_at other c.args.members.now c.args.out.now c.loop-f.out _ c.loop-f.f-index 0 c.loop-f-test.true c.loop-f.invariant cut })
