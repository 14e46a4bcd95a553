use Rattle.std.proofs.Common.{SFits, w64, to_z-of_z, rules}
use Rattle.pth_model.specs.Rows.{row_of}
use Rattle.pth_calls.proofs.rwlocks.answer_rwlocks.Goals as goal

pub returns-in-RwInit-clause-told : goal.returns-in-RwInit-clause-told
unfolding row_of
returns-in-RwInit-clause-told g c =
    let l : SFits w64 c.in-RwInit.l = search rules in
    rw c.in-RwInit.is (simp to_z-of_z at c.init_lock.ensures.told)

pub returns-in-RwRelease-clause-told : goal.returns-in-RwRelease-clause-told
unfolding row_of
returns-in-RwRelease-clause-told g c =
    let l : SFits w64 c.in-RwRelease.l = search rules in
    rw c.in-RwRelease.is (simp to_z-of_z at c.release_lock.ensures.told)
