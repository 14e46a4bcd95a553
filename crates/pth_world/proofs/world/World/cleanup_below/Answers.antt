use Rattle.std.proofs.Common.{◌<◌, ◌≤◌, ◌∙◌, List, length, sym, subst, arith, rules}
use Rattle.pth_lock.specs.Mutexes.{mutexes_of}
use Rattle.pth_lock.specs.RwLocks.{tables_of as locks_of}
use Rattle.pth_store.specs.Cleanups.{PushedHandler, stacks_of, cleanup_limit}
use Rattle.pth_store.specs.Keys.{tables_of}
use Rattle.pth_world.specs.Store.{name_limit}
use Rattle.pth_world.proofs.Stores.{below_answer_is, cleanups_at}
use Rattle.pth_world.proofs.world.World.cleanup_below.Goals as goal

pub returns-clause-answer : goal.returns-clause-answer
returns-clause-answer g c =
    let w = c.self.inside in
    let e = rw (← c.self.view_is) at c.slot-slot.ensures.slot in
    let few : c.args.t.0 < name_limit = search (arith, rules) in
    rw (← c.self.view_is) (c.below_top.ensures.answer ∙ sym (below_answer_is w.threads (tables_of w.keys) (stacks_of w.cleanups) (mutexes_of w.mutexes) (locks_of w.rw_locks) w.ports c.args.t.0 c.slot-slot.result.0 e few c.args.n))

pub returns-clause-few : goal.returns-clause-few
returns-clause-few g c =
    let w = c.self.inside in
    let e = rw (← c.self.view_is) at c.slot-slot.ensures.slot in
    let few : c.args.t.0 < name_limit = search (arith, rules) in
    rw (← c.self.view_is) (subst (λ (l : List PushedHandler). length l ≤ cleanup_limit) (sym (cleanups_at w.threads (tables_of w.keys) (stacks_of w.cleanups) (mutexes_of w.mutexes) (locks_of w.rw_locks) w.ports c.args.t.0 c.slot-slot.result.0 e few)) c.below_top.ensures.few)
