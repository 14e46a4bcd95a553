use Rattle.std.proofs.Common.{◌≡◌, refl, arith}
use Rattle.std.proofs.lemmas.Int.{ints}
use mir.Syntax.{w64}
use mir.Val.{to_z, of_z}
use Rattle.pth_numbered.specs.Operands.{number, named}
use Rattle.pth_threads.specs.Attributes.{object_of, known_of}
use Rattle.pth_lock.specs.Mutexes.{mutexes_of}
use Rattle.pth_lock.specs.RwLocks.{tables_of as locks_of}
use Rattle.pth_store.specs.Cleanups.{stacks_of}
use Rattle.pth_store.specs.Keys.{tables_of}
use Rattle.pth_world.proofs.SettingValues.{set_shows, set_slots, set_tids, set_frame, where_set}
use Rattle.pth_world.proofs.Stores.{slots_same}
use Rattle.pth_world.proofs.world.World.attr_set.Goals as goal

pub returns-clause-answer : goal.returns-clause-answer
returns-clause-answer g c =
    let is : to_z w64 (of_z w64 c.args.a) ≡ c.args.a = omega (arith, ints) in
    rw (← c.self.view_is) (rw is at c.set.ensures.answer)

pub returns-clause-shows : goal.returns-clause-shows
returns-clause-shows g c =
    let is : to_z w64 (of_z w64 c.args.a) ≡ c.args.a = omega (arith, ints) in
    let o = named (object_of c.self.inside.attributes) c.args.a in
    rw (← c.self.view_is) (λ sound. where_set c.set.result c.self.inside.attributes.top (known_of c.self.inside.threads) o c.args.v.now (rw is at c.set.ensures.answer) (rw is at c.set.ensures.changes) (λ some s. rw (slots_same c.self.inside.threads (tables_of c.self.inside.keys) (stacks_of c.self.inside.cleanups) (mutexes_of c.self.inside.mutexes) (locks_of c.self.inside.rw_locks) c.self.inside.ports c.set.new.threads (set_slots c.self.inside.attributes c.set.new.self c.self.inside.threads c.set.new.threads (number c.args.a) c.args.v.now o some s) (set_tids c.self.inside.attributes c.set.new.self c.self.inside.threads c.set.new.threads (number c.args.a) c.args.v.now o some s)) (set_shows _ c.set.new.self c.set.new.threads c.args.a c.args.v.now o refl some s sound)))

pub returns-clause-frame : goal.returns-clause-frame
returns-clause-frame g c =
    let is : to_z w64 (of_z w64 c.args.a) ≡ c.args.a = omega (arith, ints) in
    let o = named (object_of c.self.inside.attributes) c.args.a in
    rw (← c.self.view_is) (λ whole. where_set c.set.result c.self.inside.attributes.top (known_of c.self.inside.threads) o c.args.v.now (rw is at c.set.ensures.answer) (rw is at c.set.ensures.changes) (λ some s. rw (slots_same c.self.inside.threads (tables_of c.self.inside.keys) (stacks_of c.self.inside.cleanups) (mutexes_of c.self.inside.mutexes) (locks_of c.self.inside.rw_locks) c.self.inside.ports c.set.new.threads (set_slots c.self.inside.attributes c.set.new.self c.self.inside.threads c.set.new.threads (number c.args.a) c.args.v.now o some s) (set_tids c.self.inside.attributes c.set.new.self c.self.inside.threads c.set.new.threads (number c.args.a) c.args.v.now o some s)) (set_frame _ c.set.new.self c.set.new.threads c.args.a c.args.v.now o some s whole)))

pub returns-clause-store : goal.returns-clause-store
returns-clause-store g c =
    let is : to_z w64 (of_z w64 c.args.a) ≡ c.args.a = omega (arith, ints) in
    let o = named (object_of c.self.inside.attributes) c.args.a in
    rw (← c.self.view_is) (where_set c.set.result c.self.inside.attributes.top (known_of c.self.inside.threads) o c.args.v.now (rw is at c.set.ensures.answer) (rw is at c.set.ensures.changes) (λ some s. slots_same c.self.inside.threads (tables_of c.self.inside.keys) (stacks_of c.self.inside.cleanups) (mutexes_of c.self.inside.mutexes) (locks_of c.self.inside.rw_locks) c.self.inside.ports c.set.new.threads (set_slots c.self.inside.attributes c.set.new.self c.self.inside.threads c.set.new.threads (number c.args.a) c.args.v.now o some s) (set_tids c.self.inside.attributes c.set.new.self c.self.inside.threads c.set.new.threads (number c.args.a) c.args.v.now o some s)))
