use Rattle.std.proofs.Common.{◌≡◌, ◌<◌, ◌∙◌, ℕ, Option, Some, Result, Ok, Err, IfOk, OnErr, refl, sym, ap, subst, arith, rules}
use Rattle.pth_base.specs.declared.errno.Errno.{Errno}
use Rattle.pth_base.specs.declared.ids.HandlerId.{HandlerId}
use Rattle.pth_threads.specs.Threads.{ThreadsOf}
use Rattle.pth_model.specs.Store.{Store, with_keys}
use Rattle.pth_lock.specs.Mutexes.{MutexTable, mutexes_of}
use Rattle.pth_lock.specs.RwLocks.{LockTables, tables_of as locks_of}
use Rattle.pth_port.specs.Ports.{PortsOf}
use Rattle.pth_store.specs.Cleanups.{Stacks, stacks_of}
use Rattle.pth_store.specs.Keys.{KeysOf, Tables, tables_of, created}
use Rattle.pth_world.specs.Store.{name_limit, store_of, stored_by, HasNothing}
use Rattle.pth_world.proofs.Stores.{create_answer_is, created_is, nothing_under, stored_keeps}
use Rattle.pth_world.proofs.world.World.create_key.Goals as goal

pub returns-clause-answer : goal.returns-clause-answer
returns-clause-answer g c = let w = c.self.inside in rw (← c.self.view_is) (c.create.ensures.answer ∙ sym (create_answer_is w.threads (tables_of w.keys) (stacks_of w.cleanups) (mutexes_of w.mutexes) (locks_of w.rw_locks) w.ports))

module _ (x : ThreadsOf) (old new : KeysOf) (S : Stacks) (M : MutexTable) (L : LockTables) (R : PortsOf) (h : Option HandlerId) where
  -- a key is live, where there is one
  abbrev Changes : Result ℕ Errno → Type 0
  Changes r = IfOk r (λ k. store_of (stored_by x (tables_of new) S M L R) ≡ with_keys (created k h) (store_of (stored_by x (tables_of old) S M L R)))

  changes : (r : Result ℕ Errno) → ((k : ℕ) → r ≡ Ok k → k < name_limit) → IfOk r (λ k. tables_of new ≡ created k h (tables_of old)) → Changes r
  changes (Ok k) low is = ap (λ (y : Tables). store_of (stored_by x y S M L R)) is ∙ created_is x (tables_of old) S M L R k h (low k refl)
  changes (Err e) low is = tt

  kept : (r : Result ℕ Errno) (u : ℕ) → HasNothing (store_of (stored_by x (tables_of old) S M L R)) u → Changes r → OnErr r (new ≡ old) → HasNothing (store_of (stored_by x (tables_of new) S M L R)) u
  kept (Ok k) u nothing is same = subst (λ (s : Store). HasNothing s u) (sym is) (nothing_under (store_of (stored_by x (tables_of old) S M L R)) k (Some h) u nothing)
  kept (Err e) u nothing is same = subst (λ (y : KeysOf). HasNothing (store_of (stored_by x (tables_of y) S M L R)) u) (sym same) nothing

pub returns-clause-changes : goal.returns-clause-changes
returns-clause-changes g c =
    let w = c.self.inside in
    rw (← c.self.view_is) (changes w.threads w.keys c.create.new.self (stacks_of w.cleanups) (mutexes_of w.mutexes) (locks_of w.rw_locks) w.ports c.args.h c.create.result (λ k is. search (arith, rules)) c.create.ensures.changes)

pub returns-clause-keeps : goal.returns-clause-keeps
returns-clause-keeps g c =
    let w = c.self.inside in
    let is = rw (← c.self.view_is) at (returns-clause-changes g c) in
    rw (← c.self.view_is) (stored_keeps _ _ refl (λ u dead h. kept w.threads w.keys c.create.new.self (stacks_of w.cleanups) (mutexes_of w.mutexes) (locks_of w.rw_locks) w.ports c.args.h c.create.result u h is c.create.ensures.refused))
