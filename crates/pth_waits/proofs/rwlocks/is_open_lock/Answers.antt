use Rattle.pth_world.specs.Store.{store_of}
use Rattle.pth_model.specs.Store.{Store}
use Rattle.pth_lock.specs.RwLocks.{LockTables, lock_free_answer, may_enter}
use Rattle.pth_lock.specs.Objects.{object_named}
use Rattle.pth_base.specs.declared.errno.Errno.TheVariants.{EINVAL}
use Rattle.std.proofs.Common.{◌≡◌, ◌∙◌, ◌&&◌, not, ℤ, Bool, true, false, Ok, Err, if◌then◌else◌, sym, ap, rules, to_z-of_z}
use Rattle.pth_waits.proofs.rwlocks.is_open_lock.Goals as goal

-- a lock is open as the answer says
open_as : (x : LockTables) (write : Bool) (l : ℤ) (b : Bool) → lock_free_answer x write l ≡ Ok b → b ≡ (x.initialised (object_named l) && may_enter x write (object_named l))
open_as x write l b is = go (x.initialised (object_named l)) is
  where
    go : (live : Bool) → (if not live then Err EINVAL else Ok (may_enter x write (object_named l))) ≡ Ok b → b ≡ (live && may_enter x write (object_named l))
    go true e = cc
    go false e = absurd (cc e)

pub returns-in_default : goal.returns-in_default
returns-in_default g c = λ s st.
    let shut : c.in_default.field-0 ≡ false = search rules in
    let lock = object_named c.args.l in
    sym shut ∙ open_as (store_of c.args.w.now.store).rw_locks c.args.write c.args.l c.in_default.field-0 (sym (rw (to_z-of_z c.ranges.l) at c.is_lock_open.ensures) ∙ c.in_default.is)
    ∙ ap (λ (x : Store). x.rw_locks.initialised lock && may_enter x.rw_locks c.args.write lock) (sym st.store)
