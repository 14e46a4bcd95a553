-- Attempts at calls on descriptors that leave the kernel as it was.
use Rattle.std.proofs.Common.{◌≡◌, ◌∙◌, ℕ, ◌+◌, ◌-◌, ◌==◌, ◌&&◌, min, not, Bool, true, false, Option, Some, None, if◌then◌else◌, refl, sym, ap, arith}
use Rattle.pth_base.specs.declared.answer.Answer.{Answer}
use Rattle.pth_base.specs.declared.answer.Answer.TheVariants.{Bytes, Fail}
use Rattle.pth_base.specs.declared.errno.Errno.{Errno}
use Rattle.pth_base.specs.declared.errno.Errno.TheVariants.{EBADF, EIO}
use Rattle.pth_io.specs.Attempts.{answered_or, counts, fails, fits, not_yet, number_answer, read_after, read_answer, write_answer, write_after, written, accept_answer, accept_after, taken_by}
use Rattle.pth_numbered.specs.Clauses.{◌when◌otherwise◌, count_or}
use Rattle.pth_kernel.proofs.Changes.{unchanged}
use Rattle.pth_kernel.specs.Entries.{is_failure}
use Rattle.pth_kernel.specs.Kernel.{Kernel, Descriptor, came, connection_accepted, connections, earliest, fd_named, is_fd_live, room, room_used}
use Rattle.pth_model.specs.Awaits.{written_in}
use Rattle.pth_model.specs.Io.{answered_or_waits, trial_for}
use Rattle.pth_model.specs.declared.awaits.Awaits.{Awaits}
use Rattle.pth_model.specs.declared.awaits.Awaits.TheVariants.{Reading, Writing, Connection}
use Rattle.pth_model.specs.declared.verdict.Verdict.{Verdict}
use Rattle.pth_model.specs.declared.verdict.Verdict.TheVariants.{Says, Blocks}

-- it refuses the call, or blocks its thread with nothing written
abbrev pub IsVain : Verdict → Type 0
IsVain (Says (Fail e)) = Unit {0}
IsVain (Blocks a) = written_in a ≡ 0
IsVain v = ⊥

-- ---- reads

read_vain : (k : Kernel) (f : ℕ) (o : Option Answer) (a : Awaits) → IsVain (answered_or_waits o a) → taken_by f o k ≡ k
read_vain k f (Some (Bytes bytes)) a vain = absurd vain
read_vain k f o a vain = refl

-- ---- writes

-- a write that fails is on a descriptor that takes nothing
failed_by : (live same failed all : Bool) (done now : ℕ) (e : Errno) → (Some (count_or done EBADF) when not live otherwise counts done when same otherwise Some (count_or done EIO) when failed otherwise counts now when all otherwise not_yet) ≡ Some (Fail e) → (live && not failed) ≡ false
failed_by false same failed all done now e is = refl
failed_by true true failed all done now e is = absurd (cc is)
failed_by true false true all done now e is = refl
failed_by true false false true done now e is = absurd (cc is)
failed_by true false false false done now e is = absurd (cc is)

module _ (k : Kernel) (f total done : ℕ) where
  gives_none : fits k f total done ≡ 0 → room_used f (fits k f total done) k ≡ k
  gives_none none =
      sym (unchanged k f (λ (d : Descriptor). record d { given = d.given + fits k f total done }) (ap (λ (n : ℕ). record (k.descriptors f) { given = n }) (omega (arith, none))))

  write_failed : (e : Errno) → write_answer k f total done ≡ Some (Fail e) → write_after f total done k ≡ k
  unfolding write_answer write_after
  write_failed e is =
      let dead : (is_fd_live k f && not (came k is_failure f)) ≡ false = failed_by (is_fd_live k f) (done == total) (came k is_failure f) (done + fits k f total done == total) done (done + fits k f total done) e is in
      gives_none (rw dead refl)

  write_idle : written k f total done ≡ 0 → write_after f total done k ≡ k
  unfolding written write_after
  write_idle none = gives_none (omega (arith, none))

  write_vain : (o : Option Answer) (a : Awaits) → o ≡ write_answer k f total done → written_in a ≡ written k f total done → IsVain (answered_or_waits o a) → write_after f total done k ≡ k
  write_vain (Some (Fail e)) a is has vain = write_failed e (sym is)
  write_vain (Some x) a is has vain = absurd vain
  write_vain None a is has vain = write_idle (sym has ∙ vain)

  fits_none : (takes : Bool) → room k f ≡ 0 → (if takes then min (room k f) (total - done) else 0) ≡ 0
  fits_none true none = omega (arith, none)
  fits_none false none = refl

  -- for which there is no room
  write_without_room : room k f ≡ 0 → write_after f total done k ≡ k
  unfolding write_after
  write_without_room none = gives_none (fits_none (is_fd_live k f && not (came k is_failure f)) none)

-- ---- accepts

accept_vain : (live failed : Bool) (g : Option ℕ) (k : Kernel) (f : ℕ) (a : Awaits) → IsVain (answered_or_waits (fails EBADF when not live otherwise answered_or number_answer g (fails EIO when failed otherwise not_yet)) a) → (if live then connection_accepted f g k else k) ≡ k
accept_vain false failed g k f a vain = refl
accept_vain true failed None k f a vain = refl
accept_vain true failed (Some g) k f a vain = absurd vain

-- ---- each attempt

-- one that comes to nothing changes nothing
pub vain_same : (k : Kernel) (a : Awaits) → IsVain (trial_for k a).verdict → (trial_for k a).after k ≡ k
unfolding read_after accept_answer accept_after
vain_same k (Reading f n) vain = read_vain k (fd_named f) (read_answer k (fd_named f) n) (Reading f n) vain
vain_same k (Writing f total done) vain = write_vain k (fd_named f) total done (write_answer k (fd_named f) total done) (Writing f total (written k (fd_named f) total done)) refl refl vain
vain_same k (Connection f) vain = accept_vain (is_fd_live k (fd_named f)) (came k is_failure (fd_named f)) (earliest (connections k (fd_named f))) k (fd_named f) (Connection f) vain
vain_same k a vain = refl

-- there is no room for what is written
abbrev pub HasNoRoom : Kernel → Awaits → Type 0
HasNoRoom k (Writing f total done) = room k (fd_named f) ≡ 0
HasNoRoom k a = Unit {0}

waits_vain : (o : Option Answer) (a b : Awaits) → written_in a ≡ 0 → answered_or_waits o a ≡ Blocks b → IsVain (answered_or_waits o a)
waits_vain None a b none is = none
waits_vain (Some x) a b none is = absurd (cc is)

-- one that is not yet and has no room neither, whatever was written before
pub waiting_same : (k : Kernel) (a b : Awaits) → (trial_for k a).verdict ≡ Blocks b → HasNoRoom k a → (trial_for k a).after k ≡ k
waiting_same k (Reading f n) b is none = vain_same k (Reading f n) (waits_vain (read_answer k (fd_named f) n) (Reading f n) b refl is)
waiting_same k (Writing f total done) b is none = write_without_room k (fd_named f) total done none
waiting_same k (Connection f) b is none = vain_same k (Connection f) (waits_vain (accept_answer k (fd_named f)) (Connection f) b refl is)
waiting_same k a b is none = refl
