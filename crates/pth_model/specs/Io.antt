-- Generalized I/O: pth_read, pth_write, pth_accept, pth_connect, pth_select, each with and without a ring of events, and the
-- closing of a descriptor; and the modes of descriptors (pth_fdmode). What one attempt comes to stands beside the attempts.
use Rattle.std.specs.Prelude.{ℕ, length, ◌&&◌, not, ℤ, negsuc, int_lt, Bool, false, List, Option, Some, None, if◌then◌else◌}
use Rattle.pth_base.specs.declared.answer.Answer.{Answer}
use Rattle.pth_base.specs.declared.errno.Errno.TheVariants.{EINVAL, EBADF, EAGAIN, EBUSY}
use Rattle.pth_kernel.specs.Kernel.{Kernel, fd_named, is_fd_live, is_nonblocking, fd_closed}
use Rattle.pth_kernel.specs.Modes.{mode_answer, sets_mode}
use Rattle.pth_io.specs.Attempts.{read_answer, read_after, write_answer, written, write_after, accept_answer, accept_after, connect_answer, select_answer, are_all_live}
use Rattle.pth_base.specs.declared.ids.FdSet.{FdSet}
use Rattle.pth_model.specs.declared.awaits.Awaits.{Awaits}
use Rattle.pth_model.specs.declared.awaits.Awaits.TheVariants.{Reading, Writing, Connection, ConnectAnswer, Selection}
use Rattle.pth_model.specs.declared.verdict.Verdict.{Verdict}
use Rattle.pth_model.specs.declared.verdict.Verdict.TheVariants.{Says, Blocks}
use Rattle.pth_model.specs.Verdict.{refused, says, said_or, by_result}
use Rattle.pth_numbered.specs.Clauses.{count_or, ◌when◌otherwise◌}
use Rattle.pth_model.specs.State.{State, now_of}
use Rattle.pth_model.specs.Transition.{changes}
use Rattle.pth_model.specs.Changes.{with_kernel}
use Rattle.pth_model.specs.Row.{Row, ◌changing◌, ◌trying◌}
use Rattle.pth_model.specs.RingWaits.{is_no_ring, is_claimed_ring}
use Rattle.pth_model.specs.Awaits.{written_in}
use Rattle.pth_model.specs.Times.{is_negative, length_of, moment_after}

-- an attempt at a call on descriptors: what it comes to, and what it does to the kernel
pub record Trial : Type 0 where
  pub verdict : Verdict
  pub after : Kernel → Kernel

-- it is answered, or not yet: then it waits for this
abbrev pub answered_or_waits : Option Answer → Awaits → Verdict
answered_or_waits o a = said_or o (Blocks a)

module _ (k : Kernel) where
  -- pth_read of up to n bytes
  abbrev pub read_trial : (f n : ℤ) → Trial
  read_trial f n = record {
    verdict = answered_or_waits (read_answer k (fd_named f) n) (Reading f n);
    after = read_after (fd_named f) n;
  }

  -- pth_write of so many bytes, of which a part was written before
  abbrev pub write_trial : ℤ → (total done : ℕ) → Trial
  write_trial f total done = record {
    verdict = answered_or_waits (write_answer k (fd_named f) total done) (Writing f total (written k (fd_named f) total done));
    after = write_after (fd_named f) total done;
  }

  -- pth_accept
  abbrev pub accept_trial : ℤ → Trial
  accept_trial f = record {
    verdict = answered_or_waits (accept_answer k (fd_named f)) (Connection f);
    after = accept_after (fd_named f);
  }

  -- an attempt that does nothing to the kernel
  abbrev pub asks : Verdict → Trial
  asks v = record { verdict = v; after = λ (x : Kernel). x }

  -- pth_connect
  abbrev pub connect_trial : ℤ → Trial
  connect_trial f = asks (answered_or_waits (connect_answer k (fd_named f)) (ConnectAnswer f))

  -- pth_select, until a deadline
  abbrev pub select_trial : (r w x : FdSet) → Option ℕ → Trial
  select_trial r w x deadline = asks (answered_or_waits (select_answer k r.0 w.0 x.0 deadline) (Selection r w x deadline))

  -- an attempt at what is awaited of descriptors; at what else is awaited, it is not yet
  abbrev pub trial_for : Awaits → Trial
  trial_for (Reading f n) = read_trial f n
  trial_for (Writing f total written) = write_trial f total written
  trial_for (Connection f) = accept_trial f
  trial_for (ConnectAnswer f) = connect_trial f
  trial_for (Selection r w x deadline) = select_trial r w x deadline
  trial_for a = asks (Blocks a)

module _ {P S H : Type 0} (s : State P S H) where
  -- What is not yet as the call begins: on a descriptor that doesn't block, or with a ring that is claimed, the call is answered at
  -- once, with its count if it wrote a part; else it blocks its thread.
  abbrev pub begins_waiting : (at_once : Bool) → Option ℤ → Verdict → Verdict
  begins_waiting at_once e (Blocks a) =
      Says (count_or (written_in a) EAGAIN) when at_once otherwise
      Says (count_or (written_in a) EBUSY) when is_claimed_ring s e otherwise
      Blocks a
  begins_waiting at_once e v = v

  abbrev trial : Awaits → Trial
  trial = trial_for s.control.kernel

  -- A call on descriptors begins with an attempt at what it would wait for, unless its ring is none, or it is refused else. Once it
  -- blocks its thread, the attempt is made again at what its wait holds.
  abbrev pub tries : Option ℤ → (refused_else at_once : Bool) → Awaits → Row P S H
  tries e refused_else at_once first = record {
    begin =
        refused EINVAL when is_no_ring s e otherwise
        refused EINVAL when refused_else otherwise
        begins_waiting at_once e (trial first).verdict
        trying changes (with_kernel (trial first).after);
    again = λ a. (trial a).verdict trying changes (with_kernel (trial a).after);
  }

  abbrev pub at_once : ℤ → Bool
  at_once f = is_nonblocking s.control.kernel (fd_named f)

  -- pth_read, pth_read_ev
  abbrev pub read : (f n : ℤ) → Option ℤ → Row P S H
  read f n e = tries e false (at_once f) (Reading f n)

  -- pth_write, pth_write_ev
  abbrev pub write : ℤ → List ℕ → Option ℤ → Row P S H
  write f bytes e = tries e false (at_once f) (Writing f (length bytes) 0)

  -- pth_accept, pth_accept_ev
  abbrev pub accept : ℤ → Option ℤ → Row P S H
  accept f e = tries e false (at_once f) (Connection f)

  -- pth_connect, pth_connect_ev
  abbrev pub connect : ℤ → Option ℤ → Row P S H
  connect f e = tries e false (at_once f) (ConnectAnswer f)

  -- a length below -1 is refused if all members of the sets are live
  abbrev pub is_refused_length : (r w x : FdSet) → ℤ → Bool
  is_refused_length r w x l = int_lt l (negsuc 0) && are_all_live s.control.kernel r.0 w.0 x.0

  -- the deadline of a select that begins now: -1 is without one
  abbrev pub select_deadline : ℤ → Option ℕ
  select_deadline l = if is_negative l then None else Some (moment_after (now_of s.control) (length_of 1 l))

  -- pth_select, pth_select_ev: modes don't matter
  abbrev pub select : (r w x : FdSet) → ℤ → Option ℤ → Row P S H
  select r w x l e = tries e (is_refused_length r w x l) false (Selection r w x (select_deadline l))

  -- pth_fdmode: the mode until now
  abbrev pub fdmode : ℤ → ℤ → Row P S H
  fdmode f m =
      by_result says (mode_answer s.control.kernel (fd_named f) m)
      changing with_kernel (sets_mode (fd_named f) m)

  -- close: the descriptor is live never again
  abbrev pub close : ℤ → Row P S H
  close f =
      refused EBADF when not (is_fd_live s.control.kernel (fd_named f)) otherwise
      says 1
      changing with_kernel (fd_closed (fd_named f))
