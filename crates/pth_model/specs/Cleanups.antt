-- Thread cleanups, and what is done once: pth_cleanup_push, pth_cleanup_pop, pth_once.
use Rattle.std.specs.Prelude.{ℕ, not, ℤ, Option, Some, None, is_none}
use Rattle.pth_base.specs.Program.{Functions}
use Rattle.pth_base.specs.declared.errno.Errno.TheVariants.{EINVAL}
use Rattle.pth_numbered.specs.Operands.{number, is_zero, is_below}
use Rattle.pth_store.specs.Cleanups.{PushedHandler, push_answer, pop_answer}
use Rattle.pth_model.specs.Resources.{handler}
use Rattle.pth_model.specs.Verdict.{refused, says, done, by_result}
use Rattle.pth_numbered.specs.Clauses.{◌when◌otherwise◌}
use Rattle.pth_model.specs.State.{State, once_limit}
use Rattle.pth_model.specs.Transition.{Piece, silent, changes, nothing, where_so, ◌and_then◌}
use Rattle.pth_model.specs.Changes.{uses}
use Rattle.pth_model.specs.Row.{Row, ◌changing◌, ◌doing◌}
use Rattle.pth_model.specs.Acts.{runs_handler}

module _ {P S H : Type 0} (f : P → Functions S H) (t : ℕ) where
  -- t runs a handler that was pushed, if there is one
  abbrev pub runs_pushed : Option PushedHandler → Piece P S H
  runs_pushed None = silent
  runs_pushed (Some c) = runs_handler f t c.0 c.1

module _ {P S H : Type 0} (f : P → Functions S H) (s : State P S H) (t : ℕ) where
  -- pth_cleanup_push: that it is on top is told by the answer
  abbrev pub cleanup_push : Row P S H
  cleanup_push = by_result done (push_answer s.resources.store.cleanups t) changing nothing

  -- the handler that t pushed last
  abbrev pub last_pushed : Option PushedHandler
  last_pushed = pop_answer s.resources.store.cleanups t

  -- pth_cleanup_pop: the last one runs, where v is not 0; that it is taken is told by the answer
  abbrev pub cleanup_pop : ℤ → Row P S H
  cleanup_pop v =
      refused EINVAL when is_none last_pushed otherwise
      says 1
      doing where_so (not (is_zero v)) (runs_pushed f t last_pushed)

  -- pth_once: t runs a handler the first time that this is called for a control
  abbrev pub once : ℤ → ℤ → ℤ → Row P S H
  once o h v =
      refused EINVAL when not (is_below o once_limit) otherwise
      says 1
      doing where_so (not (s.control.used (number o))) (changes (uses (number o)) and_then runs_handler f t (handler h) v)
