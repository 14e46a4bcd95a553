-- Handlers of a program and their acts: each act is a call of the thread that runs the handler (pth_cleanup_push, pth_key_create, pth_once).
use Rattle.std.specs.Prelude.{ℕ, zero, suc, ◌+◌, ℤ, pos, Option, Some, None}
use Rattle.pth_base.specs.Program.{Functions}
use Rattle.pth_base.specs.declared.act.Act.{Act}
use Rattle.pth_base.specs.declared.act.Act.TheVariants as act
use Rattle.pth_base.specs.declared.answer.Answer.{Answer}
use Rattle.pth_base.specs.declared.answer.Answer.TheVariants as answer
use Rattle.pth_base.specs.declared.ids.HandlerId.{HandlerId}
use Rattle.pth_base.specs.declared.mark.Mark.TheVariants.{Handler, Acted}
use Rattle.pth_model.specs.declared.verdict.Verdict.{Verdict}
use Rattle.pth_model.specs.declared.verdict.Verdict.TheVariants.{Says, Yields, Blocks, Ends, Kills}
use Rattle.pth_model.specs.State.{State}
use Rattle.pth_model.specs.Transition.{Piece, silent, nothing, changes, tells, tid, ◌and_then◌}
use Rattle.pth_model.specs.Changes.{shares}
use Rattle.pth_model.specs.Row.{Row, Attempt, effect_of, ◌changing◌}
use Rattle.pth_model.specs.KeyStorage.{key_set}
use Rattle.pth_model.specs.Mutexes.{mutex_release}
use Rattle.pth_model.specs.Conditions.{cond_notify}
use Rattle.pth_model.specs.Ports.{port_put}

-- how many acts a handler may have
abbrev pub act_limit : ℕ
act_limit = 64

-- the answer of a call that is answered at once
abbrev pub answer_in : Verdict → Answer
answer_in (Says a) = a
answer_in (Yields a) = a
answer_in (Blocks p) = answer.None
answer_in (Ends v) = answer.None
answer_in Kills = answer.None

module _ {P S H : Type 0} where
  -- the row of an act of t: a note and a shared value that is set call nothing
  abbrev pub row_of_act : State P S H → ℕ → Act → Row P S H
  row_of_act s t (act.Note v) = Says answer.None changing nothing
  row_of_act s t (act.Set n v) = Says answer.None changing nothing
  row_of_act s t (act.Release m) = mutex_release s t m
  row_of_act s t (act.Notify c v) = cond_notify s c v
  row_of_act s t (act.Put p v) = port_put s p (pos 0)
  row_of_act s t (act.SetKey k v) = key_set s k

  abbrev pub acts_by : ℕ → Act → Attempt P S H → Piece P S H
  acts_by t x a = effect_of a and_then tells (Acted (tid t) x (answer_in a.verdict))

  -- an act of t is made, and told with its answer
  unfoldable pub acts : ℕ → Act → Piece P S H
  acts t x s = acts_by t x (row_of_act s t x).begin s

  -- after a look at a handler: its act, if any, and then what follows
  abbrev pub goes_on_after : ℕ → Option Act → Piece P S H → Piece P S H
  goes_on_after t None next = silent
  goes_on_after t (Some x) next = acts t x and_then next

  -- a handler's acts from an index on, which are found in at most n looks
  unfoldable pub acts_from : (P → Functions S H) → ℕ → HandlerId → ℤ → (n index : ℕ) → Piece P S H
  acts_from f t h v zero index s = silent s
  acts_from f t h v (suc n) index s =
      let x = (f s.control.program).act h.0 v index s.control.shared in
      (changes (shares x.shared) and_then goes_on_after t x.act (acts_from f t h v n (index + 1))) s

  -- all acts of a handler: it is looked at once more than there are acts at most
  abbrev pub handled : (P → Functions S H) → ℕ → HandlerId → ℤ → Piece P S H
  handled f t h v = acts_from f t h v (suc act_limit) 0

  -- t runs a handler
  abbrev pub runs_handler : (P → Functions S H) → ℕ → HandlerId → ℤ → Piece P S H
  runs_handler f t h v = tells (Handler (tid t) h v) and_then handled f t h v
