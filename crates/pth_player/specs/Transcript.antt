-- The text of a run, and what is written of it.
use Rattle.std.specs.Prelude.{◌++◌, ℕ, Bool, List, [], flat_map, if◌then◌else◌}
use Rattle.pth_base.specs.declared.mark.Mark.{Mark}
use Rattle.pth_model.specs.Course.{Course}
use Rattle.pth_model.specs.Living.{live}
use Rattle.pth_model.specs.State.{now_of}
use Rattle.pth_print.specs.MarkLines.{mark_line}
use Rattle.pth_print.specs.EndLines.{end_line, summary_line}
use Rattle.pth_command.specs.CommandLine.{Asked}

-- the lines of marks, with what an audit tells of dispatches if one is asked for
abbrev pub lines_of : (audit : Bool) → List Mark → List ℕ
lines_of audit marks = flat_map (mark_line audit) marks

-- what is written of marks: their lines, and nothing for a summary
abbrev pub shown_of : Asked → List Mark → List ℕ
shown_of asked marks = if asked.summary then [] else lines_of asked.audit marks

module _ {P S H : Type 0} where
  -- the line of counts: the threads ever made, the turns, the steps, and the moment
  abbrev pub counts_line : Course P S H → List ℕ
  counts_line c = summary_line c.state.control.threads.made c.turn.turns c.turn.steps (now_of c.state.control)

  -- the line of the outcome, after at most so many steps
  abbrev pub last_line : ℕ → Course P S H → List ℕ
  last_line steps c = end_line c.turn.outcome steps (live c.state)

  -- The text of a run that came so far: the lines of all marks and the line of the outcome. If a summary is asked for, the
  -- line of counts stands in place of the marks'.
  abbrev pub text_of : Asked → Course P S H → List ℕ
  text_of asked c = (if asked.summary then counts_line c else lines_of asked.audit c.marks) ++ last_line asked.steps c

  -- the line of counts if a summary is asked for
  abbrev pub counts_of : Asked → Course P S H → List ℕ
  counts_of asked c = if asked.summary then counts_line c else []

  -- what is written after all marks
  abbrev pub ending_of : Asked → Course P S H → List ℕ
  ending_of asked c = counts_of asked c ++ last_line asked.steps c
