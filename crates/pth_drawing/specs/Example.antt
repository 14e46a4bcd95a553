-- Charts, computed by the definitions alone: main spawns a thread and joins it; the thread runs, is canceled and ends; time moves
-- before main runs again, and joins the thread once more, for ever.
use Rattle.std.specs.Prelude.{ℕ, pos, negsuc, true, false, List, [], ◌∷◌, Some, None}
use Rattle.pth_base.specs.declared.answer.Answer.TheVariants.{Int}
use Rattle.pth_base.specs.declared.call.Call.TheVariants.{Spawn, Join}
use Rattle.pth_base.specs.declared.ids.Tid.{Tid}
use Rattle.pth_base.specs.declared.mark.Mark.{Mark}
use Rattle.pth_base.specs.declared.mark.Mark.TheVariants.{Dispatch, Answered, Waits, Canceled, Ended, Woke, Moved}
use Rattle.pth_drawing.specs.declared.chart.End.TheVariants.{Stalled}
use Rattle.pth_drawing.specs.declared.chart.Shown.TheVariants.{Running, Waiting}
use Rattle.pth_drawing.specs.Charts.{ChartSeen}

abbrev pub thread : ℕ → Tid
thread n = record { 0 = n }

abbrev pub its_marks : List Mark
its_marks =
    Dispatch 1 0 (thread 1) (pos 0) 0 6
    ∷ Answered (thread 1) (Spawn (pos 1) (pos 9) (pos 0)) (Int (pos 2))
    ∷ Waits (thread 1) (Join (pos 2))
    ∷ Dispatch 2 1 (thread 2) (pos 0) 0 6
    ∷ Canceled (thread 2) None
    ∷ Ended (thread 2) (negsuc 0)
    ∷ Woke (thread 1) (pos 0)
    ∷ Moved 50
    ∷ Dispatch 3 50 (thread 1) (pos 0) 0 6
    ∷ Waits (thread 1) (Join (pos 2))
    ∷ []

-- three turns, in the second of which main waits, and the end, at which it waits again
abbrev pub whole_chart : ChartSeen
whole_chart = record {
  from = 1;
  columns = 4;
  is_cut = false;
  lanes =
      record {
        thread = 1;
        stretches =
            record { shown = Running; first = 0; columns = 1 }
            ∷ record { shown = Waiting; first = 1; columns = 1 }
            ∷ record { shown = Running; first = 2; columns = 1 }
            ∷ record { shown = Waiting; first = 3; columns = 1 }
            ∷ [];
        canceled = [];
        ended = None;
      }
      ∷ record {
        thread = 2;
        stretches = record { shown = Running; first = 1; columns = 1 } ∷ [];
        canceled = 1 ∷ [];
        ended = Some 1;
      }
      ∷ [];
  moments = record { column = 2; at = 50 } ∷ [];
  end = Stalled;
}

-- its second turn alone, behind which it is cut
abbrev pub second_column : ChartSeen
second_column = record {
  from = 2;
  columns = 1;
  is_cut = true;
  lanes =
      record {
        thread = 1;
        stretches = record { shown = Waiting; first = 0; columns = 1 } ∷ [];
        canceled = [];
        ended = None;
      }
      ∷ record {
        thread = 2;
        stretches = record { shown = Running; first = 0; columns = 1 } ∷ [];
        canceled = 0 ∷ [];
        ended = Some 0;
      }
      ∷ [];
  moments = [];
  end = Stalled;
}
