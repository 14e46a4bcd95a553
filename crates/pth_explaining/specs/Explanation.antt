-- The explanation of how a run ends, by its marks.
use Rattle.std.specs.Prelude.{ℕ, ◌++◌, List, [], codes, decimal, flat_map}
use Rattle.pth_base.specs.declared.mark.Mark.{Mark}
use Rattle.pth_print.specs.WordTexts.{number_word}
use Rattle.pth_transcript.specs.declared.ending.Ending.{Ending}
use Rattle.pth_transcript.specs.declared.ending.Ending.TheVariants as ending
use Rattle.pth_explaining.specs.Circles.{blocks_of, circle_lines}
use Rattle.pth_explaining.specs.Clocks.{clock_of}
use Rattle.pth_explaining.specs.Refusals.{refusal_lines, refusals_of}
use Rattle.pth_explaining.specs.Threads.{Places, living_in, places_of}
use Rattle.pth_explaining.specs.Waits.{wait_line, waits_in}
use Rattle.pth_explaining.specs.declared.clock.Clock.{Clock}
use Rattle.pth_explaining.specs.declared.waits.Wait.{Wait}

-- how a run ended
abbrev pub ending_text : Ending → List ℕ
ending_text (ending.Ended v) = codes "ended " ++ number_word v
ending_text ending.Killed = codes "killed"
ending_text (ending.Stalled live) = codes "stalled"
ending_text (ending.StepLimit n) = codes "step limit " ++ decimal n

-- how and when a run ended
abbrev pub head_line : Ending → Clock → List ℕ
head_line e c =
    ending_text e ++ codes " after turn " ++ decimal c.turn ++ codes " at " ++ decimal c.at ++ codes "\n"

-- a line for each thread that waits, and one for each circle, with these threads alive
abbrev pub lines_with : List Mark → List ℕ → List Wait → List ℕ
lines_with marks alive waits =
    flat_map (wait_line marks alive waits) waits ++ circle_lines (blocks_of marks alive waits)

abbrev pub wait_lines : List Mark → Places → List ℕ
wait_lines marks places = lines_with marks (living_in marks places) (waits_in marks places)

-- the head, the threads that wait and their circles, and the refused calls
unfoldable pub explanation : List Mark → Ending → List ℕ
explanation marks e =
    head_line e (clock_of marks)
    ++ wait_lines marks (places_of marks)
    ++ refusal_lines [] (refusals_of marks)
