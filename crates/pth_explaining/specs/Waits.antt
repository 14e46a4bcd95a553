-- Which threads wait, and how a wait is said.
use Rattle.std.specs.Prelude.{ℕ, ◌++◌, false, List, [], Option, Some, None, codes, decimal, slice_get}
use Rattle.std.specs.List.{filter_map}
use Rattle.pth_base.specs.declared.mark.Mark.{Mark}
use Rattle.pth_base.specs.declared.mark.Mark.TheVariants as mark
use Rattle.pth_print.specs.MarkLines.{mark_words}
use Rattle.pth_print.specs.SpacedWords.{joined_words}
use Rattle.pth_explaining.specs.Causes.{cause_of, retaken_by, ring_of}
use Rattle.pth_explaining.specs.Threads.{Places}
use Rattle.pth_explaining.specs.declared.clock.Clock.{Clock}
use Rattle.pth_explaining.specs.declared.threads.Place.{Place}
use Rattle.pth_explaining.specs.declared.waits.Wait.{Wait}
use Rattle.pth_explaining.specs.Whom.{cause_text, ring_text}

-- the wait of t that a mark tells of, which stands at a place
abbrev pub wait_of : ℕ → Place → Mark → Option Wait
wait_of t x (mark.Waits u c) = Some (record { thread = t; place = x; cause = cause_of c; ring = ring_of c })
wait_of t x (mark.Retakes u c) = Some (record { thread = t; place = x; cause = retaken_by c; ring = None })
wait_of t x m = None

abbrev pub wait_at : ℕ → Place → Option Mark → Option Wait
wait_at t x None = None
wait_at t x (Some m) = wait_of t x m

-- the threads that wait, by rising number: the last mark about each of them says that it waits
abbrev pub waits_in : List Mark → Places → List Wait
waits_in marks places = filter_map (λ e. wait_at e.0 e.1 (slice_get marks e.1.index)) places

-- the line of a mark, without its LF
abbrev pub mark_text : Option Mark → List ℕ
mark_text None = []
mark_text (Some m) = joined_words (mark_words false m)

-- since when a thread waits
abbrev pub since_text : Clock → List ℕ
since_text c = codes " (since turn " ++ decimal c.turn ++ codes " at " ++ decimal c.at ++ codes ")\n"

-- the line of a wait: that of its mark, and behind it what the thread waits for, and since when
unfoldable pub wait_line : List Mark → List ℕ → List Wait → Wait → List ℕ
wait_line marks alive waits w =
    mark_text (slice_get marks w.place.index) ++ cause_text marks alive waits w.thread w.cause
    ++ ring_text w.ring ++ since_text w.place.clock
