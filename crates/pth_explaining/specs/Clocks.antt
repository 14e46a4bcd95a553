-- The turn and the moment that marks have come to.
use Rattle.std.specs.Prelude.{List, fold}
use Rattle.pth_base.specs.declared.mark.Mark.{Mark}
use Rattle.pth_base.specs.declared.mark.Mark.TheVariants as mark
use Rattle.pth_explaining.specs.declared.clock.Clock.{Clock}

-- before the first turn
abbrev pub start : Clock
start = record { turn = 0; at = 0 }

-- a dispatch begins a turn, at its moment, and time may move behind a turn
abbrev pub clock_after : Clock → Mark → Clock
clock_after c (mark.Dispatch turn at t rank waited allowed) = record { turn = turn; at = at }
clock_after c (mark.Moved at) = record { turn = c.turn; at = at }
clock_after c m = c

-- the last turn and the last moment
abbrev pub clock_of : List Mark → Clock
clock_of marks = fold clock_after start marks
