-- What the numbers of a kernel's lines stand for.
use Rattle.std.specs.Prelude.{ℕ, List, Option, option_and_then}
use Rattle.pth_kernel.specs.Trace.{latest_time, most_room, most_clock}
use Rattle.pth_text.specs.Number.{numeral_value}
use Rattle.pth_spelling.specs.WordMeanings.{number_from}

-- how many microseconds a turn takes
unfoldable pub ticks_of : List ℕ → Option ℕ
ticks_of w = option_and_then (number_from 0 most_clock) (numeral_value w)

-- the time of a stamp, in microseconds
unfoldable pub time_of : List ℕ → Option ℕ
time_of w = option_and_then (number_from 0 latest_time) (numeral_value w)

-- for how many bytes more there is room
unfoldable pub room_of : List ℕ → Option ℕ
room_of w = option_and_then (number_from 1 most_room) (numeral_value w)
