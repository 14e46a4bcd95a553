-- Which threads are there, by marks alone.
use Rattle.std.specs.Prelude.{ℕ, ◌==◌, ◌||◌, pos, Bool, false, List}
use Rattle.std.specs.List.{list_any}
use Rattle.pth_base.specs.declared.answer.Answer.TheVariants.{Int}
use Rattle.pth_base.specs.declared.call.Call.TheVariants as call
use Rattle.pth_base.specs.declared.mark.Mark.{Mark}
use Rattle.pth_base.specs.declared.mark.Mark.TheVariants as mark

-- a spawn is answered t (pth_spawn)
abbrev pub is_spawn_of : ℕ → Mark → Bool
is_spawn_of t (mark.Answered u (call.Spawn b v a) (Int (pos n))) = n == t
is_spawn_of t m = false

-- t is there: main, 1, from the beginning, and another thread once a spawn is answered its number
abbrev pub is_there : ℕ → List Mark → Bool
is_there t marks = (1 == t) || list_any (is_spawn_of t) marks
