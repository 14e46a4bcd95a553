-- Calls and acts that are answered with their success.
use Rattle.std.specs.Prelude.{zero, suc, pos, Bool, true, false}
use Rattle.pth_base.specs.declared.answer.Answer.{Answer}
use Rattle.pth_base.specs.declared.answer.Answer.TheVariants.{Int}

-- the answer is 1
abbrev pub is_one : Answer → Bool
is_one (Int (pos (suc zero))) = true
is_one a = false
