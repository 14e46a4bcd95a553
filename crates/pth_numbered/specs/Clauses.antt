-- The clauses of a call stand in order: what the first one that holds says is what the call comes to.
--
-- `x when A otherwise y` is x if A holds, and else y.
use Rattle.std.specs.Prelude.{ℕ, nat_lt, pos, Bool, true, false}
use Rattle.pth_base.specs.declared.answer.Answer.{Answer}
use Rattle.pth_base.specs.declared.answer.Answer.TheVariants.{Int, Fail}
use Rattle.pth_base.specs.declared.errno.Errno.{Errno}

infixr 4 ◌when◌otherwise◌
abbrev pub ◌when◌otherwise◌ : {A : Type 0} → A → Bool → A → A
x when true otherwise y = x
x when false otherwise y = y

-- the count if a part was done, and else an error
abbrev pub count_or : ℕ → Errno → Answer
count_or n e = Int (pos n) when nat_lt 0 n otherwise Fail e
