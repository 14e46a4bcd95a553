-- What an attempt at a call comes to, and how its row says so.
use Rattle.std.specs.Prelude.{ℕ, pos, Option, Some, None, Result, Ok, Err}
use Rattle.pth_base.specs.declared.answer.Answer.{Answer}
use Rattle.pth_base.specs.declared.answer.Answer.TheVariants.{Int, Fail}
use Rattle.pth_base.specs.declared.errno.Errno.{Errno}
use Rattle.pth_base.specs.declared.errno.Errno.TheVariants.{EBUSY}
use Rattle.pth_model.specs.declared.verdict.Verdict.{Verdict}
use Rattle.pth_model.specs.declared.verdict.Verdict.TheVariants.{Says}

abbrev pub refused : Errno → Verdict
refused e = Says (Fail e)

abbrev pub says : ℕ → Verdict
says n = Says (Int (pos n))

-- an answer, or else what follows
abbrev pub said_or : Option Answer → Verdict → Verdict
said_or (Some a) v = Says a
said_or None v = v

-- done, with nothing to say
abbrev pub done : Unit {0} → Verdict
done u = says 1

-- by the result of a part: refused with its error, or else as its value says
abbrev pub by_result : {A : Type 0} → (A → Verdict) → Result A Errno → Verdict
by_result v (Ok x) = v x
by_result v (Err e) = refused e

-- a clause may also be the error of a part
infixr 4 refused_as◌otherwise◌
abbrev pub refused_as◌otherwise◌ : {A : Type 0} → Result A Errno → Verdict → Verdict
refused_as Ok x otherwise w = w
refused_as Err e otherwise w = refused e

-- by what a part answers to who takes something: it is taken; or it is another's, and what follows decides; or it is refused
abbrev pub taken_or : Result (Unit {0}) Errno → Verdict → Verdict
taken_or (Ok u) v = says 1
taken_or (Err EBUSY) v = v
taken_or (Err e) v = refused e
