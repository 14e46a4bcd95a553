-- How calls say what a part gave them.
use Rattle.std.specs.Prelude.{◌≡◌}
use Rattle.pth_base.specs.declared.answer.Answer.{Answer}
use Rattle.pth_base.specs.declared.answer.Answer.TheVariants as answer
use Rattle.pth_base.specs.declared.refusal.Refusal.{Refusal}
use Rattle.pth_base.specs.declared.refusal.Refusal.TheVariants.{Fail, OutOfMemory}

-- the answer is the error; want of memory is no answer
abbrev pub SaysRefusal : Refusal → Answer → Type 0
SaysRefusal (Fail e) a = a ≡ answer.Fail e
SaysRefusal OutOfMemory a = ⊥
