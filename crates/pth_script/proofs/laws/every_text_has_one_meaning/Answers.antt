use Rattle.std.proofs.Common.{inl, inr}
use Rattle.pth_script.proofs.Once.{not_both, one_script, one_kernel, one_top, same_breach, same_line}
use Rattle.pth_script.proofs.Whole.{accepted_or_refused, script_of}
use Rattle.pth_script.proofs.laws.every_text_has_one_meaning.Goals as goal

pub returns-clause-some : goal.returns-clause-some
returns-clause-some c = λ text. elim (accepted_or_refused text) [
  | inl accepted ↦ let s = script_of text accepted in inl (s.0, s.1, s.2, accepted, s.3, s.4, s.5)
  | inr refused ↦ inr refused
]

pub returns-clause-not_both : goal.returns-clause-not_both
returns-clause-not_both c = not_both

pub returns-clause-one_script : goal.returns-clause-one_script
returns-clause-one_script c = one_script

pub returns-clause-one_kernel : goal.returns-clause-one_kernel
returns-clause-one_kernel c = one_kernel

pub returns-clause-one_top : goal.returns-clause-one_top
returns-clause-one_top c = one_top

pub returns-clause-one_refusal : goal.returns-clause-one_refusal
returns-clause-one_refusal c = λ text i j b d one two. (same_line text i j b d one two, same_breach text i j b d one two)
