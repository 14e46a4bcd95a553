-- What an attempt at a call comes to, as the code tells it.
use Rattle.std.specs.Prelude.{Option, Some, None}
use Rattle.pth_base.specs.declared.errno.Errno.{Errno}
use Rattle.pth_model.specs.declared.verdict.Verdict.{Verdict}
use Rattle.pth_model.specs.Verdict.{refused}

-- the verdict of a refusal, or else this one
abbrev pub refused_or : Option Errno → Verdict → Verdict
refused_or (Some e) v = refused e
refused_or None v = v
