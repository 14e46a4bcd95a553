-- What a program that is written against POSIX gives.
use Rattle.std.specs.Prelude.{ℕ, ℤ, Bool}
use Rattle.pth_base.specs.Program.{Acted}
use Rattle.pth_posix.specs.declared.panswer.PAnswer.{PAnswer}
use Rattle.pth_posix.specs.declared.pcall.PCall.{PCall}

-- the next call of a thread, with the state and the shared value that its step leaves
pub record PosixStepped (S H : Type 0) : Type 0 where
  pub call : PCall
  pub state : S
  pub shared : H

-- a program as functions of the meanings of its states and of its shared value; all but `step` are as those of `Functions`
pub record PosixFunctions (S H : Type 0) : Type 0 where
  pub shared : H
  pub bodies : ℕ
  pub start : ℕ → ℤ → S
  pub step : S → H → PAnswer → PosixStepped S H
  pub check : ℕ → ℤ → H → Bool
  pub act : ℕ → ℤ → ℕ → H → Acted H
