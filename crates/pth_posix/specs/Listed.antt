-- A program of lists of POSIX calls, which keeps the answers.
use Rattle.std.specs.Prelude.{ℕ, ◌+◌, max, ℤ, pos, negsuc, neg_ℤ, Bool, false, List, [], ◌∷◌, ◌++◌, length, slice_get, slice_set, slice_index_or, Option, Some, None, option_and_then}
use Rattle.std.specs.Ordering.{int_eq}
use Rattle.pth_base.specs.Errors.{error_number}
use Rattle.pth_posix.specs.PosixProgram.{PosixFunctions, PosixStepped}
use Rattle.pth_posix.specs.declared.listed.ListPlace.{ListPlace}
use Rattle.pth_posix.specs.declared.panswer.PAnswer.{PAnswer}
use Rattle.pth_posix.specs.declared.panswer.PAnswer.TheVariants as answer
use Rattle.pth_posix.specs.declared.pcall.PCall.{PCall}
use Rattle.pth_posix.specs.declared.pcall.PCall.TheVariants.{Exit}

-- with one call more at the end of a body's list
abbrev pub with_call : ℕ → PCall → List (List PCall) → List (List PCall)
with_call b c lists = slice_set lists b (slice_index_or lists b [] ++ c ∷ [])

-- the call at a place, none after the last
abbrev pub call_at : List (List PCall) → ListPlace → Option PCall
call_at lists p = option_and_then (λ calls. slice_get calls p.call) (slice_get lists p.body)

-- after a list its thread exits with 0
abbrev pub listed : ListPlace → List PAnswer → Option PCall → PosixStepped ListPlace (List PAnswer)
listed p answers (Some c) = record { call = c; state = record p { call = p.call + 1 }; shared = answers }
listed p answers None = record { call = Exit (pos 0); state = p; shared = answers }

-- an answer as a number: an error is less than 0, and the end of a timed wait is -1000
abbrev pub number_told : PAnswer → Option ℤ
number_told answer.None = None
number_told (answer.Value n) = Some n
number_told (answer.Fail e) = Some (neg_ℤ (error_number e))
number_told answer.TimedOut = Some (negsuc 999)

-- whether it is this number
abbrev pub is_number : ℤ → Option ℤ → Bool
is_number v None = false
is_number v (Some n) = int_eq n v

-- What is shared is the list of the answers that steps got, the earliest first. There is a body even if there is no list.
unfoldable pub functions_of_lists : List (List PCall) → PosixFunctions ListPlace (List PAnswer)
functions_of_lists lists = record {
  shared = [];
  bodies = max 1 (length lists);
  start = λ body arg. record { body = body; call = 0 };
  step = λ p answers a. listed p (answers ++ a ∷ []) (call_at lists p);
  check = λ k v answers. is_number v (option_and_then number_told (slice_get answers k));
  act = λ handler arg index answers. record { act = None; shared = answers };
}
