-- What a thread keeps of the answer of its last call.
use Rattle.std.specs.Prelude.{ℕ, ℤ, pos, negsuc, length, Option, Some, None, ◌-◌, ◌^◌, nat_lt, if◌then◌else◌}
use Rattle.pth_base.specs.declared.answer.Answer.{Answer}
use Rattle.pth_base.specs.declared.answer.Answer.TheVariants as answer
use Rattle.pth_base.specs.Errors.{error_number}
use Rattle.pth_operand.specs.Values.{Scope, put_register}
use Rattle.pth_operand.specs.declared.frame.Frame.{Frame}
use Rattle.pth_operand.specs.declared.frame.Owed.{Owed}
use Rattle.pth_operand.specs.declared.frame.Owed.TheVariants as owed
use Rattle.pth_operand.specs.declared.operand.Register.{Register}

-- what `err` becomes
abbrev pub error_of : Answer → ℤ
error_of (answer.Fail e) = error_number e
error_of _ = pos 0

-- the number that goes to a register
abbrev pub number_of_answer : Answer → ℤ
number_of_answer answer.None = pos 0
number_of_answer (answer.Int n) = n
number_of_answer (answer.Bytes b) = pos (length b)
number_of_answer (answer.Sets count r w x) = count
number_of_answer (answer.Text name) = pos (length name)
number_of_answer (answer.Msg id value) = value
number_of_answer (answer.Fail e) = negsuc 0

-- the greatest number of 64 bits stands for a message's number beyond it
abbrev pub message_number : ℕ → ℤ
message_number id = if nat_lt id (2 ^ 63) then pos id else pos (2 ^ 63 - 1)

-- the bytes that were read, or the message that was got
abbrev pub held : Answer → Frame → Frame
held (answer.Bytes b) f = record f { buffer = b }
held (answer.Msg id value) f = record f { message = message_number id.0 }
held _ f = f

-- a call's answer sets `err`
abbrev pub kept : Answer → Scope → Scope
kept a s = record s { frame = record (held a s.frame) { error = error_of a; owed = owed.Nothing } }

-- and it goes to a register where the line names one
abbrev pub heard_into : Option Register → Answer → Scope → Scope
heard_into None a s = kept a s
heard_into (Some r) a s = put_register (kept a s) r (number_of_answer a)

-- what a thread keeps of an answer, by what it awaits: nothing where it made no call
abbrev pub heard_for : Owed → Answer → Scope → Scope
heard_for owed.Nothing a s = s
heard_for (owed.Answer r) a s = heard_into r a s

-- what a thread keeps of the answer that it is handed
unfoldable pub heard : Answer → Scope → Scope
heard a s = heard_for s.frame.owed a s
