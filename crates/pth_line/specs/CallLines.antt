-- The call that a call line makes in a thread that stands at it.
use Rattle.std.specs.Prelude.{List, ◌∷◌, map, option_map}
use Rattle.pth_base.specs.declared.call.Call.{Call}
use Rattle.pth_line.specs.CallOf.{call_of}
use Rattle.pth_line.specs.declared.argument.Argument.{Argument}
use Rattle.pth_line.specs.declared.argument.Argument.TheVariants as argument
use Rattle.pth_line.specs.declared.call_line.CallLine.{CallLine}
use Rattle.pth_operand.specs.Values.{Scope, operand_in, bytes_in}
use Rattle.pth_spelling.specs.Args.{Arg}
use Rattle.pth_spelling.specs.Args as arg
use Rattle.pth_spelling.specs.declared.keyword.CallWord.{CallWord}
use Rattle.pth_spelling.specs.declared.keyword.CallWord.TheVariants as calls
use Rattle.pth_spelling.specs.declared.keyword.PortWord.TheVariants as ports

-- an operand with its number or its bytes
abbrev pub arg_in : Scope → Argument → Arg
arg_in s (argument.Number x) = arg.Number (operand_in s x)
arg_in s (argument.MaybeNumber x) = arg.MaybeNumber (option_map (λ x. operand_in s x) x)
arg_in s (argument.Name name) = arg.Name name
arg_in s (argument.MaybeName name) = arg.MaybeName name
arg_in s (argument.Set set) = arg.Set set.0
arg_in s (argument.Bytes bytes) = arg.Bytes (bytes_in s.frame bytes)
arg_in s (argument.Goals goals) = arg.Goals goals
arg_in s (argument.Which all) = arg.Which all
arg_in s (argument.Mode write) = arg.Mode write
arg_in s (argument.Walk d) = arg.Walk d.forward d.until_occurred
arg_in s (argument.Field f) = arg.Field f
arg_in s (argument.State state) = arg.State state
arg_in s (argument.Query k) = arg.Query k
arg_in s (argument.Event k) = arg.Event k

abbrev pub args_in : Scope → List Argument → List Arg
args_in s os = map (λ o. arg_in s o) os

-- a reply is to the message that the thread got last
abbrev pub handed : Scope → CallWord → List Argument → List Arg
handed s (calls.Ports ports.Reply) os = arg.Number s.frame.message ∷ args_in s os
handed s w os = args_in s os

-- the call of a line
abbrev pub call_in : Scope → CallLine → Call
call_in s l = call_of l.word (handed s l.word l.operands)
