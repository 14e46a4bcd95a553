-- The words of a call's operands are read as these operands.
use Rattle.std.proofs.Common.{◌≡◌, ◌∙◌, Bool, true, false, ◌&&◌, List, [], ◌∷◌, Some, None, refl, ap, subst, map}
use Rattle.std.specs.Prelude.{option_map}
use Rattle.pth_base.specs.declared.call.Call.{Call}
use Rattle.pth_grammar.specs.CallLines.{argument_of, arguments_of, call_line}
use Rattle.pth_grammar.specs.Forms.{call_forms}
use Rattle.pth_line.specs.CallLines.{arg_in, args_in, handed}
use Rattle.pth_line.specs.CallOf.{call_of}
use Rattle.pth_line.specs.declared.call_line.CallLine.{CallLine}
use Rattle.pth_line.specs.declared.argument.Argument.{Argument}
use Rattle.pth_line.specs.declared.argument.Argument.TheVariants as argument
use Rattle.pth_operand.specs.Values.{Scope}
use Rattle.pth_operand.specs.declared.operand.ByteOperand.TheVariants as bytes
use Rattle.pth_operand.specs.declared.operand.Operand.TheVariants as operand
use Rattle.pth_print.proofs.Made.{made}
use Rattle.pth_print.specs.ArgWords.{arg_word}
use Rattle.pth_print.specs.Args.{Arg}
use Rattle.pth_print.specs.Args as arg
use Rattle.pth_print.specs.CallWords.{arg_words, call_words, words_of}
use Rattle.pth_print.specs.Made.{IsMadeBy}
use Rattle.pth_print.specs.Parts.{Parts, parts_of}
use Rattle.pth_spelling.specs.declared.form.Form.{Form}
use Rattle.pth_spelling.specs.declared.form.Form.TheVariants as form
use Rattle.pth_spelling.specs.declared.keyword.CallWord.{CallWord}
use Rattle.pth_spelling.specs.declared.keyword.CallWord.TheVariants as calls
use Rattle.pth_spelling.specs.declared.keyword.PortWord.TheVariants as ports
use Rattle.pth_transcript.specs.Readable.{IsReadable, IsReadableArg, AreReadable, IsReadableBy}
use Rattle.pth_transcript.proofs.Scripted.{is_own, IsRead, scripted}
use Rattle.pth_transcript.proofs.SetsBack.{set_back}
use Rattle.pth_transcript.proofs.WordsBack.{number_back, maybe_number_back, maybe_name_back, goals_back, which_back, field_back, state_back, mode_back}
use Rattle.pth_transcript.proofs.WordsBack.{direction_back, query_back, event_back}

-- ---- operands of a call in a line

-- the form of an operand; bytes are read by themselves
abbrev pub form_of : Arg → Form
form_of (arg.Number n) = form.Operand
form_of (arg.MaybeNumber n) = form.MaybeOperand
form_of (arg.Name name) = form.Name
form_of (arg.MaybeName name) = form.MaybeName
form_of (arg.Set set) = form.Set
form_of (arg.Bytes b) = form.Bytes
form_of (arg.Goals goals) = form.Goals
form_of (arg.Which all) = form.Which
form_of (arg.Mode write) = form.Mode
form_of (arg.Walk forward until_occurred) = form.Direction
form_of (arg.Field f) = form.Field
form_of (arg.State s) = form.State
form_of (arg.Query k) = form.Query
form_of (arg.Event k) = form.Event

abbrev pub forms_of : List Arg → List Form
forms_of os = map (λ o. form_of o) os

-- bytes are not read as a script has them
abbrev pub is_scripted : Arg → Bool
is_scripted (arg.Bytes b) = false
is_scripted _ = true

abbrev pub are_scripted : List Arg → Bool
are_scripted [] = true
are_scripted (o ∷ os) = is_scripted o && are_scripted os

-- an operand as a line has it
as_argument : Arg → Argument
as_argument (arg.Number n) = argument.Number (operand.Number n)
as_argument (arg.MaybeNumber n) = argument.MaybeNumber (option_map (λ n. operand.Number n) n)
as_argument (arg.Name name) = argument.Name name
as_argument (arg.MaybeName name) = argument.MaybeName name
as_argument (arg.Set set) = argument.Set (record { 0 = set })
as_argument (arg.Bytes b) = argument.Bytes (bytes.Given b)
as_argument (arg.Goals goals) = argument.Goals goals
as_argument (arg.Which all) = argument.Which all
as_argument (arg.Mode write) = argument.Mode write
as_argument (arg.Walk forward until_occurred) = argument.Walk (record { forward = forward; until_occurred = until_occurred })
as_argument (arg.Field f) = argument.Field f
as_argument (arg.State s) = argument.State s
as_argument (arg.Query k) = argument.Query k
as_argument (arg.Event k) = argument.Event k

-- it stands for the operand in each thread
in_line : (s : Scope) (o : Arg) → arg_in s (as_argument o) ≡ o
unfolding as_argument
in_line s (arg.Number n) = refl
in_line s (arg.MaybeNumber (Some n)) = refl
in_line s (arg.MaybeNumber None) = refl
in_line s (arg.Name name) = refl
in_line s (arg.MaybeName name) = refl
in_line s (arg.Set set) = refl
in_line s (arg.Bytes b) = refl
in_line s (arg.Goals goals) = refl
in_line s (arg.Which all) = refl
in_line s (arg.Mode write) = refl
in_line s (arg.Walk forward until_occurred) = refl
in_line s (arg.Field f) = refl
in_line s (arg.State t) = refl
in_line s (arg.Query k) = refl
in_line s (arg.Event k) = refl

all_in_line : (s : Scope) (os : List Arg) → args_in s (map (λ o. as_argument o) os) ≡ os
all_in_line s [] = refl
all_in_line s (o ∷ os) = rw (in_line s o, all_in_line s os) refl

-- ---- words of operands

-- the word of an operand is read as it
argument_back : (o : Arg) → is_scripted o ≡ true → IsReadableArg o → argument_of (form_of o) (arg_word o) ≡ Some (as_argument o)
unfolding as_argument
argument_back (arg.Number n) s fine = ap (option_map (λ x. argument.Number x)) (number_back n fine)
argument_back (arg.MaybeNumber n) s fine = ap (option_map (λ x. argument.MaybeNumber x)) (maybe_number_back n fine)
argument_back (arg.Name name) s fine = ap (option_map (λ x. argument.Name x)) fine
argument_back (arg.MaybeName name) s fine = ap (option_map (λ x. argument.MaybeName x)) (maybe_name_back name fine)
argument_back (arg.Set set) s fine = ap (option_map (λ x. argument.Set x)) (set_back set fine)
argument_back (arg.Bytes b) s fine = absurd (cc)
argument_back (arg.Goals goals) s fine = ap (option_map (λ x. argument.Goals x)) (goals_back goals fine.0 fine.1)
argument_back (arg.Which all) s fine = ap (option_map (λ x. argument.Which x)) (which_back all)
argument_back (arg.Mode write) s fine = ap (option_map (λ x. argument.Mode x)) (mode_back write)
argument_back (arg.Walk forward until_occurred) s fine = ap (option_map (λ x. argument.Walk x)) (direction_back forward until_occurred)
argument_back (arg.Field f) s fine = ap (option_map (λ x. argument.Field x)) (field_back f)
argument_back (arg.State t) s fine = ap (option_map (λ x. argument.State x)) (state_back t fine)
argument_back (arg.Query k) s fine = ap (option_map (λ x. argument.Query x)) (query_back k)
argument_back (arg.Event k) s fine = ap (option_map (λ x. argument.Event x)) (event_back k)

both : (a b : Bool) → (a && b) ≡ true → (a ≡ true) × (b ≡ true)
both true b t = (refl, t)
both false b t = absurd (cc)

arguments_back : (os : List Arg) → are_scripted os ≡ true → AreReadable os → arguments_of (forms_of os) (arg_words os) ≡ Some (map (λ o. as_argument o) os)
unfolding arguments_of
arguments_back [] s fine = refl
arguments_back (o ∷ os) s fine =
    let h = both (is_scripted o) (are_scripted os) s in
    rw (argument_back o h.0 fine.0, arguments_back os h.1 fine.1) refl

-- ---- calls

-- a reply is also handed a message
abbrev pub is_reply : CallWord → Bool
is_reply (calls.Ports ports.Reply) = true
is_reply k = false

handed_as : (s : Scope) (k : CallWord) (os : List Argument) → is_reply k ≡ false → handed s k os ≡ args_in s os
handed_as s (calls.Ports ports.Reply) os e = absurd (cc)
handed_as s _ os e = refl

-- the words of a call are read as it, where its operands have the forms of its word
pub spelled : (c : Call) {p : Parts} → parts_of c ≡ Some p → call_words c ≡ words_of (Some p) → (is_own (call_words c) ≡ false) × (is_reply p.word ≡ false) × (are_scripted p.operands ≡ true)
    → call_forms p.word (arg_words p.operands) ≡ forms_of p.operands → IsReadable c → IsRead c
unfolding call_line
spelled c {p} parts words own forms fine =
    let os = map (λ o. as_argument o) p.operands in
    let line : List Argument → CallLine = λ os. record { word = p.word; operands = os } in
    let readable : AreReadable p.operands = subst (λ o. IsReadableBy o) parts fine in
    let read : arguments_of (call_forms p.word (arg_words p.operands)) (arg_words p.operands) ≡ Some os =
    ap (λ fs. arguments_of fs (arg_words p.operands)) forms ∙ arguments_back p.operands own.2 readable in
    let makes : call_of p.word p.operands ≡ c = subst (λ o. IsMadeBy c o) parts (made c) in
    scripted p.word (line os) words own.0 (ap (option_map line) read)
    (λ s. ap (λ (given : List Arg). call_of p.word given) (handed_as s p.word os own.1 ∙ all_in_line s p.operands) ∙ makes)
