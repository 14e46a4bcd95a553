-- The call that is made of the words of a line is one that words can spell.
use Rattle.std.proofs.Common.{◌≡◌, ◌<◌, zero, suc, ℕ, ℤ, pos, replicate, get_or, drop, All, List, [], ◌∷◌, Option, Some, None, w64, FitsSigned, refl, sym, subst, arith}
use Rattle.std.specs.Int.{cast_signed, cast_unsigned}
use Rattle.std.specs.Prelude.{IfSome, option_map}
use Rattle.std.proofs.lemmas.Int.{to_z-of_z}
use Rattle.std.proofs.lemmas.List.Elements.{All-nil}
use Rattle.pth_base.specs.declared.call.Call.{Call}
use Rattle.pth_base.specs.declared.call.Call.TheVariants as call
use Rattle.pth_grammar.specs.CallLines.{argument_of, arguments_of, call_line}
use Rattle.pth_grammar.specs.Forms.{call_forms}
use Rattle.pth_grammar.specs.LineMeanings.{plain_line, line_by, line_begun, line_of}
use Rattle.pth_grammar.specs.Reading.{read1, read2, read3, read4}
use Rattle.pth_line.specs.CallLines.{arg_in, args_in, handed, call_in}
use Rattle.pth_line.specs.Script.{first_cells, first_frame}
use Rattle.pth_line.specs.declared.argument.Argument.{Argument}
use Rattle.pth_line.specs.declared.argument.Argument.TheVariants as argument
use Rattle.pth_line.specs.declared.call_line.CallLine.{CallLine}
use Rattle.pth_line.specs.declared.line.Line.{Line}
use Rattle.pth_line.specs.declared.line.Line.TheVariants as body
use Rattle.pth_operand.specs.Values.{scope, register_in, Scope, operand_in}
use Rattle.pth_operand.specs.declared.operand.Operand.{Operand}
use Rattle.pth_operand.specs.declared.operand.Register.{Register}
use Rattle.pth_operand.specs.declared.operand.Register.TheVariants as reg
use Rattle.pth_text.specs.Number.{numeral_value}
use Rattle.pth_spelling.specs.Keywords.{new_event_word}
use Rattle.pth_spelling.specs.Starts.{start_of}
use Rattle.pth_spelling.specs.WordMeanings.{natural_of, register_of, relation_of, name_of, set_of, bytes_of, goals_of, thread_state_of, maybe, operand_of, which_of, field_of, mode_of, direction_of, query_of}
use Rattle.pth_spelling.specs.declared.form.Form.{Form}
use Rattle.pth_spelling.specs.declared.form.Form.TheVariants as form
use Rattle.pth_spelling.specs.declared.keyword.CallWord.{CallWord}
use Rattle.pth_spelling.specs.declared.keyword.CallWord.TheVariants as calls
use Rattle.pth_spelling.specs.declared.keyword.Keyword.{Keyword}
use Rattle.pth_spelling.specs.declared.keyword.Keyword.TheVariants as keyword
use Rattle.pth_spelling.specs.declared.keyword.PortWord.TheVariants as ports
use Rattle.pth_spelling.specs.declared.start.Start.{Start}
use Rattle.pth_spelling.specs.declared.start.Start.TheVariants as start
use Rattle.pth_transcript.specs.Readable.{AreReadable, IsReadable, IsReadableArg}
use Rattle.pth_transcript.proofs.MadeReadable.{made_readable}
use Rattle.pth_transcript.proofs.ReadValues.{mapped, chained, number_fits}
use Rattle.pth_transcript.proofs.ReadWords.{Gives, anything, maybe_gives, IsInRange, operands, names, sets, byte_words, goals, states}

-- ---- words one after another

pub read1_gives : {A R : Type 0} {f : List ℕ → Option A} {Q : A → Type 0} → Gives f Q → (build : A → R) (P : R → Type 0)
    → ((x : A) → Q x → P (build x)) → (ws : List (List ℕ)) → IfSome (read1 f build ws) P
read1_gives p build P all [] = tt
read1_gives {f} p build P all (a ∷ []) = mapped P build (f a) (p.gives a) all
read1_gives p build P all (a ∷ b ∷ ws) = tt

pub read2_gives : {A B R : Type 0} {f : List ℕ → Option A} {g : List ℕ → Option B} {Q : A → Type 0} {S : B → Type 0}
    → Gives f Q → Gives g S → (build : A → B → R) (P : R → Type 0) → ((x : A) (y : B) → Q x → S y → P (build x y))
    → (ws : List (List ℕ)) → IfSome (read2 f g build ws) P
read2_gives p q build P all [] = tt
read2_gives {f} {g} p q build P all (a ∷ ws) =
    chained P (λ x. read1 g (build x) ws) (f a) (p.gives a) (λ x h. read1_gives q (build x) P (λ y i. all x y h i) ws)

pub read3_gives : {A B C R : Type 0} {f : List ℕ → Option A} {g : List ℕ → Option B} {h : List ℕ → Option C}
    {Q : A → Type 0} {S : B → Type 0} {T : C → Type 0} → Gives f Q → Gives g S → Gives h T → (build : A → B → C → R) (P : R → Type 0)
    → ((x : A) (y : B) (z : C) → Q x → S y → T z → P (build x y z))
    → (ws : List (List ℕ)) → IfSome (read3 f g h build ws) P
read3_gives p q r build P all [] = tt
read3_gives {f} {g} {h} p q r build P all (a ∷ ws) =
    chained P (λ x. read2 g h (build x) ws) (f a) (p.gives a) (λ x i. read2_gives q r (build x) P (λ y z j k. all x y z i j k) ws)

pub read4_gives : {A B C D R : Type 0} {f : List ℕ → Option A} {g : List ℕ → Option B} {h : List ℕ → Option C} {k : List ℕ → Option D}
    {Q : A → Type 0} {S : B → Type 0} {T : C → Type 0} {U : D → Type 0} → Gives f Q → Gives g S → Gives h T → Gives k U
    → (build : A → B → C → D → R) (P : R → Type 0) → ((x : A) (y : B) (z : C) (v : D) → Q x → S y → T z → U v → P (build x y z v))
    → (ws : List (List ℕ)) → IfSome (read4 f g h k build ws) P
read4_gives p q r t build P all [] = tt
read4_gives {f} {g} {h} {k} p q r t build P all (a ∷ ws) =
    chained P (λ x. read3 g h k (build x) ws) (f a) (p.gives a)
    (λ x i. read3_gives q r t (build x) P (λ y z v j l m. all x y z v i j l m) ws)

-- ---- operands

-- words can spell an operand of a line in this scope
abbrev IsFine : Scope → Argument → Type 0
IsFine s o = IsReadableArg (arg_in s o)

maybe_number : (s : Scope) (o : Option Operand) → IfSome o (λ x. FitsSigned w64 (operand_in s x)) → IsFine s (argument.MaybeNumber o)
maybe_number s (Some x) fits = fits
maybe_number s None fits = tt

maybe_name : (s : Scope) (o : Option (List ℕ)) → IfSome o (λ name. name_of name ≡ Some name) → IsFine s (argument.MaybeName o)
maybe_name s (Some name) is = is
maybe_name s None is = tt

-- the operand of a form
argument_found : (s : Scope) → IsInRange s → (f : Form) (w : List ℕ) → IfSome (argument_of f w) (IsFine s)
argument_found s fine form.Operand w = mapped (IsFine s) (λ x. argument.Number x) (operand_of w) ((operands s fine).gives w) (λ x h. h)
argument_found s fine form.MaybeOperand w =
    mapped (IsFine s) (λ x. argument.MaybeNumber x) (maybe operand_of w) ((maybe_gives (operands s fine)).gives w) (λ o h. maybe_number s o h)
argument_found s fine form.Name w = mapped (IsFine s) (λ name. argument.Name name) (name_of w) (names.gives w) (λ name h. h)
argument_found s fine form.MaybeName w =
    mapped (IsFine s) (λ name. argument.MaybeName name) (maybe name_of w) ((maybe_gives names).gives w) (λ o h. maybe_name s o h)
argument_found s fine form.Set w = mapped (IsFine s) (λ set. argument.Set set) (set_of w) (sets.gives w) (λ set h. h)
argument_found s fine form.Bytes w = mapped (IsFine s) (λ b. argument.Bytes b) (bytes_of w) ((byte_words s fine).gives w) (λ b h. h)
argument_found s fine form.Goals w = mapped (IsFine s) (λ goals. argument.Goals goals) (goals_of w) (goals.gives w) (λ goals h. h)
argument_found s fine form.State w = mapped (IsFine s) (λ state. argument.State state) (thread_state_of w) (states.gives w) (λ state h. h)
argument_found s fine form.Which w = mapped (IsFine s) (λ all. argument.Which all) (which_of w) ((anything which_of).gives w) (λ all h. tt)
argument_found s fine form.Mode w = mapped (IsFine s) (λ write. argument.Mode write) (mode_of w) ((anything mode_of).gives w) (λ write h. tt)
argument_found s fine form.Direction w = mapped (IsFine s) (λ d. argument.Walk d) (direction_of w) ((anything direction_of).gives w) (λ d h. tt)
argument_found s fine form.Field w = mapped (IsFine s) (λ f. argument.Field f) (field_of w) ((anything field_of).gives w) (λ f h. tt)
argument_found s fine form.Query w = mapped (IsFine s) (λ k. argument.Query k) (query_of w) ((anything query_of).gives w) (λ k h. tt)
argument_found s fine form.Event w = mapped (IsFine s) (λ k. argument.Event k) (new_event_word w) ((anything new_event_word).gives w) (λ k h. tt)
argument_found s fine f w = tt

-- the operands of forms
arguments_found : (s : Scope) → IsInRange s → (fs : List Form) (ws : List (List ℕ)) → IfSome (arguments_of fs ws) (λ os. AreReadable (args_in s os))
unfolding arguments_of
arguments_found s fine [] [] = tt
arguments_found s fine [] (w ∷ ws) = tt
arguments_found s fine (f ∷ fs) [] = tt
arguments_found s fine (f ∷ fs) (w ∷ ws) =
    let P : List Argument → Type 0 = λ os. AreReadable (args_in s os) in
    chained P (λ o. option_map (λ os. o ∷ os) (arguments_of fs ws)) (argument_of f w) (argument_found s fine f w) (λ o h.
    mapped P (λ os. o ∷ os) (arguments_of fs ws) (arguments_found s fine fs ws) (λ os i. (h, i)))

-- a reply has the message that the thread got last
handed_readable : (s : Scope) → IsInRange s → (k : CallWord) (os : List Argument) → AreReadable (args_in s os) → AreReadable (handed s k os)
handed_readable s fine (calls.Ports ports.Reply) os h = (fine.message, h)
handed_readable s fine k os h = h

-- the call of a line whose first word is that of a call
found : (s : Scope) → IsInRange s → (k : CallWord) (ws : List (List ℕ)) → IfSome (call_line k ws) (λ l. IsReadable (call_in s l))
unfolding call_line
found s fine k ws =
    let line : List Argument → CallLine = λ os. record { word = k; operands = os } in
    mapped (λ l. IsReadable (call_in s l)) line (arguments_of (call_forms k ws) ws) (arguments_found s fine (call_forms k ws) ws)
    (λ os h. made_readable k (handed s k os) (handed_readable s fine k os h))

-- ---- each line

-- the call that a line makes, if it makes one
abbrev pub IsFineLine : Scope → Line → Type 0
IsFineLine s (body.Call r l) = IsReadable (call_in s l)
IsFineLine s _ = Unit {0}

-- a line that makes no call
plain_found : (s : Scope) (k : Keyword) (ws : List (List ℕ)) → IfSome (plain_line k ws) (IsFineLine s)
plain_found s keyword.Set ws = read2_gives (anything register_of) (anything operand_of) (λ r x. body.Set r x) (IsFineLine s) (λ r x h i. tt) ws
plain_found s keyword.Add ws = read2_gives (anything register_of) (anything operand_of) (λ r x. body.Add r x) (IsFineLine s) (λ r x h i. tt) ws
plain_found s keyword.Note ws = read1_gives (anything operand_of) (λ x. body.Note x) (IsFineLine s) (λ x h. tt) ws
plain_found s keyword.Label ws = read1_gives (anything natural_of) (λ k. body.Label k) (IsFineLine s) (λ k h. tt) ws
plain_found s keyword.Goto ws =
    let operand = anything operand_of in
    read4_gives (anything natural_of) operand (anything relation_of) operand (λ k x r y. body.Goto k 0 x r y) (IsFineLine s)
    (λ k x r y h i j m. tt) ws
plain_found s k ws = tt

keyword_found : (s : Scope) → IsInRange s → (k : Option Keyword) (ws : List (List ℕ)) → IfSome (line_by k ws) (IsFineLine s)
keyword_found s fine (Some (keyword.Call k)) ws = mapped (IsFineLine s) (λ c. body.Call None c) (call_line k ws) (found s fine k ws) (λ c h. h)
keyword_found s fine (Some k) ws = plain_found s k ws
keyword_found s fine None ws = tt

begun_found : (s : Scope) → IsInRange s → (b : Start) (ws : List (List ℕ)) → IfSome (line_begun b ws) (IsFineLine s)
begun_found s fine (start.Word k) ws = keyword_found s fine k ws
begun_found s fine (start.Answer r (Some k)) (e ∷ w ∷ ws) =
    mapped (IsFineLine s) (λ c. body.Call (Some r) c) (call_line k ws) (found s fine k ws) (λ c h. h)
begun_found s fine (start.Answer r k) ws = tt

line_found : (s : Scope) → IsInRange s → (ws : List (List ℕ)) → IfSome (line_of ws) (IsFineLine s)
unfolding line_of
line_found s fine ws = begun_found s fine (start_of ws) (drop 1 ws)

-- ---- a thread that has no answer yet

-- where each number is 0
zeros : (n k : ℕ) → get_or (replicate n (pos 0)) k (pos 0) ≡ pos 0
zeros zero k = refl
zeros (suc n) zero = refl
zeros (suc n) (suc k) = zeros n k

-- what a thread reads at its start
abbrev pub first_scope : Scope
first_scope = scope (first_frame 0 (pos 0)) first_cells

register_zero : (r : Register) → register_in first_scope r ≡ pos 0
register_zero (reg.Own k) = zeros 16 k
register_zero (reg.Shared k) = zeros 64 k

zero_fits : FitsSigned w64 (pos 0)
zero_fits = record { sfits = omega arith }

first_in_range : IsInRange first_scope
first_in_range = record {
  registers = λ r. subst (λ n. FitsSigned w64 n) (sym (register_zero r)) zero_fits;
  error = zero_fits;
  message = zero_fits;
  buffer = All-nil (λ b. b < 256);
}

-- the call of a line of a script
pub script_call_readable : (ws : List (List ℕ)) (o : Option Line) (x : Line) (a : Option Register) (l : CallLine) (c : Call)
    → o ≡ line_of ws → o ≡ Some x → x ≡ body.Call a l → c ≡ call_in first_scope l → IsReadable c
script_call_readable ws o x a l c read is called made =
    let all : line_of ws ≡ Some (body.Call a l) = (cc) in
    let fine : IsReadable (call_in first_scope l) = subst (λ (o : Option Line). IfSome o (IsFineLine first_scope)) all (line_found first_scope first_in_range ws) in
    subst IsReadable (sym made) fine

-- ---- a reply and a write

number_readable : (x : ℤ) (w : List ℕ) → Some x ≡ numeral_value w → FitsSigned w64 x
number_readable x w read = subst (λ (o : Option ℤ). IfSome o (λ n. FitsSigned w64 n)) (sym read) (number_fits w)

-- a number as a reply has it
pub value_readable : (x : ℤ) (w : List ℕ) → Some x ≡ numeral_value w → FitsSigned w64 (cast_signed w64 (cast_unsigned w64 x))
value_readable x w read = let fits = number_readable x w read in rw (to_z-of_z w64 x fits) fits

pub write_readable : (f : ℤ) (w : List ℕ) (o : Option (List ℕ)) (r : Option Call) → Some f ≡ numeral_value w → IfSome o (λ bs. All (λ b. b < 256) bs)
    → r ≡ option_map (λ b. call.Write f b) o → IfSome r IsReadable
write_readable f w o r read low is =
    subst (λ (r : Option Call). IfSome r IsReadable) (sym is)
    (mapped IsReadable (λ b. call.Write f b) o low (λ b bytes. (number_readable f w read, (bytes, tt))))

pub write_ev_readable : (f e : ℤ) (w v : List ℕ) (o : Option (List ℕ)) (r : Option Call) → Some f ≡ numeral_value w → Some e ≡ numeral_value v
    → IfSome o (λ bs. All (λ b. b < 256) bs) → r ≡ option_map (λ b. call.WriteEv f b e) o → IfSome r IsReadable
write_ev_readable f e w v o r read ended low is =
    subst (λ (r : Option Call). IfSome r IsReadable) (sym is)
    (mapped IsReadable (λ b. call.WriteEv f b e) o low (λ b bytes. (number_readable f w read, (bytes, (number_readable e v ended, tt)))))
