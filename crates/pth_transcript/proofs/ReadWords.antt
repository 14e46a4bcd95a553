-- What the words of a call stand for is what words can spell.
use Rattle.std.proofs.Common.{◌≡◌, ◌≢◌, ◌<◌, ◌≤◌, ◌^◌, ◌&&◌, nat_le, ℕ, true, cond, List, [], ◌∷◌, drop, codes, Option, Some, None, is_some, w64, FitsSigned, All, refl, arith}
use Rattle.std.specs.Prelude.{IfSome, option_map}
use Rattle.std.specs.List.{AllByRecursion}
use Rattle.std.specs.Str.{bytes_eq}
use Rattle.std.proofs.lemmas.Bool.{and_parts}
use Rattle.std.proofs.lemmas.Bool.Decides.{nat_tests}
use Rattle.std.proofs.lemmas.List.Elements.{All-nil}
use Rattle.pth_base.specs.declared.thread.ThreadState.TheVariants.{Running}
use Rattle.pth_operand.specs.Values.{Scope, register_in, operand_in, bytes_in}
use Rattle.pth_operand.specs.declared.operand.ByteOperand.{ByteOperand}
use Rattle.pth_operand.specs.declared.operand.ByteOperand.TheVariants as bytes
use Rattle.pth_operand.specs.declared.operand.Operand.{Operand}
use Rattle.pth_operand.specs.declared.operand.Operand.TheVariants as operand
use Rattle.pth_operand.specs.declared.operand.Register.{Register}
use Rattle.pth_text.specs.Number.{numeral_value}
use Rattle.pth_spelling.specs.Named.{named_in}
use Rattle.pth_spelling.specs.WordMeanings.{operand_of, register_of, maybe, name_of, set_of, given_of, has_hex, bytes_of, goal_words, goals_of, state_words, thread_state_of}
use Rattle.pth_transcript.proofs.ReadValues.{mapped, tested, number_fits, name_fits, set_fits, hex_fits}

-- P holds of what a word stands for
pub record Gives {A : Type 0} (f : List ℕ → Option A) (P : A → Type 0) : Type 0 where
  pub gives : (w : List ℕ) → IfSome (f w) P

-- what holds of each value holds of the one that is found
any : {A : Type 0} (P : A → Type 0) (o : Option A) → ((x : A) → P x) → IfSome o P
any P None h = tt
any P (Some x) h = h x

-- a word whose values can all be spelled
pub anything : {A : Type 0} (f : List ℕ → Option A) → Gives f (λ x. Unit {0})
anything f = record { gives = λ w. any (λ x. Unit {0}) (f w) (λ x. tt) }

-- a word, or `-`
pub maybe_gives : {A : Type 0} {f : List ℕ → Option A} {P : A → Type 0} → Gives f P → Gives (maybe f) (λ o. IfSome o P)
maybe_gives {f} {P} all = record {
  gives = λ w.
      tested (λ o. IfSome o P) (bytes_eq w (codes "-")) (Some None) (option_map (λ x. Some x) (f w)) (λ test. tt)
      (mapped (λ o. IfSome o P) (λ x. Some x) (f w) (all.gives w) (λ x h. h));
}

-- a word of a table
named : {A : Type 0} (P : A → Type 0) (rows : List (List ℕ × A)) → AllByRecursion (λ row. P row.1) rows → (w : List ℕ) → IfSome (named_in rows w) P
unfolding named_in
named P [] h w = tt
named P (row ∷ rows) h w = tested P (bytes_eq w row.0) (Some row.1) (named_in rows w) (λ test. h.0) (named P rows h.1 w)

-- ---- numbers

-- what a line reads fits 64 bits, and its buffer has bytes
pub record IsInRange (s : Scope) : Type 0 where
  pub registers : (r : Register) → FitsSigned w64 (register_in s r)
  pub error : FitsSigned w64 s.frame.error
  pub message : FitsSigned w64 s.frame.message
  pub buffer : All (λ b. b < 256) s.frame.buffer

operand_fits : (s : Scope) → IsInRange s → (w : List ℕ) → IfSome (operand_of w) (λ x. FitsSigned w64 (operand_in s x))
unfolding operand_of
operand_fits s fine w =
    let P : Operand → Type 0 = λ x. FitsSigned w64 (operand_in s x) in
    let registers = option_map (λ r. operand.Register r) (register_of w) in
    tested P (is_some (numeral_value w)) (option_map (λ n. operand.Number n) (numeral_value w))
    (cond (bytes_eq w (codes "err")) (Some operand.Error) registers)
    (λ test. mapped P (λ n. operand.Number n) (numeral_value w) (number_fits w) (λ n fits. fits))
    (tested P (bytes_eq w (codes "err")) (Some operand.Error) registers (λ test. fine.error)
    (mapped P (λ r. operand.Register r) (register_of w) (any (λ r. FitsSigned w64 (register_in s r)) (register_of w) fine.registers) (λ r fits. fits)))

pub operands : (s : Scope) → IsInRange s → Gives operand_of (λ x. FitsSigned w64 (operand_in s x))
operands s fine = record { gives = operand_fits s fine }

-- ---- names and sets

pub names : Gives name_of (λ name. name_of name ≡ Some name)
names = record { gives = name_fits }

pub sets : Gives set_of (λ set. set.0 < 2 ^ 64)
sets = record { gives = set_fits }

-- ---- bytes

given_low : (w : List ℕ) → IfSome (given_of w) (λ bs. All (λ b. b < 256) bs)
given_low [] = All-nil (λ b. b < 256)
given_low (d ∷ ds) = hex_fits (d ∷ ds)

bytes_low : (s : Scope) → IsInRange s → (w : List ℕ) → IfSome (bytes_of w) (λ b. All (λ b. b < 256) (bytes_in s.frame b))
unfolding bytes_of
bytes_low s fine w =
    let P : ByteOperand → Type 0 = λ b. All (λ b. b < 256) (bytes_in s.frame b) in
    let given = option_map (λ b. bytes.Given b) (given_of (drop 4 w)) in
    tested P (bytes_eq w (codes "buf")) (Some bytes.Buffer) (cond (has_hex w) given None) (λ test. fine.buffer)
    (tested P (has_hex w) given None (λ test. mapped P (λ b. bytes.Given b) (given_of (drop 4 w)) (given_low (drop 4 w)) (λ b low. low)) tt)

pub byte_words : (s : Scope) → IsInRange s → Gives bytes_of (λ b. All (λ b. b < 256) (bytes_in s.frame b))
byte_words s fine = record { gives = bytes_low s fine }

-- ---- words of a table

goal_fits : (g : ℕ) → (nat_le 1 g && nat_le g 7) ≡ true → (1 ≤ g) × (g ≤ 7)
goal_fits g test = let parts = and_parts (nat_le 1 g) (nat_le g 7) test in (grind (arith, nat_tests), grind (arith, nat_tests))

goals_low : (w : List ℕ) → IfSome (goals_of w) (λ goals. (1 ≤ goals) × (goals ≤ 7))
unfolding goals_of
goals_low w =
    named (λ g. (1 ≤ g) × (g ≤ 7)) goal_words (goal_fits 1 refl, (goal_fits 2 refl, (goal_fits 3 refl, (goal_fits 4 refl, (goal_fits 5 refl, (goal_fits 6 refl, (goal_fits 7 refl, tt))))))) w

pub goals : Gives goals_of (λ goals. (1 ≤ goals) × (goals ≤ 7))
goals = record { gives = goals_low }

state_other : (w : List ℕ) → IfSome (thread_state_of w) (λ state. state ≢ Running)
unfolding thread_state_of
state_other w =
    named (λ state. state ≢ Running) state_words
    ((λ e. absurd (cc)), ((λ e. absurd (cc)), ((λ e. absurd (cc)), ((λ e. absurd (cc)), tt)))) w

pub states : Gives thread_state_of (λ state. state ≢ Running)
states = record { gives = state_other }
