-- What the output is, and that there is one alone.
use Rattle.std.proofs.Common.{◌≡◌, ◌∙◌, ℕ, List, Option, Some, None, ap, sym, refl, subst, inl, inr}
use Rattle.std.proofs.lemmas.Bool.{cases_Bool, true≢false}
use Rattle.pth_base.specs.Program.{Functions}
use Rattle.pth_model.specs.State.{Given}
use Rattle.pth_model.specs.Run.{run, stops_at}
use Rattle.pth_model.proofs.Runs.{goes-once}
use Rattle.pth_print.specs.declared.fault_line.Fault.TheVariants as fault
use Rattle.pth_print.specs.declared.fault_line.Flaw.TheVariants.{Breaks}
use Rattle.pth_line.specs.Script.{Sections, functions_of}
use Rattle.pth_script.specs.Broken.{IsAccepted, IsRefusal}
use Rattle.pth_text.specs.declared.rule.Breach.{Breach}
use Rattle.pth_sched.proofs.Stopping.{run_stops}
use Rattle.pth_script.proofs.Whole.{accepted_or_refused, script_of}
use Rattle.pth_script.proofs.Once.{not_both, one_script, one_kernel, one_top, same_breach, same_line}
use Rattle.pth_filter.specs.Output.{Output, refusal}
use Rattle.pth_player.specs.Output.{IsRunOutput, IsScriptOutput, IsTheOutput, IsTheScript, program, told_output, upgrade_output}
use Rattle.pth_command.specs.CommandLine.{Asked}
use Rattle.pth_player.specs.Objects.{cut}

pub run_once : {P S H : Type 0} (f : P → Functions S H) (g : Given P) (asked : Asked) (one two : Output) → IsRunOutput f g asked one → IsRunOutput f g asked two → one ≡ two
run_once f g asked one two a b = a.2 ∙ ap (λ (k : ℕ). told_output asked (run f g k)) (goes-once (stops_at f g asked.steps) 0 a.0 b.0 a.1 b.1) ∙ sym b.2

-- a text that has such an output is a script's
pub script_accepted : (asked : Asked) (text : List ℕ) (out : Output) → IsScriptOutput asked text out → IsAccepted text
script_accepted asked text out (inl i) = i.2.0
script_accepted asked text out (inr u) = u.1

-- and it has no fault
pub no_fault : (asked : Asked) (text : List ℕ) (out : Output) → IsScriptOutput asked text out → out.fault ≡ None
no_fault asked text out (inl i) = ap (λ (o : Output). o.fault) i.3.2
no_fault asked text out (inr u) = ap (λ (o : Output). o.fault) u.2

-- that of words that are refused
pub words_output : (bytes : List ℕ) → IsTheOutput None bytes (refusal program fault.Words)
words_output bytes = (refl, λ other o. o)

-- that of an input that is no script
pub refused_output : (asked : Asked) (bytes : List ℕ) (line : ℕ) (b : Breach) → IsRefusal (cut bytes) line b → IsTheOutput (Some asked) bytes (refusal program (fault.Input line (Breaks b)))
refused_output asked bytes line b refused = (
  inr (line, b, refused, refl),
  λ other o. elim o [
    | inl i ↦ absurd (not_both (cut bytes) line b (script_accepted asked (cut bytes) other i) refused)
    | inr k ↦ k.3 ∙ (λ i. refusal program (fault.Input (same_line (cut bytes) k.0 line k.1 b k.2 refused i) (Breaks (same_breach (cut bytes) k.0 line k.1 b k.2 refused i))))
  ],
)

-- a text stands for one script, one kernel and one greatest base priority
one_given : (text : List ℕ) (a b : Given Sections) → IsTheScript a text → IsTheScript b text → a ≡ b
one_given text a b x y = λ i. record {
  program = one_script text a.program b.program x.1 y.1 i;
  kernel = one_kernel text a.kernel b.kernel x.2 y.2 i;
  top = one_top text a.top b.top x.3 y.3 i;
}

-- a script has one output
one_output : (asked : Asked) (text : List ℕ) (one two : Output) → IsScriptOutput asked text one → IsScriptOutput asked text two → one ≡ two
one_output asked text one two (inl a) (inl b) =
    run_once functions_of b.1 asked one two (subst (λ (g : Given Sections). IsRunOutput functions_of g asked one) (one_given text a.1 b.1 a.2 b.2) a.3) b.3
one_output asked text one two (inl a) (inr b) = absurd (true≢false (sym b.0 ∙ a.0))
one_output asked text one two (inr a) (inl b) = absurd (true≢false (sym a.0 ∙ b.0))
one_output asked text one two (inr a) (inr b) = a.2 ∙ sym b.2

-- and it is that of the input
pub script_output : (asked : Asked) (bytes : List ℕ) (out : Output) → IsScriptOutput asked (cut bytes) out → IsTheOutput (Some asked) bytes out
script_output asked bytes out is = (
  inl is,
  λ other o. elim o [
    | inl i ↦ one_output asked (cut bytes) other out i is
    | inr k ↦ absurd (not_both (cut bytes) k.0 k.1 (script_accepted asked (cut bytes) out is) k.2)
  ],
)

-- an accepted text has one
script_output_of : (asked : Asked) (text : List ℕ) → IsAccepted text → (out : Output) × IsScriptOutput asked text out
script_output_of asked text accepted = elim (cases_Bool asked.upgrade) [
  | inl upgrade ↦ (upgrade_output text, inr (upgrade, accepted, refl))
  | inr runs ↦
      let read = script_of text accepted in
      let g : Given Sections = record { program = read.0; kernel = read.1; top = read.2 } in
      let stop = run_stops functions_of g asked.steps 0 in
      (told_output asked (run functions_of g stop.0), inl (runs, g, (accepted, read.3, read.4, read.5), (stop.0, stop.1, refl)))
]

-- each input has one
pub output_of : (asked : Option Asked) (bytes : List ℕ) → (out : Output) × IsTheOutput asked bytes out
output_of None bytes = (refusal program fault.Words, words_output bytes)
output_of (Some asked) bytes = elim (accepted_or_refused (cut bytes)) [
  | inl accepted ↦ let out = script_output_of asked (cut bytes) accepted in (out.0, script_output asked bytes out.0 out.1)
  | inr refused ↦ (refusal program (fault.Input refused.0 (Breaks refused.1)), refused_output asked bytes refused.0 refused.1 refused.2)
]
