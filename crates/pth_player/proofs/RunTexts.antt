-- What was written of an output that a script has is the text of a run, or a beginning of it, and the run meets its laws.
use Rattle.std.proofs.Common.{◌≡◌, ◌≢◌, ◌∙◌, ◌⊎◌, ℕ, false, List, [], ◌∷◌, ◌++◌, Option, Some, None, IfSome, ap, arith, inl, inr, refl, subst, sym}
use Rattle.std.proofs.lemmas.Bool.{true≢false}
use Rattle.std.specs.Io.KnownBytes.{Appends}
use Rattle.pth_line.specs.Script.{functions_of}
use Rattle.pth_print.specs.declared.fault_line.Fault.TheVariants as fault
use Rattle.pth_print.specs.declared.fault_line.Flaw.TheVariants.{Breaks}
use Rattle.pth_script.specs.Broken.{IsRefusal}
use Rattle.pth_text.specs.declared.rule.Breach.{Breach}
use Rattle.pth_command.specs.CommandLine.{Asked}
use Rattle.pth_streams.specs.Pieces.{AppendsPart, AppendsPrefix}
use Rattle.pth_laws.proofs.RunLaws.{run_meets_laws}
use Rattle.pth_player.specs.Objects.{cut}
use Rattle.pth_filter.specs.Answers.{Answers, HasOutput, IsTextStatus, TopCall, WritesPart, WritesWhole, asked_in}
use Rattle.pth_filter.specs.Output.{Output, refusal}
use Rattle.pth_player.specs.Output.{IsScriptOutput, IsTheOutput, play, program}
use Rattle.pth_player.specs.Play.{IsTextOfRun, ShowsRun, WritesRun}

-- the output of a script, if no upgrade is asked for, is that of a run
text_of_run : (asked : Asked) (text : List ℕ) (out : Output) → asked.upgrade ≡ false → IsScriptOutput asked text out → IsTextOfRun asked text out.text
text_of_run asked text out runs (inl i) = record {
  given = i.1;
  meant = i.2;
  parts = i.3.0;
  stops = i.3.1;
  shown = ap (λ (o : Output). o.text) i.3.2;
  laws = run_meets_laws functions_of i.1 i.3.0;
}
text_of_run asked text out runs (inr u) = absurd (true≢false (sym u.0 ∙ runs))

abbrev Refuses : List ℕ → Output → Type 0
Refuses text out = (line : ℕ) × (b : Breach) × IsRefusal text line b × (out ≡ refusal program (fault.Input line (Breaks b)))

-- the output of an input is that of a run, or a refusal, which has no text
text_or_refusal : (asked : Asked) (bytes : List ℕ) (out : Output) → asked.upgrade ≡ false → IsTheOutput (Some asked) bytes out → IsTextOfRun asked (cut bytes) out.text ⊎ Refuses (cut bytes) out
text_or_refusal asked bytes out runs is = elim is.0 [
  | inl script ↦ inl (text_of_run asked (cut bytes) out runs script)
  | inr refused ↦ inr refused
]

not_three : (status : ℕ) → IsTextStatus status → status ≡ 3 → ⊥
not_three status h e = grind arith

-- ---- of an empty text

empty_parts : (first rest : List ℕ) → first ++ rest ≡ [] → (first ≡ []) × (rest ≡ [])
empty_parts [] rest e = (refl, e)
empty_parts (x ∷ xs) rest e = absurd cc

no_part : (old new : Option (List ℕ)) (text : List ℕ) → text ≡ [] → AppendsPart old new text → ⊥
no_part old new text none p = p.1 (empty_parts p.2.first p.0 (p.2.whole ∙ none)).1

nothing_of : (old new : Option (List ℕ)) (text : List ℕ) → text ≡ [] → AppendsPrefix old new text → Appends old new []
nothing_of old new text none p = subst (Appends old new) (empty_parts p.1.first p.0 (p.1.whole ∙ none)).0 p.1.appended

-- ---- by the status

module _ (call : TopCall) (answers : Answers play call) where
  abbrev Words : Option Asked
  Words = asked_in play call

  module _ (asked : Asked) (words : Words ≡ Some asked) (runs : asked.upgrade ≡ false) where
    text_of_call : (bytes : List ℕ) (out : Output) → IsTheOutput Words bytes out → IsTextOfRun asked (cut bytes) out.text ⊎ Refuses (cut bytes) out
    text_of_call bytes out is = text_or_refusal asked bytes out runs (subst (λ (a : Option Asked). IsTheOutput a bytes out) words is)

    empty : (bytes : List ℕ) (out : Output) → Refuses bytes out → out.text ≡ []
    empty bytes out refused = ap (λ (o : Output). o.text) refused.3

    whole_run : IsTextStatus call.status → WritesWhole play call → WritesRun call asked Appends
    whole_run h x = elim (text_of_call x.1.0 x.0 x.1.2) [
      | inl text ↦ (x.1.0, x.1.1, x.0.text, text, x.3)
      | inr refused ↦ absurd (not_three call.status h (x.2 ∙ ap (λ (o : Output). o.status) refused.3))
    ]

    part_run : WritesPart play Words call.old call.new → WritesRun call asked AppendsPart
    part_run x = elim (text_of_call x.1.0 x.0 x.1.2) [
      | inl text ↦ (x.1.0, x.1.1, x.0.text, text, x.2)
      | inr refused ↦ absurd (no_part call.old.out.written call.new.out.written x.0.text (empty (cut x.1.0) x.0 refused) x.2)
    ]

    beginning_run : (out : Output) → HasOutput play Words call.old out → AppendsPrefix call.old.out.written call.new.out.written out.text
        → Appends call.old.out.written call.new.out.written [] ⊎ WritesRun call asked AppendsPrefix
    beginning_run out is begun = elim (text_of_call is.0 out is.2) [
      | inl text ↦ inr (is.0, is.1, out.text, text, begun)
      | inr refused ↦ inl (nothing_of call.old.out.written call.new.out.written out.text (empty (cut is.0) out refused) begun)
    ]

    shows_run : ShowsRun call asked
    shows_run = record {
      whole = λ h. whole_run h (answers.whole (inl h));
      part = λ e. part_run (answers.write e).0;
      beginning = λ e. elim (answers.memory e).0 [ inl none ↦ inl none | inr x ↦ beginning_run x.0 x.1 x.2 ];
    }

  for_words : (o : Option Asked) → Words ≡ o → IfSome o (λ asked. asked.upgrade ≡ false → ShowsRun call asked)
  for_words None words = tt
  for_words (Some asked) words = λ runs. shows_run asked words runs

  pub shows_runs : IfSome Words (λ asked. asked.upgrade ≡ false → ShowsRun call asked)
  shows_runs = for_words Words refl
