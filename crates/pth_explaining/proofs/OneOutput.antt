-- Each text has one output.
use Rattle.std.proofs.Common.{◌≡◌, ◌≢◌, ◌∙◌, ◌+◌, ℕ, List, [], ◌++◌, Option, Some, None, codes, decimal, length, ap, sym, refl, inl, inr}
use Rattle.pth_explaining.specs.Why.{IsOutput, IsTextOutput, explained, program}
use Rattle.pth_explaining.specs.Explanation.{ending_text, explanation, head_line, wait_lines}
use Rattle.pth_explaining.specs.Clocks.{clock_of}
use Rattle.pth_explaining.specs.Threads.{places_of}
use Rattle.pth_explaining.specs.Refusals.{refusal_lines, refusals_of}
use Rattle.pth_filter.specs.Output.{IsOnly, Output, refusal}
use Rattle.pth_print.specs.declared.fault_line.Fault.TheVariants as fault
use Rattle.pth_print.specs.declared.fault_line.Flaw.TheVariants.{NoTranscript}
use Rattle.pth_transcript.specs.Transcript.{marks_of}
use Rattle.pth_transcript.specs.Transcripts.{next_line}
use Rattle.pth_transcript.specs.ReadableMarks.{TellsSame}
use Rattle.pth_transcript.specs.declared.ending.Ending.{Ending}
use Rattle.pth_transcript.specs.declared.ending.Ending.TheVariants as ending
use Rattle.pth_base.specs.declared.mark.Mark.{Mark}
use Rattle.pth_transcript.specs.declared.told.Told.{Told}
use Rattle.pth_transcript.proofs.OneReading.{AtEnding, AtMark, Off, AreSame, Holds, Stop, one_stop, same_length}

-- ---- what is written where the reading stops

same_text : (a b : Ending) → TellsSame a b → ending_text a ≡ ending_text b
same_text (ending.Ended v) (ending.Ended w) same = ap (λ n. ending_text (ending.Ended n)) same
same_text ending.Killed ending.Killed same = refl
same_text (ending.Stalled live) (ending.Stalled others) same = refl
same_text (ending.StepLimit n) (ending.StepLimit k) same = ap (λ n. ending_text (ending.StepLimit n)) same
same_text _ _ same = absurd same

same_explanation : (marks : List Mark) (a b : Ending) → TellsSame a b → explanation marks a ≡ explanation marks b
unfolding explanation
same_explanation marks a b same =
    ap (λ (t : List ℕ). (t ++ codes " after turn " ++ decimal (clock_of marks).turn ++ codes " at " ++ decimal (clock_of marks).at ++ codes "\n")
    ++ wait_lines marks (places_of marks) ++ refusal_lines [] (refusals_of marks)) (same_text a b same)

module _ (bytes : List ℕ) where
  -- an ending is the last line, or it is not
  data AtEnd (told : List Told) (end : Ending) (rest : List ℕ) (out : Output) : Type 0 where
    Ends : rest ≡ [] → out ≡ explained (explanation (marks_of told) end) → AtEnd told end rest out
    GoesPast : rest ≢ [] → out ≡ refusal program (fault.Input (next_line (length told + 1)) NoTranscript) → AtEnd told end rest out

  abbrev IsSaid : {told : List Told} → Stop bytes told → Output → Type 0
  IsSaid (AtMark last rest with) out = ⊥
  IsSaid {told} (AtEnding end rest with) out = AtEnd told end rest out
  IsSaid {told} (Off rest begins off) out = out ≡ refusal program (fault.Input (next_line (length told)) NoTranscript)

  record Says (out : Output) : Type 0 where
    told : List Told
    stop : Stop bytes told
    said : IsSaid stop out

  says : (out : Output) → IsTextOutput bytes out → Says out
  says out (inl (told, ending, transcript, e)) = record { told = told; stop = AtEnding ending [] transcript; said = Ends refl e }
  says out (inr (line, inl (told, off), e)) = record {
    told = told;
    stop = Off off.rest off.begins off.off;
    said = e ∙ ap (λ n. refusal program (fault.Input n NoTranscript)) off.counted;
  }
  says out (inr (line, inr (told, ending, goes_on), e)) = record {
    told = told;
    stop = AtEnding ending goes_on.rest goes_on.begins;
    said = GoesPast goes_on.more (e ∙ ap (λ n. refusal program (fault.Input n NoTranscript)) goes_on.counted);
  }

  -- ---- one output

  holds : {told : List Told} (s : Stop bytes told) (out : Output) (other : List Told) → IsSaid s out → Holds bytes s (marks_of other)
  holds (AtMark last rest with) out other said = absurd said
  holds (AtEnding end rest with) out other said = tt
  holds (Off rest begins off) out other said = tt

  one_end : (a b : List Told) (e h : Ending) (rest behind : List ℕ) (x y : Output) → marks_of a ≡ marks_of b → TellsSame e h → rest ≡ behind
      → AtEnd a e rest x → AtEnd b h behind y → x ≡ y
  one_end a b e h rest behind x y marks tells same (Ends p is) (Ends q too) =
      is ∙ ap (λ ms. explained (explanation ms e)) marks ∙ ap explained (same_explanation (marks_of b) e h tells) ∙ sym too
  one_end a b e h rest behind x y marks tells same (Ends p is) (GoesPast q too) = absurd (q (sym same ∙ p))
  one_end a b e h rest behind x y marks tells same (GoesPast p is) (Ends q too) = absurd (p (same ∙ q))
  one_end a b e h rest behind x y marks tells same (GoesPast p is) (GoesPast q too) =
      is ∙ ap (λ n. refusal program (fault.Input (next_line (n + 1)) NoTranscript)) (same_length a b marks) ∙ sym too

  same_said : {a b : List Told} (s : Stop bytes a) (t : Stop bytes b) (x y : Output) → marks_of a ≡ marks_of b → AreSame bytes s t → IsSaid s x → IsSaid t y → x ≡ y
  same_said (AtMark last rest with) t x y marks same p q = absurd p
  same_said (AtEnding end rest with) (AtMark last behind and) x y marks same p q = absurd q
  same_said {a} {b} (AtEnding end rest with) (AtEnding other behind and) x y marks same p q = one_end a b end other rest behind x y marks same.0 same.1 p q
  same_said (AtEnding end rest with) (Off behind begins off) x y marks same p q = absurd same
  same_said (Off rest begins off) (AtMark last behind and) x y marks same p q = absurd q
  same_said (Off rest begins off) (AtEnding end behind and) x y marks same p q = absurd same
  same_said {a} {b} (Off rest begins off) (Off behind also and) x y marks same p q =
      p ∙ ap (λ n. refusal program (fault.Input (next_line n) NoTranscript)) (same_length a b marks) ∙ sym q

  one_said : (x y : Output) → Says x → Says y → x ≡ y
  one_said x y s t =
      let one = one_stop bytes s.stop t.stop (holds s.stop x t.told s.said) (holds t.stop y s.told t.said) in
      same_said s.stop t.stop x y one.0 one.1 s.said t.said

  one_text_output : (x y : Output) → IsTextOutput bytes x → IsTextOutput bytes y → x ≡ y
  one_text_output x y p q = one_said x y (says x p) (says y q)

-- whatever the words ask for
pub only : (asked : Option (Option (List ℕ))) (bytes : List ℕ) (out : Output) → IsOutput asked bytes out → IsOnly (IsOutput asked bytes) out
only None bytes out is = (is, λ other o. o ∙ sym is)
only (Some name) bytes out is = (is, λ other o. one_text_output bytes other out o is)
