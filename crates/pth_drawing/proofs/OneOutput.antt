-- Each text has one output.
use Rattle.std.proofs.Common.{◌≡◌, ◌≢◌, ◌∙◌, ◌+◌, ℕ, ℤ, List, [], Option, Some, None, length, ap, sym, refl, inl, inr}
use Rattle.pth_drawing.specs.Draw.{IsOutput, IsTextOutput, picture, picture_output, program}
use Rattle.pth_drawing.specs.Words.{Asked}
use Rattle.pth_filter.specs.Output.{IsOnly, Output, refusal}
use Rattle.pth_print.specs.declared.fault_line.Fault.TheVariants as fault
use Rattle.pth_print.specs.declared.fault_line.Flaw.TheVariants.{NoTranscript}
use Rattle.pth_base.specs.declared.mark.Mark.{Mark}
use Rattle.pth_drawing.specs.Drawing.{chart}
use Rattle.pth_drawing.specs.Ends.{end_of}
use Rattle.pth_drawing.specs.Picture.{picture_of}
use Rattle.pth_drawing.specs.declared.chart.End.{End}
use Rattle.pth_drawing.specs.declared.chart.End.TheVariants as end
use Rattle.pth_transcript.specs.ReadableMarks.{TellsSame}
use Rattle.pth_transcript.specs.declared.ending.Ending.{Ending}
use Rattle.pth_transcript.specs.declared.ending.Ending.TheVariants as ending
use Rattle.pth_transcript.specs.Transcript.{marks_of}
use Rattle.pth_transcript.specs.Transcripts.{next_line}
use Rattle.pth_transcript.specs.declared.told.Told.{Told}
use Rattle.pth_transcript.proofs.OneReading.{AtEnding, AtMark, Off, AreSame, Holds, Stop, one_stop, same_length}

-- ---- what is written where the reading stops

module _ (asked : Asked) (bytes : List ℕ) where
  -- an ending is the last line, or it is not
  data AtEnd (told : List Told) (last : Ending) (rest : List ℕ) (out : Output) : Type 0 where
    Ends : rest ≡ [] → out ≡ picture_output (picture asked.from asked.turns (marks_of told) last) → AtEnd told last rest out
    GoesPast : rest ≢ [] → out ≡ refusal program (fault.Input (next_line (length told + 1)) NoTranscript) → AtEnd told last rest out

  abbrev IsSaid : {told : List Told} → Stop bytes told → Output → Type 0
  IsSaid (AtMark last rest with) out = ⊥
  IsSaid {told} (AtEnding last rest with) out = AtEnd told last rest out
  IsSaid {told} (Off rest begins off) out = out ≡ refusal program (fault.Input (next_line (length told)) NoTranscript)

  record Says (out : Output) : Type 0 where
    told : List Told
    stop : Stop bytes told
    said : IsSaid stop out

  says : (out : Output) → IsTextOutput asked bytes out → Says out
  says out (inl (told, last, transcript, e)) = record { told = told; stop = AtEnding last [] transcript; said = Ends refl e }
  says out (inr (line, inl (told, off), e)) = record {
    told = told;
    stop = Off off.rest off.begins off.off;
    said = e ∙ ap (λ n. refusal program (fault.Input n NoTranscript)) off.counted;
  }
  says out (inr (line, inr (told, last, goes_on), e)) = record {
    told = told;
    stop = AtEnding last goes_on.rest goes_on.begins;
    said = GoesPast goes_on.more (e ∙ ap (λ n. refusal program (fault.Input n NoTranscript)) goes_on.counted);
  }

  -- ---- one output

  holds : {told : List Told} (s : Stop bytes told) (out : Output) (other : List Told) → IsSaid s out → Holds bytes s (marks_of other)
  holds (AtMark last rest with) out other said = absurd said
  holds (AtEnding last rest with) out other said = tt
  holds (Off rest begins off) out other said = tt

  -- endings that show the same are drawn as the same
  same_end : (e h : Ending) → TellsSame e h → end_of e ≡ end_of h
  same_end (ending.Ended v) (ending.Ended w) is = ap (λ (v : ℤ). end.Ended v) is
  same_end ending.Killed ending.Killed is = refl
  same_end (ending.Stalled live) (ending.Stalled others) is = refl
  same_end (ending.StepLimit n) (ending.StepLimit k) is = ap (λ (n : ℕ). end.StepLimit n) is
  same_end _ _ is = absurd is

  same_picture : (a b : List Told) (e h : Ending) → marks_of a ≡ marks_of b → TellsSame e h
      → picture asked.from asked.turns (marks_of a) e ≡ picture asked.from asked.turns (marks_of b) h
  same_picture a b e h marks ends =
      ap (λ (ms : List Mark). picture asked.from asked.turns ms e) marks
      ∙ ap (λ (l : End). picture_of (chart asked.from asked.turns l (marks_of b))) (same_end e h ends)

  one_end : (a b : List Told) (f g : Ending) (rest behind : List ℕ) (x y : Output) → marks_of a ≡ marks_of b → TellsSame f g → rest ≡ behind
      → AtEnd a f rest x → AtEnd b g behind y → x ≡ y
  one_end a b f g rest behind x y marks ends same (Ends e is) (Ends h too) = is ∙ ap picture_output (same_picture a b f g marks ends) ∙ sym too
  one_end a b f g rest behind x y marks ends same (Ends e is) (GoesPast h too) = absurd (h (sym same ∙ e))
  one_end a b f g rest behind x y marks ends same (GoesPast e is) (Ends h too) = absurd (e (same ∙ h))
  one_end a b f g rest behind x y marks ends same (GoesPast e is) (GoesPast h too) =
      is ∙ ap (λ n. refusal program (fault.Input (next_line (n + 1)) NoTranscript)) (same_length a b marks) ∙ sym too

  same_said : {a b : List Told} (s : Stop bytes a) (t : Stop bytes b) (x y : Output) → marks_of a ≡ marks_of b → AreSame bytes s t → IsSaid s x → IsSaid t y → x ≡ y
  same_said (AtMark last rest with) t x y marks same p q = absurd p
  same_said (AtEnding last rest with) (AtMark mark behind and) x y marks same p q = absurd q
  same_said {a} {b} (AtEnding last rest with) (AtEnding other behind and) x y marks same p q = one_end a b last other rest behind x y marks same.0 same.1 p q
  same_said (AtEnding last rest with) (Off behind begins off) x y marks same p q = absurd same
  same_said (Off rest begins off) (AtMark last behind and) x y marks same p q = absurd q
  same_said (Off rest begins off) (AtEnding last behind and) x y marks same p q = absurd same
  same_said {a} {b} (Off rest begins off) (Off behind also and) x y marks same p q =
      p ∙ ap (λ n. refusal program (fault.Input (next_line n) NoTranscript)) (same_length a b marks) ∙ sym q

  one_said : (x y : Output) → Says x → Says y → x ≡ y
  one_said x y s t =
      let one = one_stop bytes s.stop t.stop (holds s.stop x t.told s.said) (holds t.stop y s.told t.said) in
      same_said s.stop t.stop x y one.0 one.1 s.said t.said

  one_text_output : (x y : Output) → IsTextOutput asked bytes x → IsTextOutput asked bytes y → x ≡ y
  one_text_output x y p q = one_said x y (says x p) (says y q)

-- whatever the words ask for
pub only : (asked : Option Asked) (bytes : List ℕ) (out : Output) → IsOutput asked bytes out → IsOnly (IsOutput asked bytes) out
only None bytes out is = (is, λ other o. o ∙ sym is)
only (Some asked) bytes out is = (is, λ other o. one_text_output asked bytes other out o is)
