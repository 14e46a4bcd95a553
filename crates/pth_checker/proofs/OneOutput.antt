-- Each text has one output.
use Rattle.std.proofs.Common.{◌≡◌, ◌≢◌, ◌∙◌, ◌+◌, ℕ, List, [], ◌∷◌, ◌++◌, Option, Some, None, length, ap, sym, refl, subst, inl, inr}
use Rattle.pth_audit.proofs.Verdicts.{one_verdict}
use Rattle.pth_audit.specs.Verdicts.{BreaksFirst, IsBrokenAt, IsLawful}
use Rattle.pth_audit.specs.declared.verdict.AuditRule.{AuditRule}
use Rattle.pth_audit.specs.declared.verdict.Verdict.TheVariants.{No, Yes}
use Rattle.pth_base.specs.declared.mark.Mark.{Mark}
use Rattle.pth_base.specs.declared.mark.Mark.TheVariants as mark
use Rattle.pth_checker.specs.Check.{IsOutput, IsTextOutput, program, verdict_output}
use Rattle.pth_checker.specs.Fitting.{AreTheLiving, FitsEnding, last_mark, main, numbers}
use Rattle.pth_checker.specs.declared.verdict.Law.TheVariants as law
use Rattle.pth_checker.specs.declared.verdict.Verdict.TheVariants.{Lawful, Unlawful}
use Rattle.pth_filter.specs.Output.{IsOnly, Output, refusal}
use Rattle.pth_print.specs.declared.fault_line.Fault.TheVariants as fault
use Rattle.pth_print.specs.declared.fault_line.Flaw.TheVariants.{NoTranscript}
use Rattle.pth_transcript.specs.ReadableMarks.{TellsSame}
use Rattle.pth_transcript.specs.Transcript.{marks_of}
use Rattle.pth_transcript.specs.Transcripts.{next_line}
use Rattle.pth_transcript.specs.declared.ending.Ending.{Ending}
use Rattle.pth_transcript.specs.declared.ending.Ending.TheVariants as ending
use Rattle.pth_transcript.specs.declared.told.Told.{Told}
use Rattle.pth_transcript.proofs.OneReading.{AtEnding, AtMark, Off, AreSame, Holds, Stop, one_stop, same_length}

-- ---- what is said where the reading stops

-- an ending fits the marks and is the last line, or it fits them and is not, or it does not fit them
data AtEnd (marks : List Mark) (n : ℕ) (end : Ending) (rest : List ℕ) (out : Output) : Type 0 where
  Ends : FitsEnding marks end → rest ≡ [] → out ≡ verdict_output (Lawful (n + 1)) → AtEnd marks n end rest out
  GoesPast : FitsEnding marks end → rest ≢ [] → out ≡ refusal program (fault.Input (next_line (n + 1)) NoTranscript) → AtEnd marks n end rest out
  Unfitting : (FitsEnding marks end → ⊥) → out ≡ verdict_output (Unlawful (n + 1) law.Ending) → AtEnd marks n end rest out

abbrev IsSaid : {bytes : List ℕ} {told : List Told} → Stop bytes told → Output → Type 0
IsSaid {bytes} {told} (AtMark last rest with) out =
    (rule : AuditRule) × BreaksFirst rule (marks_of told ++ last.mark ∷ []) × (out ≡ verdict_output (Unlawful (length told + 1) (law.Marks rule)))
IsSaid {bytes} {told} (AtEnding end rest with) out = AtEnd (marks_of told) (length told) end rest out
IsSaid {bytes} {told} (Off rest begins off) out = out ≡ refusal program (fault.Input (next_line (length told)) NoTranscript)

record Says (bytes : List ℕ) (out : Output) : Type 0 where
  told : List Told
  stop : Stop bytes told
  lawful : IsLawful (marks_of told)
  said : IsSaid stop out

says : (bytes : List ℕ) (out : Output) → IsTextOutput bytes out → Says bytes out
says bytes out (inl (Lawful lines, l, e)) = record {
  told = l.told;
  stop = AtEnding l.ending [] l.transcript;
  lawful = l.lawful;
  said = Ends l.fits refl (e ∙ ap (λ n. verdict_output (Lawful n)) l.counted);
}
says bytes out (inl (Unlawful line (law.Marks rule), b, e)) = record {
  told = b.told;
  stop = AtMark b.last b.rest b.begins;
  lawful = b.lawful;
  said = (rule, b.breaks, e ∙ ap (λ n. verdict_output (Unlawful n (law.Marks rule))) b.counted);
}
says bytes out (inl (Unlawful line law.Ending, u, e)) = record {
  told = u.told;
  stop = AtEnding u.ending u.rest u.begins;
  lawful = u.lawful;
  said = Unfitting u.unfitting (e ∙ ap (λ n. verdict_output (Unlawful n law.Ending)) u.counted);
}
says bytes out (inr (line, inl b, e)) = record {
  told = b.told;
  stop = Off b.off.rest b.off.begins b.off.off;
  lawful = b.lawful;
  said = e ∙ ap (λ n. refusal program (fault.Input n NoTranscript)) b.off.counted;
}
says bytes out (inr (line, inr g, e)) = record {
  told = g.told;
  stop = AtEnding g.ending g.goes_on.rest g.goes_on.begins;
  lawful = g.lawful;
  said = GoesPast g.fits g.goes_on.more (e ∙ ap (λ n. refusal program (fault.Input n NoTranscript)) g.goes_on.counted);
}

-- ---- laws

broken_at : (rule : AuditRule) (marks : List Mark) (m : Mark) (more : List Mark) (all : List Mark) → all ≡ marks ++ m ∷ more → IsLawful marks
    → BreaksFirst rule (marks ++ m ∷ []) → IsBrokenAt all (length marks + 1) rule
broken_at rule marks m more all is lawful breaks = record { before = marks; mark = m; later = more; all = is; counted = refl; lawful = lawful; breaks = breaks }

-- lawful marks do not go on with one that breaks a law
not_past : (rule : AuditRule) (marks : List Mark) (m : Mark) (more : List Mark) (all : List Mark) → IsLawful marks → BreaksFirst rule (marks ++ m ∷ [])
    → IsLawful all → all ≡ marks ++ m ∷ more → ⊥
not_past rule marks m more all lawful breaks whole is =
    (let same : Yes ≡ No (length marks + 1) rule = one_verdict all Yes (No (length marks + 1) rule) whole (broken_at rule marks m more all is lawful breaks) in cc)

-- a mark breaks one law first
one_rule : (r q : AuditRule) (marks : List Mark) (m : Mark) → IsLawful marks → BreaksFirst r (marks ++ m ∷ []) → BreaksFirst q (marks ++ m ∷ []) → r ≡ q
one_rule r q marks m lawful a b =
    (let same : No (length marks + 1) r ≡ No (length marks + 1) q = one_verdict (marks ++ m ∷ []) (No (length marks + 1) r) (No (length marks + 1) q)
    (broken_at r marks m [] (marks ++ m ∷ []) refl lawful a) (broken_at q marks m [] (marks ++ m ∷ []) refl lawful b) in cc)

holds : {bytes : List ℕ} {told : List Told} (s : Stop bytes told) (out : Output) (marks : List Mark) → IsLawful (marks_of told) → IsSaid s out → IsLawful marks
    → Holds bytes s marks
holds {bytes} {told} (AtMark last rest with) out marks lawful said all = λ more is. not_past said.0 (marks_of told) last.mark more marks lawful said.1 all is
holds (AtEnding end rest with) out marks lawful said all = tt
holds (Off rest begins off) out marks lawful said all = tt

-- ---- endings

-- what fits the marks of one reading fits those of another
fits_too : (marks : List Mark) (a b : Ending) → TellsSame a b → FitsEnding marks a → FitsEnding marks b
fits_too marks (ending.Ended v) (ending.Ended w) same fits = subst (λ v. last_mark marks ≡ Some (mark.Ended main v)) same fits
fits_too marks (ending.Ended v) ending.Killed same fits = absurd same
fits_too marks (ending.Ended v) (ending.Stalled live) same fits = absurd same
fits_too marks (ending.Ended v) (ending.StepLimit n) same fits = absurd same
fits_too marks ending.Killed ending.Killed same fits = fits
fits_too marks ending.Killed (ending.Ended v) same fits = absurd same
fits_too marks ending.Killed (ending.Stalled live) same fits = absurd same
fits_too marks ending.Killed (ending.StepLimit n) same fits = absurd same
fits_too marks (ending.Stalled live) (ending.Stalled others) same fits = subst (λ ts. AreTheLiving marks (numbers ts)) same fits
fits_too marks (ending.Stalled live) (ending.Ended v) same fits = absurd same
fits_too marks (ending.Stalled live) ending.Killed same fits = absurd same
fits_too marks (ending.Stalled live) (ending.StepLimit n) same fits = absurd same
fits_too marks (ending.StepLimit n) (ending.StepLimit k) same fits = fits
fits_too marks (ending.StepLimit n) (ending.Ended v) same fits = absurd same
fits_too marks (ending.StepLimit n) ending.Killed same fits = absurd same
fits_too marks (ending.StepLimit n) (ending.Stalled live) same fits = absurd same

back : (a b : Ending) → TellsSame a b → TellsSame b a
back (ending.Ended v) (ending.Ended w) same = sym same
back (ending.Ended v) ending.Killed same = same
back (ending.Ended v) (ending.Stalled live) same = same
back (ending.Ended v) (ending.StepLimit n) same = same
back ending.Killed ending.Killed same = same
back ending.Killed (ending.Ended v) same = same
back ending.Killed (ending.Stalled live) same = same
back ending.Killed (ending.StepLimit n) same = same
back (ending.Stalled live) (ending.Stalled others) same = sym same
back (ending.Stalled live) (ending.Ended v) same = same
back (ending.Stalled live) ending.Killed same = same
back (ending.Stalled live) (ending.StepLimit n) same = same
back (ending.StepLimit n) (ending.StepLimit k) same = sym same
back (ending.StepLimit n) (ending.Ended v) same = same
back (ending.StepLimit n) ending.Killed same = same
back (ending.StepLimit n) (ending.Stalled live) same = same

-- what is said of one ending is one
one_end : (marks : List Mark) (n : ℕ) (a b : Ending) (rest : List ℕ) (x y : Output) → TellsSame a b → AtEnd marks n a rest x → AtEnd marks n b rest y → x ≡ y
one_end marks n a b rest x y same (Ends f e is) (Ends g h too) = is ∙ sym too
one_end marks n a b rest x y same (Ends f e is) (GoesPast g h too) = absurd (h e)
one_end marks n a b rest x y same (Ends f e is) (Unfitting g too) = absurd (g (fits_too marks a b same f))
one_end marks n a b rest x y same (GoesPast f e is) (Ends g h too) = absurd (e h)
one_end marks n a b rest x y same (GoesPast f e is) (GoesPast g h too) = is ∙ sym too
one_end marks n a b rest x y same (GoesPast f e is) (Unfitting g too) = absurd (g (fits_too marks a b same f))
one_end marks n a b rest x y same (Unfitting f is) (Ends g h too) = absurd (f (fits_too marks b a (back a b same) g))
one_end marks n a b rest x y same (Unfitting f is) (GoesPast g h too) = absurd (f (fits_too marks b a (back a b same) g))
one_end marks n a b rest x y same (Unfitting f is) (Unfitting g too) = is ∙ sym too

-- ---- one output

same_said : {bytes : List ℕ} {a b : List Told} (s : Stop bytes a) (t : Stop bytes b) (x y : Output) → marks_of a ≡ marks_of b → AreSame bytes s t
    → IsLawful (marks_of a) → IsSaid s x → IsSaid t y → x ≡ y
same_said {bytes} {a} {b} (AtMark last rest with) (AtMark other behind and) x y marks same lawful p q =
    let both = ap (λ ms. ms ++ last.mark ∷ []) marks ∙ ap (λ m. marks_of b ++ m ∷ []) same in
    let rules : p.0 ≡ q.0 = one_rule p.0 q.0 (marks_of a) last.mark lawful p.1 (subst (BreaksFirst q.0) (sym both) q.1) in
    p.2 ∙ ap (λ n. verdict_output (Unlawful (n + 1) (law.Marks p.0))) (same_length a b marks)
    ∙ ap (λ r. verdict_output (Unlawful (length b + 1) (law.Marks r))) rules ∙ sym q.2
same_said (AtMark last rest with) (AtEnding end behind and) x y marks same lawful p q = absurd same
same_said (AtMark last rest with) (Off behind begins off) x y marks same lawful p q = absurd same
same_said (AtEnding end rest with) (AtMark other behind and) x y marks same lawful p q = absurd same
same_said {bytes} {a} {b} (AtEnding end rest with) (AtEnding other behind and) x y marks same lawful p q =
    one_end (marks_of b) (length b) end other behind x y same.0
    (subst (λ l. AtEnd (marks_of b) (length b) end l x) same.1
    (subst (λ n. AtEnd (marks_of b) n end rest x) (same_length a b marks)
    (subst (λ ms. AtEnd ms (length a) end rest x) marks p))) q
same_said (AtEnding end rest with) (Off behind begins off) x y marks same lawful p q = absurd same
same_said (Off rest begins off) (AtMark other behind and) x y marks same lawful p q = absurd same
same_said (Off rest begins off) (AtEnding end behind and) x y marks same lawful p q = absurd same
same_said {bytes} {a} {b} (Off rest begins off) (Off behind also and) x y marks same lawful p q =
    p ∙ ap (λ n. refusal program (fault.Input (next_line n) NoTranscript)) (same_length a b marks) ∙ sym q

one_said : (bytes : List ℕ) (x y : Output) → Says bytes x → Says bytes y → x ≡ y
one_said bytes x y s t =
    let one = one_stop bytes s.stop t.stop (holds s.stop x (marks_of t.told) s.lawful s.said t.lawful) (holds t.stop y (marks_of s.told) t.lawful t.said s.lawful) in
    same_said s.stop t.stop x y one.0 one.1 s.lawful s.said t.said

pub one_text_output : (bytes : List ℕ) (x y : Output) → IsTextOutput bytes x → IsTextOutput bytes y → x ≡ y
one_text_output bytes x y p q = one_said bytes x y (says bytes x p) (says bytes y q)

-- whatever the words ask for
pub only : (asked : Option (Option (List ℕ))) (bytes : List ℕ) (out : Output) → IsOutput asked bytes out → IsOnly (IsOutput asked bytes) out
only None bytes out is = (is, λ other o. o ∙ sym is)
only (Some name) bytes out is = (is, λ other o. one_text_output bytes other out o is)
