-- From what was read and judged so far to what comes of one line more.
use Rattle.std.proofs.Common.{◌≡◌, ◌∙◌, ◌+◌, ◌<◌, ◌^◌, ℕ, List, [], ◌∷◌, ◌++◌, Bool, true, false, Option, Result, Ok, Err, IsErr, IsErrAnd, sym, ap, refl, subst, append_assoc, append-nil, length, arith, inl, inr}
use Rattle.std.proofs.lemmas.Grind.{flat_map-append}
use Rattle.std.proofs.lemmas.List.{length_push}
use Rattle.std.proofs.lemmas.List.Elements.{All-push}
use Rattle.pth_audit.specs.Verdicts.{BreaksFirst}
use Rattle.pth_audit.specs.declared.verdict.AuditRule.{AuditRule}
use Rattle.pth_base.specs.declared.mark.Mark.{Mark}
use Rattle.pth_checker.specs.Fitting.{FitsEnding}
use Rattle.pth_checker.specs.Session.{ComesTo, GoesOn, HasHeard, HasRead}
use Rattle.pth_checker.specs.Judged.{HoldsRefused, HoldsVerdict}
use Rattle.pth_checker.specs.Judging.{Judges}
use Rattle.pth_checker.specs.declared.session.Session.{Session}
use Rattle.pth_checker.specs.declared.judge.Judge.{Judge}
use Rattle.pth_checker.specs.declared.verdict.Law.TheVariants as law
use Rattle.pth_checker.specs.declared.verdict.Verdict.{Verdict}
use Rattle.pth_checker.specs.declared.verdict.Verdict.TheVariants.{Lawful, Unlawful}
use Rattle.pth_transcript.specs.Reading.{ComesTo as ReaderComesTo, IsRefused}
use Rattle.pth_transcript.specs.Transcripts.{BeginsWith, IsTold, IsToldPart, next_line, part_line}
use Rattle.pth_filter.specs.Objects.{OtherStays, of_read}
use Rattle.pth_transcript.specs.Taking.{Ahead, HasMore, IsOver, Takes, ahead}
use Rattle.pth_transcript.specs.Transcript.{ending_line, marks_of, told_line, told_lines}
use Rattle.pth_transcript.specs.declared.ending.Ending.{Ending}
use Rattle.pth_print.specs.declared.fault_line.Fault.{Fault}
use Rattle.pth_print.specs.declared.fault_line.Fault.TheVariants as fault
use Rattle.pth_transcript.specs.declared.reader.Part.{Part}
use Rattle.pth_transcript.specs.declared.reader.Part.TheVariants as part
use Rattle.pth_transcript.specs.declared.told.Told.{Told}
use Rattle.pth_transcript.proofs.Refusals.{anything, more, refused}
use Rattle.pth_transcript.proofs.Takings.{takes_then, whole}

-- what a `?` answers
pub err_is : {T E : Type 0} (r : Result T E) (e : E) → IsErr r → IsErrAnd r (λ x. x ≡ e) → r ≡ Err e
err_is (Ok x) e h k = cc
err_is (Err x) e h k = ap Err k

-- ---- one line more

lines_more : (told : List Told) (last : Told) → told_lines (told ++ last ∷ []) ≡ told_lines told ++ told_line last
lines_more told last = flat_map-append told_line told (last ∷ []) ∙ ap (λ (l : List ℕ). told_lines told ++ l) (append-nil (told_line last))

marks_more : (told : List Told) (last : Told) → marks_of (told ++ last ∷ []) ≡ marks_of told ++ last.mark ∷ []
marks_more [] last = refl
marks_more (t ∷ ts) last = ap (λ (ms : List Mark). t.mark ∷ ms) (marks_more ts last)

-- ---- on the way

-- one line more was read
read_more : (content left later : Option (List ℕ)) (h after : Session) (told : List Told) (part : Part) → HasHeard content h left told
    → Takes (ahead h.reader.unread left) (ahead after.reader.unread later) (part_line part) → after.reader.lines ≡ h.reader.lines + 1 → after.reader.lines < 2 ^ 64
    → after.judge ≡ h.judge → IsToldPart part → HasRead content after later told part
read_more content left later h after told part heard takes lines few same tells = record {
  taken = takes_then (ahead [] content) (ahead h.reader.unread left) (ahead after.reader.unread later) (told_lines told) (part_line part) heard.taken takes;
  tells = heard.tells;
  tells_part = tells;
  counted = lines ∙ ap (λ (n : ℕ). n + 1) heard.counted;
  few = few;
  judges = subst (λ (j : Judge). Judges j (marks_of told)) (sym same) heard.judges;
}

-- the line that was read is that of this part
pub read_as : (content left later : Option (List ℕ)) (h after : Session) (told : List Told) (found part : Part) → found ≡ part → HasHeard content h left told
    → Takes (ahead h.reader.unread left) (ahead after.reader.unread later) (part_line found) → after.reader.lines ≡ h.reader.lines + 1 → after.reader.lines < 2 ^ 64
    → after.judge ≡ h.judge → IsToldPart found → HasRead content after later told part
read_as content left later h after told found part is heard takes lines few same tells =
    subst (HasRead content after later told) is (read_more content left later h after told found heard takes lines few same tells)

-- what is read is the same object as before
pub read_of_same : (content input file : Option (List ℕ)) (h : Session) (told : List Told) (part : Part) (before now : Bool) → now ≡ before
    → HasRead content h (of_read before input file) told part → HasRead content h (of_read now input file) told part
read_of_same content input file h told part before now same read = subst (λ (b : Bool). HasRead content h (of_read b input file) told part) (sym same) read

pub heard_of_same : (content input file : Option (List ℕ)) (h : Session) (told : List Told) (before now : Bool) → now ≡ before
    → HasHeard content h (of_read before input file) told → HasHeard content h (of_read now input file) told
heard_of_same content input file h told before now same heard = subst (λ (b : Bool). HasHeard content h (of_read b input file) told) (sym same) heard

-- it is the line of a lawful mark
pub heard_more : (content left : Option (List ℕ)) (h after : Session) (told : List Told) (last : Told) → HasRead content h left told (part.Mark last)
    → after.reader ≡ h.reader → Judges after.judge (marks_of told ++ last.mark ∷ []) → HasHeard content after left (told ++ last ∷ [])
heard_more content left h after told last read same judges = record {
  taken = subst (λ (u : List ℕ). Takes (ahead [] content) (ahead u left) (told_lines (told ++ last ∷ []))) (sym (ap (λ r. r.unread) same))
      (subst (Takes (ahead [] content) (ahead h.reader.unread left)) (sym (lines_more told last)) read.taken);
  tells = All-push IsTold told last read.tells read.tells_part;
  counted = ap (λ r. r.lines) same ∙ read.counted ∙ sym (length_push told last);
  few = subst (λ (n : ℕ). n < 2 ^ 64) (sym (ap (λ r. r.lines) same)) read.few;
  judges = subst (Judges after.judge) (sym (marks_more told last)) judges;
}

-- ---- in the end

-- the text begins with what was read
with_part : (h : Session) (content left : Option (List ℕ)) (told : List Told) (part : Part) (bytes rest : List ℕ) → HasRead content h left told part
    → bytes ≡ (told_lines told ++ part_line part) ++ rest → BeginsWith bytes told part rest
with_part h content left told part bytes rest read is =
    let many = read.counted in
    let few = read.few in
    record {
      begins = record { text = is ∙ append_assoc (told_lines told) (part_line part) rest; tells = read.tells; few = omega (arith, many, few) };
      tells = read.tells_part;
      few = omega (arith, many, few);
    }

module _ (content left : Option (List ℕ)) (h : Session) (told : List Told) where
  pub breaks_law : (last : Told) (rule : AuditRule) (line : ℕ) → HasRead content h left told (part.Mark last) → line ≡ h.reader.lines
      → BreaksFirst rule (marks_of told ++ last.mark ∷ []) → HoldsVerdict content (Unlawful line (law.Marks rule))
  breaks_law last rule line read is breaks =
      let b = anything content (ahead h.reader.unread left) (told_lines told ++ told_line last) read.taken in (
        b.bytes,
        b.held,
        record {
          told = told;
          last = last;
          rest = b.rest;
          begins = with_part h content left told (part.Mark last) b.bytes b.rest read b.is;
          counted = is ∙ read.counted;
          lawful = read.judges.laws.lawful;
          breaks = breaks;
        },
      )

  pub ends_unfittingly : (ending : Ending) (line : ℕ) → HasRead content h left told (part.Ending ending) → line ≡ h.reader.lines
      → (FitsEnding (marks_of told) ending → ⊥) → HoldsVerdict content (Unlawful line law.Ending)
  ends_unfittingly ending line read is unfitting =
      let b = anything content (ahead h.reader.unread left) (told_lines told ++ ending_line ending) read.taken in (
        b.bytes,
        b.held,
        record {
          told = told;
          ending = ending;
          rest = b.rest;
          begins = with_part h content left told (part.Ending ending) b.bytes b.rest read b.is;
          counted = is ∙ read.counted;
          lawful = read.judges.laws.lawful;
          unfitting = unfitting;
        },
      )

  pub ends_lawfully : (ending : Ending) (lines : ℕ) (end : Ahead) → HasRead content h left told (part.Ending ending) → lines ≡ h.reader.lines
      → IsOver (ahead h.reader.unread left) end → FitsEnding (marks_of told) ending → HoldsVerdict content (Lawful lines)
  ends_lawfully ending lines end read is over fits =
      let w = whole content (ahead h.reader.unread left) end (told_lines told ++ ending_line ending) read.taken over in (
        w.0,
        w.1,
        record {
          told = told;
          ending = ending;
          transcript = with_part h content left told (part.Ending ending) w.0 [] read (w.2 ∙ sym (append-nil (told_lines told ++ ending_line ending)));
          counted = is ∙ read.counted;
          lawful = read.judges.laws.lawful;
          fits = fits;
        },
      )

  pub goes_past_ending : (ending : Ending) (line : ℕ) (end : Ahead) → HasRead content h left told (part.Ending ending) → line ≡ next_line h.reader.lines
      → HasMore (ahead h.reader.unread left) end → FitsEnding (marks_of told) ending → HoldsRefused content line
  goes_past_ending ending line end read is goes_on fits =
      let b = more content (ahead h.reader.unread left) end (told_lines told ++ ending_line ending) read.taken goes_on in (
        b.bytes,
        b.held,
        inr (record {
          told = told;
          ending = ending;
          goes_on = record {
            rest = b.rest;
            begins = with_part h content left told (part.Ending ending) b.bytes b.rest read b.is;
            more = b.behind;
            counted = is ∙ ap next_line read.counted;
          };
          lawful = read.judges.laws.lawful;
          fits = fits;
        }),
      )

  refused_at : (line : ℕ) (end : Ahead) → HasHeard content h left told → line ≡ next_line h.reader.lines
      → IsRefused h.reader.lines (ahead h.reader.unread left) end → HoldsRefused content line
  refused_at line end heard is none =
      let b = refused content (ahead h.reader.unread left) end (told_lines told) heard.taken (length told)
      (subst (λ (n : ℕ). IsRefused n (ahead h.reader.unread left) end) heard.counted none) in (
        b.bytes,
        b.held,
        inl (record {
          told = told;
          off = record {
            rest = b.rest;
            begins = record { text = b.is; tells = heard.tells; few = subst (λ (n : ℕ). n < 2 ^ 64) heard.counted heard.few };
            off = b.behind;
            counted = is ∙ ap next_line heard.counted;
          };
          lawful = heard.judges.laws.lawful;
        }),
      )

  -- the next line could not be read
  pub not_read : (f : Fault) (end : Ahead) → HasHeard content h left told
      → ReaderComesTo h.reader.lines (IsRefused h.reader.lines (ahead h.reader.unread left) end) f → ComesTo content (Err f)
  not_read (fault.Input line why) end heard comes = (refused_at line end heard comes.0 comes.2, comes.1)
  not_read fault.ReadFault end heard comes = tt
  not_read fault.OutOfMemory end heard comes = tt
  not_read fault.Words end heard comes = comes
  not_read fault.WriteFault end heard comes = comes

-- what comes of a line by whether there is a verdict
pub goes_on_as : (content left : Option (List ℕ)) (h : Session) (found is : Option Verdict) → found ≡ is → GoesOn content h left (Ok found) → GoesOn content h left (Ok is)
goes_on_as content left h found is same goes = subst (λ (o : Option Verdict). GoesOn content h left (Ok o)) same goes

-- a `?` goes on with the fault that it met
pub goes_wrong : (content left : Option (List ℕ)) (h : Session) (r : Result (Option Verdict) Fault) (f : Fault) → IsErr r → IsErrAnd r (λ x. x ≡ f)
    → ComesTo content (Err f) → GoesOn content h left r
goes_wrong content left h r f err same comes = subst (GoesOn content h left) (sym (err_is r f err same)) comes

-- ---- the objects

-- what is not read is as it was, one time after another
pub other_then : {S F : Type 0} (file now : Bool) (input later last : S) (files after end : F) → now ≡ file
    → OtherStays file input later files after → OtherStays now later last after end → OtherStays file input last files end
other_then true now input later last files after end same p q =
    let r = subst (λ (b : Bool). OtherStays b later last after end) same q in r ∙ p
other_then false now input later last files after end same p q =
    let r = subst (λ (b : Bool). OtherStays b later last after end) same q in r ∙ p

pub stood_then : (file now : Bool) (a b x y : ℕ) (stood : ℕ) → now ≡ file → of_read file a x ≡ stood → of_read now b y ≡ of_read now a x → of_read file b y ≡ stood
stood_then file now a b x y stood same p q = subst (λ (f : Bool). of_read f b y ≡ of_read f a x) same q ∙ p
