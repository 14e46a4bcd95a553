-- A transcript, drawn line by line.
use Rattle.std.proofs.Common.{◌≡◌, ◌∙◌, ◌+◌, ◌<◌, ◌^◌, ℕ, List, [], ◌∷◌, ◌++◌, All, Option, ap, sym, subst, arith, append-nil, append_assoc, inl, inr, length, length-append}
use Rattle.std.proofs.lemmas.Grind.{flat_map-append}
use Rattle.std.proofs.lemmas.List.{map-append}
use Rattle.std.proofs.lemmas.List.Elements.{All-nil, All-push}
use Rattle.pth_base.specs.declared.mark.Mark.{Mark as MarkOf}
use Rattle.pth_transcript.proofs.Refusals.{more, refused}
use Rattle.pth_transcript.proofs.Takings.{takes_none, takes_then, whole}
use Rattle.pth_transcript.specs.Reading.{ComesTo, IsRefused}
use Rattle.pth_transcript.specs.Taking.{Ahead, HasMore, IsOver, Takes, ahead}
use Rattle.pth_transcript.specs.Transcripts.{BeginsWith, IsTold, IsToldPart, next_line, part_line}
use Rattle.pth_transcript.specs.Transcript.{ending_line, marks_of, told_line, told_lines}
use Rattle.pth_transcript.specs.declared.ending.Ending.{Ending}
use Rattle.pth_print.specs.declared.fault_line.Fault.{Fault}
use Rattle.pth_print.specs.declared.fault_line.Fault.TheVariants as fault
use Rattle.pth_transcript.specs.declared.reader.Part.{Part}
use Rattle.pth_transcript.specs.declared.reader.Part.TheVariants as part
use Rattle.pth_transcript.specs.declared.told.Told.{Told}
use Rattle.pth_drawing.specs.Draw.{IsMade, StopsAt}
use Rattle.pth_drawing.specs.Ends.{end_of}
use Rattle.pth_drawing.specs.Follow.{Draws}
use Rattle.pth_drawing.specs.Taken.{HasDrawn}
use Rattle.pth_drawing.specs.declared.chart.End.{End}
use Rattle.pth_drawing.specs.declared.drawing.Drawing.{Drawing}

-- the marks of lines that were taken are drawn
pub record IsAlong (d : Drawing) (from turns : ℕ) (old new : Ahead) (lines : ℕ) : Type 0 where
  pub told : List Told
  pub takes : Takes old new (told_lines told)
  pub tells : All IsTold told
  pub draws : Draws d from turns (marks_of told)
  pub count : lines ≡ length told
  pub few : lines < 2 ^ 64

-- nothing was taken yet
pub begins : (d : Drawing) (from turns : ℕ) (left : Option (List ℕ)) (unread : List ℕ) (lines : ℕ) → unread ≡ [] → lines ≡ 0
    → Draws d from turns [] → IsAlong d from turns (ahead [] left) (ahead unread left) lines
begins d from turns left unread lines none zero draws = record {
  told = [];
  takes = subst (λ (l : List ℕ). Takes (ahead [] left) (ahead l left) []) (sym none) (takes_none (ahead [] left));
  tells = All-nil IsTold;
  draws = draws;
  count = zero;
  few = omega (arith, zero);
}

lines_more : (told : List Told) (t : Told) → told_lines told ++ told_line t ≡ told_lines (told ++ t ∷ [])
lines_more told t = sym (flat_map-append told_line told (t ∷ []) ∙ ap (λ (l : List ℕ). told_lines told ++ l) (append-nil (told_line t)))

module _ (from turns : ℕ) (a b c : Ahead) (n m : ℕ) where
  -- one mark more is drawn
  pub goes_on : (d e : Drawing) (p : Part) (t : Told) → IsAlong d from turns a b n → Takes b c (part_line p) → p ≡ part.Mark t → IsToldPart p → m ≡ n + 1
      → m < 2 ^ 64 → ((marks : List MarkOf) → Draws d from turns marks → Draws e from turns (marks ++ t.mark ∷ [])) → IsAlong e from turns a c m
  goes_on d e p t along takes is tells more few draws =
      let line = subst (λ (q : Part). Takes b c (part_line q)) is takes in record {
        told = along.told ++ t ∷ [];
        takes = subst (Takes a c) (lines_more along.told t) (takes_then a b c (told_lines along.told) (told_line t) along.takes line);
        tells = All-push IsTold along.told t along.tells (subst IsToldPart is tells);
        draws = subst (Draws e from turns) (sym (map-append (λ (t : Told). t.mark) along.told (t ∷ []))) (draws (marks_of along.told) along.draws);
        count = let many = length-append along.told (t ∷ []) in let so_far = along.count in omega arith;
        few = few;
      }

  -- the line of the ending is taken behind the marks
  pub ends : (d : Drawing) (end : End) (p : Part) (e : Ending) → end ≡ end_of e → IsAlong d from turns a b n → Takes b c (part_line p) → p ≡ part.Ending e → IsToldPart p → m ≡ n + 1
      → m < 2 ^ 64 → HasDrawn d end from turns a c m
  ends d end p e same along takes is tells more few =
      let line = subst (λ (q : Part). Takes b c (part_line q)) is takes in record {
        told = along.told;
        ending = e;
        takes = takes_then a b c (told_lines along.told) (ending_line e) along.takes line;
        tells = along.tells;
        tells_ending = subst IsToldPart is tells;
        draws = along.draws;
        is_end = same;
        count = let so_far = along.count in omega arith;
        few = few;
      }

module _ (d : Drawing) (from turns : ℕ) (content : Option (List ℕ)) (c : Ahead) (n : ℕ) (end : Ahead) where
  -- the next line is refused on the way
  pub stops : (f : Fault) → IsAlong d from turns (ahead [] content) c n → ComesTo n (IsRefused n c end) f → StopsAt content f
  stops (fault.Input line why) along comes =
      let b = refused content c end (told_lines along.told) along.takes (length along.told) (subst (λ n. IsRefused n c end) along.count comes.2) in (
        record {
          bytes = b.bytes;
          held = b.held;
          refused = inl (
            along.told,
            record {
              rest = b.rest;
              begins = record { text = b.is; tells = along.tells; few = subst (λ n. n < 2 ^ 64) along.count along.few };
              off = b.behind;
              counted = comes.0 ∙ ap next_line along.count;
            },
          );
        },
        comes.1,
      )
  stops fault.ReadFault along comes = tt
  stops fault.OutOfMemory along comes = tt
  stops fault.Words along comes = absurd comes
  stops fault.WriteFault along comes = absurd comes

module _ (d : Drawing) (last : End) (from turns : ℕ) (content : Option (List ℕ)) (c : Ahead) (n : ℕ) (end : Ahead) where
  -- the text begins with what was drawn, and with the line of the ending
  with_ending : (drawn : HasDrawn d last from turns (ahead [] content) c n) (bytes rest : List ℕ)
      → bytes ≡ (told_lines drawn.told ++ ending_line drawn.ending) ++ rest → BeginsWith bytes drawn.told (part.Ending drawn.ending) rest
  with_ending drawn bytes rest is =
      let many = drawn.count in
      let few = drawn.few in
      record {
        begins = record {
          text = is ∙ append_assoc (told_lines drawn.told) (ending_line drawn.ending) rest;
          tells = drawn.tells;
          few = omega (arith, many, few);
        };
        tells = drawn.tells_ending;
        few = omega (arith, many, few);
      }

  -- something stands behind the line of the ending
  pub stops_behind : (f : Fault) → HasDrawn d last from turns (ahead [] content) c n → ComesTo n (HasMore c end) f → StopsAt content f
  stops_behind (fault.Input line why) drawn comes =
      let b = more content c end (told_lines drawn.told ++ ending_line drawn.ending) drawn.takes comes.2 in (
        record {
          bytes = b.bytes;
          held = b.held;
          refused = inr (
            drawn.told,
            drawn.ending,
            record {
              rest = b.rest;
              begins = with_ending drawn b.bytes b.rest b.is;
              more = b.behind;
              counted = comes.0 ∙ ap next_line drawn.count;
            },
          );
        },
        comes.1,
      )
  stops_behind fault.ReadFault drawn comes = tt
  stops_behind fault.OutOfMemory drawn comes = tt
  stops_behind fault.Words drawn comes = absurd comes
  stops_behind fault.WriteFault drawn comes = absurd comes

  -- nothing comes behind it, so the content is a transcript, whose marks were drawn
  pub made : {T : Type 0} (Is : List MarkOf → Ending → T → Type 0) (x : T) → HasDrawn d last from turns (ahead [] content) c n → IsOver c end
      → ((marks : List MarkOf) (e : Ending) → Draws d from turns marks → last ≡ end_of e → Is marks e x) → IsMade Is content x
  made Is x drawn over is =
      let all = whole content c end (told_lines drawn.told ++ ending_line drawn.ending) drawn.takes over in record {
        bytes = all.0;
        held = all.1;
        told = drawn.told;
        ending = drawn.ending;
        transcript = with_ending drawn all.0 [] (all.2 ∙ sym (append-nil (told_lines drawn.told ++ ending_line drawn.ending)));
        made = is (marks_of drawn.told) drawn.ending drawn.draws drawn.is_end;
      }
