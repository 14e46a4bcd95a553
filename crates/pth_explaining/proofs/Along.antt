-- A transcript, taken line by line.
use Rattle.std.proofs.Common.{All, ◌≡◌, ◌∙◌, ◌+◌, ◌<◌, ◌^◌, ℕ, List, [], ◌∷◌, ◌++◌, Option, ap, sym, subst, arith, append-nil, append_assoc, inl, inr, length, length-append}
use Rattle.std.proofs.lemmas.Grind.{flat_map-append}
use Rattle.std.proofs.lemmas.List.{map-append}
use Rattle.std.proofs.lemmas.List.Elements.{All-nil, All-push}
use Rattle.pth_base.specs.declared.mark.Mark.{Mark as MarkOf}
use Rattle.pth_transcript.proofs.Refusals.{more, refused}
use Rattle.pth_transcript.proofs.Takings.{takes_none, takes_then, whole}
use Rattle.pth_transcript.specs.Reading.{ComesTo, IsRefused}
use Rattle.pth_transcript.specs.Taking.{Ahead, HasMore, IsOver, Takes, ahead}
use Rattle.pth_transcript.specs.Transcripts.{BeginsWith, IsTold, IsToldPart, next_line, part_line}
use Rattle.pth_transcript.specs.Transcript.{ending_line, marks_of, told_line, told_lines}
use Rattle.pth_transcript.specs.declared.ending.Ending.{Ending}
use Rattle.pth_print.specs.declared.fault_line.Fault.{Fault}
use Rattle.pth_print.specs.declared.fault_line.Fault.TheVariants as fault
use Rattle.pth_transcript.specs.declared.reader.Part.{Part}
use Rattle.pth_transcript.specs.declared.reader.Part.TheVariants as part
use Rattle.pth_transcript.specs.declared.told.Told.{Told}
use Rattle.pth_explaining.specs.Why.{IsMade, StopsAt}
use Rattle.pth_explaining.specs.Taken.{HasTaken}

-- the marks of lines that were taken are kept
pub record IsAlong (marks : List MarkOf) (old new : Ahead) (lines : ℕ) : Type 0 where
  pub told : List Told
  pub takes : Takes old new (told_lines told)
  pub tells : All IsTold told
  pub kept : marks ≡ marks_of told
  pub count : lines ≡ length told
  pub few : lines < 2 ^ 64

-- nothing was taken yet
pub begins : (marks : List MarkOf) (left : Option (List ℕ)) (unread : List ℕ) (lines : ℕ) → unread ≡ [] → lines ≡ 0
    → marks ≡ [] → IsAlong marks (ahead [] left) (ahead unread left) lines
begins marks left unread lines none zero empty = record {
  told = [];
  takes = subst (λ (l : List ℕ). Takes (ahead [] left) (ahead l left) []) (sym none) (takes_none (ahead [] left));
  tells = All-nil IsTold;
  kept = empty;
  count = zero;
  few = omega (arith, zero);
}

lines_more : (told : List Told) (t : Told) → told_lines told ++ told_line t ≡ told_lines (told ++ t ∷ [])
lines_more told t = sym (flat_map-append told_line told (t ∷ []) ∙ ap (λ (l : List ℕ). told_lines told ++ l) (append-nil (told_line t)))

module _ (a b c : Ahead) (n m : ℕ) where
  -- one mark more is kept
  pub goes_on : (marks more : List MarkOf) (p : Part) (t : Told) → IsAlong marks a b n → Takes b c (part_line p) → p ≡ part.Mark t → IsToldPart p → m ≡ n + 1
      → m < 2 ^ 64 → more ≡ marks ++ t.mark ∷ [] → IsAlong more a c m
  goes_on marks more p t along takes is tells next few kept =
      let line = subst (λ (q : Part). Takes b c (part_line q)) is takes in record {
        told = along.told ++ t ∷ [];
        takes = subst (Takes a c) (lines_more along.told t) (takes_then a b c (told_lines along.told) (told_line t) along.takes line);
        tells = All-push IsTold along.told t along.tells (subst IsToldPart is tells);
        kept = kept ∙ ap (λ (l : List MarkOf). l ++ t.mark ∷ []) along.kept ∙ sym (map-append (λ (t : Told). t.mark) along.told (t ∷ []));
        count = let many = length-append along.told (t ∷ []) in let so_far = along.count in omega arith;
        few = few;
      }

  -- the line of the ending is taken behind the marks
  pub ends : (marks : List MarkOf) (p : Part) (e : Ending) → IsAlong marks a b n → Takes b c (part_line p) → p ≡ part.Ending e → IsToldPart p → m ≡ n + 1
      → m < 2 ^ 64 → HasTaken marks e a c m
  ends marks p e along takes is tells next few =
      let line = subst (λ (q : Part). Takes b c (part_line q)) is takes in record {
        told = along.told;
        takes = takes_then a b c (told_lines along.told) (ending_line e) along.takes line;
        tells = along.tells;
        tells_ending = subst IsToldPart is tells;
        kept = along.kept;
        count = let so_far = along.count in omega arith;
        few = few;
      }

module _ (marks : List MarkOf) (content : Option (List ℕ)) (c : Ahead) (n : ℕ) (end : Ahead) where
  -- the next line is refused on the way
  pub stops : (f : Fault) → IsAlong marks (ahead [] content) c n → ComesTo n (IsRefused n c end) f → StopsAt content f
  stops (fault.Input line why) along comes =
      let b = refused content c end (told_lines along.told) along.takes (length along.told) (subst (λ n. IsRefused n c end) along.count comes.2) in (
        record {
          bytes = b.bytes;
          held = b.held;
          refused = inl (
            along.told,
            record {
              rest = b.rest;
              begins = record { text = b.is; tells = along.tells; few = subst (λ n. n < 2 ^ 64) along.count along.few };
              off = b.behind;
              counted = comes.0 ∙ ap next_line along.count;
            },
          );
        },
        comes.1,
      )
  stops fault.ReadFault along comes = tt
  stops fault.OutOfMemory along comes = tt
  stops fault.Words along comes = absurd comes
  stops fault.WriteFault along comes = absurd comes

  -- the text begins with what was taken, and with the line of the ending
  with_ending : (e : Ending) (taken : HasTaken marks e (ahead [] content) c n) (bytes rest : List ℕ)
      → bytes ≡ (told_lines taken.told ++ ending_line e) ++ rest → BeginsWith bytes taken.told (part.Ending e) rest
  with_ending e taken bytes rest is =
      let many = taken.count in
      let few = taken.few in
      record {
        begins = record {
          text = is ∙ append_assoc (told_lines taken.told) (ending_line e) rest;
          tells = taken.tells;
          few = omega (arith, many, few);
        };
        tells = taken.tells_ending;
        few = omega (arith, many, few);
      }

  -- something stands behind the line of the ending
  pub stops_behind : (e : Ending) (f : Fault) → HasTaken marks e (ahead [] content) c n → ComesTo n (HasMore c end) f → StopsAt content f
  stops_behind e (fault.Input line why) taken comes =
      let b = more content c end (told_lines taken.told ++ ending_line e) taken.takes comes.2 in (
        record {
          bytes = b.bytes;
          held = b.held;
          refused = inr (
            taken.told,
            e,
            record {
              rest = b.rest;
              begins = with_ending e taken b.bytes b.rest b.is;
              more = b.behind;
              counted = comes.0 ∙ ap next_line taken.count;
            },
          );
        },
        comes.1,
      )
  stops_behind e fault.ReadFault taken comes = tt
  stops_behind e fault.OutOfMemory taken comes = tt
  stops_behind e fault.Words taken comes = absurd comes
  stops_behind e fault.WriteFault taken comes = absurd comes

  -- nothing comes behind it, so the content is a transcript, whose marks were taken
  pub made : {T : Type 0} (Is : List MarkOf → Ending → T → Type 0) (e : Ending) (x : T) → HasTaken marks e (ahead [] content) c n → IsOver c end
      → Is marks e x → IsMade Is content x
  made Is e x taken over is =
      let all = whole content c end (told_lines taken.told ++ ending_line e) taken.takes over in record {
        bytes = all.0;
        held = all.1;
        told = taken.told;
        ending = e;
        transcript = with_ending e taken all.0 [] (all.2 ∙ sym (append-nil (told_lines taken.told ++ ending_line e)));
        made = subst (λ (ms : List MarkOf). Is ms e x) taken.kept is;
      }
