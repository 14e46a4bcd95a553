-- What is refused of a content stands behind what was taken of it.
use Rattle.std.proofs.Common.{◌≡◌, ◌∙◌, ◌+◌, ◌≢◌, ◌⊎◌, ◌^◌, ℕ, List, [], ◌∷◌, ◌++◌, codes, Option, Some, None, ap, refl, append_assoc, append-nil, inl, inr}
use Rattle.std.specs.Io.KnownBytes.{Consumes, IsAtEnd}
use Rattle.pth_streams.specs.Inputs.{AreHeld}
use Rattle.pth_transcript.specs.Reading.{ComesNoPart, IsRefused}
use Rattle.pth_transcript.specs.Taking.{Ahead, HasMore, IsLineless, Takes, ahead}
use Rattle.pth_transcript.specs.Transcript.{ending_line, told_line}
use Rattle.pth_transcript.specs.Transcripts.{BeginsNoLine, IsUnknown}
use Rattle.pth_transcript.proofs.Cuts.{IsLine, no_line, same_line}
use Rattle.pth_transcript.proofs.EndingsBack.{ending_is_line}
use Rattle.pth_transcript.proofs.Takings.{front, takes_then}
use Rattle.pth_transcript.proofs.ToldBack.{mark_is_line}

-- no line begins a text without LF
lineless_begins : (text : List ℕ) → IsLineless text → BeginsNoLine text
lineless_begins text none = record {
  no_mark = λ told rest fine e. no_line text (told_line told) rest none (mark_is_line told fine) e;
  no_ending = λ ending rest fine e. no_line text (ending_line ending) rest none (ending_is_line ending fine) e;
}

-- nor one that begins with a line that is unknown
unknown_begins : (line rest : List ℕ) → IsLineless line → IsUnknown line → BeginsNoLine ((line ++ codes "\n") ++ rest)
unknown_begins line rest none unknown =
    let is : IsLine (line ++ codes "\n") = record { line = line; lineless = none; is = refl } in record {
      no_mark = λ told behind fine e. unknown.no_mark told fine (same_line (line ++ codes "\n") (told_line told) rest behind is (mark_is_line told fine) e);
      no_ending = λ ending behind fine e. unknown.no_ending ending fine (same_line (line ++ codes "\n") (ending_line ending) rest behind is (ending_is_line ending fine) e);
    }

-- a content that is at its end is what was taken of it and what was read behind
held_all : (content after : Option (List ℕ)) (read text unread : List ℕ) → Consumes content after read → IsAtEnd after → read ≡ text ++ unread
    → (bytes : List ℕ) × AreHeld content bytes × (bytes ≡ text ++ unread)
held_all None after read text unread p end e = (text ++ unread, tt, refl)
held_all (Some xs) None read text unread p end e = absurd p
held_all (Some xs) (Some ys) read text unread p end e = (xs, refl, p ∙ ap (λ (l : List ℕ). read ++ l) end ∙ append-nil read ∙ e)

all_taken : (content : Option (List ℕ)) (c d : Ahead) (text : List ℕ) → Takes (ahead [] content) c text → Takes c d [] → IsAtEnd d.left
    → (bytes : List ℕ) × AreHeld content bytes × (bytes ≡ text ++ d.unread)
all_taken content c d text p q end =
    let all = takes_then (ahead [] content) c d text [] p q in
    held_all content d.left all.read text d.unread all.consumed end (all.taken ∙ ap (λ (l : List ℕ). l ++ d.unread) (append-nil text))

-- what a content holds behind what was taken of it
pub record Behind (content : Option (List ℕ)) (text : List ℕ) (Is : List ℕ → Type 0) : Type 0 where
  pub bytes : List ℕ
  pub rest : List ℕ
  pub held : AreHeld content bytes
  pub is : bytes ≡ text ++ rest
  pub behind : Is rest

-- something
pub anything : (content : Option (List ℕ)) (c : Ahead) (text : List ℕ) → Takes (ahead [] content) c text → Behind content text (λ rest. Unit {0})
anything content c text p =
    let f = front content c text p in
    record { bytes = f.0; rest = f.1; held = f.2; is = f.3; behind = tt }

module _ (content : Option (List ℕ)) (c d : Ahead) (text : List ℕ) (taken : Takes (ahead [] content) c text) where
  -- a line more
  one_more : (line : List ℕ) → Takes c d (line ++ codes "\n") → (bytes : List ℕ) × (rest : List ℕ) × AreHeld content bytes × (bytes ≡ text ++ ((line ++ codes "\n") ++ rest))
  one_more line more =
      let f = front content d (text ++ (line ++ codes "\n")) (takes_then (ahead [] content) c d text (line ++ codes "\n") taken more) in
      (f.0, f.1, f.2, f.3 ∙ append_assoc text (line ++ codes "\n") f.1)

  -- no line of a transcript
  no_part : ComesNoPart c d → Behind content text BeginsNoLine
  no_part (inl none) =
      let a = all_taken content c d text taken none.takes none.over in
      record { bytes = a.0; rest = d.unread; held = a.1; is = a.2; behind = lineless_begins d.unread none.lineless }
  no_part (inr line) =
      let m = one_more line.0 line.1.takes in
      record { bytes = m.0; rest = (line.0 ++ codes "\n") ++ m.1; held = m.2; is = m.3; behind = unknown_begins line.0 m.1 line.1.lineless line.2 }

  -- none, or one too many
  pub refused : (lines : ℕ) → IsRefused lines c d → Behind content text (λ rest. BeginsNoLine rest ⊎ (lines + 1 ≡ 2 ^ 64))
  refused lines (inl none) =
      let b = no_part none in
      record { bytes = b.bytes; rest = b.rest; held = b.held; is = b.is; behind = inl b.behind }
  refused lines (inr many) =
      let b = anything content c text taken in
      record { bytes = b.bytes; rest = b.rest; held = b.held; is = b.is; behind = inr many }

  -- something more
  pub more : HasMore c d → Behind content text (λ rest. rest ≢ [])
  more (inl line) =
      let m = one_more line.0 line.1 in
      record { bytes = m.0; rest = (line.0 ++ codes "\n") ++ m.1; held = m.2; is = m.3; behind = some line.0 m.1 }
    where
      some : (line rest : List ℕ) → (line ++ codes "\n") ++ rest ≢ []
      some [] rest e = (cc)
      some (b ∷ bs) rest e = (cc)
  more (inr end) =
      let a = all_taken content c d text taken end.0 end.1 in
      record { bytes = a.0; rest = d.unread; held = a.1; is = a.2; behind = end.2 }
