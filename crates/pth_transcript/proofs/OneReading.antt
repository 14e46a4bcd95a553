-- Whoever reads a text line by line stops at one place.
use Rattle.std.proofs.Common.{◌≡◌, ◌∙◌, ◌+◌, ◌<◌, ◌^◌, ◌⊎◌, ℕ, List, [], ◌∷◌, ◌++◌, All, length, length-append, ap, sym, refl, append_assoc, arith, inl, inr}
use Rattle.std.proofs.lemmas.List.{length-map}
use Rattle.std.proofs.lemmas.List.Elements.{All-head, All-tail}
use Rattle.pth_base.specs.declared.mark.Mark.{Mark}
use Rattle.pth_transcript.specs.ReadableMarks.{TellsSame}
use Rattle.pth_transcript.specs.Transcript.{ending_line, marks_of, told_line, told_lines}
use Rattle.pth_transcript.specs.Transcripts.{Begins, BeginsNoLine, BeginsWith, IsTold}
use Rattle.pth_transcript.specs.declared.ending.Ending.{Ending}
use Rattle.pth_transcript.specs.declared.reader.Part.TheVariants as part
use Rattle.pth_transcript.specs.declared.told.Told.{Told}
use Rattle.pth_transcript.proofs.Cuts.{same_line, same_rest}
use Rattle.pth_transcript.proofs.EndingsBack.{ending_is_line}
use Rattle.pth_transcript.proofs.ToldBack.{mark_is_line}

-- where a reader stops behind the lines of these marks: at the line of one mark more, at that of an ending, or where there is none
pub data Stop (bytes : List ℕ) (told : List Told) : Type 0 where
  AtMark : (last : Told) (rest : List ℕ) → BeginsWith bytes told (part.Mark last) rest → Stop bytes told
  AtEnding : (ending : Ending) (rest : List ℕ) → BeginsWith bytes told (part.Ending ending) rest → Stop bytes told
  Off : (rest : List ℕ) → Begins bytes told rest → BeginsNoLine rest ⊎ (length told + 1 ≡ 2 ^ 64) → Stop bytes told

-- ---- lists of marks

-- as many lines as marks
pub many_marks : (told : List Told) → length (marks_of told) ≡ length told
many_marks told = length-map told (λ (t : Told). t.mark)

pub same_length : (a b : List Told) → marks_of a ≡ marks_of b → length a ≡ length b
same_length a b e = sym (many_marks a) ∙ ap length e ∙ many_marks b

-- of two lists of lines at the front of one text, one goes on with the other
data Fronts (a b : List Told) (x y : List ℕ) : Type 0 where
  Same : marks_of a ≡ marks_of b → x ≡ y → Fronts a b x y
  Longer : (t : Told) (more : List Told) (rest : List ℕ) → IsTold t → marks_of b ≡ marks_of a ++ t.mark ∷ marks_of more → x ≡ told_line t ++ rest
      → Fronts a b x y
  Shorter : (t : Told) (more : List Told) (rest : List ℕ) → IsTold t → marks_of a ≡ marks_of b ++ t.mark ∷ marks_of more → y ≡ told_line t ++ rest
      → Fronts a b x y

cons_marks : (m n : Mark) (xs ys : List Mark) → m ≡ n → xs ≡ ys → m ∷ xs ≡ n ∷ ys
cons_marks m n xs ys same rest = ap (λ m. m ∷ xs) same ∙ ap (λ ms. n ∷ ms) rest

one_more : (t u : Told) (a b : List Told) (x y : List ℕ) → t.mark ≡ u.mark → Fronts a b x y → Fronts (t ∷ a) (u ∷ b) x y
one_more t u a b x y same (Same marks rest) = Same (cons_marks t.mark u.mark (marks_of a) (marks_of b) same marks) rest
one_more t u a b x y same (Longer v more rest told marks behind) =
    Longer v more rest told (cons_marks u.mark t.mark (marks_of b) (marks_of a ++ v.mark ∷ marks_of more) (sym same) marks) behind
one_more t u a b x y same (Shorter v more rest told marks behind) =
    Shorter v more rest told (cons_marks t.mark u.mark (marks_of a) (marks_of b ++ v.mark ∷ marks_of more) same marks) behind

fronts : (a b : List Told) (x y : List ℕ) → All IsTold a → All IsTold b → told_lines a ++ x ≡ told_lines b ++ y → Fronts a b x y
fronts [] [] x y p q e = Same refl e
fronts [] (t ∷ more) x y p q e =
    Longer t more (told_lines more ++ y) (All-head IsTold t more q) refl (e ∙ append_assoc (told_line t) (told_lines more) y)
fronts (t ∷ more) [] x y p q e =
    Shorter t more (told_lines more ++ x) (All-head IsTold t more p) refl (sym e ∙ append_assoc (told_line t) (told_lines more) x)
fronts (t ∷ a) (u ∷ b) x y p q e =
    let one = All-head IsTold t a p in
    let two = All-head IsTold u b q in
    let both = sym (append_assoc (told_line t) (told_lines a) x) ∙ e ∙ append_assoc (told_line u) (told_lines b) y in
    let line = same_line (told_line t) (told_line u) (told_lines a ++ x) (told_lines b ++ y) (mark_is_line t one.readable) (mark_is_line u two.readable) both in
    let rest = same_rest (told_line t) (told_line u) (told_lines a ++ x) (told_lines b ++ y) line both in
    one_more t u a b x y (two.only t one.readable line) (fronts a b x y (All-tail IsTold t a p) (All-tail IsTold u b q) rest)

-- ---- one stop

module _ (bytes : List ℕ) where
  -- if the reader stops at a mark, these marks do not go on with it
  abbrev pub Holds : {told : List Told} → Stop bytes told → List Mark → Type 0
  Holds {told} (AtMark last rest with) marks = (more : List Mark) → marks ≡ marks_of told ++ last.mark ∷ more → ⊥
  Holds (AtEnding ending rest with) marks = Unit {0}
  Holds (Off rest begins off) marks = Unit {0}

  -- both stop at the same
  abbrev pub AreSame : {a b : List Told} → Stop bytes a → Stop bytes b → Type 0
  AreSame (AtMark last rest with) (AtMark other behind and) = last.mark ≡ other.mark
  AreSame (AtEnding ending rest with) (AtEnding other behind and) = TellsSame ending other × (rest ≡ behind)
  AreSame (Off rest begins off) (Off behind also and) = Unit {0}
  AreSame _ _ = ⊥

  -- what stands behind the marks
  abbrev rest_of : {told : List Told} → Stop bytes told → List ℕ
  rest_of (AtMark last rest with) = told_line last ++ rest
  rest_of (AtEnding ending rest with) = ending_line ending ++ rest
  rest_of (Off rest begins off) = rest

  begins_of : {told : List Told} (s : Stop bytes told) → Begins bytes told (rest_of s)
  begins_of (AtMark last rest with) = with.begins
  begins_of (AtEnding ending rest with) = with.begins
  begins_of (Off rest begins off) = begins

  -- no reader goes on where another stops
  not_longer : {a : List Told} (s : Stop bytes a) (b : List Told) → length b < 2 ^ 64 → Holds s (marks_of b)
      → (t : Told) (more : List Told) (rest : List ℕ) → IsTold t → marks_of b ≡ marks_of a ++ t.mark ∷ marks_of more → rest_of s ≡ told_line t ++ rest → ⊥
  not_longer {a} (AtMark last x with) b few holds t more rest told marks e =
      let line = same_line (told_line last) (told_line t) x rest (mark_is_line last with.tells.readable) (mark_is_line t told.readable) e in
      holds (marks_of more) (marks ∙ ap (λ m. marks_of a ++ m ∷ marks_of more) (sym (told.only last with.tells.readable line)))
  not_longer (AtEnding ending x with) b few holds t more rest told marks e =
      with.tells.no_mark t told.readable
      (sym (same_line (ending_line ending) (told_line t) x rest (ending_is_line ending with.tells.readable) (mark_is_line t told.readable) e))
  not_longer (Off x begins (inl none)) b few holds t more rest told marks e = none.no_mark t rest told.readable e
  not_longer {a} (Off x begins (inr many)) b few holds t more rest told marks e =
      let long = sym (many_marks b) ∙ ap length marks ∙ length-append (marks_of a) (t.mark ∷ marks_of more) in
      let before = many_marks a in
      omega (arith, long, before, many, few)

  -- two that stop behind the same marks stop at the same
  at_same : {a b : List Told} (s : Stop bytes a) (t : Stop bytes b) → length a ≡ length b → rest_of s ≡ rest_of t → AreSame s t
  at_same (AtMark last x with) (AtMark other y and) long e =
      and.tells.only last with.tells.readable
      (same_line (told_line last) (told_line other) x y (mark_is_line last with.tells.readable) (mark_is_line other and.tells.readable) e)
  at_same (AtMark last x with) (AtEnding ending y and) long e =
      and.tells.no_mark last with.tells.readable
      (same_line (told_line last) (ending_line ending) x y (mark_is_line last with.tells.readable) (ending_is_line ending and.tells.readable) e)
  at_same (AtMark last x with) (Off y begins (inl none)) long e = none.no_mark last x with.tells.readable (sym e)
  at_same (AtMark last x with) (Off y begins (inr many)) long e = let few = with.few in omega (arith, long, many, few)
  at_same (AtEnding ending x with) (AtMark last y and) long e =
      with.tells.no_mark last and.tells.readable
      (sym (same_line (ending_line ending) (told_line last) x y (ending_is_line ending with.tells.readable) (mark_is_line last and.tells.readable) e))
  at_same (AtEnding ending x with) (AtEnding other y and) long e =
      let line = same_line (ending_line ending) (ending_line other) x y (ending_is_line ending with.tells.readable) (ending_is_line other and.tells.readable) e in
      (and.tells.only ending with.tells.readable line, same_rest (ending_line ending) (ending_line other) x y line e)
  at_same (AtEnding ending x with) (Off y begins (inl none)) long e = none.no_ending ending x with.tells.readable (sym e)
  at_same (AtEnding ending x with) (Off y begins (inr many)) long e = let few = with.few in omega (arith, long, many, few)
  at_same (Off x begins (inl none)) (AtMark last y and) long e = none.no_mark last y and.tells.readable e
  at_same (Off x begins (inr many)) (AtMark last y and) long e = let few = and.few in omega (arith, long, many, few)
  at_same (Off x begins (inl none)) (AtEnding ending y and) long e = none.no_ending ending y and.tells.readable e
  at_same (Off x begins (inr many)) (AtEnding ending y and) long e = let few = and.few in omega (arith, long, many, few)
  at_same (Off x begins off) (Off y also and) long e = tt

  stop_by : {a b : List Told} (s : Stop bytes a) (t : Stop bytes b) → Holds s (marks_of b) → Holds t (marks_of a)
      → Fronts a b (rest_of s) (rest_of t) → (marks_of a ≡ marks_of b) × AreSame s t
  stop_by {a} {b} s t p q (Same marks rest) = (marks, at_same s t (same_length a b marks) rest)
  stop_by {a} {b} s t p q (Longer u more rest told marks e) = absurd (not_longer s b (begins_of t).few p u more rest told marks e)
  stop_by {a} {b} s t p q (Shorter u more rest told marks e) = absurd (not_longer t a (begins_of s).few q u more rest told marks e)

  pub one_stop : {a b : List Told} (s : Stop bytes a) (t : Stop bytes b) → Holds s (marks_of b) → Holds t (marks_of a)
      → (marks_of a ≡ marks_of b) × AreSame s t
  one_stop {a} {b} s t p q =
      let x = begins_of s in
      let y = begins_of t in
      stop_by s t p q (fronts a b (rest_of s) (rest_of t) x.tells y.tells (sym x.text ∙ y.text))
