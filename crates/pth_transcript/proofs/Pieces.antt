-- Bytes are read from their digits piece by piece.
use Rattle.std.proofs.Common.{◌≡◌, ◌∙◌, ◌<◌, ◌*◌, ◌++◌, ℕ, List, [], ◌∷◌, Option, Some, None, All, length, take, drop, min, refl, sym, ap, subst, arith, append_assoc, append-nil}
use Rattle.std.specs.Prelude.{IfSome}
use Rattle.std.proofs.Math.Seq.{take-append_seam, drop-append_seam}
use Rattle.std.proofs.lemmas.Grind.{flat_map-append}
use Rattle.std.proofs.lemmas.List.{length-take, take-append-drop}
use Rattle.std.proofs.lemmas.List.Elements.{All-append, All-take, All-drop}
use Rattle.pth_text.specs.Hex.{pair_of, hex_of, hex_bytes}
use Rattle.pth_text.proofs.Pairs.{written_bytes_are_read}
use Rattle.pth_transcript.proofs.ReadValues.{hex_fits}

-- the bytes are those that were read and some more, which the digits that are left spell
pub record IsLeft (bs done rest : List ℕ) : Type 0 where
  pub more : List ℕ
  pub whole : bs ≡ done ++ more
  pub spelled : rest ≡ hex_of more
  pub small : All (λ b. b < 256) more

-- a piece spells the first of the bytes that are left
pub record IsTaken (bs done piece rest : List ℕ) : Type 0 where
  pub first : List ℕ
  pub read : hex_bytes piece ≡ Some first
  pub left : IsLeft bs (done ++ first) rest

-- two digits for each byte
two_digits : (bytes : List ℕ) → length (hex_of bytes) ≡ 2 * length bytes
two_digits [] = refl
two_digits (b ∷ bs) = omega (arith, two_digits bs)

-- the digits of the first n bytes, and those of the others
cut_digits : (n : ℕ) (bytes : List ℕ) → hex_of (take n bytes) ++ hex_of (drop n bytes) ≡ hex_of bytes
cut_digits n bytes = sym (flat_map-append pair_of (take n bytes) (drop n bytes)) ∙ ap hex_of (take-append-drop n bytes)

-- two lists that are cut at the same place have the same parts
same_parts : (a b c d : List ℕ) → a ++ b ≡ c ++ d → length a ≡ length c → (a ≡ c) × (b ≡ d)
same_parts a b c d e same =
    let front : take (length a) (a ++ b) ≡ take (length c) (c ++ d) = ap (λ (n : ℕ). take n (a ++ b)) same ∙ ap (take (length c)) e in
    let back : drop (length a) (a ++ b) ≡ drop (length c) (c ++ d) = ap (λ (n : ℕ). drop n (a ++ b)) same ∙ ap (drop (length c)) e in
    (sym (take-append_seam a b) ∙ front ∙ take-append_seam c d, sym (drop-append_seam a b) ∙ back ∙ drop-append_seam c d)

-- nothing is read at first
pub all_left : (digits done rest : List ℕ) → done ≡ [] → rest ≡ digits → (bs : List ℕ) → All (λ b. b < 256) bs → digits ≡ hex_of bs
    → IsLeft bs done rest
all_left digits done rest none same bs low e =
    record { more = bs; whole = sym (ap (λ xs. xs ++ bs) none); spelled = same ∙ e; small = low }

-- a piece of 4096 digits, or of all that are left where they are fewer
pub piece_taken : (bs done all piece rest : List ℕ) (size : ℕ) → IsLeft bs done all → size ≡ 4096 → all ≡ piece ++ rest
    → length piece ≡ min size (length all) → 0 < length all → IsTaken bs done piece rest
piece_taken bs done all piece rest size left is cut count some =
    let first : List ℕ = take 2048 left.more in
    let later : List ℕ = drop 2048 left.more in
    let digits : length all ≡ 2 * length left.more = ap length left.spelled ∙ two_digits left.more in
    let front : length first ≡ min 2048 (length left.more) = length-take 2048 left.more in
    let same : length piece ≡ length (hex_of first) = omega (arith, two_digits first) in
    let parts = same_parts piece rest (hex_of first) (hex_of later) (sym cut ∙ left.spelled ∙ sym (cut_digits 2048 left.more)) same in
    record {
      first = first;
      read = ap hex_bytes parts.0 ∙ written_bytes_are_read first (All-take (λ b. b < 256) 2048 left.more left.small) (omega arith) (omega arith);
      left = record {
        more = later;
        whole = left.whole ∙ ap (λ xs. done ++ xs) (sym (take-append-drop 2048 left.more)) ∙ sym (append_assoc done first later);
        spelled = parts.1;
        small = All-drop (λ b. b < 256) 2048 left.more left.small;
      };
    }

-- a piece that spells bytes is not refused
pub not_refused : (bs done piece rest : List ℕ) (found : Option (List ℕ)) → IsTaken bs done piece rest → found ≡ hex_bytes piece → found ≡ None → ⊥
not_refused bs done piece rest found taken e none = let read = taken.read in cc

-- the bytes of a piece are added
pub piece_added : (bs done piece rest more after : List ℕ) → IsTaken bs done piece rest → Some more ≡ hex_bytes piece → after ≡ done ++ more
    → IsLeft bs after rest
piece_added bs done piece rest more after taken e added =
    let same : more ≡ taken.first = let read = taken.read in cc in
    let left = taken.left in
    record {
      more = left.more;
      whole = left.whole ∙ ap (λ xs. xs ++ left.more) (sym (added ∙ ap (λ xs. done ++ xs) same));
      spelled = left.spelled;
      small = left.small;
    }

-- each byte that was read is below 256
pub piece_small : (done piece more after : List ℕ) → Some more ≡ hex_bytes piece → after ≡ done ++ more → All (λ b. b < 256) done → All (λ b. b < 256) after
piece_small done piece more after e added small =
    let low : All (λ b. b < 256) more = subst (λ o. IfSome o (λ bs. All (λ b. b < 256) bs)) (sym e) (hex_fits piece) in
    subst (All (λ b. b < 256)) (sym added) (All-append (λ b. b < 256) done more small low)

-- no digits spell no bytes
no_digits : (more : List ℕ) → length (hex_of more) ≡ 0 → more ≡ []
no_digits [] none = refl
no_digits (b ∷ bs) none = absurd (omega arith)

-- nothing is left
pub all_read : (bs done rest : List ℕ) → IsLeft bs done rest → length rest ≡ 0 → done ≡ bs
all_read bs done rest left none =
    let empty : left.more ≡ [] = no_digits left.more (ap length (sym left.spelled) ∙ none) in
    sym (left.whole ∙ ap (λ xs. done ++ xs) empty ∙ append-nil done)
