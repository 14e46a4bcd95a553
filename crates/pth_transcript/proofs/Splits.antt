-- Members joined by commas are taken apart again.
use Rattle.std.proofs.Common.{◌≡◌, ◌∙◌, ◌<◌, ◌==◌, ℕ, false, List, [], ◌∷◌, ◌++◌, map, flat_map, decimal, codes, refl, ap, arith, append-nil}
use Rattle.std.specs.Int.{IsInRange}
use Rattle.std.specs.List.{slice_split, All}
use Rattle.std.specs.Str.Parse.{AllDigits}
use Rattle.std.proofs.lemmas.Bool.Decides.{nat_tests}
use Rattle.std.proofs.lemmas.Fmt.{decimal_is_IsNumeral}
use Rattle.std.proofs.lemmas.List.Elements.{All-nil, All-cons, All-head, All-tail}
use Rattle.std.proofs.lemmas.List.Splits.{slice_split_none, slice_split_at}
use Rattle.std.proofs.lemmas.Str.Parse.{digit_from_value}
use Rattle.pth_text.specs.Bytes.{code}

-- no digit is a comma
no_comma_in : (ds : List ℕ) → AllDigits 10 ds → All (λ b. (b == code ",") ≡ false) ds
no_comma_in [] digits = All-nil (λ b. (b == code ",") ≡ false)
no_comma_in (c ∷ cs) digits =
    let range : IsInRange (code "0") (code "9") c = digit_from_value c digits.0 in
    let other : (c == code ",") ≡ false = grind (arith, nat_tests) in
    All-cons (λ b. (b == code ",") ≡ false) c cs other (no_comma_in cs digits.1)

-- no comma stands in a number
no_comma : (n : ℕ) → n < 64 → All (λ b. (b == code ",") ≡ false) (decimal n)
no_comma n low = no_comma_in (decimal n) (decimal_is_IsNumeral n (omega arith)).0.1

-- the parts between the commas are the words of the members
pub parts_of_members : (f : ℕ) (fs : List ℕ) → All (λ g. g < 64) (f ∷ fs)
    → slice_split (λ b. b == code ",") (decimal f ++ flat_map (λ g. codes "," ++ decimal g) fs) ≡ decimal f ∷ map (λ g. decimal g) fs
parts_of_members f [] low =
    ap (slice_split (λ b. b == code ",")) (append-nil (decimal f))
    ∙ slice_split_none (λ b. b == code ",") (decimal f) (no_comma f (All-head (λ g. g < 64) f [] low))
parts_of_members f (g ∷ gs) low =
    slice_split_at (λ b. b == code ",") (decimal f) (code ",") (decimal g ++ flat_map (λ g. codes "," ++ decimal g) gs)
    (no_comma f (All-head (λ g. g < 64) f (g ∷ gs) low)) refl
    ∙ ap (λ ps. decimal f ∷ ps) (parts_of_members g gs (All-tail (λ g. g < 64) f (g ∷ gs) low))
