-- Names are text.
use Rattle.std.proofs.Common.{◌≡◌, ℕ, ◌<◌, Bool, true, false, ◌&&◌, List, [], ◌∷◌, IsUtf8, refl, arith}
use Rattle.std.specs.List.{list_all}
use Rattle.std.specs.Str.{IsAscii}
use Rattle.std.proofs.lemmas.Bool.Decides.{nat_tests}
use Rattle.std.proofs.lemmas.Str.{IsUtf8-from_ascii}
use Rattle.std.proofs.lemmas.Str.Ascii.{IsAscii-nil, IsAscii-cons}
use Rattle.pth_spelling.specs.WordMeanings.{is_name_byte, is_name}

pub both : (a b : Bool) → (a && b) ≡ true → (a ≡ true) × (b ≡ true)
both true b h = (refl, h)
both false b h = absurd (cc)

name_byte_small : (b : ℕ) → is_name_byte b ≡ true → b < 128
name_byte_small b h = grind (arith, nat_tests)

name_bytes_ascii : (w : List ℕ) → list_all (λ b. is_name_byte b) w ≡ true → IsAscii w
name_bytes_ascii [] h = IsAscii-nil
name_bytes_ascii (b ∷ bs) h =
    let parts = both (is_name_byte b) (list_all (λ b. is_name_byte b) bs) h in
    IsAscii-cons b bs (name_byte_small b parts.0) (name_bytes_ascii bs parts.1)

pub name_is_text : (w : List ℕ) → is_name w ≡ true → IsUtf8 w
name_is_text w h = IsUtf8-from_ascii w (name_bytes_ascii w (both _ _ (both _ _ h).1).1)
