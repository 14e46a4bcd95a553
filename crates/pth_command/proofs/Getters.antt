-- What the typed getters give, as the definition reads the rows.
use Rattle.std.proofs.Common.{◌≡◌, ◌∙◌, ◌≤◌, ℕ, Bool, true, false, Option, Some, None, Ok, Err, Result, sym, ap, refl, arith, option_and_then, unwrap_or}
use Rattle.std.specs.Option.{option_map_or}
use Rattle.std.specs.Str.{bytes_eq}
use Rattle.std.specs.Str.Parse.{ParsesUnsigned, ParsesBool, digits_value, without_leading_plus, true_text}
use Rattle.std.specs.Str.Parse.{false_text}
use Rattle.std.specs.Bool.{Decides}
use Rattle.std.proofs.lemmas.Bool.Decides.{same_from_decides}
use Rattle.std.proofs.lemmas.Slice.Eq.{bytes_eq-Decides}
use Rattle.clap.specs.Words.{ReadsOne, Text}
use Rattle.clap.specs.ValueTests.{accepts}
use Rattle.clap.proofs.ValueTestLemmas.{accepts-Accepts, Accepts-accepts}
use Rattle.clap.specs.declared.builder.value_parser.ValueParser.TheVariants as vp
use Rattle.clap.specs.declared.builder.value_parser.ValueParser.{ValueParser}
use Rattle.pth_command.specs.CommandLine.{unsigned_of}

abbrev u64_parser : ValueParser
u64_parser = vp.Unsigned 0 18446744073709551615

number_ok : (E : Type 0) (t : Text) (n : ℕ) → ParsesUnsigned {E = E} 64 10 t (Ok n) → Some n ≡ unsigned_of t
number_ok E t n p =
    let at_most : digits_value 10 (without_leading_plus t) ≤ 18446744073709551615 = let h = p.0.1 in omega arith in
    let test : accepts false u64_parser t ≡ true = Accepts-accepts false u64_parser t (p.0.0, p.0.1, omega arith, at_most) in
    ap Some p.1 ∙ sym (rw test refl)

number_err : {E : Type 0} (t : Text) (x : E) → ParsesUnsigned 64 10 t (Err x) → None ≡ unsigned_of t
number_err t x p = go (accepts false u64_parser t) refl
  where
    go : (b : Bool) → accepts false u64_parser t ≡ b → None ≡ unsigned_of t
    go true h =
        let a = accepts-Accepts false u64_parser t h in
        absurd (p (a.0, a.1))
    go false h = sym (rw h refl)

-- `get_one::<u64>(id)`
pub number_read : {E : Type 0} (G : Text → Result ℕ E → Type 0) (text : Option Text) (r : Option ℕ)
    → ((u : Text) (x : Result ℕ E) → G u x → ParsesUnsigned 64 10 u x)
    → (text ≡ None → r ≡ None) → ((t : Text) → text ≡ Some t → ReadsOne G t r) → r ≡ option_and_then unsigned_of text
number_read G None r only none some = none refl
number_read {E} G (Some t) r only none some = go r (some t refl)
  where
    go : (r : Option ℕ) → ReadsOne G t r → r ≡ unsigned_of t
    go (Some n) h = number_ok E t n (only t (Ok n) h)
    go None h = number_err t h.0 (only t (Err h.0) h.1)

flag_decides : (E : Type 0) (t : Text) (b : Bool) (r : Result Bool E) → r ≡ Ok b → ParsesBool t r → Decides b (t ≡ true_text)
flag_decides E t true (Ok true) e p = (λ _. p, λ _. refl)
flag_decides E t false (Ok false) e p = (λ h. cc, λ h. let bad : true_text ≡ false_text = sym h ∙ p in cc)
flag_decides E t true (Ok false) e p = cc
flag_decides E t false (Ok true) e p = cc
flag_decides E t b (Err x) e p = cc

-- `get_one::<bool>(id).unwrap_or(false)`
pub flag_read : {E : Type 0} (G : Text → Result Bool E → Type 0) (text : Option Text) (r : Option Bool)
    → ((u : Text) (x : Result Bool E) → G u x → ParsesBool u x)
    → (text ≡ None → r ≡ None) → ((t : Text) → text ≡ Some t → ReadsOne G t r)
    → unwrap_or r false ≡ option_map_or (λ t. bytes_eq t true_text) text false
flag_read G None r only none some = ap (λ (o : Option Bool). unwrap_or o false) (none refl)
flag_read {E} G (Some t) r only none some = go r (some t refl)
  where
    go : (r : Option Bool) → ReadsOne G t r → unwrap_or r false ≡ bytes_eq t true_text
    go (Some b) h = same_from_decides b (bytes_eq t true_text) (flag_decides E t b (Ok b) refl (only t (Ok b) h)) (bytes_eq-Decides t true_text)
    go None h =
        let p = only t (Err h.0) h.1 in
        same_from_decides false (bytes_eq t true_text) (λ e. cc, λ e. absurd (p.0 e)) (bytes_eq-Decides t true_text)
