-- A reply and a write are read back, which a script does not have as they are printed.
use Rattle.std.proofs.Common.{◌≡◌, ◌∙◌, ◌<◌, ℕ, ℤ, true, false, List, [], ◌∷◌, codes, Option, Some, None, w64, FitsSigned, All, refl, sym, ap}
use Rattle.std.specs.Int.{cast_signed, cast_unsigned}
use Rattle.std.specs.Str.{bytes_eq}
use Rattle.std.proofs.lemmas.Int.{to_z-of_z}
use Rattle.std.proofs.lemmas.Slice.Eq.{bytes_eq-Decides}
use Rattle.pth_base.specs.declared.call.Call.{Call}
use Rattle.pth_base.specs.declared.call.Call.TheVariants as call
use Rattle.pth_line.specs.declared.call_line.CallLine.{CallLine}
use Rattle.pth_line.specs.declared.line.Line.{Line}
use Rattle.pth_line.specs.declared.line.Line.TheVariants as body
use Rattle.pth_operand.specs.declared.operand.Register.{Register}
use Rattle.pth_text.specs.Number.{numeral_value}
use Rattle.pth_text.proofs.Numbers.{written_number_is_read}
use Rattle.pth_print.specs.CallWords.{call_words}
use Rattle.pth_print.specs.WordTexts.{hex_word, number_word}
use Rattle.pth_transcript.specs.Readable.{IsReadable}
use Rattle.pth_transcript.proofs.CallsBack.{back}
use Rattle.pth_transcript.proofs.Scripted.{is_own, IsRead, Scripted, Replied, Written, WrittenEv}

-- words that begin with two words are not the same
differ : (a b : List ℕ) (more others : List (List ℕ)) → bytes_eq a b ≡ false → a ∷ more ≡ b ∷ others → ⊥
differ a b more others other e =
    let first : a ≡ b = (cc) in
    let same : bytes_eq a b ≡ true = (bytes_eq-Decides a b).1 first in
    absurd (cc)

-- three words that are the same are so one by one
same_two : (w a b c d : List ℕ) → w ∷ a ∷ b ∷ [] ≡ w ∷ c ∷ d ∷ [] → (a ≡ c) × (b ≡ d)
same_two w a b c d e = ((cc), (cc))

-- the same of four words
same_three : (w a b c d f g : List ℕ) → w ∷ a ∷ b ∷ c ∷ [] ≡ w ∷ d ∷ f ∷ g ∷ [] → (a ≡ d) × (b ≡ f) × (c ≡ g)
same_three w a b c d f g e = ((cc), (cc), (cc))

-- what is read is not none
pub not_none : {A : Type 0} (o : Option A) (x : A) → None ≡ o → o ≡ Some x → ⊥
not_none o x none some = (cc)

-- the number that was read is the one that was printed
pub same_read : (x n : ℤ) (o : Option ℤ) → Some x ≡ o → o ≡ Some n → x ≡ n
same_read x n o found read = (cc)

-- the same, as a call has it
pub same_number : (x n : ℤ) (o : Option ℤ) → Some x ≡ o → o ≡ Some n → FitsSigned w64 n → cast_signed w64 (cast_unsigned w64 x) ≡ n
same_number x n o found read fits = rw (same_read x n o found read) (to_z-of_z w64 n fits)

-- the line that was read is the one that makes the call
pub same_line : (o found : Option Line) (x : Line) (a : Option Register) (l m : CallLine)
    → o ≡ found → found ≡ Some (body.Call None m) → o ≡ Some x → x ≡ body.Call a l → l ≡ m
same_line o found x a l m e read is called = (cc)

-- the words of a number are read as it
read_number : (w : List ℕ) (n : ℤ) → FitsSigned w64 n → w ≡ number_word n → numeral_value w ≡ Some n
read_number w n fits e = ap numeral_value e ∙ written_number_is_read n fits

-- ---- a reply

-- the call is a reply, whose numbers are read
pub record IsReply (m v : List ℕ) (c : Call) : Type 0 where
  pub message : ℤ
  pub value : ℤ
  pub small_message : FitsSigned w64 message
  pub small_value : FitsSigned w64 value
  pub read_message : numeral_value m ≡ Some message
  pub read_value : numeral_value v ≡ Some value
  pub is : c ≡ call.Reply message value

-- by how the call is read
reply_by : (m v : List ℕ) (c : Call) → codes "reply" ∷ m ∷ v ∷ [] ≡ call_words c → IsRead c → IsReply m v c
reply_by m v c e (Scripted other s) = absurd (let own : is_own (call_words c) ≡ true = ap is_own (sym e) in cc)
reply_by m v c e (Replied a b low small is) =
    let same = same_two (codes "reply") m v (number_word a) (number_word b) (e ∙ ap call_words is) in
    record {
      message = a;
      value = b;
      small_message = low;
      small_value = small;
      read_message = read_number m a low same.0;
      read_value = read_number v b small same.1;
      is = is;
    }
reply_by m v c e (Written f bytes small low is) = absurd (differ (codes "reply") (codes "write") _ _ refl (e ∙ ap call_words is))
reply_by m v c e (WrittenEv f bytes g small low few is) = absurd (differ (codes "reply") (codes "write_ev") _ _ refl (e ∙ ap call_words is))

-- the words are those of a reply
pub reply_back : (m v : List ℕ) (c : Call) → IsReadable c → codes "reply" ∷ m ∷ v ∷ [] ≡ call_words c → IsReply m v c
reply_back m v c fine e = reply_by m v c e (back c fine)

-- ---- a write

-- the call is a write, whose descriptor is read, and whose bytes are printed
pub record IsWrite (f word : List ℕ) (c : Call) : Type 0 where
  pub descriptor : ℤ
  pub bytes : List ℕ
  pub small : FitsSigned w64 descriptor
  pub low : All (λ b. b < 256) bytes
  pub read : numeral_value f ≡ Some descriptor
  pub printed : word ≡ hex_word bytes
  pub is : c ≡ call.Write descriptor bytes

-- by how the call is read
write_by : (f word : List ℕ) (c : Call) → codes "write" ∷ f ∷ word ∷ [] ≡ call_words c → IsRead c → IsWrite f word c
write_by f word c e (Scripted other s) = absurd (let own : is_own (call_words c) ≡ true = ap is_own (sym e) in cc)
write_by f word c e (Replied a b low small is) = absurd (differ (codes "write") (codes "reply") _ _ refl (e ∙ ap call_words is))
write_by f word c e (Written d bytes small low is) =
    let same = same_two (codes "write") f word (number_word d) (hex_word bytes) (e ∙ ap call_words is) in
    record {
      descriptor = d;
      bytes = bytes;
      small = small;
      low = low;
      read = read_number f d small same.0;
      printed = same.1;
      is = is;
    }
write_by f word c e (WrittenEv d bytes g small low few is) = absurd (differ (codes "write") (codes "write_ev") _ _ refl (e ∙ ap call_words is))

-- the words are those of a write
pub write_back : (f word : List ℕ) (c : Call) → IsReadable c → codes "write" ∷ f ∷ word ∷ [] ≡ call_words c → IsWrite f word c
write_back f word c fine e = write_by f word c e (back c fine)

-- ---- a write that an event may end

-- the call is such a write, whose numbers are read, and whose bytes are printed
pub record IsWriteEv (f word g : List ℕ) (c : Call) : Type 0 where
  pub descriptor : ℤ
  pub bytes : List ℕ
  pub event : ℤ
  pub small : FitsSigned w64 descriptor
  pub low : All (λ b. b < 256) bytes
  pub small_event : FitsSigned w64 event
  pub read : numeral_value f ≡ Some descriptor
  pub printed : word ≡ hex_word bytes
  pub read_event : numeral_value g ≡ Some event
  pub is : c ≡ call.WriteEv descriptor bytes event

-- by how the call is read
write_ev_by : (f word g : List ℕ) (c : Call) → codes "write_ev" ∷ f ∷ word ∷ g ∷ [] ≡ call_words c → IsRead c → IsWriteEv f word g c
write_ev_by f word g c e (Scripted other s) = absurd (let own : is_own (call_words c) ≡ true = ap is_own (sym e) in cc)
write_ev_by f word g c e (Replied a b low small is) = absurd (differ (codes "write_ev") (codes "reply") _ _ refl (e ∙ ap call_words is))
write_ev_by f word g c e (Written d bytes small low is) = absurd (differ (codes "write_ev") (codes "write") _ _ refl (e ∙ ap call_words is))
write_ev_by f word g c e (WrittenEv d bytes n small low few is) =
    let same = same_three (codes "write_ev") f word g (number_word d) (hex_word bytes) (number_word n) (e ∙ ap call_words is) in
    record {
      descriptor = d;
      bytes = bytes;
      event = n;
      small = small;
      low = low;
      small_event = few;
      read = read_number f d small same.0;
      printed = same.1;
      read_event = read_number g n few same.2;
      is = is;
    }

-- the words are those of such a write
pub write_ev_back : (f word g : List ℕ) (c : Call) → IsReadable c → codes "write_ev" ∷ f ∷ word ∷ g ∷ [] ≡ call_words c → IsWriteEv f word g c
write_ev_back f word g c fine e = write_ev_by f word g c e (back c fine)
