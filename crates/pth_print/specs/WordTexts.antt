-- How words are spelled.
use Rattle.std.specs.Prelude.{ℕ, ℤ, List, ◌∷◌, ◌++◌, codes, decimal, flat_map, map, take}
use Rattle.std.specs.Fmt.{signed_decimal}
use Rattle.pth_text.specs.Hex.{hex_of}
use Rattle.pth_print.specs.Sets.{set_word}
use Rattle.pth_print.specs.declared.parts.Parts.{Parts}
use Rattle.pth_print.specs.declared.word.Word.{Word}
use Rattle.pth_print.specs.declared.word.Word.TheVariants as word

-- a number
abbrev pub number_word : ℤ → List ℕ
number_word n = signed_decimal n

-- a thread
abbrev pub tid_word : ℕ → List ℕ
tid_word tid = codes "t" ++ decimal tid

-- a shared value
abbrev pub cell : ℕ → List ℕ
cell v = codes "v" ++ decimal v

-- bytes
abbrev pub hex_word : List ℕ → List ℕ
hex_word bytes = codes "hex:" ++ hex_of bytes

-- a word
abbrev pub word_text : Word → List ℕ
word_text (word.Plain text) = text.now
word_text (word.Number n) = number_word n.now
word_text (word.Natural n) = decimal n
word_text (word.Thread tid) = tid_word tid.0
word_text (word.Cell v) = cell v
word_text (word.Set set) = set_word set.0
word_text (word.Hex bytes) = hex_word bytes.now

-- words, each after a space
abbrev pub phrase_of : List Word → List ℕ
phrase_of words = flat_map (λ w. codes " " ++ word_text w) words

-- the word of a call in parts, and its operands
abbrev pub spelled : Parts → List (List ℕ)
spelled p = p.word.now ∷ map word_text (take p.count p.operands)
