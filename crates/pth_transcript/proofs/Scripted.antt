-- How the words of calls are read.
use Rattle.std.proofs.Common.{◌≡◌, ◌∙◌, ◌<◌, ◌||◌, ℕ, ℤ, Bool, false, List, [], ◌∷◌, codes, Some, None, w64, FitsSigned, All, ap}
use Rattle.std.specs.Prelude.{option_map}
use Rattle.std.specs.Str.{bytes_eq}
use Rattle.pth_base.specs.declared.call.Call.{Call}
use Rattle.pth_base.specs.declared.call.Call.TheVariants as call
use Rattle.pth_line.specs.declared.call_line.CallLine.{CallLine}
use Rattle.pth_line.specs.declared.line.Line.TheVariants as body
use Rattle.pth_grammar.specs.CallLines.{call_line}
use Rattle.pth_grammar.specs.LineMeanings.{line_begun, line_by, line_of}
use Rattle.pth_spelling.specs.Starts.{start_of, started}
use Rattle.pth_spelling.specs.Syntax.{syntax_of}
use Rattle.pth_spelling.specs.declared.keyword.CallWord.{CallWord}
use Rattle.pth_print.specs.CallWords.{call_words}
use Rattle.pth_transcript.specs.ReadBack.{IsScripted, MakesCall}
use Rattle.pth_transcript.proofs.FirstWords.{first}

-- the words are those of a reply or a write, which a script does not have so
abbrev pub is_own : List (List ℕ) → Bool
is_own (w ∷ a ∷ b ∷ []) = bytes_eq w (codes "reply") || bytes_eq w (codes "write")
is_own (w ∷ a ∷ b ∷ c ∷ []) = bytes_eq w (codes "write_ev")
is_own _ = false

-- how the words of a call are read: as a line of a script, or as a reply or a write
pub data IsRead (c : Call) : Type 0 where
  Scripted : is_own (call_words c) ≡ false → IsScripted (call_words c) c → IsRead c
  Replied : (m v : ℤ) → FitsSigned w64 m → FitsSigned w64 v → c ≡ call.Reply m v → IsRead c
  Written : (f : ℤ) (bytes : List ℕ) → FitsSigned w64 f → All (λ b. b < 256) bytes → c ≡ call.Write f bytes → IsRead c
  WrittenEv : (f : ℤ) (bytes : List ℕ) (e : ℤ) → FitsSigned w64 f → All (λ b. b < 256) bytes → FitsSigned w64 e → c ≡ call.WriteEv f bytes e
      → IsRead c

-- a line that begins with the word of a call
line_begins : (k : CallWord) (ws : List (List ℕ)) (l : CallLine) → call_line k ws ≡ Some l
    → line_of ((syntax_of k).text ∷ ws) ≡ Some (body.Call None l)
unfolding line_of start_of
line_begins k ws l e =
    let w = (syntax_of k).text in
    ap (λ o. line_begun (started o w ws) ws) (first k).plain ∙ ap (λ o. line_by o ws) (first k).keyword
    ∙ ap (option_map (λ c. body.Call None c)) e

-- the words of the call are a line that makes it
pub scripted : {c : Call} {ws : List (List ℕ)} (k : CallWord) (l : CallLine) → call_words c ≡ (syntax_of k).text ∷ ws → is_own (call_words c) ≡ false
    → call_line k ws ≡ Some l → MakesCall l c → IsRead c
scripted {ws} k l is other read makes = Scripted other (record { line = l; read = ap line_of is ∙ line_begins k ws l read; made = makes })
