-- A text in version 2, which stands for what the text stands for.
use Rattle.std.specs.Prelude.{◌≡◌, ℕ, ◌++◌, List, length, take, drop, codes, if◌then◌else◌, Result, Ok, Err}
use Rattle.std.specs.Str.{bytes_eq}
use Rattle.pth_script.specs.Broken.{IsAccepted}
use Rattle.pth_script.specs.Follows.{IsRefusedAs}
use Rattle.pth_script.specs.Meaning.{parts_of_text}
use Rattle.pth_script.specs.declared.read.ReadErr.{ReadErr}

-- the heading of a text in version 1, and the one that says the same in version 2
abbrev pub old_heading : List ℕ
old_heading = codes "pth 1\n"

abbrev pub new_heading : List ℕ
new_heading = codes "pth 2\nrange 5\n"

-- a text in version 1 gets the heading of version 2, and one in version 2 is itself
unfoldable pub upgraded : List ℕ → List ℕ
upgraded text = if bytes_eq (take (length old_heading) text) old_heading then new_heading ++ drop (length old_heading) text else text

-- a text is accepted, and this one is it in version 2
abbrev pub IsUpgrade : List ℕ → List ℕ → Type 0
IsUpgrade new text = IsAccepted text × (new ≡ upgraded text)

-- an accepted text is upgraded, and another one refused as it is read
abbrev pub IsUpgradedAs : List ℕ → Result (List ℕ) ReadErr → Type 0
IsUpgradedAs text (Ok new) = IsUpgrade new text
IsUpgradedAs text (Err e) = IsRefusedAs text e

-- a text is accepted, and has the parts of the old one: so it stands for the same script, kernel and greatest base priority
pub record StandsForTheSame (old new : List ℕ) : Type 0 where
  pub accepted : IsAccepted new
  pub parts : parts_of_text new ≡ parts_of_text old
