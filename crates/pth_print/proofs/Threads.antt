-- Threads as words.
use Rattle.std.proofs.Common.{◌≡◌, ℕ, List, [], ◌∷◌, ◌++◌, refl, ap, codes, flat_map, map}
use Rattle.pth_base.specs.declared.ids.Tid.{Tid}
use Rattle.pth_print.specs.WordTexts.{tid_word}
use Rattle.pth_print.specs.SpacedWords.{spaced}

-- a thread after a space
abbrev pub spaced_thread : Tid → List ℕ
spaced_thread t = codes " " ++ tid_word t.0

pub threads_spaced : (threads : List Tid) → flat_map spaced_thread threads ≡ spaced (map tid_word (map (λ t. t.0) threads))
threads_spaced [] = refl
threads_spaced (t ∷ ts) = ap (λ text. spaced_thread t ++ text) (threads_spaced ts)
