-- The lines that end a run, and that sum one up.
use Rattle.std.specs.Prelude.{ℕ, List, [], ◌∷◌, ◌++◌, codes, decimal, map}
use Rattle.pth_base.specs.declared.outcome.Outcome.{Outcome}
use Rattle.pth_base.specs.declared.outcome.Outcome.TheVariants as outcome
use Rattle.pth_print.specs.WordTexts.{number_word, tid_word}
use Rattle.pth_print.specs.SpacedWords.{joined_words}

-- an outcome after at most so many steps, with the threads that are not dead
abbrev pub end_words : Outcome → ℕ → List ℕ → List (List ℕ)
end_words outcome.Running steps live = codes "step" ∷ codes "limit" ∷ decimal steps ∷ []
end_words (outcome.Ended value) steps live = codes "ended" ∷ number_word value ∷ []
end_words outcome.Killed steps live = codes "killed" ∷ []
end_words outcome.Stalled steps live = codes "stalled" ∷ map tid_word live
-- no run has this outcome
end_words outcome.OutOfMemory steps live = []

-- the line of an outcome
abbrev pub end_line : Outcome → ℕ → List ℕ → List ℕ
end_line outcome steps live = joined_words (end_words outcome steps live) ++ codes "\n"

-- how many threads were made, turns begun and steps made, and the moment at the end
abbrev pub summary_words : ℕ → ℕ → ℕ → ℕ → List (List ℕ)
summary_words threads turns steps time =
    codes "summary" ∷ codes "threads" ∷ decimal threads ∷ codes "turns" ∷ decimal turns ∷ codes "steps" ∷ decimal steps ∷ codes "time" ∷ decimal time ∷ []

-- the line that sums up a run
abbrev pub summary_line : ℕ → ℕ → ℕ → ℕ → List ℕ
summary_line threads turns steps time = joined_words (summary_words threads turns steps time) ++ codes "\n"
