-- Words that have their forms, one for each: what they stand for together.
use Rattle.std.specs.Prelude.{ℕ, List, [], ◌∷◌, Option, Some, None, option_and_then, option_map}
use Rattle.pth_grammar.specs.declared.acts.Values.{Values}
use Rattle.pth_grammar.specs.declared.acts.Values.TheVariants as values
use Rattle.pth_spelling.specs.WordMeanings.{value_of}

abbrev pub read1 : {A R : Type 0} → (List ℕ → Option A) → (A → R) → List (List ℕ) → Option R
read1 f build (a ∷ []) = option_map build (f a)
read1 f build _ = None

abbrev pub read2 : {A B R : Type 0} → (List ℕ → Option A) → (List ℕ → Option B) → (A → B → R) → List (List ℕ) → Option R
read2 f g build [] = None
read2 f g build (a ∷ ws) = option_and_then (λ x. read1 g (build x) ws) (f a)

abbrev pub read3 : {A B C R : Type 0} → (List ℕ → Option A) → (List ℕ → Option B) → (List ℕ → Option C) → (A → B → C → R) → List (List ℕ) → Option R
read3 f g h build [] = None
read3 f g h build (a ∷ ws) = option_and_then (λ x. read2 g h (build x) ws) (f a)

abbrev pub read4 : {A B C D R : Type 0} → (List ℕ → Option A) → (List ℕ → Option B) → (List ℕ → Option C) → (List ℕ → Option D) → (A → B → C → D → R) → List (List ℕ) → Option R
read4 f g h k build [] = None
read4 f g h k build (a ∷ ws) = option_and_then (λ x. read3 g h k (build x) ws) (f a)

-- the values of one word or two, where each is one
unfoldable pub act_values : List (List ℕ) → Option Values
act_values [] = None
act_values (a ∷ []) = option_map (λ x. values.One x) (value_of a)
act_values (a ∷ b ∷ []) = option_and_then (λ x. option_map (λ y. values.Two x y) (value_of b)) (value_of a)
act_values (a ∷ b ∷ c ∷ ws) = None
