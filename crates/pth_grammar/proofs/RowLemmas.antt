-- Words that have their forms, one for each, stand for something together.
use Rattle.std.proofs.Common.{◌≡◌, ℕ, true, List, [], ◌∷◌, Option, Some, None}
use Rattle.std.specs.Prelude.{is_some, option_and_then, option_map}
use Rattle.pth_operand.specs.declared.operand.Value.{Value}
use Rattle.pth_grammar.specs.Reading.{act_values, read1, read2, read3, read4}
use Rattle.pth_grammar.specs.declared.acts.Values.{Values}
use Rattle.pth_grammar.specs.declared.acts.Values.TheVariants as values
use Rattle.pth_spelling.specs.WordMeanings.{value_of}
use Rattle.pth_spelling.specs.declared.form.Form.{Form}
use Rattle.pth_spelling.specs.declared.form.Form.TheVariants as form
use Rattle.pth_spelling.proofs.Options.{some_map, some_then}
use Rattle.pth_spelling.proofs.Fine.{AllFine, Reads, value}

-- ---- options

then_map : {A B R : Type 0} (o : Option A) (g : A → B) (f : B → Option R) → is_some o ≡ true → ((x : A) → is_some (f (g x)) ≡ true) → is_some (option_and_then f (option_map g o)) ≡ true
then_map (Some x) g f h rest = rest x
then_map None g f h rest = absurd (cc)

then_then : {A B R : Type 0} (o : Option A) (g : A → Option B) (f : B → Option R) → is_some o ≡ true → ((x : A) → is_some (option_and_then f (g x)) ≡ true) → is_some (option_and_then f (option_and_then g o)) ≡ true
then_then (Some x) g f h rest = rest x
then_then None g f h rest = absurd (cc)

-- ---- readers, one word after the other

pub row1 : {A R : Type 0} {f : Form} {a : List ℕ → Option A} → Reads f a → (build : A → R) (ws : List (List ℕ)) → AllFine (f ∷ []) ws → is_some (read1 a build ws) ≡ true
row1 r build [] h = absurd h
row1 {a = a} r build (w ∷ []) h = some_map (a w) build (r.reads w h.0)
row1 r build (v ∷ w ∷ ws) h = absurd h.1

pub row2 : {A B R : Type 0} {f g : Form} {a : List ℕ → Option A} {b : List ℕ → Option B} → Reads f a → Reads g b → (build : A → B → R) (ws : List (List ℕ)) → AllFine (f ∷ g ∷ []) ws → is_some (read2 a b build ws) ≡ true
row2 r s build [] h = absurd h
row2 {a = a} r s build (w ∷ ws) h = some_then (a w) _ (r.reads w h.0) (λ x. row1 s (build x) ws h.1)

pub row3 : {A B C R : Type 0} {f g i : Form} {a : List ℕ → Option A} {b : List ℕ → Option B} {c : List ℕ → Option C} → Reads f a → Reads g b → Reads i c → (build : A → B → C → R) (ws : List (List ℕ)) → AllFine (f ∷ g ∷ i ∷ []) ws → is_some (read3 a b c build ws) ≡ true
row3 r s t build [] h = absurd h
row3 {a = a} r s t build (w ∷ ws) h = some_then (a w) _ (r.reads w h.0) (λ x. row2 s t (build x) ws h.1)

pub row4 : {A B C D R : Type 0} {f g i j : Form} {a : List ℕ → Option A} {b : List ℕ → Option B} {c : List ℕ → Option C} {d : List ℕ → Option D} → Reads f a → Reads g b → Reads i c → Reads j d → (build : A → B → C → D → R) (ws : List (List ℕ)) → AllFine (f ∷ g ∷ i ∷ j ∷ []) ws → is_some (read4 a b c d build ws) ≡ true
row4 r s t u build [] h = absurd h
row4 {a = a} r s t u build (w ∷ ws) h = some_then (a w) _ (r.reads w h.0) (λ x. row3 s t u (build x) ws h.1)

-- ---- acts of values

pub values1 : {R : Type 0} (f : Values → Option R) (ws : List (List ℕ)) → ((x : Value) → is_some (f (values.One x)) ≡ true) → AllFine (form.Value ∷ []) ws → is_some (option_and_then f (act_values ws)) ≡ true
unfolding act_values
values1 f [] some h = absurd h
values1 f (a ∷ []) some h = then_map (value_of a) (λ x. values.One x) f (value.reads a h.0) some
values1 f (a ∷ b ∷ ws) some h = absurd h.1

pub values2 : {R : Type 0} (f : Values → Option R) (ws : List (List ℕ)) → ((x y : Value) → is_some (f (values.Two x y)) ≡ true) → AllFine (form.Value ∷ form.Value ∷ []) ws → is_some (option_and_then f (act_values ws)) ≡ true
unfolding act_values
values2 f [] some h = absurd h
values2 f (a ∷ []) some h = absurd h.1
values2 f (a ∷ b ∷ []) some h = then_then (value_of a) _ f (value.reads a h.0) (λ x. then_map (value_of b) (λ y. values.Two x y) f (value.reads b h.1.0) (some x))
values2 f (a ∷ b ∷ c ∷ ws) some h = absurd h.1.1
