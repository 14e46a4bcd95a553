-- The text of a run in parts: what is shown of marks, what a run tells up to a later part, and what is written at the end.
use Rattle.std.proofs.Common.{◌≡◌, ◌∙◌, ◌+◌, ◌-◌, ◌≤◌, ℕ, suc, zero, Bool, true, false, List, [], ◌++◌, if◌then◌else◌, refl, ap, sym, subst, append_assoc, arith}
use Rattle.std.proofs.lemmas.Grind.{flat_map-append}
use Rattle.pth_base.specs.Program.{Functions}
use Rattle.pth_base.specs.declared.mark.Mark.{Mark}
use Rattle.pth_model.specs.State.{Given}
use Rattle.pth_model.specs.Part.{part}
use Rattle.pth_model.specs.Run.{parts, run, GoesTo, IsBetween}
use Rattle.pth_model.proofs.Runs.{between-more, between-none}
use Rattle.pth_print.specs.MarkLines.{mark_line}
use Rattle.pth_model.specs.Course.{Course}
use Rattle.pth_command.specs.CommandLine.{Asked}
use Rattle.pth_player.specs.Drive.{IsRestTo}
use Rattle.pth_player.specs.Transcript.{counts_line, ending_of, last_line, lines_of, shown_of, text_of}

lines_more : (audit : Bool) (xs ys : List Mark) → lines_of audit (xs ++ ys) ≡ lines_of audit xs ++ lines_of audit ys
lines_more audit xs ys = flat_map-append (mark_line audit) xs ys

pub shown_more : (asked : Asked) (xs ys : List Mark) → shown_of asked (xs ++ ys) ≡ shown_of asked xs ++ shown_of asked ys
shown_more asked xs ys = go asked.summary
  where
    go : (b : Bool) → (if b then [] else lines_of asked.audit (xs ++ ys)) ≡ (if b then [] else lines_of asked.audit xs) ++ (if b then [] else lines_of asked.audit ys)
    go true = refl
    go false = lines_more asked.audit xs ys

in_parts : (b : Bool) (counts lines last : List ℕ) → (if b then counts else lines) ++ last ≡ (if b then [] else lines) ++ ((if b then counts else []) ++ last)
in_parts true counts lines last = refl
in_parts false counts lines last = refl

-- the text is what is written of all marks, and what is written after them
pub text_parts : {P S H : Type 0} (asked : Asked) (c : Course P S H) → text_of asked c ≡ shown_of asked c.marks ++ ending_of asked c
text_parts asked c = in_parts asked.summary (counts_line c) (lines_of asked.audit c.marks) (last_line asked.steps c)

-- no step is made and nothing is told before the first part
none_made : {P S H : Type 0} (f : P → Functions S H) (g : Given P) → (run f g 0).turn.steps ≡ 0
unfolding parts
none_made f g = refl

none_told : {P S H : Type 0} (f : P → Functions S H) (g : Given P) → (run f g 0).marks ≡ []
unfolding parts
none_told f g = refl

past_none : (made n : ℕ) → made ≡ 0 → made + n ≡ n
past_none made n none = omega arith

module _ {P S H : Type 0} (f : P → Functions S H) (g : Given P) where
  -- so many parts later
  told_from : (i k : ℕ) → (told : List Mark) × IsBetween f g i (i + k) told
  told_from i zero = let e : i + 0 ≡ i = omega arith in ([], subst (λ (n : ℕ). IsBetween f g i n []) (sym e) (between-none f g i))
  told_from i (suc k) =
      let e : i + suc k ≡ i + k + 1 = omega arith in
      let t = told_from i k in
      (t.0 ++ (part f (run f g (i + k)).turn (run f g (i + k)).state).marks, subst (λ (n : ℕ). IsBetween f g i n (t.0 ++ (part f (run f g (i + k)).turn (run f g (i + k)).state).marks)) (sym e) (between-more f g i (i + k) t.0 t.1))

  -- what is told up to a later part
  pub told_to : (i j : ℕ) → i ≤ j → (told : List Mark) × IsBetween f g i j told
  told_to i j le = let e : i + (j - i) ≡ j = omega arith in let t = told_from i (j - i) in (t.0, subst (λ (n : ℕ). IsBetween f g i n t.0) e t.1)

  -- from the start of a run the rest of its text is all of it
  pub whole_text : (asked : Asked) (j : ℕ) (rest : List ℕ) → IsRestTo f g asked 0 j rest → GoesTo f g asked.steps 0 j × (rest ≡ text_of asked (run f g j))
  whole_text asked j rest h = (
    subst (λ (to : ℕ). GoesTo f g to 0 j) (past_none (run f g 0).turn.steps asked.steps (none_made f g)) h.0,
    h.1.2 ∙ ap (λ (l : List Mark). shown_of asked l ++ ending_of asked (run f g j)) (sym (h.1.1 ∙ ap (λ (l : List Mark). l ++ h.1.0) (none_told f g)))
        ∙ sym (text_parts asked (run f g j)),
  )
