-- The place that a dump names in its first four lines.
use Rattle.std.proofs.Common.{◌≡◌, ℕ, suc, ◌+◌, ◌<◌, ◌≤◌, ◌^◌, ◌==◌, nat_le, nat_lt, cond, Bool, true, false, pos, List, [], ◌∷◌, ◌++◌, take, drop, length, codes, decimal, Option, Some, None, option_and_then, Ok, refl, ap, ap₂, ◌∙◌, arith, subst}
use Rattle.std.specs.List.{position_or_len}
use Rattle.std.specs.Str.{all_ascii_digits}
use Rattle.std.specs.Str.Parse.{digits_value}
use Rattle.std.proofs.lemmas.Bool.Decides.{nat_tests}
use Rattle.std.proofs.lemmas.Fmt.{decimal_is_IsNumeral}
use Rattle.std.proofs.lemmas.List.{append_assoc, append-nil, length-append}
use Rattle.std.proofs.lemmas.Str.Parse.{IsNumeralModel, numerals_by_value, tells_all_ascii_digits}
use Rattle.pth_base.specs.Limits.{most_steps, last_moment}
use Rattle.pth_model.specs.Course.{Course}
use Rattle.pth_model.specs.State.{now_of}
use Rattle.pth_text.specs.Bytes.{code}
use Rattle.pth_text.specs.LineEnd.{line_end_of}
use Rattle.pth_text.specs.Number.{numeral_value}
use Rattle.pth_text.proofs.Numbers.{written_number_is_read}
use Rattle.pth_threads.specs.Attributes.{flag}
use Rattle.pth_snapshot.specs.Dump.{dump, row, place_row, named_tid, thread_rows, mutex_rows, fd_rows}
use Rattle.pth_snapshot.specs.Place.{cut, cut_by, line_at, heads, steps_in, kind_in, moment_in, few_steps, not_negative, named_by, named_place, kind_of, place_of}

-- ---- the first line of a text

abbrev is_lf : ℕ → Bool
is_lf b = b == code "\n"

-- no LF stands in a line
abbrev pub is_line : List ℕ → Bool
is_line [] = true
is_line (b ∷ bs) = cond (is_lf b) false (is_line bs)

byte_behind : (b : ℕ) (bs rest : List ℕ) (t : Bool) → is_lf b ≡ t → cond t false (is_line bs) ≡ true → (is_line bs ≡ true → position_or_len is_lf (bs ++ code "\n" ∷ rest) ≡ length bs)
    → position_or_len is_lf (b ∷ bs ++ code "\n" ∷ rest) ≡ length (b ∷ bs)
byte_behind b bs rest true is h later = absurd (cc h)
byte_behind b bs rest false is h later = rw is (let e : 1 + position_or_len is_lf (bs ++ code "\n" ∷ rest) ≡ suc (length bs) = (let i = later h in omega arith) in e)

lf_behind : (line rest : List ℕ) → is_line line ≡ true → position_or_len is_lf (line ++ code "\n" ∷ rest) ≡ length line
lf_behind [] rest h = refl
lf_behind (b ∷ bs) rest h = byte_behind b bs rest (is_lf b) refl h (lf_behind bs rest)

take_line : (line rest : List ℕ) → take (length line) (line ++ rest) ≡ line
take_line [] rest = refl
take_line (b ∷ bs) rest = ap (λ xs. b ∷ xs) (take_line bs rest)

drop_past : (line rest : List ℕ) (b : ℕ) → drop (length line + 1) (line ++ b ∷ rest) ≡ rest
drop_past line rest b = subst (λ n. drop n (line ++ b ∷ rest) ≡ rest) (let e : suc (length line) ≡ length line + 1 = omega arith in e) (past line)
  where
    past : (line : List ℕ) → drop (suc (length line)) (line ++ b ∷ rest) ≡ rest
    past [] = refl
    past (x ∷ xs) = past xs

end_of : (line rest : List ℕ) → is_line line ≡ true → line_end_of (line ++ code "\n" ∷ rest) 0 ≡ Some (length line)
end_of line rest h =
    let at = lf_behind line rest h in
    let within : nat_lt (length line) (length (line ++ code "\n" ∷ rest)) ≡ true = (let all = length-append line (code "\n" ∷ rest) in grind (arith, nat_tests)) in
    rw at (rw within (let e : 0 + length line ≡ length line = omega arith in ap (λ n. Some n) e))

pub cut_line : (line rest : List ℕ) → is_line line ≡ true → cut (line ++ code "\n" ∷ rest) ≡ (Some line, rest)
cut_line line rest h =
    ap (cut_by (line ++ code "\n" ∷ rest)) (end_of line rest h)
    ∙ ap₂ (λ (a b : List ℕ). (Some a, b)) (take_line line (code "\n" ∷ rest)) (drop_past line rest (code "\n"))

-- ---- numbers in lines

own : IsNumeralModel (λ ds. all_ascii_digits ds ≡ true) (digits_value 10)
own = numerals_by_value (λ ds. all_ascii_digits ds ≡ true) tells_all_ascii_digits

digits_line : (ds : List ℕ) → all_ascii_digits ds ≡ true → is_line ds ≡ true
digits_line [] h = refl
digits_line (c ∷ cs) h =
    let here : is_lf c ≡ false = grind (arith, nat_tests) in
    let later : all_ascii_digits cs ≡ true = grind (arith, nat_tests) in
    rw here (digits_line cs later)

number_line : (n : ℕ) → n < 2 ^ 64 → is_line (decimal n) ≡ true
number_line n small = digits_line (decimal n) (own.from (decimal n) (decimal_is_IsNumeral n small).0.1)

number_read : (n : ℕ) → n < 2 ^ 63 → option_and_then not_negative (numeral_value (decimal n)) ≡ Some n
number_read n small = ap (λ o. option_and_then not_negative o) (written_number_is_read (pos n) (record { sfits = small }))

steps_read : (n : ℕ) → n ≤ most_steps → steps_in (codes "steps " ++ decimal n) ≡ Some n
steps_read n few =
    let low : nat_le n most_steps ≡ true = grind (arith, nat_tests) in
    ap (λ o. option_and_then few_steps o) (number_read n (omega arith)) ∙ rw low refl

moment_read : (n : ℕ) → n < 2 ^ 63 → moment_in (codes "now " ++ decimal n) ≡ Some n
moment_read n small = number_read n small

-- ---- the lines of a dump

row_line : (word : List ℕ) (n : ℕ) (rest : List ℕ) → row word (pos n ∷ []) ++ rest ≡ (word ++ codes " " ++ decimal n) ++ code "\n" ∷ rest
row_line word n rest = grind (arith, append_assoc, append-nil)

abbrev kind_line : Option ℕ → List ℕ
kind_line None = codes "place open"
kind_line (Some t) = codes "place step"

place_line : (r : Option ℕ) (rest : List ℕ) → place_row r ++ rest ≡ kind_line r ++ code "\n" ∷ rest
place_line None rest = refl
place_line (Some t) rest = refl

kind_read : (r : Option ℕ) → kind_in (kind_line r) ≡ Some (kind_of r)
kind_read None = refl
kind_read (Some t) = refl

kind_is_line : (r : Option ℕ) → is_line (kind_line r) ≡ true
kind_is_line None = refl
kind_is_line (Some t) = refl

-- four lines of a text
module _ (text a b d e rest : List ℕ) (ha : is_line a ≡ true) (hb : is_line b ≡ true) (hd : is_line d ≡ true) (he : is_line e ≡ true)
    (is : text ≡ a ++ code "\n" ∷ (b ++ code "\n" ∷ (d ++ code "\n" ∷ (e ++ code "\n" ∷ rest)))) where
  first_cut : cut text ≡ (Some a, b ++ code "\n" ∷ (d ++ code "\n" ∷ (e ++ code "\n" ∷ rest)))
  first_cut = ap (λ t. cut t) is ∙ cut_line a _ ha

  named_by_lines : named_place text ≡ named_by (heads (Some a)) (steps_in b) (kind_in d) (moment_in e)
  named_by_lines =
      let c1 = cut_line b (d ++ code "\n" ∷ (e ++ code "\n" ∷ rest)) hb in
      let c2 = cut_line d (e ++ code "\n" ∷ rest) hd in
      let c3 = cut_line e rest he in
      let l0 : line_at 0 text ≡ Some a = ap (λ p. p.0) first_cut in
      let l1 : line_at 1 text ≡ Some b = ap (λ p. (cut p.1).0) first_cut ∙ ap (λ p. p.0) c1 in
      let l2 : line_at 2 text ≡ Some d = ap (λ p. (cut (cut p.1).1).0) first_cut ∙ ap (λ p. (cut p.1).0) c1 ∙ ap (λ p. p.0) c2 in
      let l3 : line_at 3 text ≡ Some e = ap (λ p. (cut (cut (cut p.1).1).1).0) first_cut ∙ ap (λ p. (cut (cut p.1).1).0) c1 ∙ ap (λ p. (cut p.1).0) c2 ∙ ap (λ p. p.0) c3 in
      ap₂ (λ x y. named_by (heads x) (option_and_then steps_in y) (option_and_then kind_in (line_at 2 text)) (option_and_then moment_in (line_at 3 text))) l0 l1
      ∙ ap₂ (λ x y. named_by (heads (Some a)) (steps_in b) (option_and_then kind_in x) (option_and_then moment_in y)) l2 l3

regrouped : (a b r n t f d threads mutexes fds end : List ℕ) → (a ++ b ++ r) ++ (n ++ t ++ f ++ d) ++ threads ++ mutexes ++ fds ++ end ≡ a ++ (b ++ (r ++ (n ++ (t ++ f ++ d ++ threads ++ mutexes ++ fds ++ end))))
regrouped a b r n t f d threads mutexes fds end =
    let pulled : (n x y z : List ℕ) → x ≡ n ++ y → x ++ z ≡ n ++ (y ++ z) = λ n x y z is. ap (λ u. u ++ z) is ∙ append_assoc n y z in
    let first = a ++ b ++ r in
    let rest = t ++ f ++ d ++ threads ++ mutexes ++ fds ++ end in
    let behind : n ++ t ++ f ++ d ++ threads ++ mutexes ++ fds ++ end ≡ n ++ rest =
    pulled n _ _ end (pulled n _ _ fds (pulled n _ _ mutexes (pulled n _ _ threads (pulled n _ _ d (pulled n _ t f refl))))) in
    pulled first _ _ end (pulled first _ _ fds (pulled first _ _ mutexes (pulled first _ (n ++ t ++ f ++ d) threads refl)))
    ∙ ap (λ x. first ++ x) behind
    ∙ append_assoc (a ++ b) r (n ++ rest)
    ∙ append_assoc a b (r ++ (n ++ rest))

module _ {P S H : Type 0} (c : Course P S H) where
  abbrev rest_of : List ℕ
  rest_of =
      let k = c.state.control in
      row (codes "turn") (pos c.turn.turns ∷ []) ++ row (codes "favour") (flag k.scheduler.favour_new ∷ []) ++ row (codes "named") (pos (named_tid k.scheduler.preferred) ∷ [])
      ++ thread_rows k ++ mutex_rows c.state.resources.store.mutexes ++ fd_rows k.kernel ++ codes "end\n"

  dump_lines : dump c ≡ codes "pthsnap 1" ++ code "\n" ∷ ((codes "steps " ++ decimal c.turn.steps) ++ code "\n" ∷ (kind_line c.state.control.scheduler.running ++ code "\n" ∷ ((codes "now " ++ decimal (now_of c.state.control)) ++ code "\n" ∷ rest_of)))
  dump_lines =
      let r = c.state.control.scheduler.running in
      let behind = (row (codes "now") (pos (now_of c.state.control) ∷ []) ++ rest_of) in
      regrouped (codes "pthsnap 1\n") (row (codes "steps") (pos c.turn.steps ∷ [])) (place_row r) (row (codes "now") (pos (now_of c.state.control) ∷ [])) (row (codes "turn") (pos c.turn.turns ∷ []))
      (row (codes "favour") (flag c.state.control.scheduler.favour_new ∷ [])) (row (codes "named") (pos (named_tid c.state.control.scheduler.preferred) ∷ []))
      (thread_rows c.state.control) (mutex_rows c.state.resources.store.mutexes) (fd_rows c.state.control.kernel) (codes "end\n")
      ∙ ap (λ x. codes "pthsnap 1\n" ++ x) (row_line (codes "steps") c.turn.steps (place_row r ++ behind))
      ∙ ap (λ x. codes "pthsnap 1\n" ++ ((codes "steps " ++ decimal c.turn.steps) ++ code "\n" ∷ x)) (place_line r behind ∙ ap (λ x. kind_line r ++ code "\n" ∷ x) (row_line (codes "now") (now_of c.state.control) rest_of))

  -- a dump names the place of what it says
  pub dump_names : c.turn.steps ≤ most_steps → now_of c.state.control ≤ last_moment → named_place (dump c) ≡ Ok (place_of c)
  dump_names few early =
      let r = c.state.control.scheduler.running in
      named_by_lines (dump c) (codes "pthsnap 1") (codes "steps " ++ decimal c.turn.steps) (kind_line r) (codes "now " ++ decimal (now_of c.state.control)) rest_of
      refl (number_line c.turn.steps (omega arith)) (kind_is_line r) (number_line (now_of c.state.control) (omega arith)) dump_lines
      ∙ rw (steps_read c.turn.steps few, kind_read r, moment_read (now_of c.state.control) (omega arith)) refl
