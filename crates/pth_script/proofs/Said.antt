-- The lines that are said, and what a line of words breaks first.
use Rattle.std.proofs.Common.{◌≡◌, ℕ, Bool, true, false, cond, not, List, ◌∷◌, Option, Some, None, refl, ap, sym, ◌∙◌}
use Rattle.pth_text.specs.LineWords.{words_of}
use Rattle.pth_spelling.specs.Starts.{begins}
use Rattle.pth_grammar.specs.LineMeanings.{numbered}
use Rattle.pth_grammar.specs.Shapes.{Shape, Unknown, Short, Unequal, Asks, shape_of, words_break, words_fault}
use Rattle.pth_grammar.specs.KernelLines.{stamp_line}
use Rattle.pth_text.specs.declared.rule.Rule.{Rule}
use Rattle.pth_text.specs.declared.rule.Rule.TheVariants as rule
use Rattle.pth_script.specs.TextRows.{TextRow, is_comment}
use Rattle.pth_script.specs.Meaning.{said}
use Rattle.pth_script.specs.Seen.{Seen, passes_limit, misnumbered, leaves_goto, lacks_body, is_early, misuses_fd}
use Rattle.pth_script.specs.Broken.{said_breaks, line_breaks}
use Rattle.pth_script.specs.RuleOrder.{first_broken}
use Rattle.pth_text.specs.declared.rule.Breach.{Breach}
use Rattle.pth_text.specs.declared.rule.Breach.TheVariants.{Limit, Of}

pub said_comment : (row : TextRow) (rest : List TextRow) → is_comment row.bytes ≡ true → said (row ∷ rest) ≡ said rest
unfolding said
said_comment row rest h = ap (λ t. cond t (said rest) (words_of row.bytes ∷ said rest)) h

pub said_line_of : (row : TextRow) (rest : List TextRow) → is_comment row.bytes ≡ false → said (row ∷ rest) ≡ words_of row.bytes ∷ said rest
unfolding said
said_line_of row rest h = ap (λ t. cond t (said rest) (words_of row.bytes ∷ said rest)) h

-- a rule, or else what comes after
abbrev pub or_of : Option Rule → Option Breach → Option Breach
or_of (Some r) o = Some (Of r)
or_of None o = o

-- the rules on places, and those on what comes
abbrev pub place_rule : (number label main : Bool) → Option Rule
place_rule number label main = cond number (Some rule.Number) (cond label (Some rule.Label) (cond main (Some rule.Main) None))

abbrev pub stamp_rule : (time fd : Bool) → Option Rule
stamp_rule time fd = cond time (Some rule.Time) (cond fd (Some rule.Fd) None)

-- all rules, in their order
abbrev pub chain : Bool → Bool → Option Rule → Option Rule → Option Rule → Option Breach
chain limit cut words place stamp = cond limit (Some Limit) (cond cut (Some (Of rule.Cut)) (or_of words (or_of place (or_of stamp None))))

by_words : (w c o h : Bool) (rest : Option Breach) → cond w (Some (Of rule.Word)) (cond c (Some (Of rule.Count)) (cond o (Some (Of rule.Operand)) (cond h (Some (Of rule.Hex)) rest))) ≡ or_of (cond w (Some rule.Word) (cond c (Some rule.Count) (cond o (Some rule.Operand) (cond h (Some rule.Hex) None)))) rest
by_words true c o h rest = refl
by_words false true o h rest = refl
by_words false false true h rest = refl
by_words false false false true rest = refl
by_words false false false false rest = refl

-- the rules below those on words
abbrev below : (number label main time fd : Bool) → Option Breach
below number label main time fd = cond number (Some (Of rule.Number)) (cond label (Some (Of rule.Label)) (cond main (Some (Of rule.Main)) (cond time (Some (Of rule.Time)) (cond fd (Some (Of rule.Fd)) None))))

by_place : (n l m t f : Bool) → below n l m t f ≡ or_of (place_rule n l m) (or_of (stamp_rule t f) None)
by_place true l m t f = refl
by_place false true m t f = refl
by_place false false true t f = refl
by_place false false false true f = refl
by_place false false false false true = refl
by_place false false false false false = refl

by_all : (limit cut w c o h n l m t f : Bool) → cond limit (Some Limit) (cond cut (Some (Of rule.Cut)) (cond w (Some (Of rule.Word)) (cond c (Some (Of rule.Count)) (cond o (Some (Of rule.Operand)) (cond h (Some (Of rule.Hex)) (below n l m t f))))))
    ≡ chain limit cut (cond w (Some rule.Word) (cond c (Some rule.Count) (cond o (Some rule.Operand) (cond h (Some rule.Hex) None)))) (place_rule n l m) (stamp_rule t f)
by_all limit cut w c o h n l m t f =
    let words = cond w (Some rule.Word) (cond c (Some rule.Count) (cond o (Some rule.Operand) (cond h (Some rule.Hex) None))) in
    ap (λ x. cond limit (Some Limit) (cond cut (Some (Of rule.Cut)) x)) (by_words w c o h (below n l m t f) ∙ ap (or_of words) (by_place n l m t f))

said_at : (limit cut n l m t f : Bool) (s : Shape)
    → cond limit (Some Limit) (cond cut (Some (Of rule.Cut)) (cond (words_break rule.Word s) (Some (Of rule.Word)) (cond (words_break rule.Count s) (Some (Of rule.Count)) (cond (words_break rule.Operand s) (Some (Of rule.Operand)) (cond (words_break rule.Hex s) (Some (Of rule.Hex))
    (cond n (Some (Of rule.Number)) (cond l (Some (Of rule.Label)) (cond m (Some (Of rule.Main)) (cond (words_break rule.End s) (Some (Of rule.End)) (cond t (Some (Of rule.Time)) (cond f (Some (Of rule.Fd)) None)))))))))))
    ≡ chain limit cut (cond (words_break rule.Word s) (Some rule.Word) (cond (words_break rule.Count s) (Some rule.Count) (cond (words_break rule.Operand s) (Some rule.Operand) (cond (words_break rule.Hex s) (Some rule.Hex) None)))) (place_rule n l m) (stamp_rule t f)
unfolding words_break
said_at limit cut n l m t f Unknown = by_all limit cut true false false false n l m t f
said_at limit cut n l m t f Short = by_all limit cut false true false false n l m t f
said_at limit cut n l m t f Unequal = by_all limit cut false false true false n l m t f
said_at limit cut n l m t f (Asks fs ws) = by_all limit cut (words_break rule.Word (Asks fs ws)) (words_break rule.Count (Asks fs ws)) (words_break rule.Operand (Asks fs ws)) (words_break rule.Hex (Asks fs ws)) n l m t f

-- the rules of a line of words, in their order
abbrev pub line_rules : Bool → Seen → List (List ℕ) → Option Breach
line_rules ended s ws =
    chain (passes_limit s.section (begins ws) s) (not ended) (words_fault s.section ws) (place_rule (misnumbered (begins ws) (numbered ws) s) (leaves_goto s.section (begins ws) s) (lacks_body (begins ws) s)) (stamp_rule (is_early (stamp_line ws) s) (misuses_fd (stamp_line ws) s))

pub said_rule : (ended : Bool) (s : Seen) (ws : List (List ℕ)) → first_broken (said_breaks ended s ws) ≡ line_rules ended s ws
unfolding first_broken said_breaks line_breaks words_fault
said_rule ended s ws =
    said_at (passes_limit s.section (begins ws) s) (not ended) (misnumbered (begins ws) (numbered ws) s) (leaves_goto s.section (begins ws) s) (lacks_body (begins ws) s) (is_early (stamp_line ws) s) (misuses_fd (stamp_line ws) s) (shape_of s.section ws)

-- what a line breaks that breaks nothing
pub record BreaksNone (ended : Bool) (s : Seen) (ws : List (List ℕ)) : Type 0 where
  pub limit : passes_limit s.section (begins ws) s ≡ false
  pub cut : not ended ≡ false
  pub words : words_fault s.section ws ≡ None
  pub number : misnumbered (begins ws) (numbered ws) s ≡ false
  pub label : leaves_goto s.section (begins ws) s ≡ false
  pub time : is_early (stamp_line ws) s ≡ false
  pub fd : misuses_fd (stamp_line ws) s ≡ false

none_of : (limit cut : Bool) (words place stamp : Option Rule) → chain limit cut words place stamp ≡ None → (limit ≡ false) × (cut ≡ false) × (words ≡ None) × (place ≡ None) × (stamp ≡ None)
none_of true cut words place stamp h = absurd (cc)
none_of false true words place stamp h = absurd (cc)
none_of false false (Some r) place stamp h = absurd (cc)
none_of false false None (Some r) stamp h = absurd (cc)
none_of false false None None (Some r) h = absurd (cc)
none_of false false None None None h = (refl, refl, refl, refl, refl)

no_place : (n l m : Bool) → place_rule n l m ≡ None → (n ≡ false) × (l ≡ false)
no_place true l m h = absurd (cc)
no_place false true m h = absurd (cc)
no_place false false m h = (refl, refl)

no_stamp : (t f : Bool) → stamp_rule t f ≡ None → (t ≡ false) × (f ≡ false)
no_stamp true f h = absurd (cc)
no_stamp false true h = absurd (cc)
no_stamp false false h = (refl, refl)

pub fine_line : (ended : Bool) (s : Seen) (ws : List (List ℕ)) → first_broken (said_breaks ended s ws) ≡ None → BreaksNone ended s ws
fine_line ended s ws h =
    let none = none_of _ _ _ _ _ (sym (said_rule ended s ws) ∙ h) in
    let place = no_place _ _ _ none.3 in
    let stamp = no_stamp _ _ none.4 in
    record { limit = none.0; cut = none.1; words = none.2; number = place.0; label = place.1; time = stamp.0; fd = stamp.1 }
