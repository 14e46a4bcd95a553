-- A parse that succeeds found a number of steps in its range.
use Rattle.std.proofs.lemmas.Bool.{not-true, or_right}
use Rattle.std.proofs.lemmas.List.{nil_from_length}
use Rattle.std.proofs.Common.{◌≡◌, ◌∙◌, ◌<◌, ◌≤◌, ◌&&◌, ℕ, Bool, true, false, zero, suc, List, [], ◌∷◌, Option, Some, None, ap, sym, subst, refl, arith, codes, length, map, unwrap_or, option_and_then, option_map, inl, inr}
use Rattle.std.specs.List.{All, list_all, list_any, slice_index_or}
use Rattle.std.specs.Prelude.{slice_get}
use Rattle.std.specs.Borrow.{Bor}
use Rattle.std.specs.Str.{bytes_eq}
use Rattle.std.specs.Str.Parse.{digits_value, without_leading_plus}
use Rattle.std.proofs.lemmas.Slice.Eq.{bytes_eq-Decides}
use Rattle.std.proofs.lemmas.Bool.{eqb-true}
use Rattle.std.proofs.lemmas.List.Elements.{All-cons, All-get_or, All-nil, All-weaker}
use Rattle.pth_base.specs.Limits.{most_steps}
use Rattle.clap.specs.Words.{Accepts, App, IsParsedFrom, Rule, app_of, args_of, found_of, groups_of, matched_of, one_of, parser_of, read_as, reading_of, rows_of, rule_of}
use Rattle.clap.specs.ValueTests.{accepts}
use Rattle.clap.specs.Built.{IsAuto, NamesNoGroup, SameRules}
use Rattle.clap.specs.Facts.{Entry, EntryPasses, HasReading, PassesArg, parser_of_value}
use Rattle.clap.specs.Simple.{has_plain_fields}
use Rattle.clap.specs.Walk.{is_empty}
use Rattle.clap.specs.declared.builder.arg.Arg.{Arg}
use Rattle.clap.specs.declared.builder.command.Command.{Command}
use Rattle.clap.specs.declared.builder.command.Command.TheViews.{out-Command}
use Rattle.clap.specs.declared.builder.value_parser.Reading.{Reading}
use Rattle.clap.specs.declared.builder.value_parser.Reading.TheVariants.{AsWritten}
use Rattle.clap.specs.declared.builder.value_parser.ValueParser.{ValueParser}
use Rattle.clap.specs.declared.builder.value_parser.ValueParser.TheVariants as parser
use Rattle.clap.specs.declared.parser.matches.ArgMatches.{ArgMatches}
use Rattle.clap.specs.declared.parser.matches.MatchedArg.{MatchedArg}
use Rattle.clap.proofs.CallerLemmas.{entry_by_id, same_rules_by_id}
use Rattle.clap.proofs.WalkLemmas.{one_text-rows}
use Rattle.clap.proofs.ValueTestLemmas.{Accepts-accepts}
use Rattle.pth_command.specs.Command.{audit_rule, default_steps, file_rule, generate_rule, play, steps_rule, summary_rule, upgrade_rule}
use Rattle.pth_command.specs.CommandLine.{Asked, asked_in, unsigned_of}

-- the rules after that of the steps
abbrev others : List Rule
others = audit_rule ∷ summary_rule ∷ upgrade_rule ∷ generate_rule ∷ file_rule ∷ []

rules : play.top.rules ≡ steps_rule ∷ others
unfolding play
rules = refl

plain_top : play.top.is_plain ≡ true
unfolding play
plain_top = refl

-- a list whose images begin with one, and go on with others
begins : {A B : Type 0} (f : A → B) (xs : List A) (y : B) (ys : List B) → map f xs ≡ y ∷ ys → (a : A) × (more : List A) × (xs ≡ a ∷ more) × (f a ≡ y) × (map f more ≡ ys)
begins f [] y ys h = cc
begins f (a ∷ more) y ys h = (a, more, refl, cc, cc)

true_false : true ≡ false → ⊥
true_false h = cc

and_left : (a b : Bool) → (a && b) ≡ true → a ≡ true
and_left true b h = refl
and_left false b h = h

and_right : (a b : Bool) → (a && b) ≡ true → b ≡ true
and_right true b h = h
and_right false b h = cc

none_in : {X : Type 0} (xs : List X) → is_empty xs ≡ true → xs ≡ []
none_in xs h = nil_from_length xs (eqb-true (length xs) 0 h)

-- a simple argument names no group
no_groups : (a : Arg) → (rule_of a).is_simple ≡ true → a.groups.items ≡ []
no_groups a h = none_in a.groups.items (and_left _ _ (and_right _ _ (and_right _ _ h)))

-- the number that a text reads as, if it lies in the range
number_in : (t : List ℕ) → Accepts false (parser.Unsigned 1 most_steps) t → (n : ℕ) × (unsigned_of t ≡ Some n) × (1 ≤ n) × (n ≤ most_steps)
number_in t h =
    let test : accepts false (parser.Unsigned 0 18446744073709551615) t ≡ true =
    Accepts-accepts false (parser.Unsigned 0 18446744073709551615) t (h.0, h.1, omega arith, let most = h.3 in omega arith) in
    (digits_value 10 (without_leading_plus t), rw test refl, h.2, h.3)

-- the number under a name, or the number if nothing is said
within : (o : Option (List ℕ)) → ((t : List ℕ) → o ≡ Some t → Accepts false (parser.Unsigned 1 most_steps) t)
    → (1 ≤ unwrap_or (option_and_then unsigned_of o) default_steps) × (unwrap_or (option_and_then unsigned_of o) default_steps ≤ most_steps)
within None h = (omega arith, omega arith)
within (Some t) h =
    let n = number_in t (h t refl) in
    rw n.1 (n.2, n.3)

-- a rule of this name stands among those of the arguments if an argument has it
any_at : (more : List Arg) (t : List ℕ) (j : ℕ) (e : Arg) → j < length more → bytes_eq (slice_index_or more j e).id.now t ≡ true → list_any (λ r. bytes_eq r.id t) (map rule_of more) ≡ true
any_at [] t j e lt same = absurd (omega arith)
any_at (a ∷ more) t zero e lt same = rw same refl
any_at (a ∷ more) t (suc j) e lt same = or_right (bytes_eq a.id.now t) _ (any_at more t j e (omega arith) same)

apart : list_any (λ (r : Rule). bytes_eq r.id (codes "steps")) others ≡ false
apart = refl

-- so no argument after the first has its name
alone_in : (a : Arg) (more : List Arg) → a.id.now ≡ codes "steps" → map rule_of more ≡ others → (j : ℕ) (e : Arg) → j < length (a ∷ more)
    → bytes_eq (slice_index_or (a ∷ more) j e).id.now a.id.now ≡ true → j ≡ 0
alone_in a more x y zero e lt same = refl
alone_in a more x y (suc j) e lt same =
    let any = any_at more (codes "steps") j e (omega arith) (subst (λ (t : List ℕ). bytes_eq (slice_index_or more j e).id.now t ≡ true) x same) in
    absurd (true_false (sym any ∙ ap (λ (rs : List Rule). list_any (λ (r : Rule). bytes_eq r.id (codes "steps")) rs) y ∙ apart))

-- arguments with simple rules name no group
none_named : (more : List Arg) → list_all (λ (r : Rule). r.is_simple) (map rule_of more) ≡ true → All (λ (a : Arg). a.groups.items ≡ []) more
none_named [] h = All-nil (λ (a : Arg). a.groups.items ≡ [])
none_named (a ∷ more) h = All-cons (λ (a : Arg). a.groups.items ≡ []) a more (no_groups a (and_left _ _ h)) (none_named more (and_right _ _ h))

all_simple : list_all (λ (r : Rule). r.is_simple) (steps_rule ∷ others) ≡ true
all_simple = refl

no_auto : (a : Arg) → a.id.now ≡ codes "steps" → IsAuto a → ⊥
no_auto a x (inl h) = let e = ap length (sym x ∙ h) in omega (arith, e)
no_auto a x (inr h) = let e = ap length (sym x ∙ h) in omega (arith, e)

-- the first value as it was written
head_passes : (P : List ℕ → Type 0) (how : Reading) (vs : List (Bor (List ℕ))) (t : List ℕ) → how ≡ AsWritten → All (λ v. P v.now) vs
    → option_map (λ s. read_as how s.now) (slice_get vs 0) ≡ Some t → P t
head_passes P how [] t as_is all is = cc
head_passes P how (v ∷ vs) t as_is all is =
    let same : Some v.now ≡ Some t = ap (λ (r : Reading). Some (read_as r v.now)) (sym as_is) ∙ is in
    subst P (ap (λ (o : Option (List ℕ)). unwrap_or o t) same) (All-get_or (λ v. P v.now) (v ∷ vs) 0 v (omega arith) all)

module _ (c : Command) (m : ArgMatches) (p : IsParsedFrom c m) (shape : app_of c ≡ play) where
  named : map rule_of (args_of c) ≡ steps_rule ∷ others
  named = ap (λ (a : App). a.top.rules) shape ∙ rules

  abbrev args : (a : Arg) × (more : List Arg) × (args_of c ≡ a ∷ more) × (rule_of a ≡ steps_rule) × (map rule_of more ≡ others)
  args = begins rule_of (args_of c) steps_rule others named

  abbrev first : Arg
  first = args.0

  fields : has_plain_fields (out-Command c) ≡ true
  fields = ap (λ (a : App). a.top.is_plain) shape ∙ plain_top

  no_group : groups_of c ≡ []
  no_group = none_in (groups_of c) (and_left _ _ fields)

  no_globals : (out-Command c).has_globals ≡ false
  no_globals = not-true _ (and_left _ _ (and_right _ _ (and_right _ _ fields)))

  no_group_named : NamesNoGroup c
  no_group_named = none_named (args_of c) (ap (λ (rs : List Rule). list_all (λ (r : Rule). r.is_simple) rs) named ∙ all_simple)

  built_groups : groups_of p.built ≡ []
  built_groups = (p.from.same_groups no_group_named).1 ∙ no_group

  at_first : (d : Arg) → slice_index_or (args_of c) 0 d ≡ first
  at_first d = ap (λ (l : List Arg). slice_index_or l 0 d) args.2

  first_id : first.id.now ≡ codes "steps"
  first_id = ap (λ (r : Rule). r.id) args.3

  first_parser : first.value_parser ≡ Some (parser.Unsigned 1 most_steps)
  first_parser = ap (λ (r : Rule). r.parser) args.3

  -- no other argument has its name
  alone : (j : ℕ) (e : Arg) → j < length (args_of c) → bytes_eq (slice_index_or (args_of c) j e).id.now (slice_index_or (args_of c) 0 first).id.now ≡ true → j ≡ 0
  alone j e lt same = alone_in first args.1 first_id args.4 j e
      (subst (λ (l : List Arg). j < length l) args.2 lt)
      (subst (λ (l : List Arg). bytes_eq (slice_index_or l j e).id.now (slice_index_or l 0 first).id.now ≡ true) args.2 same)

  own : IsAuto (slice_index_or (args_of c) 0 first) → ⊥
  own = subst (λ (a : Arg). IsAuto a → ⊥) (sym (at_first first)) (no_auto first first_id)

  -- an argument with its name has its rules
  rules_by_id : (j : ℕ) (x : Arg) → j < length (args_of p.built) → slice_index_or (args_of p.built) j x ≡ x → bytes_eq x.id.now (codes "steps") ≡ true → SameRules first x
  rules_by_id j x lt at same = subst (λ (a : Arg). SameRules a x) (at_first first)
      (same_rules_by_id c m p 0 first (subst (λ (l : List Arg). 0 < length l) (sym args.2) (omega arith)) alone own j x lt at
      (subst (λ (t : List ℕ). bytes_eq x.id.now t ≡ true) (sym (ap (λ (a : Arg). a.id.now) (at_first first) ∙ first_id)) same))

  parser_by_id : (x : Arg) → SameRules first x → parser_of x ≡ parser.Unsigned 1 most_steps
  parser_by_id x s = ap parser_of_value (s.parser (parser.Unsigned 1 most_steps) first_parser)

  -- a value of it passed its parser
  passes : (v : List ℕ) → PassesArg p.built (codes "steps") v → Accepts false (parser.Unsigned 1 most_steps) v
  passes v pass = subst (λ (q : ValueParser). Accepts pass.1.ignore_case q v) (parser_by_id pass.1 (rules_by_id pass.0 pass.1 pass.2 pass.3 pass.4.0)) pass.4.1

  -- and is read as it was written
  reads : (r : Reading) → HasReading p.built (codes "steps") r → r ≡ AsWritten
  reads r any = sym any.4.1 ∙ ap reading_of (parser_by_id any.1 (rules_by_id any.0 any.1 any.2 any.3 any.4.0))

  not_group : (e : Entry) → e.0.now ≡ codes "steps" → EntryPasses p.built e → e.1.is_group ≡ true → ⊥
  not_group e named pass g = elim (pass.3 g) [
    | inl empty ↦ let h = ap length (sym named ∙ empty) in omega (arith, h)
    | inr lots ↦ let none = ap length built_groups in omega (arith, none, lots)
  ]

  passed_by : (e : Entry) → e.0.now ≡ codes "steps" → EntryPasses p.built e → (t : List ℕ) → option_map (λ s. read_as e.1.reading s.now) (slice_get e.1.vals.items 0) ≡ Some t
      → Accepts false (parser.Unsigned 1 most_steps) t
  passed_by e named pass t is = head_passes (Accepts false (parser.Unsigned 1 most_steps)) e.1.reading e.1.vals.items t
      (elim pass.4 [ inl g ↦ absurd (not_group e named pass g) | inr any ↦ reads e.1.reading (subst (λ (id : List ℕ). HasReading p.built id e.1.reading) named any) ])
      (elim pass.0 [
        | inl g ↦ absurd (not_group e named pass g)
        | inr all ↦ All-weaker (λ v. PassesArg p.built e.0.now v.now) (λ v. Accepts false (parser.Unsigned 1 most_steps) v.now)
            (λ v pass. passes v.now (subst (λ (id : List ℕ). PassesArg p.built id v.now) named pass)) e.1.vals.items all
      ])
      is

  -- the text that the parse found under its name passed its parser
  passed : (o : Option MatchedArg) → matched_of (found_of m) (codes "steps") ≡ o → (t : List ℕ)
      → option_and_then (λ a. option_map (λ s. read_as a.reading s.now) (slice_get a.vals.items 0)) o ≡ Some t → Accepts false (parser.Unsigned 1 most_steps) t
  passed None found t is = cc
  passed (Some x) found t is =
      let e = entry_by_id (EntryPasses p.built) (found_of m).entries.items (codes "steps") x (p.parsed (p.from.globals ∙ no_globals)).values found in
      passed_by e.0 ((bytes_eq-Decides e.0.0.now (codes "steps")).0 e.2) e.3 t (subst (λ (a : MatchedArg). option_map (λ s. read_as a.reading s.now) (slice_get a.vals.items 0) ≡ Some t) (sym e.1) is)

  -- so the number of steps is in its range
  pub steps_within : (x : Asked) → x ≡ asked_in (rows_of (found_of m)) → (1 ≤ x.steps) × (x.steps ≤ most_steps)
  steps_within x is = subst (λ (n : ℕ). (1 ≤ n) × (n ≤ most_steps)) (sym (ap (λ (x : Asked). x.steps) is))
      (within (one_of (codes "steps") (rows_of (found_of m))) (λ t text. passed (matched_of (found_of m) (codes "steps")) refl t (one_text-rows (found_of m) (codes "steps") ∙ text)))
