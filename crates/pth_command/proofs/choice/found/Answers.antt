use Rattle.std.proofs.Common.{◌≡◌, ◌∙◌, ℕ, Option, false, ap, codes, unwrap_or, option_and_then}
use Rattle.std.specs.Option.{option_map_or}
use Rattle.std.specs.Str.{bytes_eq}
use Rattle.std.specs.Str.Parse.{ParsesUnsigned, ParsesBool, ExplainsUnsignedError, HasUnsignedDigitsIfOk, true_text}
use Rattle.clap.specs.Words.{Text, found_of, one_text, rows_of}
use Rattle.clap.specs.declared.parser.matches.Found.{Found}
use Rattle.clap.proofs.WalkLemmas.{first_value-rows, one_text-rows}
use Rattle.pth_command.specs.Command.{default_steps}
use Rattle.pth_command.specs.CommandLine.{is_set, unsigned_of}
use Rattle.pth_command.proofs.Getters.{number_read, flag_read}
use Rattle.pth_command.proofs.choice.found.Goals as goal

-- whether a flag is set, by the text that was found for it
set_found : (f : Found) (name : Text) → option_map_or (λ text. bytes_eq text true_text) (one_text f name) false ≡ is_set name (rows_of f)
set_found f name = ap (λ (o : Option Text). option_map_or (λ text. bytes_eq text true_text) o false) (one_text-rows f name)

pub returns : goal.returns
returns c =
    let f = found_of c.args.matches.now in
    let number = number_read (λ bs r. ParsesUnsigned 64 10 bs r × ExplainsUnsignedError 10 bs r × HasUnsignedDigitsIfOk bs r)
    (one_text f (codes "steps")) c.get_one.result (λ u x g. g.0) c.get_one.ensures.none c.get_one.ensures.value in
    let first = flag_read ParsesBool (one_text f (codes "audit")) c.get_one-2.result (λ u x g. g) c.get_one-2.ensures.none c.get_one-2.ensures.value in
    let second = flag_read ParsesBool (one_text f (codes "summary")) c.get_one-3.result (λ u x g. g) c.get_one-3.ensures.none c.get_one-3.ensures.value in
    let third = flag_read ParsesBool (one_text f (codes "upgrade")) c.get_one-4.result (λ u x g. g) c.get_one-4.ensures.none c.get_one-4.ensures.value in
    let threads = number_read (λ bs r. ParsesUnsigned 64 10 bs r × ExplainsUnsignedError 10 bs r × HasUnsignedDigitsIfOk bs r)
    (one_text f (codes "generate")) c.get_one-5.result (λ u x g. g.0) c.get_one-5.ensures.none c.get_one-5.ensures.value in
    let steps = c.unwrap_or.ensures ∙ ap (λ (o : Option ℕ). unwrap_or o default_steps) (number ∙ ap (option_and_then unsigned_of) (one_text-rows f (codes "steps"))) in
    let audit = c.unwrap_or-2.ensures ∙ first ∙ set_found f (codes "audit") in
    let summary = c.unwrap_or-3.ensures ∙ second ∙ set_found f (codes "summary") in
    let upgrade = c.unwrap_or-4.ensures ∙ third ∙ set_found f (codes "upgrade") in
    let generate = threads ∙ ap (option_and_then unsigned_of) (one_text-rows f (codes "generate")) in
    let file = c.get_str.ensures ∙ first_value-rows f (codes "FILE") in
    λ i. record { steps = steps i; audit = audit i; summary = summary i; upgrade = upgrade i; generate = generate i; file = file i }
