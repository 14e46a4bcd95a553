use Rattle.std.proofs.Common.{◌∙◌, ℕ, Option, ap, codes, unwrap_or, option_and_then}
use Rattle.std.specs.Str.Parse.{ParsesUnsigned, ExplainsUnsignedError, HasUnsignedDigitsIfOk}
use Rattle.clap.specs.Words.{found_of, one_text}
use Rattle.clap.proofs.WalkLemmas.{first_value-rows, one_text-rows}
use Rattle.pth_command.specs.CommandLine.{unsigned_of}
use Rattle.pth_command.proofs.Getters.{number_read}
use Rattle.pth_drawing.proofs.words.found.Goals as goal

pub returns : goal.returns
returns c =
    let f = found_of c.args.matches.now in
    let first = number_read (λ bs r. ParsesUnsigned 64 10 bs r × ExplainsUnsignedError 10 bs r × HasUnsignedDigitsIfOk bs r)
    (one_text f (codes "from")) c.get_one.result (λ u x g. g.0) c.get_one.ensures.none c.get_one.ensures.value in
    let second = number_read (λ bs r. ParsesUnsigned 64 10 bs r × ExplainsUnsignedError 10 bs r × HasUnsignedDigitsIfOk bs r)
    (one_text f (codes "turns")) c.get_one-2.result (λ u x g. g.0) c.get_one-2.ensures.none c.get_one-2.ensures.value in
    let from = c.unwrap_or.ensures ∙ ap (λ (o : Option ℕ). unwrap_or o 1) (first ∙ ap (option_and_then unsigned_of) (one_text-rows f (codes "from"))) in
    let turns = c.unwrap_or-2.ensures ∙ ap (λ (o : Option ℕ). unwrap_or o 400) (second ∙ ap (option_and_then unsigned_of) (one_text-rows f (codes "turns"))) in
    let file = c.get_str.ensures ∙ first_value-rows f (codes "FILE") in
    λ i. record { from = from i; turns = turns i; file = file i }
