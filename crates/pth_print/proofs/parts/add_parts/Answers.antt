use Rattle.std.proofs.Common.{refl, take}
use Rattle.std.proofs.lemmas.Result.{err_from_is_err_and}
use Rattle.pth_print.proofs.Cuts.{first_cut, first_then}
use Rattle.pth_print.proofs.parts.add_parts.Goals as goal

pub returns-in_err-add_text : goal.returns-in_err-add_text
returns-in_err-add_text c =
    let p = err_from_is_err_and c.from_residual.result c.from_residual.ensures.1 in
    first_cut _ _ c.args.parts.now.word.now c.args.parts.now.word.now (take c.args.parts.now.count c.args.parts.now.operands) c.from_residual.result p.0 p.1 refl c.in_err-add_text.ensures.err

pub returns : goal.returns
returns c =
    first_then _ _ _ c.args.parts.now.word.now c.args.parts.now.word.now c.operands_of.result.now (take c.args.parts.now.count c.args.parts.now.operands) c.add_words.result refl c.operands_of.ensures c.in_ok-add_text.ensures.ok c.add_words.ensures
