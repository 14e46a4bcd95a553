use Rattle.std.proofs.Common.{[], ◌∷◌, codes, decimal}
use Rattle.std.proofs.lemmas.Result.{err_from_is_err_and}
use Rattle.pth_print.specs.MarkLines.{audit_words}
use Rattle.pth_print.specs.WordTexts.{number_word, tid_word}
use Rattle.pth_print.proofs.Cuts.{joined_cut}
use Rattle.pth_print.proofs.mark_line.add_mark.Goals as goal

pub returns-in_err-add_turn-in-Dispatch : goal.returns-in_err-add_turn-in-Dispatch
returns-in_err-add_turn-in-Dispatch c =
    let p = err_from_is_err_and c.from_residual.result c.from_residual.ensures.1 in
    let d = c.in-Dispatch in
    let words = decimal d.turn ∷ codes "at" ∷ decimal d.at ∷ tid_word d.tid.0 ∷ codes "rank" ∷ number_word d.rank ∷ [] in
    rw (d.is) (joined_cut _ _ (codes "turn") words (audit_words c.args.audit d.waited d.allowed) c.from_residual.result p.0 p.1 c.in_err-add_turn-in-Dispatch.ensures.err)

pub returns-in-Destructor : goal.returns-in-Destructor
returns-in-Destructor c = rw (c.in-Destructor.is, ← c.from.ensures) c.add_run-in-Destructor.ensures
