use Rattle.std.proofs.Common.{◌∙◌, sym, map, string_bytes, ap, subst}
use Rattle.pth_drawing.specs.Words.{Chooses, asked_by}
use Rattle.pth_drawing.proofs.Parsed.{is_plain, is_free, taken, refused}
use Rattle.pth_drawing.proofs.words.read_words.Goals as goal

pub returns-in-Ok-try_get_matches_from : goal.returns-in-Ok-try_get_matches_from
returns-in-Ok-try_get_matches_from c =
    let app = c.in-Ok.ensures in
    let words = ap (map string_bytes) c.as_slice.ensures.value in
    let parse = c.in-Ok-try_get_matches_from.ensures in
    let asked = ap asked_by (sym words) ∙ taken _ _ _ _ app (parse.kinds (is_free _ app)) (parse.matches (is_plain _ app)).0 c.found.ensures in
    record {
      answers = subst (λ o. Chooses o c.agreed.result) (sym asked) c.agreed.ensures.answers;
      turns = c.agreed.ensures.turns;
    }

pub returns-clause-answers : goal.returns-clause-answers
returns-clause-answers c =
    let app = c.in-Ok.ensures in
    let words = ap (map string_bytes) c.as_slice.ensures.value in
    let parse = c.in-Err.ensures in
    ap asked_by (sym words) ∙ refused _ _ c.in-Err.error app (parse.kinds (is_free _ app)) (λ e. c.in_default-kind.not-OutOfMemory (c.kind.ensures ∙ e))
