use Rattle.std.proofs.Common.{◌∙◌, ap, codes, map, string_bytes, sym}
use Rattle.clap.specs.Words.{found_of, rows_of}
use Rattle.clap.proofs.WalkLemmas.{first_value-rows}
use Rattle.pth_explaining.specs.Words.{asked_by}
use Rattle.pth_explaining.proofs.Parsed.{is_free, is_plain, refused, taken}
use Rattle.pth_explaining.proofs.words.read_words.Goals as goal

pub returns-in-Ok-try_get_matches_from : goal.returns-in-Ok-try_get_matches_from
returns-in-Ok-try_get_matches_from c =
    let app = c.in-Ok.ensures in
    let words = ap (map string_bytes) c.as_slice.ensures.value in
    let parse = c.in-Ok-try_get_matches_from.ensures in
    let found = found_of c.in-Ok-try_get_matches_from.matches in
    ap asked_by (sym words) ∙ taken _ _ (rows_of found) _ app (parse.kinds (is_free _ app)) (parse.matches (is_plain _ app)).0
    (c.get_str.ensures ∙ first_value-rows found (codes "FILE"))

pub returns : goal.returns
returns c =
    let app = c.in-Ok.ensures in
    let words = ap (map string_bytes) c.as_slice.ensures.value in
    let parse = c.in-Err.ensures in
    ap asked_by (sym words) ∙ refused _ _ c.in-Err.error app (parse.kinds (is_free _ app)) (λ e. c.in_default-kind.not-OutOfMemory (c.kind.ensures ∙ e))
