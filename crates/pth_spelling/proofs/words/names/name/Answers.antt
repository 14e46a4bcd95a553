use Rattle.std.proofs.Common.{◌∙◌, sym}
use Rattle.pth_spelling.proofs.Names.{name_is_text}
use Rattle.pth_spelling.proofs.words.names.name.Goals as goal

pub returns-in-Err : goal.returns-in-Err
returns-in-Err c = absurd (c.in-Err.ensures.cases.0 (name_is_text c.args.word.now (sym c.is_name.ensures ∙ c.if-not-is_name.false)))
