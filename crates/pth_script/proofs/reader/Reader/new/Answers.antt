use Rattle.std.proofs.Common.{refl, ◌∙◌, ap, sym}
use Rattle.std.specs.Prelude.{drop}
use Rattle.pth_script.specs.Meaning.{said}
use Rattle.pth_script.specs.Seen.{seen_of}
use Rattle.pth_script.specs.TextRows.{heading_length, range_of}
use Rattle.pth_script.proofs.Above.{above_none}
use Rattle.pth_script.proofs.reader.Reader.new.Goals as goal

pub returns-clause-follows : goal.returns-clause-follows
returns-clause-follows c = record { heading = refl; seen = c.new.ensures.seen ∙ ap seen_of (sym above_none); kept = c.new.ensures.kept }

pub returns-clause-makes : goal.returns-clause-makes
returns-clause-makes c = λ rows. c.new.ensures.makes (range_of rows) (said (drop (heading_length rows) rows))
