use Rattle.std.proofs.Common.{List, Option, ℕ, IfOk, subst}
use Rattle.pth_player.specs.Streams.{TakesUpTo}
use Rattle.pth_player.proofs.Reading.{counts_from}
use Rattle.pth_player.proofs.script.read_file.Goals as goal

pub returns-clause-bytes : goal.returns-clause-bytes
returns-clause-bytes g c = subst (λ (held : Option (List ℕ)). IfOk c.read_started.result (λ v. TakesUpTo 16777217 held (g.F.Files.left c.read_started.new.files) v.items)) c.in-Ok.ensures.whole c.read_started.ensures.bytes

pub returns-clause-counts : goal.returns-clause-counts
returns-clause-counts g c = counts_from _ _ _ c.read_started.result c.in-Ok.ensures.counts c.read_started.ensures.counts
