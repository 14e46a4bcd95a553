use Rattle.std.proofs.Common.{length, ◌-◌, ◌≡◌, ◌≤◌, true}
use Rattle.std.specs.Io.KnownBytes.{Consumes}
use Rattle.pth_player.proofs.streams.read_started.Given as goal

abbrev pub invariant-loop-buffer : goal.invariant-loop-buffer
invariant-loop-buffer g l = record {
  started : g.F.Files.started l.files ≡ true;
  bound : length l.bytes.items ≤ l.cap;
  taken : Consumes (g.F.Files.left l.initial.files) (g.F.Files.left l.files) l.bytes.items;
  stood : g.F.Files.faults l.files ≡ g.F.Files.faults l.initial.files;
}

abbrev pub decreases-loop-buffer : goal.decreases-loop-buffer
decreases-loop-buffer g l = l.cap - length l.bytes.items
