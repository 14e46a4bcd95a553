use Rattle.std.proofs.Common.{length, take, ◌-◌, ◌≡◌, ◌≤◌, []}
use Rattle.std.specs.Io.KnownBytes.{Appends}
use Rattle.pth_streams.proofs.write_all.write_all.Given as goal

abbrev pub invariant-loop-at : goal.invariant-loop-at
invariant-loop-at g l = record {
  within : l.at ≤ length l.bytes;
  written : Appends (g.O.Sink.written l.initial.out) (g.O.Sink.written l.out) (take l.at l.bytes);
  stood : g.O.Sink.faults l.out ≡ g.O.Sink.faults l.initial.out;
  empty : l.bytes ≡ [] → l.out ≡ l.initial.out;
}

abbrev pub decreases-loop-at : goal.decreases-loop-at
decreases-loop-at g l = length l.bytes - l.at
