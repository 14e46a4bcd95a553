use Rattle.std.proofs.Common.{◌≡◌, ◌-◌, ◌^◌, []}
use Rattle.pth_filter.specs.Objects.{OtherStays, of_read}
use Rattle.pth_transcript.specs.Taking.{IsStarted, ahead}
use Rattle.pth_explaining.proofs.Along.{IsAlong}
use Rattle.pth_explaining.proofs.run.take_lines.Given as goal

abbrev pub invariant-lines : goal.invariant-lines
invariant-lines g l = record {
  started : IsStarted l.reader.of_file (g.F.Files.started l.files);
  same : l.reader.of_file ≡ l.initial.reader.of_file;
  along : IsAlong l.marks.items
      (ahead [] (of_read l.initial.reader.of_file (g.S.Source.left l.initial.input) (g.F.Files.left l.initial.files)))
      (ahead l.reader.unread (of_read l.initial.reader.of_file (g.S.Source.left l.input) (g.F.Files.left l.files)))
      l.reader.lines;
  stood : of_read l.initial.reader.of_file (g.S.Source.faults l.input) (g.F.Files.faults l.files)
      ≡ of_read l.initial.reader.of_file (g.S.Source.faults l.initial.input) (g.F.Files.faults l.initial.files);
  other : OtherStays l.initial.reader.of_file l.initial.input l.input l.initial.files l.files;
}

abbrev pub decreases-lines : goal.decreases-lines
decreases-lines g l = 2 ^ 64 - l.reader.lines
