use Rattle.std.proofs.Common.{◌≡◌, ◌-◌, ◌^◌, length, []}
use Rattle.pth_filter.specs.Objects.{OtherStays, of_read}
use Rattle.pth_transcript.specs.Taking.{IsLineless, IsStarted, Takes, ahead}
use Rattle.pth_transcript.proofs.lines.Lines.take_further.Given as goal

abbrev pub invariant-pieces : goal.invariant-pieces
invariant-pieces g l = record {
  started : IsStarted l.self.of_file (g.F.Files.started l.files);
  lineless : IsLineless l.self.unread;
  same : l.self.of_file ≡ l.fn.self.of_file;
  takes : Takes (ahead l.fn.self.unread (of_read l.fn.self.of_file (g.S.Source.left l.fn.input) (g.F.Files.left l.fn.files)))
      (ahead l.self.unread (of_read l.fn.self.of_file (g.S.Source.left l.input) (g.F.Files.left l.files))) [];
  stood : of_read l.fn.self.of_file (g.S.Source.faults l.input) (g.F.Files.faults l.files)
      ≡ of_read l.fn.self.of_file (g.S.Source.faults l.fn.input) (g.F.Files.faults l.fn.files);
  other : OtherStays l.fn.self.of_file l.fn.input l.input l.fn.files l.files;
}

abbrev pub decreases-pieces : goal.decreases-pieces
decreases-pieces g l = 2 ^ 64 - length l.self.unread
