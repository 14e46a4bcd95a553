use Rattle.std.proofs.Common.{◌≡◌, ◌-◌, ◌^◌, ℕ, List, Option}
use Rattle.pth_checker.specs.Session.{HasHeard, HasJudged}
use Rattle.pth_filter.specs.Objects.{OtherStays, of_read}
use Rattle.pth_transcript.specs.Taking.{IsStarted}
use Rattle.pth_transcript.specs.declared.told.Told.{Told}
use Rattle.pth_checker.proofs.session.Session.judge.Given as goal

abbrev pub invariant-loop-verdict : goal.invariant-loop-verdict
invariant-loop-verdict g l = record {
  heard : (content : Option (List ℕ)) → (told : List Told)
      → HasHeard content l.initial.self (of_read l.initial.self.reader.of_file (g.S.Source.left l.initial.input) (g.F.Files.left l.initial.files)) told
      → (more : List Told)
      × HasHeard content l.self (of_read l.initial.self.reader.of_file (g.S.Source.left l.input) (g.F.Files.left l.files)) more;
  of_file : l.self.reader.of_file ≡ l.initial.self.reader.of_file;
  judged : HasJudged l.self 0;
  started : IsStarted l.self.reader.of_file (g.F.Files.started l.files);
  stood : of_read l.initial.self.reader.of_file (g.S.Source.faults l.input) (g.F.Files.faults l.files)
      ≡ of_read l.initial.self.reader.of_file (g.S.Source.faults l.initial.input) (g.F.Files.faults l.initial.files);
  other : OtherStays l.initial.self.reader.of_file l.initial.input l.input l.initial.files l.files;
}

abbrev pub decreases-loop-verdict : goal.decreases-loop-verdict
decreases-loop-verdict g l = 2 ^ 64 - l.self.reader.lines
