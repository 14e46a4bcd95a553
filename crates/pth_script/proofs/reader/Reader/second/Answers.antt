use Rattle.std.proofs.Common.{◌≡◌, ◌∙◌, ◌∷◌, arith, sym, ap, subst, true}
use Rattle.std.proofs.lemmas.Grind.{common_steps}
use Rattle.pth_script.specs.TextRows.{TextRow, is_second}
use Rattle.pth_script.specs.Drafts.{draft_parts, ComesTo}
use Rattle.pth_script.specs.Follows.{IsReadTo, below_heading}
use Rattle.pth_script.specs.Meaning.{said}
use Rattle.pth_script.specs.Seen.{seen_of}
use Rattle.pth_script.proofs.Headings.{range_read, second_is_heading}
use Rattle.pth_script.proofs.RowRules.{second_row_rule, above_heading, not_long}
use Rattle.pth_script.proofs.reader.Reader.second.Goals as goal

pub returns-then-not-ended : goal.returns-then-not-ended
returns-then-not-ended c =
    let row : TextRow = record { bytes = c.args.bytes.now; ended = c.args.ended } in
    record {
      takes = λ before f s.
          let second : is_second before ≡ true = subst (λ h. IsReadTo h before) c.requires.begun f.heading in
          let e = second_row_rule before row second in
          let n = not_long before row s c.requires.short in
          grind (arith, common_steps);
      drafts = tt;
    }

pub returns-in-Some : goal.returns-in-Some
returns-in-Some c =
    let row : TextRow = record { bytes = c.args.bytes.now; ended = c.args.ended } in
    record {
      takes = λ before f s.
          let second : is_second before ≡ true = subst (λ h. IsReadTo h before) c.requires.begun f.heading in
          let e = second_row_rule before row second in
          let n = not_long before row s c.requires.short in
          let says = sym c.range_said.ensures ∙ c.in-Some.is in (
            grind (arith, common_steps),
            record {
              heading = range_read before row c.in-Some.range second says;
              seen = f.seen ∙ ap seen_of (sym (above_heading before row (second_is_heading before second)));
              kept = f.kept;
            },
          );
      drafts = λ rest p m. subst (λ h. ComesTo (draft_parts c.args.self.now.draft) (said (below_heading h (row ∷ rest))) p) c.requires.begun m;
    }

pub returns-in-None : goal.returns-in-None
returns-in-None c =
    let row : TextRow = record { bytes = c.args.bytes.now; ended = c.args.ended } in
    record {
      takes = λ before f s.
          let second : is_second before ≡ true = subst (λ h. IsReadTo h before) c.requires.begun f.heading in
          let e = second_row_rule before row second in
          let n = not_long before row s c.requires.short in
          let says = sym c.range_said.ensures ∙ c.in-None.is in
          grind (arith, common_steps);
      drafts = tt;
    }
