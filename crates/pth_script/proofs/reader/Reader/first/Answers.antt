use Rattle.std.proofs.Common.{◌≡◌, ◌∙◌, ◌∷◌, arith, sym, ap, subst, true}
use Rattle.std.specs.Prelude.{codes}
use Rattle.std.specs.Str.{bytes_eq}
use Rattle.std.proofs.lemmas.Grind.{common_steps}
use Rattle.pth_script.specs.TextRows.{TextRow, is_first, is_version_2}
use Rattle.pth_script.specs.Drafts.{draft_parts, ComesTo}
use Rattle.pth_script.specs.Follows.{IsReadTo, below_heading}
use Rattle.pth_script.specs.Meaning.{said}
use Rattle.pth_script.specs.Seen.{seen_of}
use Rattle.pth_script.proofs.Headings.{version_1_read, version_2_read, first_is_heading, other_version, left_of_version_1, left_of_version_2}
use Rattle.pth_script.proofs.RowRules.{first_row_rule, above_heading, not_long}
use Rattle.pth_script.proofs.reader.Reader.first.Goals as goal

pub returns-then-not-ended : goal.returns-then-not-ended
returns-then-not-ended c =
    let row : TextRow = record { bytes = c.args.bytes.now; ended = c.args.ended } in
    record {
      takes = λ before f s.
          let first : is_first before ≡ true = subst (λ h. IsReadTo h before) c.requires.unread f.heading in
          let e = first_row_rule before row first in
          let n = not_long before row s c.requires.short in
          grind (arith, common_steps);
      drafts = tt;
    }

pub returns-then-eq : goal.returns-then-eq
returns-then-eq c =
    let row : TextRow = record { bytes = c.args.bytes.now; ended = c.args.ended } in
    let one : bytes_eq c.args.bytes.now (codes "pth 1") ≡ true = grind (arith, common_steps) in
    record {
      takes = λ before f s.
          let first : is_first before ≡ true = subst (λ h. IsReadTo h before) c.requires.unread f.heading in
          let e = first_row_rule before row first in
          let n = not_long before row s c.requires.short in (
            grind (arith, common_steps),
            record {
              heading = version_1_read before row first (other_version c.args.bytes.now one);
              seen = f.seen ∙ ap seen_of (sym (above_heading before row (first_is_heading before first)));
              kept = f.kept;
            },
          );
      drafts = λ rest p m.
          let d = draft_parts c.args.self.now.draft in
          let old = subst (λ h. ComesTo d (said (below_heading h (row ∷ rest))) p) c.requires.unread m in
          subst (λ rows. ComesTo d (said rows) p) (left_of_version_1 row rest (other_version c.args.bytes.now one)) old;
    }

pub returns-then-eq-2 : goal.returns-then-eq-2
returns-then-eq-2 c =
    let row : TextRow = record { bytes = c.args.bytes.now; ended = c.args.ended } in
    let two : is_version_2 row ≡ true = grind (arith, common_steps) in
    record {
      takes = λ before f s.
          let first : is_first before ≡ true = subst (λ h. IsReadTo h before) c.requires.unread f.heading in
          let e = first_row_rule before row first in
          let n = not_long before row s c.requires.short in (
            grind (arith, common_steps),
            record {
              heading = version_2_read before row first two;
              seen = f.seen ∙ ap seen_of (sym (above_heading before row (first_is_heading before first)));
              kept = f.kept;
            },
          );
      drafts = λ rest p m.
          let d = draft_parts c.args.self.now.draft in
          let old = subst (λ h. ComesTo d (said (below_heading h (row ∷ rest))) p) c.requires.unread m in
          subst (λ rows. ComesTo d (said rows) p) (left_of_version_2 row rest two) old;
    }

pub returns : goal.returns
returns c =
    let row : TextRow = record { bytes = c.args.bytes.now; ended = c.args.ended } in
    record {
      takes = λ before f s.
          let first : is_first before ≡ true = subst (λ h. IsReadTo h before) c.requires.unread f.heading in
          let e = first_row_rule before row first in
          let n = not_long before row s c.requires.short in
          grind (arith, common_steps);
      drafts = tt;
    }
