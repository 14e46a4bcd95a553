use Rattle.std.proofs.Common.{◌≡◌, ◌∙◌, ◌∷◌, arith, sym, ap, subst, true}
use Rattle.std.proofs.lemmas.Grind.{common_steps}
use Rattle.pth_script.specs.TextRows.{TextRow, is_comment}
use Rattle.pth_script.specs.Drafts.{draft_parts, ComesTo}
use Rattle.pth_script.specs.Follows.{IsReadTo, below_heading}
use Rattle.pth_script.specs.Meaning.{said}
use Rattle.pth_script.specs.Seen.{seen_of}
use Rattle.pth_script.proofs.Headings.{still_read}
use Rattle.pth_script.proofs.RowRules.{comment_rule, above_comment, not_long}
use Rattle.pth_script.proofs.Said.{said_comment}
use Rattle.pth_script.proofs.reader.Reader.below.Goals as goal

pub returns-then-not-ended : goal.returns-then-not-ended
returns-then-not-ended c =
    let row : TextRow = record { bytes = c.args.bytes.now; ended = c.args.ended } in
    let comment : is_comment c.args.bytes.now ≡ true = grind (arith, common_steps) in
    record {
      takes = λ before f s.
          let read = subst (λ h. IsReadTo h before) c.requires.below.1 f.heading in
          let e = comment_rule before row read.0 comment in
          let n = not_long before row s c.requires.short in
          grind (arith, common_steps);
      drafts = tt;
    }

pub returns : goal.returns
returns c =
    let row : TextRow = record { bytes = c.args.bytes.now; ended = c.args.ended } in
    let comment : is_comment c.args.bytes.now ≡ true = grind (arith, common_steps) in
    let whole = c.requires.below.1 in
    record {
      takes = λ before f s.
          let read = subst (λ h. IsReadTo h before) whole f.heading in
          let e = comment_rule before row read.0 comment in
          let n = not_long before row s c.requires.short in (
            grind (arith, common_steps),
            record {
              heading = subst (λ h. IsReadTo h (row ∷ before)) (sym whole) (still_read before row c.requires.below.0 read);
              seen = f.seen ∙ ap seen_of (sym (above_comment before row comment));
              kept = f.kept;
            },
          );
      drafts = λ rest p m.
          let d = draft_parts c.args.self.now.draft in
          let old = subst (λ h. ComesTo d (said (below_heading h (row ∷ rest))) p) whole m in
          subst (λ h. ComesTo d (said (below_heading h rest)) p) (sym whole) (subst (λ ls. ComesTo d ls p) (said_comment row rest comment) old);
    }
