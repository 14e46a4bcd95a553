use Rattle.std.proofs.Common.{◌≡◌, ◌∙◌, ◌∷◌, arith, sym, ap, subst, true}
use Rattle.std.proofs.lemmas.Grind.{common_steps}
use Rattle.pth_text.specs.LineWords.{words_of}
use Rattle.pth_spelling.specs.Texts.{texts}
use Rattle.pth_script.specs.TextRows.{TextRow, above}
use Rattle.pth_script.specs.Broken.{said_breaks}
use Rattle.pth_script.specs.Drafts.{draft_parts, seen_of_draft, ComesTo}
use Rattle.pth_script.specs.Follows.{IsReadTo, below_heading}
use Rattle.pth_script.specs.Meaning.{said}
use Rattle.pth_script.specs.Seen.{seen_of, seen_past}
use Rattle.pth_script.specs.RuleOrder.{first_broken}
use Rattle.pth_script.proofs.Above.{seen_more}
use Rattle.pth_script.proofs.RowRules.{said_row_rule, above_said, not_long}
use Rattle.pth_script.proofs.Headings.{still_read}
use Rattle.pth_script.proofs.Said.{said_line_of, fine_line}
use Rattle.pth_script.proofs.reader.Reader.said.Goals as goal

pub returns-in-Some : goal.returns-in-Some
returns-in-Some c =
    let row : TextRow = record { bytes = c.args.bytes.now; ended = c.args.ended } in
    let w : texts c.as_slice-words.result.now ≡ words_of c.args.bytes.now = ap texts c.as_slice-words.ensures.value ∙ c.in_ok-words.ensures in
    record {
      takes = λ before f s.
          let read = subst (λ h. IsReadTo h before) c.requires.below.1 f.heading in
          said_row_rule before row read.0 c.requires.said (not_long before row s c.requires.short) ∙ sym (λ i. first_broken (said_breaks c.args.ended (f.seen i) (w i))) ∙ sym c.fault.ensures ∙ c.in-Some.is;
      drafts = tt;
    }

pub take-requires-clause-fine : goal.take-requires-clause-fine
take-requires-clause-fine c =
    let ws = texts c.as_slice-words.result.now in
    let d = draft_parts c.args.self.now.draft in
    let h = sym c.fault.ensures ∙ c.in_default.is in
    let cut = (fine_line c.args.ended (seen_of_draft d) ws h).cut in
    let ended : c.args.ended ≡ true = grind (arith, common_steps) in
    ap (λ b. first_broken (said_breaks b (seen_of_draft d) ws)) (sym ended) ∙ h

pub returns : goal.returns
returns c =
    let row : TextRow = record { bytes = c.args.bytes.now; ended = c.args.ended } in
    let w : texts c.as_slice-words.result.now ≡ words_of c.args.bytes.now = ap texts c.as_slice-words.ensures.value ∙ c.in_ok-words.ensures in
    let ws = texts c.as_slice-words.result.now in
    let t = c.in_ok-take.ensures in
    record {
      takes = λ before f s.
          let read = subst (λ h. IsReadTo h before) c.requires.below.1 f.heading in (
            said_row_rule before row read.0 c.requires.said (not_long before row s c.requires.short) ∙ sym (λ i. first_broken (said_breaks c.args.ended (f.seen i) (w i))) ∙ sym c.fault.ensures ∙ c.in_default.is,
            record {
              heading = subst (λ h. IsReadTo h (row ∷ before)) (sym c.requires.below.1) (still_read before row c.requires.below.0 read);
              seen = t.seen ∙ (λ i. seen_past (w i) (f.seen i)) ∙ sym (seen_more (words_of c.args.bytes.now) (above before)) ∙ ap seen_of (sym (above_said before row read.0 c.requires.said));
              kept = t.kept;
            },
          );
      drafts = λ rest p m.
          let whole = c.requires.below.1 in
          let old = subst (λ h. ComesTo (draft_parts c.args.self.now.draft) (said (below_heading h (row ∷ rest))) p) whole m in
          let worded = subst (λ ls. ComesTo (draft_parts c.args.self.now.draft) ls p) (said_line_of row rest c.requires.said ∙ ap (λ v. v ∷ said rest) (sym w)) old in
          subst (λ h. ComesTo (draft_parts c.take.new.self) (said (below_heading h rest)) p) (sym whole) (t.makes (said rest) p worded);
    }
