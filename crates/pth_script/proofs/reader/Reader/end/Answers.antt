use Rattle.std.proofs.Common.{◌≡◌, ◌≤◌, ◌∙◌, ℕ, zero, suc, length, refl, arith, sym, ap, false, subst}
use Rattle.pth_grammar.specs.declared.section.Section.{Section}
use Rattle.pth_grammar.specs.declared.section.Section.TheVariants as sec
use Rattle.pth_script.specs.Drafts.{in_handler, in_body, with_open}
use Rattle.pth_script.specs.Broken.{is_open}
use Rattle.pth_script.specs.Follows.{IsReadTo}
use Rattle.std.proofs.lemmas.Grind.{common_steps}
use Rattle.std.proofs.lemmas.Bool.Decides.{nat_tests}
use Rattle.pth_script.proofs.Headings.{wants_more}
use Rattle.pth_script.proofs.RowRules.{end_below, end_in_heading}
use Rattle.pth_script.proofs.reader.Reader.end.Goals as goal

some_by : (n : ℕ) → (n ≡ 0 → ⊥) → 1 ≤ n
some_by zero h = absurd (h refl)
some_by (suc n) h = omega arith

shut : (s : Section) → (s ≡ sec.Handler → ⊥) → (s ≡ sec.Body → ⊥) → is_open s ≡ false
shut sec.Handler h b = absurd (h (cc))
shut sec.Body h b = absurd (b (cc))
shut _ h b = cc

open_none : (s : Section) → (s ≡ sec.Handler → ⊥) → (s ≡ sec.Body → ⊥) → (in_handler s ≡ false) × (in_body s ≡ false)
open_none sec.Handler h b = absurd (h (cc))
open_none sec.Body h b = absurd (b (cc))
open_none _ h b = (cc, cc)

pub returns-in_default : goal.returns-in_default
returns-in_default c = record { closed = tt; first = λ before f. end_in_heading before (wants_more c.args.self.now.heading before c.in_default.not-Whole f.heading) }

pub returns-then-bodies_opened-eq0-clause-first : goal.returns-then-bodies_opened-eq0-clause-first
returns-then-bodies_opened-eq0-clause-first c = λ before f.
    let e = end_below before (subst (λ h. IsReadTo h before) c.in-Whole.is f.heading).0 in
    let b = ap (λ s. s.bodies) f.seen in
    grind (arith, common_steps, nat_tests)

pub returns-in-Handler-clause-first : goal.returns-in-Handler-clause-first
returns-in-Handler-clause-first c = λ before f.
    let e = end_below before (subst (λ h. IsReadTo h before) c.in-Whole.is f.heading).0 in
    let b = ap (λ s. s.bodies) f.seen in
    let k = ap is_open (sym c.in-Handler.is ∙ ap (λ s. s.section) f.seen) in
    grind (arith, common_steps, nat_tests)

pub returns-in-Body-clause-first : goal.returns-in-Body-clause-first
returns-in-Body-clause-first c = λ before f.
    let e = end_below before (subst (λ h. IsReadTo h before) c.in-Whole.is f.heading).0 in
    let b = ap (λ s. s.bodies) f.seen in
    let k = ap is_open (sym c.in-Body.is ∙ ap (λ s. s.section) f.seen) in
    grind (arith, common_steps, nat_tests)

pub returns-in_default-section : goal.returns-in_default-section
returns-in_default-section c =
    let o = open_none c.args.self.now.draft.section c.in_default-section.not-Handler c.in_default-section.not-Body in
    record {
      closed = (
        record { handler = o.0; body = o.1; some = omega (arith, c.bodies_opened.ensures, ap (λ b. with_open b (length c.args.self.now.draft.bodies.items)) o.1, some_by c.bodies_opened.result c.if-bodies_opened-eq0.false) },
        c.in-Whole.is,
      );
      first = λ before f.
          let e = end_below before (subst (λ h. IsReadTo h before) c.in-Whole.is f.heading).0 in
          let b = ap (λ s. s.bodies) f.seen in
          let k = sym (ap (λ s. is_open s.section) f.seen) ∙ shut c.args.self.now.draft.section c.in_default-section.not-Handler c.in_default-section.not-Body in
          grind (arith, common_steps, nat_tests);
    }
