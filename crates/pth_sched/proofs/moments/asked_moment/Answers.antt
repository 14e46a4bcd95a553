use Rattle.std.proofs.Common.{◌∙◌, Bool, if◌then◌else◌, ap, sym, SFits, w64, rules, to_z-of_z}
use Rattle.pth_sched.proofs.moments.asked_moment.Goals as goal

pub returns-then-check : goal.returns-then-check
returns-then-check g c = λ s interval st.
    let check : SFits w64 c.args.check = search rules in
    let arg : SFits w64 c.args.arg = search rules in
    let holds = (rw (to_z-of_z check, to_z-of_z arg) at c.check.ensures) s st.control in
    sym (ap (λ (b : Bool). if b then c.args.next else 0) (sym holds ∙ c.if-check.true))

pub returns-else-check : goal.returns-else-check
returns-else-check g c = λ s interval st.
    let check : SFits w64 c.args.check = search rules in
    let arg : SFits w64 c.args.arg = search rules in
    let holds = (rw (to_z-of_z check, to_z-of_z arg) at c.check.ensures) s st.control in
    sym (ap (λ (b : Bool). if b then c.args.next else 0) (sym holds ∙ c.if-check.false))
