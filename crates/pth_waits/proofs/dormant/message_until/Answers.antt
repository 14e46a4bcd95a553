use Rattle.std.proofs.Common.{◌∙◌, not, ap, sym, arith, rules, SFits, w64, to_z-of_z}
use Rattle.pth_ring.specs.declared.event.Status.{Status}
use Rattle.pth_ring.specs.Rings.{is_pending}
use Rattle.pth_waits.proofs.Dormancy.{is_not_here, later_than_now}
use Rattle.pth_waits.proofs.Undue.{pending_by}
use Rattle.pth_waits.proofs.dormant.message_until.Goals as goal

pub returns-clause-pending : goal.returns-clause-pending
returns-clause-pending g c = λ s e st. (
  tt,
  λ n later early.
      let fits : SFits w64 c.args.p = search rules in
      let here = is_not_here _ _ c.never_unless.ensures.until (omega arith) in
      let found = (rw to_z-of_z at c.found_message.ensures) s e st in
      sym found ∙ pending_by c.found_message.result (ap not (sym c.is_pending.ensures) ∙ here),
)

pub returns-clause-later : goal.returns-clause-later
returns-clause-later g c = λ s e st pending.
    let fits : SFits w64 c.args.p = search rules in
    let found = (rw to_z-of_z at c.found_message.ensures) s e st in
    let here = ap not c.is_pending.ensures ∙ ap (λ (x : Status). not (is_pending x)) (found ∙ pending) in
    later_than_now c.args.w.now s.control st.control _ (c.never_unless.ensures.later here)
