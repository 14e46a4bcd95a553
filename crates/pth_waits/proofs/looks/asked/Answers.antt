use Rattle.std.proofs.Common.{◌≡◌, ◌∙◌, Bool, nat_le, true, Some, ap, sym, arith, SFits, w64, rules, to_z-of_z}
use Rattle.pth_kernel.specs.Kernel.{Kernel}
use Rattle.pth_model.specs.State.{now_of}
use Rattle.pth_waits.proofs.Looking.{is_due}
use Rattle.pth_waits.proofs.looks.asked.Goals as goal

pub returns-then-next-time : goal.returns-then-next-time
returns-then-next-time g c s st =
    let now : now_of s.control ≡ c.time.result = ap (λ (z : Kernel). z.now) st.control.kernel ∙ sym c.time.ensures.now in
    let due : nat_le c.args.next (now_of s.control) ≡ true = is_due c.args.next (now_of s.control) (omega (arith, now, c.if-next-time.true)) in
    let check : SFits w64 c.args.check = search rules in
    let arg : SFits w64 c.args.arg = search rules in
    rw due (ap (λ (b : Bool). Some b) ((rw (to_z-of_z check, to_z-of_z arg) at c.check.ensures) s st.control))
