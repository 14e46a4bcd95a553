use Rattle.std.proofs.Common.{◌≡◌, true, false, sym, ◌∙◌, rules, arith}
use Rattle.pth_kernel.specs.Kernel.{kernel_of, is_fd_live}
use Rattle.pth_io.proofs.Live.{all-none, all-more, all-without, all-not}
use Rattle.pth_io.proofs.select.are_live.Goals as goal
use Rattle.pth_io.proofs.select.are_live.Goals.{else-contains-via-then-contains+else-not-is_live, else-contains-via-else-contains}

pub loop-f-init : goal.loop-f-init
loop-f-init c = all-none (is_fd_live (kernel_of c.args.k.now)) c.args.set.0

pub returns-then-not-is_live : goal.returns-then-not-is_live
returns-then-not-is_live c =
    let closed : is_fd_live (kernel_of c.args.k.now) c.loop-f.f ≡ false = search rules in
    sym (all-not (is_fd_live (kernel_of c.args.k.now)) c.args.set.0 c.loop-f.f 64 (omega arith) (sym c.contains.ensures ∙ c.if-contains.true) closed)

pub loop-f-preserved : goal.loop-f-preserved
loop-f-preserved c =
    elim c.else-contains.branch [
      | else-contains-via-then-contains+else-not-is_live w ↦ (let open_too : is_fd_live (kernel_of c.args.k.now) c.loop-f.f ≡ true = search rules in all-more (is_fd_live (kernel_of c.args.k.now)) c.args.set.0 c.loop-f.f (sym c.contains.ensures ∙ w.if-contains.true) open_too c.loop-f.invariant)
      | else-contains-via-else-contains w ↦ all-without (is_fd_live (kernel_of c.args.k.now)) c.args.set.0 c.loop-f.f (sym c.contains.ensures ∙ w.if-contains.false) ∙ c.loop-f.invariant
    ]
