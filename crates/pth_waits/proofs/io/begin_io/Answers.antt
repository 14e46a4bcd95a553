use Rattle.std.proofs.Common.{◌∙◌, sym, Option, IsSome, refl, subst}
use Rattle.pth_world.specs.StateOf.{state_of}
use Rattle.pth_world.proofs.StateOf.{stands_for_state}
use Rattle.pth_model.specs.declared.awaits.Awaits.{Awaits}
use Rattle.pth_waits.proofs.Attempted.{io_unawaited}
use Rattle.pth_base.specs.declared.errno.Errno.TheVariants.{EINVAL}
use Rattle.pth_model.specs.RingWaits.{ring_given}
use Rattle.pth_model.specs.Rows.{row_of}
use Rattle.pth_waits.proofs.IoCalls.{begin_no_ring, begin_long, refused_attempts}
use Rattle.pth_waits.proofs.io.begin_io.Goals as goal
use Rattle.pth_waits.proofs.io.begin_io.Goals.{then-is_no_ring-via-then-is_no_ring, then-is_no_ring-via-else-is_no_ring+then-is_refused_length}

pub returns-then-is_no_ring-clause-attempts : goal.returns-then-is_no_ring-clause-attempts
returns-then-is_no_ring-clause-attempts g c =
    let f = g.P.Program.functions in
    let t = c.args.t.0 in
    let call = c.args.call.now in
    refused_attempts c.args.w.now t call (ring_given call) (λ s. (row_of f s t call).begin) EINVAL (λ s st.
    let first = sym (c.in-Some.ensures.awaits s st) in
    elim c.then-is_no_ring.branch [
      | then-is_no_ring-via-then-is_no_ring w ↦ begin_no_ring f s t call c.in-Some.awaits first (sym ((rw c.ring_given.ensures at c.is_no_ring.ensures) s st) ∙ w.if-is_no_ring.true)
      | then-is_no_ring-via-else-is_no_ring+then-is_refused_length w ↦ begin_long f s t call c.in-Some.awaits first (sym (w.is_refused_length.ensures s st) ∙ w.if-is_refused_length.true)
    ]) (io_unawaited (state_of c.args.w.now) call (subst (λ (o : Option Awaits). IsSome o) (c.in-Some.ensures.awaits _ (stands_for_state c.args.w.now c.requires.whole.sound)) refl))
