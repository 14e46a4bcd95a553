use Rattle.std.proofs.Common.{◌≡◌, ◌∙◌, false, sym, ap}
use Rattle.pth_store.specs.Cleanups.{is_full_stack, stacks_of, top_first, with_top}
use Rattle.pth_store.proofs.Within.{within_is, within_pushed}
use Rattle.pth_store.proofs.cleanups.Cleanups.push.Goals as goal

pub invariant_of-self-2 : goal.invariant_of-self-2
invariant_of-self-2 c =
    let more : is_full_stack (stacks_of (top_first c.self.inside.stacks) c.args.s.0) ≡ false = sym c.is_full_at.ensures ∙ c.if-is_full_at.false in
    within_is (c.in_ok-push_at.ensures.changes ∙ ap (with_top c.args.s.0 _) c.in_ok-grow.ensures.same)
    (within_pushed _ c.args.s.0 _ c.self.invariant more)
