use Rattle.std.proofs.Common.{◌≤◌, ◌<◌, ◌+◌, ◌*◌, ◌%◌, ◌^◌, ℕ, sym, subst, arith}
use Rattle.std.proofs.Math.Pow.{pow_mono}
use Rattle.std.proofs.lemmas.Grind.{pow_more}
use Rattle.std.proofs.lemmas.Nat.{one_shl}
use Rattle.pth_kernel.specs.Rules.{KnowsTrace}
use Rattle.pth_script.proofs.kernel_draft.KernelDraft.open.Goals as goal

-- a set of descriptors below one, and that one
below_next : (live next f : ℕ) → next ≤ f → f < 64 → live < 2 ^ next → live + 1 * 2 ^ f % 18446744073709551616 < 2 ^ (f + 1)
below_next live next f rises low small = omega (arith, pow_mono rises, pow_more 2 f, one_shl f 64 low)

pub returns-clause-kept : goal.returns-clause-kept
returns-clause-kept c =
    let live = c.args.self.now.live.0 + 1 * 2 ^ c.args.f % 18446744073709551616 in
    record {
      slow = c.requires.kept.slow;
      opens_within = omega (arith, c.requires.within);
      opens_below = below_next c.args.self.now.live.0 c.args.self.now.next_open c.args.f c.requires.rises c.requires.within c.requires.kept.opens_below;
      knows = subst (λ t. KnowsTrace c.new-self.result live t) (sym c.requires.nothing) c.new-self.ensures;
    }
