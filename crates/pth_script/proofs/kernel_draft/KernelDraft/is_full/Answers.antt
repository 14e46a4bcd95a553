use Rattle.std.specs.Prelude.{reverse}
use Rattle.pth_script.proofs.kernel_draft.KernelDraft.is_full.Goals as goal

pub returns : goal.returns
returns c = c.is_full.ensures c.args.self.now.live.0 (reverse c.args.self.now.trace) c.requires.knows.knows
