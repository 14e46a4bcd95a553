-- A kernel that is being read.
use Rattle.std.specs.Prelude.{◌≤◌, ◌<◌, ℕ, ◌^◌, List, Option, Some, None, IfSome}
use Rattle.pth_base.specs.Descriptors.{descriptor_limit}
use Rattle.pth_kernel.specs.Rules.{KnowsTrace}
use Rattle.pth_kernel.specs.Trace.{most_clock}
use Rattle.pth_script.specs.Meaning.{clock_said}
use Rattle.pth_script.specs.declared.kernel_draft.KernelDraft.{KernelDraft}

-- the clock, once it is said
abbrev pub clock_with : Option ℕ → List (List (List ℕ)) → Option ℕ
clock_with (Some n) ls = Some n
clock_with None ls = clock_said ls

-- a kernel can be made of it: its trace breaks no rule
pub record IsKernelInOrder (k : KernelDraft) : Type 0 where
  pub slow : IfSome k.clock (λ n. n ≤ most_clock)
  pub opens_within : k.next_open ≤ descriptor_limit
  pub opens_below : k.live.0 < 2 ^ k.next_open
  pub knows : KnowsTrace k.rules k.live.0 k.trace
