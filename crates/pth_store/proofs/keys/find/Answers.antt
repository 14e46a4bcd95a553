use Rattle.std.proofs.Common.{◌≤ℤ◌, ◌<ℤ◌, pos, arith}
use Rattle.std.proofs.lemmas.Int.{ints}
use Rattle.pth_store.specs.Keys.{key_limit}
use Rattle.pth_store.proofs.Calls.{unknown, named-below, named-above}
use Rattle.pth_store.proofs.keys.find.Goals as goal
use Rattle.pth_store.proofs.keys.find.Goals.{then-k-lt0-via-then-k-lt0, then-k-lt0-via-else-k-lt0+then-k-keys}

pub returns-then-k-lt0-clause-unknown : goal.returns-then-k-lt0-clause-unknown
returns-then-k-lt0-clause-unknown c = elim c.then-k-lt0.branch [
  | then-k-lt0-via-then-k-lt0 w ↦ let low : c.args.k <ℤ pos 0 = omega (arith, ints) in unknown c.args.keys.now _ c.requires (named-below c.args.k low)
  | then-k-lt0-via-else-k-lt0+then-k-keys w ↦ let high : pos key_limit ≤ℤ c.args.k = omega (arith, ints) in unknown c.args.keys.now _ c.requires (named-above c.args.k high)
]
