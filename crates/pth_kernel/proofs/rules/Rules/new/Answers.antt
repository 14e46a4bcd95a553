use Rattle.std.proofs.Common.{[]}
use Rattle.pth_kernel.proofs.Knowing.{knows-nil, first_fault_below-nil}
use Rattle.pth_kernel.proofs.rules.Rules.new.Goals as goal

pub returns : goal.returns
returns c = record { knows = knows-nil c.args.live; faultless = first_fault_below-nil c.args.live.0 [] }
