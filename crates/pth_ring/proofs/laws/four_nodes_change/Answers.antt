use Rattle.pth_ring.proofs.Neighbours.{concat-keeps, chain-keeps, isolate-keeps, free-keeps}
use Rattle.pth_ring.proofs.laws.four_nodes_change.Goals as goal

pub returns-clause-concat : goal.returns-clause-concat
returns-clause-concat c = λ d a b x k may clear_a clear_b. concat-keeps x k d a b may clear_a clear_b

pub returns-clause-chain : goal.returns-clause-chain
returns-clause-chain c = λ d e spec x k other clear. chain-keeps x k d e spec clear other

pub returns-clause-isolate : goal.returns-clause-isolate
returns-clause-isolate c = λ d e x k far. isolate-keeps x k d e far

pub returns-clause-free : goal.returns-clause-free
returns-clause-free c = λ d e x k far. free-keeps x k d e far
