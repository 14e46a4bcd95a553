use Rattle.std.proofs.Common.{◌≡◌, drop, fold, max}
use Rattle.pth_drawing.proofs.svg.greatest_moment.Given as goal

abbrev pub invariant-loop-moment : goal.invariant-loop-moment
invariant-loop-moment l = fold (λ n m. max n m.at) l.greatest (drop l.moment-index l.moments) ≡ fold (λ n m. max n m.at) 0 l.moments
