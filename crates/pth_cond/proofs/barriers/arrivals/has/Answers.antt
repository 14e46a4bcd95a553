use Rattle.std.proofs.Common.{◌==◌, ◌∙◌, sym, rules, tests}
use Rattle.std.proofs.lemmas.Iterator.{YieldsList-from_slice}
use Rattle.std.proofs.lemmas.Iterator.Search.{any_from_yields_List}
use Rattle.pth_cond.specs.Barriers.{Arrived}
use Rattle.pth_cond.specs.Kept.{arrival_of}
use Rattle.pth_cond.specs.declared.barriers.arrivals.Waiter.{Waiter}
use Rattle.pth_cond.proofs.Arrivals.{list_any-map}
use Rattle.pth_cond.proofs.barriers.arrivals.has.Goals as goal

pub returns : goal.returns
returns c =
    any_from_yields_List (λ (e : Waiter). e.tid.0 == c.args.t.0) _ _ _ c.any.ensures.ran (YieldsList-from_slice c.args.entries.now cc) (λ x b q k. search (rules, tests))
    ∙ sym (list_any-map (λ (a : Arrived). a.tid == c.args.t.0) arrival_of c.args.entries.now)
