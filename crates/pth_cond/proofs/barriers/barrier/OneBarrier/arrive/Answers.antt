use Rattle.std.proofs.Common.{◌≡◌, ◌<◌, ◌&&◌, true, nat_lt, length, arith}
use Rattle.std.proofs.lemmas.Bool.{and_parts}
use Rattle.std.proofs.lemmas.Bool.Decides.{nat_tests}
use Rattle.std.proofs.lemmas.List.{length-map}
use Rattle.pth_cond.specs.Barriers.{arrival_limit, round_number_limit}
use Rattle.pth_cond.specs.Kept.{arrival_of, arrivals_of}
use Rattle.pth_cond.proofs.BarrierTables.{kept_pushed}
use Rattle.pth_cond.proofs.barriers.barrier.OneBarrier.arrive.Goals as goal

pub invariant_of-self-2 : goal.invariant_of-self-2
invariant_of-self-2 c =
    let few = nat_lt (length (arrivals_of c.self.inside.entries.items)) arrival_limit in
    let room : (few && nat_lt c.self.inside.round round_number_limit) ≡ true = rw (← c.self.view_is) at c.requires in
    let low : few ≡ true = (and_parts few _ room).0 in
    let fits : length (arrivals_of c.self.inside.entries.items) < arrival_limit = grind (arith, nat_tests) in
    kept_pushed c.self.inside.count _ _ c.self.inside.size c.self.inside.round c.self.inside.entries.items c.push_reserved.new.self.items c.args.t
    c.self.invariant c.if-self.false (omega (arith, fits, length-map c.self.inside.entries.items arrival_of)) c.push_reserved.ensures.items c.push_reserved.ensures.capacity
