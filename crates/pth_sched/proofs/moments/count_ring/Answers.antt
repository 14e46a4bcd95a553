use Rattle.std.proofs.Common.{◌≡◌, ◌++◌, ℕ, map, subst, arith}
use Rattle.std.proofs.lemmas.Int.{ints}
use mir.Syntax.{w64}
use mir.Val.{to_z, of_z}
use Rattle.pth_kernel.specs.Moments.{least_after}
use Rattle.pth_model.specs.Looks.{event_moment}
use Rattle.pth_ring.specs.Arena.{events_of}
use Rattle.pth_sched.proofs.moments.count_ring.Goals as goal

pub returns-in-Some : goal.returns-in-Some
returns-in-Some g c = λ s ms st h.
    let is : to_z w64 (of_z w64 c.args.e) ≡ c.args.e = omega (arith, ints) in
    let x = events_of c.args.w.now.events in
    subst (λ (n : ℕ). c.count_round.result ≡ least_after c.args.w.now.kernel.now (ms ++ map (λ (i : ℕ). event_moment g.P.Program.functions s (x.events i)) (x.rings n)))
    (rw (c.rings.ensures, is) at c.in-Some.ensures.named) (c.count_round.ensures s ms st h)
