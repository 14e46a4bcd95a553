use Rattle.std.proofs.Common.{◌≡◌, ◌∙◌, ℕ, ap, subst, arith}
use Rattle.std.proofs.lemmas.Int.{ints}
use mir.Syntax.{w64}
use mir.Val.{to_z, of_z}
use Rattle.pth_numbered.specs.Operands.{number}
use Rattle.pth_ring.specs.Rings.{Events}
use Rattle.pth_model.specs.Looks.{looks_at}
use Rattle.pth_world.specs.Shows.{Shows}
use Rattle.pth_waits.proofs.Looking.{none_shows}
use Rattle.pth_waits.proofs.looks.look_at_ring.Goals as goal

pub returns-in-None-clause-shows : goal.returns-in-None-clause-shows
returns-in-None-clause-shows g c s st =
    let is : to_z w64 (of_z w64 c.args.e) ≡ c.args.e = omega (arith, ints) in
    none_shows g.P.Program.functions c.args.w.now (number c.args.e) s st.control (s.control.events.rings (number c.args.e)) (ap (λ (y : Events). y.rings (number c.args.e)) st.control.events ∙ (rw (c.rings.ensures, is) at c.in-None.ensures.no_ring))

pub returns-in-Some-clause-shows : goal.returns-in-Some-clause-shows
returns-in-Some-clause-shows g c s st =
    let is : to_z w64 (of_z w64 c.args.e) ≡ c.args.e = omega (arith, ints) in
    subst (λ (n : ℕ). Shows c.look_round.new.w (looks_at g.P.Program.functions s (s.control.events.rings n) s.control)) (rw (c.rings.ensures, is) at c.in-Some.ensures.named) (c.look_round.ensures.shows s st)
