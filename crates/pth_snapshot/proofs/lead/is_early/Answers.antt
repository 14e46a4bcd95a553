use Rattle.std.proofs.Common.{◌≡◌, ◌&&◌, nat_lt, not, refl, sym, ◌∙◌, subst}
use Rattle.pth_model.specs.Run.{run}
use Rattle.pth_world.specs.Shows.{Shows}
use Rattle.pth_snapshot.specs.Place.{has_come}
use Rattle.pth_snapshot.proofs.Leading.{come_now, move_there}
use Rattle.pth_snapshot.proofs.lead.is_early.Goals as goal

pub returns-then-is_idle-clause-come : goal.returns-then-is_idle-clause-come
returns-then-is_idle-clause-come g c = λ given i st.
    let shows = subst (λ w. Shows w (run g.P.Program.functions given i).state.control) (sym c.world.ensures.world) st.world.control in
    subst (λ b. has_come g.P.Program.functions given c.args.moment i ≡ not (b && nat_lt c.now.result c.args.moment)) c.if-is_idle.true
    (come_now g.P.Program.functions given c.args.moment i c.args.machine.now st c.requires c.is_idle.result c.now.result (c.is_idle.ensures.idle (run g.P.Program.functions given i).state.control shows) c.now.ensures.value)

pub returns-then-is_idle-clause-next : goal.returns-then-is_idle-clause-next
returns-then-is_idle-clause-next g c = λ early given i st.
    let shows = subst (λ w. Shows w (run g.P.Program.functions given i).state.control) (sym c.world.ensures.world) st.world.control in
    move_there g.P.Program.functions given i c.args.machine.now st c.requires (sym (c.is_idle.ensures.idle (run g.P.Program.functions given i).state.control shows) ∙ c.if-is_idle.true)

pub returns-else-is_idle-clause-come : goal.returns-else-is_idle-clause-come
returns-else-is_idle-clause-come g c = λ given i st.
    let shows = subst (λ w. Shows w (run g.P.Program.functions given i).state.control) (sym c.world.ensures.world) st.world.control in
    let now = c.args.machine.now.world.kernel.now in
    come_now g.P.Program.functions given c.args.moment i c.args.machine.now st c.requires c.is_idle.result now (c.is_idle.ensures.idle (run g.P.Program.functions given i).state.control shows) refl
    ∙ rw c.if-is_idle.false refl
