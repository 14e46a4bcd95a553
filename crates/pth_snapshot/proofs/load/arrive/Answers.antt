use Rattle.std.proofs.Common.{◌∙◌, sym, subst}
use Rattle.pth_snapshot.specs.Leading.{IsLed}
use Rattle.pth_snapshot.proofs.Loading.{not_closed}
use Rattle.pth_snapshot.proofs.load.arrive.Goals as goal

pub returns-in-Running-clause-placed : goal.returns-in-Running-clause-placed
returns-in-Running-clause-placed g c = λ given st.
    not_closed g.P.Program.functions given c.args.place c.lead.new.machine (c.is_as_named.ensures.not c.if-is_as_named.false)
    (subst (λ o. IsLed g.P.Program.functions given c.args.place o c.lead.new.machine) c.in-Running.is (c.lead.ensures.led (λ over. (let e = sym c.in-Running.is ∙ over in cc e)) given st))
