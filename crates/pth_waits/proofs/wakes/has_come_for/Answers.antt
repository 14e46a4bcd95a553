use Rattle.std.proofs.Common.{sym, refl, subst, List, ℕ, rules, SFits, w64, to_z-of_z}
use Rattle.pth_threads.specs.Threads.{tid_at}
use Rattle.pth_model.specs.Looks.{looks_at}
use Rattle.pth_model.specs.RingWaits.{awaited_events}
use Rattle.pth_world.specs.Shows.{Shows}
use Rattle.pth_waits.proofs.Looking.{none_shows}
use Rattle.pth_waits.proofs.Waking.{due_with, due_without, no_events, ring_events}
use Rattle.pth_waits.proofs.wakes.has_come_for.Goals as goal

pub returns-in-Some-clause-shows : goal.returns-in-Some-clause-shows
returns-in-Some-clause-shows g c s st =
    let fits : SFits w64 c.in-Some.e = search rules in
    let t = tid_at c.args.w.now.threads.records c.args.slot.0 in
    subst (λ (es : List ℕ). Shows c.look_at_ring.new.w (looks_at g.P.Program.functions s es s.control)) (sym (ring_events s.control t c.awaited_in-awaited.result (c.awaited_in-awaited.ensures.awaited s.control st.control) c.in-Some.e c.in-Some.is))
    ((rw to_z-of_z at c.look_at_ring.ensures.shows) s st)

pub returns-in-Some-clause-wakes : goal.returns-in-Some-clause-wakes
returns-in-Some-clause-wakes g c s st =
    let fits : SFits w64 c.in-Some.e = search rules in
    let t = tid_at c.args.w.now.threads.records c.args.slot.0 in
    due_with s t c.awaited_in-awaited.result (c.awaited_in-awaited.ensures.awaited s.control st.control) c.has_come-come.result (c.has_come-come.ensures s st) g.P.Program.functions c.look_at_ring.result c.in-Some.e c.in-Some.is
    ((rw to_z-of_z at c.look_at_ring.ensures.comes) s st)

pub returns-in-None : goal.returns-in-None
returns-in-None g c =
    let t = tid_at c.args.w.now.threads.records c.args.slot.0 in
    let a = c.awaited_in-awaited in
    record {
      shows = λ s st. none_shows g.P.Program.functions c.args.w.now 0 s st.control (awaited_events s.control t) (no_events s.control t a.result (a.ensures.awaited s.control st.control) c.in-None.is);
      wakes = λ s st. due_without s t a.result (a.ensures.awaited s.control st.control) c.has_come-come.result (c.has_come-come.ensures s st) g.P.Program.functions c.in-None.is;
      made = refl;
      same = refl;
    }
