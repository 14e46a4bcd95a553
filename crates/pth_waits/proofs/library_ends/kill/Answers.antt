use Rattle.std.proofs.Common.{◌≡◌, ◌==◌, true, false, refl, ap, sym, ◌∙◌, arith, rules}
use Rattle.pth_base.specs.declared.errno.Errno.TheVariants.{EPERM}
use Rattle.pth_port.specs.Ports.{names_of}
use Rattle.pth_model.specs.Kill.{store_of_only}
use Rattle.pth_model.specs.Store.{Store}
use Rattle.pth_model.specs.State.{main}
use Rattle.pth_world.proofs.Frames.{still_frame}
use Rattle.pth_world.specs.Numbering.{Thread, Object, Event, Port, no_numbers}
use Rattle.pth_world.specs.World.{WorldOf}
use Rattle.pth_end.proofs.Framing.{done_frame, refused_goes}
use Rattle.pth_waits.proofs.Kills.{kill_refused, kill_ends, kill-told}
use Rattle.std.proofs.lemmas.Result.{err_from_is_err_and}
use Rattle.pth_base.proofs.Cuts.{cut_none}
use Rattle.pth_waits.proofs.library_ends.kill.Goals as goal

pub returns-then-t-ne-MAIN-clause-goes : goal.returns-then-t-ne-MAIN-clause-goes
returns-then-t-ne-MAIN-clause-goes g c =
    let other : (c.args.t.0 == main) ≡ false = search rules in
    refused_goes _ c.args.w.now c.args.t c.args.call.now EPERM _ _ c.done.result
    (λ s st. rw c.requires.call (kill_refused g.P.Program.functions s c.args.t.0 other))
    (rw c.requires.call refl)
    c.done.ensures.next c.done.ensures.ok c.done.ensures.err

pub returns-then-t-ne-MAIN-clause-frame : goal.returns-then-t-ne-MAIN-clause-frame
returns-then-t-ne-MAIN-clause-frame g c = done_frame c.args.w.now c.args.w.now c.args.t.0 c.done.result _ c.done.ensures.next (still_frame no_numbers c.args.w.now _ c.requires.runs c.requires.whole)

pub returns-clause-goes : goal.returns-clause-goes
returns-clause-goes g c =
    let is : (c.args.t.0 == main) ≡ true = search rules in
    record {
      next = λ s st. rw (c.requires.call, kill_ends g.P.Program.functions s c.args.t.0 is) refl;
      leads = λ s st. rw (c.requires.call, kill_ends g.P.Program.functions s c.args.t.0 is) (record {
        stands = record {
          control = c.vanish_all_but.ensures.shows s.control st.control;
          store = kill-told s.resources c.args.t.0 1 ∙ ap (store_of_only c.args.t.0) st.store ∙ sym c.vanish_all_but.ensures.store;
        };
        tells = rw c.requires.call at c.in_ok-answer_call.ensures.ok;
      });
      cut = tt;
    }

-- the ports are left, and so is the count of those that were made
pub returns-clause-frame : goal.returns-clause-frame
unfolding names_of
returns-clause-frame g c =
    let v = c.vanish_all_but.ensures in
    let objects = ap (λ (w : WorldOf _ _ _). w.attributes.objects.made) v.same in
    let ports = ap (λ (x : Store). x.ports.made) v.store in
    record {
      whole = v.whole;
      runs = ap (λ (w : WorldOf _ _ _). w.scheduler.running) v.same ∙ c.requires.runs;
      made = elim [ Thread ↦ omega (arith, v.made) | Object ↦ omega (arith, objects) | Event ↦ omega (arith, v.events) | Port ↦ omega (arith, ports) ];
      ranks = v.ranks;
      preferred = ap (λ (w : WorldOf _ _ _). w.scheduler.preferred) v.same;
    }

pub returns-in_err-answer_call-clause-goes : goal.returns-in_err-answer_call-clause-goes
returns-in_err-answer_call-clause-goes g c =
    let p = err_from_is_err_and c.from_residual.result c.from_residual.ensures.1 in
    rw p.1 (record { next = tt; leads = tt; cut = λ s st. cut_none _ _ _ c.in_err-answer_call.ensures.err })
