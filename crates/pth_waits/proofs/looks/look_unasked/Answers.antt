use Rattle.std.proofs.Common.{◌∙◌, ap, ℕ}
use Rattle.pth_model.specs.Looks.{found_unasked}
use Rattle.pth_numbered.specs.Numbered.{number_at}
use Rattle.pth_ring.specs.Arena.{events_of}
use Rattle.pth_ring.specs.Rings.{with_status}
use Rattle.pth_waits.proofs.Looking.{looks_by, unasked_comes, unasked_looked}
use Rattle.pth_waits.proofs.looks.look_unasked.Goals as goal

pub returns-clause-looked : goal.returns-clause-looked
returns-clause-looked g c s st =
    let f = g.P.Program.functions in
    let n = number_at c.args.w.now.events c.args.place.0 in
    let x = events_of c.args.w.now.events in
    let named = rw c.rings-rings.ensures at c.id_at.ensures in
    let is = rw c.rings-rings.ensures at c.spec_at.ensures in
    let status = c.found-status.ensures s st ∙ ap (λ (m : ℕ). found_unasked s m c.spec_at.result.now) named in
    record {
      looked = (rw c.rings_mut.ensures.value at c.mark_at.ensures.events) ∙ looks_by f s n x (with_status c.found-status.result) (unasked_looked f s n (x.events n) c.spec_at.result.now c.found-status.result c.requires.is is status);
      comes = rw c.is_pending.ensures (unasked_comes f s n (x.events n) c.spec_at.result.now c.found-status.result c.requires.is is status);
    }
