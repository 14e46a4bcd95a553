use Rattle.std.proofs.Common.{◌≡◌, ◌∙◌, ℕ, Bool, Some, ap, refl, sym, SFits, w64, rules, to_z-of_z}
use Rattle.pth_kernel.specs.Kernel.{Kernel}
use Rattle.pth_model.specs.State.{now_of}
use Rattle.pth_model.specs.Times.{moment_after}
use Rattle.pth_numbered.specs.Numbered.{number_at}
use Rattle.pth_ring.specs.declared.event.Event.{Event}
use Rattle.pth_ring.specs.declared.event.Status.TheVariants.{Pending}
use Rattle.pth_ring.specs.Arena.{events_of}
use Rattle.pth_ring.specs.Rings.{with_event, with_next_look, with_status}
use Rattle.pth_waits.proofs.Looking.{changed_twice, function_comes, looks_by, off_looked}
use Rattle.pth_waits.proofs.looks.look_at_function.Goals as goal

pub returns-in-Some-false-clause-looked : goal.returns-in-Some-false-clause-looked
returns-in-Some-false-clause-looked g c s st =
    let check : SFits w64 c.args.check = search rules in
    let arg : SFits w64 c.args.arg = search rules in
    let f = g.P.Program.functions in
    let w = c.args.w.now in
    let n = number_at w.events c.args.place.0 in
    let x = events_of w.events in
    let later = c.moment_after-later.result in
    let now : now_of s.control ≡ c.time.result = ap (λ (z : Kernel). z.now) st.control.kernel ∙ sym c.time.ensures.now in
    let is : later ≡ moment_after (now_of s.control) c.args.interval = c.moment_after-later.ensures ∙ ap (λ (m : ℕ). moment_after m c.args.interval) (sym now) in
    let asked = ap (λ (b : Bool). Some b) (sym c.in-Some-false.field-0-test) ∙ (rw (to_z-of_z check, to_z-of_z arg) at c.in-Some-false.ensures) s st in
    let look = off_looked f s n c.args.next c.args.check c.args.arg c.args.interval (x.events n) c.requires.is asked in
    let first = rw c.rings_mut-in-Some-false.ensures.value at c.mark_at-in-Some-false.ensures.events in
    let places = rw c.rings_mut-in-Some-false.ensures.value at c.mark_at-in-Some-false.ensures.places in
    let second = rw (c.rings_mut-in-Some-false-2.ensures.value, places) at c.look_next_at.ensures.events in
    let off : Event → Event = λ v. with_next_look later (with_status Pending v) in
    record {
      looked = second ∙ ap (with_event (with_next_look later) n) first ∙ changed_twice (with_status Pending) (with_next_look later) n x ∙ looks_by f s n x off (rw is look);
      comes = function_comes f s n c.args.next c.args.check c.args.arg c.args.interval Pending off (x.events n) c.requires.is (λ v. refl) (rw is look);
    }
