use Rattle.std.proofs.Common.{◌≢◌, ◌∙◌, ◌||◌, ap, subst, sym, ℕ}
use Rattle.pth_numbered.specs.Numbered.{number_at}
use Rattle.pth_model.specs.Looks.{looks_at}
use Rattle.pth_world.specs.Shows.{Shows}
use Rattle.pth_world.specs.Sound.{IsSound}
use Rattle.pth_world.specs.World.{ThreadsBySlot, WorldOf}
use Rattle.pth_waits.proofs.Looking.{LookedSoFar, looked_none, all_shows, all_comes, numbers, looked_next}
use Rattle.pth_waits.proofs.looks.look_round.Goals as goal

pub round-init : goal.round-init
round-init g c = record { used = c.requires.used; so_far = looked_none g.P.Program.functions c.args.w.now _ c.requires.begins }

pub look_at-come-requires-clause-sound : goal.look_at-come-requires-clause-sound
look_at-come-requires-clause-sound g c = subst (λ (x : ThreadsBySlot _). IsSound x) (sym (ap (λ (w : WorldOf _ _ _). w.threads) c.round.invariant.so_far.same)) c.requires.sound

pub returns-then-at-first-clause-shows : goal.returns-then-at-first-clause-shows
returns-then-at-first-clause-shows g c s st =
    let l = c.look_at-come.ensures in
    subst (λ (w : WorldOf _ _ _). Shows w (looks_at g.P.Program.functions s (s.control.events.rings (number_at c.args.w.now.events c.args.first.0)) s.control)) (sym l.same)
    (all_shows g.P.Program.functions c.args.w.now _ c.round.w c.look_at-come.new.w.events c.round.at.0 c.next_at-at.result.0 c.round.come c.look_at-come.result c.round.invariant.so_far l.looked l.kept.rings l.kept.places l.kept.made (rw c.rings.ensures at c.next_at-at.ensures.round) (ap (number_at c.args.w.now.events) c.if-at-first.true) s st)

pub returns-then-at-first-clause-comes : goal.returns-then-at-first-clause-comes
returns-then-at-first-clause-comes g c s st =
    let l = c.look_at-come.ensures in
    all_comes g.P.Program.functions c.args.w.now _ c.round.w c.look_at-come.new.w.events c.round.at.0 c.next_at-at.result.0 c.round.come c.look_at-come.result c.round.invariant.so_far l.looked l.kept.rings l.kept.places l.kept.made (rw c.rings.ensures at c.next_at-at.ensures.round) (ap (number_at c.args.w.now.events) c.if-at-first.true) s st

pub round-preserved : goal.round-preserved
round-preserved g c =
    let old = c.args.w.now in
    let f = g.P.Program.functions in
    let l = c.look_at-come.ensures in
    let e = number_at old.events c.args.first.0 in
    let v = c.next_at-at.result.0 in
    let come = c.look_at-come.result || c.round.come in
    let next = rw c.rings.ensures at c.next_at-at.ensures.round in
    let used = rw c.rings.ensures at c.next_at-at.ensures.used in
    let apart = rw c.rings.ensures at c.next_at-at.ensures.apart in
    let same = numbers f old e c.round.w c.look_at-come.new.w.events c.round.at.0 v c.round.come c.look_at-come.result c.round.invariant.so_far l.looked l.kept.rings l.kept.places l.kept.made next in
    let more : number_at old.events v ≢ e = λ h. c.if-at-first.false (sym (apart c.args.first.0 (ap (λ (f : ℕ → ℕ). f c.args.first.0) same ∙ sym h ∙ ap (λ (f : ℕ → ℕ). f v) (sym same)))) in
    record {
      used = subst (λ (f : ℕ → ℕ). f v ≢ 0) same used;
      so_far = subst (λ (w : WorldOf _ _ _). LookedSoFar f old w e (number_at old.events v) come) (sym l.same)
          (looked_next f old e c.round.w c.look_at-come.new.w.events c.round.at.0 v c.round.come c.look_at-come.result c.round.invariant.so_far l.looked l.kept.rings l.kept.places l.kept.made next more);
    }
