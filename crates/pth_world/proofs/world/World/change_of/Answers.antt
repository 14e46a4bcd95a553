use Rattle.std.proofs.Common.{ap, sym, subst, rules}
use Rattle.pth_model.specs.Changes.{sets}
use Rattle.pth_world.specs.World.{WorldOf}
use Rattle.pth_world.specs.Sound.{IsSound}
use Rattle.pth_world.specs.Touches.{Touches, view_changed}
use Rattle.pth_world.proofs.Slots.{used}
use Rattle.pth_world.proofs.Showing.{of_threads, change_shows}
use Rattle.pth_world.proofs.Sound.{change_sound}
use Rattle.pth_world.proofs.Views.{change_touches}
use Rattle.pth_world.proofs.Moves.{but_kept}
use Rattle.pth_world.proofs.world.World.change_of.Goals as goal

pub returns-clause-shows : goal.returns-clause-shows
unfolding sets
returns-clause-shows g c k sh = rw c.change_at.ensures.same (of_threads _ _ k _ sh (change_shows _ k c.args.t.0 c.args.slot.0 c.requires.sound c.requires.at sh.threads _ c.args.c c.change_at.ensures.changes))

pub returns-clause-sound : goal.returns-clause-sound
returns-clause-sound g c =
    let threads = ap (λ (k : WorldOf _ _ _). k.threads) c.change_at.ensures.same in
    subst IsSound (sym threads) (change_sound _ c.requires.sound c.args.t.0 c.args.slot.0 c.requires.at _ c.args.c c.change_at.ensures.changes)

pub returns-clause-touches : goal.returns-clause-touches
returns-clause-touches g c =
    let threads = ap (λ (k : WorldOf _ _ _). k.threads) c.change_at.ensures.same in
    subst (λ x. Touches c.args.self.now.threads x c.args.t.0 (view_changed c.args.c)) (sym threads) (change_touches _ c.requires.sound c.args.t.0 c.args.slot.0 c.requires.at _ c.args.c c.change_at.ensures.changes)

pub returns-clause-but : goal.returns-clause-but
returns-clause-but g c = but_kept c.args.self.now _ c.args.t.0 _ (returns-clause-touches g c) (search rules) (ap (λ (k : WorldOf _ _ _). k.scheduler.running) c.change_at.ensures.same) (ap (λ (k : WorldOf _ _ _). k.store) c.change_at.ensures.same) (ap (λ (k : WorldOf _ _ _). k.attributes) c.change_at.ensures.same) (returns-clause-sound g c)

pub change_at-requires-clause-used : goal.change_at-requires-clause-used
change_at-requires-clause-used g c = used c.args.self.now.threads c.args.t.0 c.args.slot.0 c.requires.sound c.requires.at
