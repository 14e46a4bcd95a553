use Rattle.std.proofs.Common.{◌∙◌, ap, sym, subst, rules}
use Rattle.pth_threads.specs.Threads.{slot_of}
use Rattle.pth_model.specs.Changes.{leaves_queue, forgets}
use Rattle.pth_world.specs.World.{WorldOf}
use Rattle.pth_world.specs.Sound.{IsSound}
use Rattle.pth_world.specs.WellFormed.{View, view}
use Rattle.pth_world.proofs.Slots.{other_slot}
use Rattle.pth_world.proofs.Showing.{of_threads, drop_shows}
use Rattle.pth_world.proofs.Sound.{drop_sound}
use Rattle.pth_world.proofs.Stores.{stored_shows}
use Rattle.pth_world.proofs.Views.{drop_views}
use Rattle.pth_world.proofs.Moves.{gone_but}
use Rattle.pth_world.proofs.world.World.drop_thread.Goals as goal

pub remove_at-requires-clause-tied : goal.remove_at-requires-clause-tied
remove_at-requires-clause-tied g c = c.take_out.ensures.sound.tied

pub returns-clause-shows : goal.returns-clause-shows
unfolding forgets
returns-clause-shows g c k sh =
    let v = c.take_out.new.self in
    let at = ap (λ (k : WorldOf _ _ _). slot_of k.threads.records c.args.t.0) c.take_out.ensures.same ∙ c.slot-slot.ensures.slot in
    let nowhere = ap (λ (k : View). k.place) (c.take_out.ensures.touches.own c.slot-slot.result.0 c.slot-slot.ensures.slot) in
    let none = rw c.progress_mut.ensures.value at c.set.ensures.set in
    let before = c.take_out.ensures.shows k sh in
    rw c.remove_at.ensures.same (stored_shows _ _ _ (of_threads v _ (leaves_queue c.args.t.0 k) _ before (drop_shows v.threads (leaves_queue c.args.t.0 k) c.args.t.0 c.slot-slot.result.0 c.take_out.ensures.sound at before.threads _ _ nowhere c.remove_at.ensures.removes none)))

pub returns-clause-sound : goal.returns-clause-sound
returns-clause-sound g c =
    let v = c.take_out.new.self in
    let at = ap (λ (k : WorldOf _ _ _). slot_of k.threads.records c.args.t.0) c.take_out.ensures.same ∙ c.slot-slot.ensures.slot in
    let nowhere = ap (λ (k : View). k.place) (c.take_out.ensures.touches.own c.slot-slot.result.0 c.slot-slot.ensures.slot) in
    let none = rw c.progress_mut.ensures.value at c.set.ensures.set in
    let threads = ap (λ (k : WorldOf _ _ _). k.threads) c.remove_at.ensures.same in
    subst IsSound (sym threads) (drop_sound v.threads c.take_out.ensures.sound c.args.t.0 c.slot-slot.result.0 at _ _ nowhere c.remove_at.ensures.removes none c.set.ensures.long)

pub returns-clause-others : goal.returns-clause-others
returns-clause-others g c i apart =
    let v = c.take_out.new.self in
    let none = rw c.progress_mut.ensures.value at c.set.ensures.set in
    let threads = ap (λ (k : WorldOf _ _ _). k.threads) c.remove_at.ensures.same in
    ap (λ x. view x i) threads
    ∙ drop_views v.threads _ _ c.slot-slot.result.0 c.remove_at.ensures.removes none i (other_slot c.args.self.now.threads c.args.t.0 c.slot-slot.result.0 c.requires.sound c.slot-slot.ensures.slot i apart) ∙ c.take_out.ensures.touches.others i apart

pub returns-clause-but : goal.returns-clause-but
returns-clause-but g c but =
    gone_but c.args.self.now _ c.args.t.0 c.slot-slot.result.0 c.slot-slot.ensures.slot (returns-clause-others g c) (search rules) (returns-clause-sound g c) (search rules) (search rules)
    (ap (λ (k : WorldOf _ _ _). k.attributes) c.remove_at.ensures.same ∙ ap (λ (k : WorldOf _ _ _). k.attributes) c.take_out.ensures.same)
    (ap (λ (k : WorldOf _ _ _). k.threads.queues.top) c.remove_at.ensures.same ∙ c.take_out.ensures.touches.top)
    but
