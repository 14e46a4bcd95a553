use Rattle.std.proofs.Common.{◌∙◌, ap, refl, subst, sym}
use Rattle.pth_tables.specs.CountedOf.{KeptQueues}
use Rattle.pth_world.proofs.Waits.{kept_queues, kept_waits}
use Rattle.pth_model.specs.Changes.{raises_ready}
use Rattle.pth_world.specs.WellFormed.{View, Fits}
use Rattle.pth_world.proofs.Showing.{of_threads, raise_shows}
use Rattle.pth_world.proofs.Sound.{raise_sound}
use Rattle.pth_world.proofs.Views.{raise_views}
use Rattle.pth_world.proofs.Runnable.{stays_seen}
use Rattle.pth_world.proofs.world.World.raise_ready.Goals as goal

pub returns-clause-shows : goal.returns-clause-shows
unfolding raises_ready
returns-clause-shows g c k sh =
    let is = rw c.queues_mut.ensures.value at c.increase.ensures in
    of_threads _ _ k _ sh (raise_shows _ k c.increase.new.self.queues c.increase.new.self.waits c.requires.sound (ap kept_queues is) (ap kept_waits is) sh.threads)

pub returns-clause-sound : goal.returns-clause-sound
returns-clause-sound g c = raise_sound _ c.requires.sound c.increase.new.self.queues c.increase.new.self.waits c.requires.rise (ap kept_queues (rw c.queues_mut.ensures.value at c.increase.ensures))

pub returns-clause-views : goal.returns-clause-views
returns-clause-views g c u = raise_views c.args.self.now.threads c.increase.new.self.queues c.increase.new.self.waits (ap kept_queues (rw c.queues_mut.ensures.value at c.increase.ensures)) u

pub returns-clause-whole : goal.returns-clause-whole
returns-clause-whole g c whole = record {
  sound = returns-clause-sound g c;
  fits = λ u. subst (λ (k : View). Fits c.args.self.now.scheduler.running k) (sym (returns-clause-views g c u)) (whole.fits u);
  runner = whole.runner;
  stored = whole.stored;
  top = whole.top ∙ sym (ap (λ (x : KeptQueues). x.queues.top) (rw c.queues_mut.ensures.value at c.increase.ensures));
}

pub returns-clause-but : goal.returns-clause-but
returns-clause-but g c t but = record {
  sound = returns-clause-sound g c;
  fits = λ u apart. subst (λ (k : View). Fits c.args.self.now.scheduler.running k) (sym (returns-clause-views g c u)) (but.fits u apart);
  runner = but.runner;
  stored = but.stored;
  top = but.top ∙ sym (ap (λ (x : KeptQueues). x.queues.top) (rw c.queues_mut.ensures.value at c.increase.ensures));
}

pub returns-clause-stays : goal.returns-clause-stays
returns-clause-stays g c = stays_seen c.args.self.now.threads _ refl (returns-clause-views g c)
