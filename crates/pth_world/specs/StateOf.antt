-- A state that a world shows.
use Rattle.std.specs.Prelude.{List, [], ◌∷◌, None, map, reverse, false}
use Rattle.pth_model.specs.Changes.{blocked_in}
use Rattle.pth_model.specs.Awaits.{is_awaiting}
use Rattle.pth_base.specs.Naming.{seen}
use Rattle.pth_base.specs.Table.{table}
use Rattle.pth_queue.specs.Ranking.{named_row}
use Rattle.pth_queue.specs.Queues.{rows_of}
use Rattle.pth_queue.specs.declared.ranked.Ranked.{Ranked}
use Rattle.pth_threads.specs.Attributes.{object_of}
use Rattle.pth_threads.specs.Threads.{slot_of, tid_at, entry_at}
use Rattle.pth_ring.specs.Arena.{events_of}
use Rattle.pth_cond.specs.Conditions.{conditions_of}
use Rattle.pth_cond.specs.Barriers.{barriers_of}
use Rattle.pth_kernel.specs.Kernel.{kernel_of}
use Rattle.pth_model.specs.Store.{no_resources}
use Rattle.pth_model.specs.Standing.{Standing}
use Rattle.pth_model.specs.Allowance.{Point}
use Rattle.pth_model.specs.State.{State}
use Rattle.pth_world.specs.Store.{store_of}
use Rattle.pth_world.specs.World.{WorldOf}

-- one who stands at a row of a queue that was never raised
abbrev pub standing_at : Ranked → Standing
standing_at r = record { tid = r.holder; rank = r.rank; since = 0; entry = 0; top = false }

-- those who entered in the order of these rows, the latest first
abbrev pub entered_as : List Ranked → List Standing
entered_as rows = reverse (map standing_at rows)

-- a trail of no run: nobody was ready, and nobody was taken
abbrev pub no_trail : List Point
no_trail = record { ready = []; taken = 0; by_name = false } ∷ []

-- the state in which no queue was raised, and those who stand in each entered in its order; whom a call blocks that awaits a
-- condition awaits one
unfoldable pub state_of : {P S H : Type 0} → WorldOf P S H → State P S H
state_of w = record {
  resources = record no_resources {
    store = store_of w.store;
    awaits = λ t. is_awaiting (blocked_in (seen None (slot_of w.threads.records) (table None w.threads.progress) t));
  };
  control = record {
    program = w.program;
    shared = w.shared;
    threads = record {
      made = w.threads.records.made;
      known = seen None (slot_of w.threads.records) (entry_at w.threads.records);
      progress = seen None (slot_of w.threads.records) (table None w.threads.progress);
      standing = λ q. entered_as (map (named_row (tid_at w.threads.records)) (rows_of q w.threads.queues));
      entries = 0;
      raises = 0;
      trail = no_trail;
    };
    attributes = record { made = w.attributes.objects.made; objects = object_of w.attributes };
    events = events_of w.events;
    conditions = conditions_of w.conditions;
    barriers = barriers_of w.barriers;
    kernel = kernel_of w.kernel;
    used = table false w.used;
    scheduler = w.scheduler;
    top = w.threads.queues.top;
  };
}
