-- Where threads stand in the queues of a state.
use Rattle.std.specs.Prelude.{ℕ, ℤ, Option, option_map}
use Rattle.std.specs.Option.{option_or}
use Rattle.pth_queue.specs.declared.queue.Queue.{Queue}
use Rattle.pth_queue.specs.declared.queue.Queue.TheVariants.{New, Ready, Waiting, Suspended, Dead}
use Rattle.pth_queue.specs.Ranking.{place_in}
use Rattle.pth_model.specs.State.{Control, queue}

-- a place in this queue
abbrev pub in_queue : Queue → Option (ℤ × ℕ) → Option (Queue × ℤ × ℕ)
in_queue q = option_map (λ p. (q, p.0, p.1))

-- the first queue for which there is a place
abbrev pub first_placed : (Queue → Option (ℤ × ℕ)) → Option (Queue × ℤ × ℕ)
first_placed f =
    option_or (in_queue New (f New))
    (option_or (in_queue Ready (f Ready))
    (option_or (in_queue Waiting (f Waiting))
    (option_or (in_queue Suspended (f Suspended)) (in_queue Dead (f Dead)))))

-- the queue in which a thread stands, its rank there, and how many stand before it
abbrev pub place : {P S H : Type 0} → Control P S H → ℕ → Option (Queue × ℤ × ℕ)
place k t = first_placed (λ q. place_in t (queue k q))
