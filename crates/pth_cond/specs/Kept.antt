-- How barriers are kept.
use Rattle.std.specs.Prelude.{◌≡◌, ℕ, ◌<◌, ◌≤◌, List, map, length, Option}
use Rattle.pth_lock.specs.Objects.{object_limit}
use Rattle.pth_cond.specs.Barriers.{Arrived, Barrier, arrival_limit, arrived_in, BarrierIsSound, BarriersAreSound, barriers_of}
use Rattle.pth_cond.specs.declared.barriers.arrivals.Waiter.{Waiter}

-- what is said of an arrival
abbrev pub arrival_of : Waiter → Arrived
arrival_of e = record { tid = e.tid.0; round = e.round; late = e.late }

-- what is said of arrivals
abbrev pub arrivals_of : List Waiter → List Arrived
arrivals_of es = map arrival_of es

-- what holds of a barrier at every moment, for which so many arrivals of its round are counted and so many have room
pub record BarrierIsKept (counted room : ℕ) (b : Barrier) : Type 0 where
  pub sound : BarrierIsSound b
  pub count : counted ≡ arrived_in b.round b.arrivals
  pub later : (r : ℕ) → b.round < r → arrived_in r b.arrivals ≡ 0
  pub space : arrival_limit ≤ room

-- what holds of the list by number
pub record BarriersAreKept (xs : List (Option Barrier)) : Type 0 where
  pub many : length xs ≡ object_limit
  pub sound : BarriersAreSound (barriers_of xs)
