-- The bound of the ready queue's ranks, through the parts of a turn.
use Rattle.std.proofs.Common.{◌≡◌, ℕ, ◌+◌, ◌^◌, ◌<◌, ◌≤◌, pos, ◌≤ℤ◌, List, [], ◌∷◌, map, length, Option, Some, None, refl, sym, ◌∙◌, ap, subst, arith}
use Rattle.std.proofs.lemmas.Int.{ints}
use Rattle.std.proofs.lemmas.List.Elements.{All-head, All-nil, All-cons}
use Rattle.pth_base.specs.Limits.{most_steps}
use Rattle.pth_base.specs.Program.{Functions}
use Rattle.pth_queue.specs.declared.ranked.Ranked.{Ranked}
use Rattle.pth_queue.specs.declared.queue.Queue.TheVariants as queues
use Rattle.pth_queue.specs.Ranking.{named_row}
use Rattle.pth_queue.specs.Queues.{QueuesOf, CanRise}
use Rattle.pth_threads.specs.Threads.{tid_at}
use Rattle.pth_model.specs.Standing.{shown, order, put_behind}
use Rattle.pth_model.specs.State.{Given, Turn, start, no_turn}
use Rattle.pth_world.specs.World.{WorldOf}
use Rattle.pth_world.specs.Shows.{StandsFor}
use Rattle.pth_world.specs.Ranks.{IsUnder, greatest_return, KeepsRanks}
use Rattle.pth_sched.specs.MachineOf.{MachineOf, IsGoing, HasUpperBound, open_by}

open_most : (g r : Option ℕ) → open_by g r ≤ 1
open_most None None = omega arith
open_most None (Some t) = omega arith
open_most (Some u) r = omega arith

open_runs : (g : Option ℕ) (t : ℕ) → open_by g (Some t) ≡ 1
open_runs None t = refl
open_runs (Some u) t = refl

-- every rank below 2^40 may rise
pub can_rise : (bound : ℕ) (rows : List Ranked) → bound < 2 ^ 40 → IsUnder bound rows → CanRise rows
can_rise bound [] low under = tt
can_rise bound (x ∷ xs) low under =
    let first : x.rank ≤ℤ pos bound = All-head (λ (r : Ranked). r.rank ≤ℤ pos bound) x xs under in
    grind (arith, ints)

module _ {P S H : Type 0} (m : MachineOf P S H) where
  -- the bound is far below the greatest rank
  pub bound_low : IsGoing m → (r : HasUpperBound m) → m.turn.steps ≤ most_steps → r.bound + length m.world.threads.queues.new < 2 ^ 40
  bound_low going r few =
      let a = r.few in
      let c = going.turns in
      let n : r.bound + length m.world.threads.queues.new ≤ 2000000023 = omega arith in
      let top : 2000000023 < 2 ^ 40 = omega arith in
      omega arith

  -- so every ready thread may rise
  pub ready_rises : IsGoing m → HasUpperBound m → m.turn.steps ≤ most_steps → CanRise m.world.threads.queues.ready
  ready_rises going r few = can_rise r.bound m.world.threads.queues.ready (let low = bound_low going r few in omega arith) r.under

module _ {P S H : Type 0} (m v : MachineOf P S H) where
  -- a step, and what its call leads to
  pub step_bounded : (t : ℕ) (w : WorldOf P S H) → HasUpperBound m → m.world.scheduler.running ≡ Some t → KeepsRanks 1 m.world.threads w.threads → v.world.threads.queues ≡ w.threads.queues → v.turn.turns ≡ m.turn.turns → v.turn.steps ≡ m.turn.steps + 1 → HasUpperBound v
  step_bounded t w r runs keeps queues turns steps = record {
    bound = r.bound;
    low = r.low;
    under = subst (λ (x : QueuesOf). IsUnder r.bound x.ready) (sym queues) (keeps.under r.bound r.low r.under);
    few =
        let a = r.few in
        let b = keeps.fresh in
        let c = open_most v.turn.gave v.world.scheduler.running in
        let d : open_by m.turn.gave m.world.scheduler.running ≡ 1 = ap (open_by m.turn.gave) runs ∙ open_runs m.turn.gave t in
        let n : length v.world.threads.queues.new ≡ length w.threads.queues.new = ap (λ (x : QueuesOf). length x.new) queues in
        omega arith;
  }

  -- new threads become ready, and one is dispatched
  pub take_bounded : (w : WorldOf P S H) (r : HasUpperBound m) → m.turn.gave ≡ None → m.world.scheduler.running ≡ None → IsUnder (r.bound + length m.world.threads.queues.new) w.threads.queues.ready → w.threads.queues.new ≡ []
      → KeepsRanks 0 w.threads v.world.threads → v.turn.turns ≡ m.turn.turns + 1 → v.turn.steps ≡ m.turn.steps → HasUpperBound v
  take_bounded w r gave nobody under none keeps turns steps = record {
    bound = r.bound + length m.world.threads.queues.new;
    low = (let l = r.low in omega arith);
    under = keeps.under (r.bound + length m.world.threads.queues.new) (let l = r.low in omega arith) under;
    few =
        let a = r.few in
        let b = keeps.fresh in
        let c = open_most v.turn.gave v.world.scheduler.running in
        let n : length w.threads.queues.new ≡ 0 = ap (λ (rows : List Ranked). length rows) none in
        omega arith;
  }

  -- a turn is over
  pub close_bounded : (t : ℕ) (w : WorldOf P S H) → HasUpperBound m → m.turn.gave ≡ Some t → v.turn.gave ≡ None → v.world.scheduler.running ≡ None
      → ((bound : ℕ) → greatest_return ≤ bound → IsUnder bound m.world.threads.queues.ready → IsUnder (bound + 1) w.threads.queues.ready) → length w.threads.queues.new ≤ length m.world.threads.queues.new
      → KeepsRanks 0 w.threads v.world.threads → v.turn.turns ≡ m.turn.turns → v.turn.steps ≡ m.turn.steps → HasUpperBound v
  close_bounded t w r over gave nobody rises fewer keeps turns steps = record {
    bound = r.bound + 1;
    low = (let l = r.low in omega arith);
    under = keeps.under (r.bound + 1) (let l = r.low in omega arith) (rises r.bound r.low r.under);
    few =
        let a = r.few in
        let c = keeps.fresh in
        let d : open_by m.turn.gave m.world.scheduler.running ≡ 1 = ap (λ (g : Option ℕ). open_by g m.world.scheduler.running) over in
        let e : open_by v.turn.gave v.world.scheduler.running ≡ 0 = ap (λ (g : Option ℕ). open_by g v.world.scheduler.running) gave ∙ ap (open_by None) nobody in
        omega arith;
  }

  -- what is made leaves the turn, and who runs
  pub still_bounded : HasUpperBound m → KeepsRanks 0 m.world.threads v.world.threads → v.world.scheduler.running ≡ m.world.scheduler.running → v.turn ≡ m.turn → HasUpperBound v
  still_bounded r keeps running turn = record {
    bound = r.bound;
    low = r.low;
    under = keeps.under r.bound r.low r.under;
    few =
        let a = r.few in
        let b = keeps.fresh in
        let turns = ap (λ (x : Turn). x.turns) turn in
        let steps = ap (λ (x : Turn). x.steps) turn in
        let open_still : open_by v.turn.gave v.world.scheduler.running ≡ open_by m.turn.gave m.world.scheduler.running = ap (λ (x : Turn). open_by x.gave v.world.scheduler.running) turn ∙ ap (open_by m.turn.gave) running in
        omega arith;
  }

-- one row, at rank 0
one_under : (f : ℕ → ℕ) (rows : List Ranked) (x : Ranked) → x.rank ≡ pos 0 → map (named_row f) rows ≡ x ∷ [] → IsUnder greatest_return rows
one_under f [] x zero is = absurd (cc is)
one_under f (y ∷ []) x zero is =
    let same : y.rank ≡ x.rank = cc in
    All-cons (λ (r : Ranked). r.rank ≤ℤ pos greatest_return) y [] (grind (arith, ints)) (All-nil (λ (r : Ranked). r.rank ≤ℤ pos greatest_return))
one_under f (y ∷ z ∷ rows) x zero is = absurd (cc is)

no_rows : (f : ℕ → ℕ) (rows : List Ranked) → map (named_row f) rows ≡ [] → rows ≡ []
no_rows f [] is = refl
no_rows f (y ∷ rows) is = absurd (cc is)

-- main alone is ready, at rank 0
pub start_bounded : {P S H : Type 0} (f : P → Functions S H) (w : WorldOf P S H) (given : Given P) → StandsFor w (start f given) → w.scheduler.running ≡ None → HasUpperBound (record { world = w; turn = no_turn })
unfolding start shown order put_behind
start_bounded f w given st nobody = record {
  bound = greatest_return;
  low = omega arith;
  under = one_under (tid_at w.threads.records) w.threads.queues.ready (record { rank = pos 0; holder = 1 }) refl (sym (st.control.threads.standing queues.Ready));
  few =
      let none : w.threads.queues.new ≡ [] = no_rows (tid_at w.threads.records) w.threads.queues.new (sym (st.control.threads.standing queues.New)) in
      let n : length w.threads.queues.new ≡ 0 = ap (λ (rows : List Ranked). length rows) none in
      let e : open_by None w.scheduler.running ≡ 0 = ap (open_by None) nobody in
      omega arith;
}
