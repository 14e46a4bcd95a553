-- A thread's place is that of its slot.
use Rattle.std.proofs.Common.{◌≡◌, ℕ, ◌==◌, Bool, true, false, ◌||◌, if◌then◌else◌, ℤ, List, [], ◌∷◌, map, Option, Some, None, option_map, option_and_then, is_some, refl, sym, ◌∙◌, ap}
use mathlib.Core.Path.{fun_ext}
use Rattle.std.specs.Option.{option_or}
use Rattle.pth_base.specs.Naming.{IsTied}
use Rattle.pth_base.proofs.Namings.{none_some}
use Rattle.pth_base.proofs.Tables.{not_same}
use Rattle.pth_queue.specs.declared.queue.Queue.{Queue}
use Rattle.pth_queue.specs.declared.queue.Queue.TheVariants.{New, Ready, Waiting, Suspended, Dead}
use Rattle.pth_queue.specs.declared.ranked.Ranked.{Ranked}
use Rattle.pth_queue.specs.Queues.{QueuesOf, place_of, rows_of}
use Rattle.pth_queue.specs.Ranking.{holds, is_of, place_in, named_row, IsQueued}
use Rattle.pth_queue.proofs.Names.{place_named}
use Rattle.pth_threads.specs.Threads.{slot_of, tid_at}
use Rattle.pth_model.specs.State.{Control}
use Rattle.pth_world.specs.World.{ThreadsBySlot}
use Rattle.pth_world.specs.Shows.{ShowsThreads}
use Rattle.pth_world.specs.Sound.{IsSound}
use Rattle.pth_world.specs.Placed.{in_queue, first_placed, place}

-- a slot stands in a queue exactly if it has a place there
held_by : (at : ℤ × ℕ) (b h : Bool) (o : Option (ℤ × ℕ)) (f : ℤ × ℕ → ℤ × ℕ) → h ≡ is_some o → (b || h) ≡ is_some (if b then Some at else option_map f o)
held_by at true h o f e = refl
held_by at false h None f e = e
held_by at false h (Some p) f e = e

holds-place : (s : ℕ) (xs : List Ranked) → holds s xs ≡ is_some (place_in s xs)
holds-place s [] = refl
holds-place s (x ∷ xs) = held_by (x.rank, 0) (is_of s x) (holds s xs) (place_in s xs) _ (holds-place s xs)

abbrev placed : (Queue → Option (ℤ × ℕ)) → Option Queue → Option (Queue × ℤ × ℕ)
placed f = option_and_then (λ q. in_queue q (f q))

-- the first of the queues that holds it
next : (f : Queue → Option (ℤ × ℕ)) (q : Queue) (b : Bool) (o : Option (ℤ × ℕ)) (rest : Option Queue) (r : Option (Queue × ℤ × ℕ)) → f q ≡ o → b ≡ is_some o → placed f rest ≡ r →
    placed f (if b then Some q else rest) ≡ option_or (in_queue q o) r
next f q true (Some p) rest r e h later = rw e refl
next f q false None rest r e h later = later
next f q true None rest r e h later = cc
next f q false (Some p) rest r e h later = cc

or_none : {A : Type 0} (o : Option A) → option_or o None ≡ o
or_none None = refl
or_none (Some x) = refl

pub place_of-first : (s : ℕ) (x : QueuesOf) → place_of s x ≡ first_placed (λ q. place_in s (rows_of q x))
place_of-first s x =
    let f : Queue → Option (ℤ × ℕ) = λ q. place_in s (rows_of q x) in
    next f New _ _ _ _ refl (holds-place s x.new)
    (next f Ready _ _ _ _ refl (holds-place s x.ready)
    (next f Waiting _ _ _ _ refl (holds-place s x.waiting)
    (next f Suspended _ _ _ _ refl (holds-place s x.suspended)
    (next f Dead _ _ None None refl (holds-place s x.dead) refl ∙ or_none (in_queue Dead (f Dead))))))

-- who is not in the system has no place
unknown_by : (at : ℤ × ℕ) (b : Bool) (o : Option (ℤ × ℕ)) (f : ℤ × ℕ → ℤ × ℕ) → b ≡ false → o ≡ None → (if b then Some at else option_map f o) ≡ None
unknown_by at b o f other none = rw (other, none) refl

place_unknown : (g : ℕ → Option ℕ) (f : ℕ → ℕ) (t : ℕ) (xs : List Ranked) → IsTied g f → g t ≡ None → IsQueued f xs → place_in t (map (named_row f) xs) ≡ None
place_unknown g f t [] tied none q = refl
place_unknown g f t (x ∷ xs) tied none q =
    unknown_by (x.rank, 0) (f x.holder == t) _ _ (not_same (f x.holder) t (λ same. none_some (sym none ∙ ap g (sym same) ∙ tied.slot x.holder q.0)))
    (place_unknown g f t xs tied none q.1)

module _ {P S H : Type 0} (w : ThreadsBySlot S) (k : Control P S H) (sound : IsSound w) (sh : ShowsThreads k.top w k.threads) (t : ℕ) where
  pub place_is : (u : ℕ) → slot_of w.records t ≡ Some u → place_of u w.queues ≡ place k t
  place_is u e =
      place_of-first u w.queues
      ∙ ap first_placed (fun_ext (λ q. sym (ap (place_in t) (sh.standing q) ∙ place_named (slot_of w.records) (tid_at w.records) t u (rows_of q w.queues) sound.tied e (sound.queued q))))

  pub no_place : slot_of w.records t ≡ None → None ≡ place k t
  no_place e =
      ap first_placed (fun_ext (λ q. sym (ap (place_in t) (sh.standing q) ∙ place_unknown (slot_of w.records) (tid_at w.records) t (rows_of q w.queues) sound.tied e (sound.queued q))))
