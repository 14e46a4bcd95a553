-- The slot of a thread in the system.
use Rattle.std.proofs.lemmas.Int.{ints, fits_signed_from_abs}
use Rattle.std.proofs.Common.{ℤ, SFits, w64, arith, ◌≡◌, ◌≢◌, ◌<◌, ℕ, Some, sym, ◌∙◌, ap}
use Rattle.pth_base.specs.Limits.{thread_limit}
use Rattle.pth_base.proofs.Namings.{none_some}
use Rattle.pth_queue.specs.Queues.{IsRank}
use Rattle.pth_threads.specs.Threads.{slot_of, tid_at}
use Rattle.pth_world.specs.World.{ThreadsBySlot}
use Rattle.pth_world.specs.Sound.{IsSound, IsPrio}

pub some_is : {v w : ℕ} → Some v ≡ Some w → v ≡ w
some_is h = cc

-- a base priority is a number of 64 bits
pub prio_fits : (z : ℤ) → IsPrio z → SFits w64 z
prio_fits z h = fits_signed_from_abs w64 z (let low = h.low in let high = h.high in grind (arith, ints))

-- and a rank that a queue takes
pub prio_rank : (z : ℤ) → IsPrio z → IsRank z
prio_rank z h = let low = h.low in let high = h.high in record { low = grind (arith, ints); high = grind (arith, ints) }

module _ {S : Type 0} (w : ThreadsBySlot S) (t u : ℕ) (sound : IsSound w) (e : slot_of w.records t ≡ Some u) where
  pub name_is : tid_at w.records u ≡ t
  name_is = sound.tied.tid t u e

  pub used : tid_at w.records u ≢ 0
  used zero = none_some (sym sound.tied.zero ∙ ap (slot_of w.records) (sym zero ∙ name_is) ∙ e)

  pub low : u < thread_limit
  low = sound.tied.low u used

  -- another slot has another thread
  pub other_slot : (v : ℕ) → tid_at w.records v ≢ t → v ≢ u
  other_slot v apart same = apart (ap (tid_at w.records) same ∙ name_is)

  -- an unused slot is another
  pub not_unused : (v : ℕ) → tid_at w.records v ≡ 0 → v ≢ u
  not_unused v zero same = used (ap (tid_at w.records) (sym same) ∙ zero)
