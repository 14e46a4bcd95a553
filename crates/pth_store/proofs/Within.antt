-- No stack has more handlers than it may have, whatever was called.
use Rattle.std.proofs.Common.{◌≡◌, ℕ, ◌≤◌, false, List, [], ◌∷◌, length, arith}
use Rattle.std.proofs.lemmas.Bool.Decides.{nat_tests}
use Rattle.pth_base.specs.Table.{put}
use Rattle.pth_base.proofs.Tables.{put_by}
use Rattle.pth_store.specs.Cleanups.{PushedHandler, Stacks, cleanup_limit, is_full_stack, AreWithinLimit, no_cleanups, without_top, with_top, top_taken, emptied}

abbrev Fits : List PushedHandler → Type 0
Fits cs = length cs ≤ cleanup_limit

within_put : (x : Stacks) (s : ℕ) (cs : List PushedHandler) → AreWithinLimit x → Fits cs → AreWithinLimit (put x s cs)
within_put x s cs within fits = λ i. put_by Fits x s cs i (λ here. fits) (λ apart. within i)

room : (cs : List PushedHandler) (c : PushedHandler) → is_full_stack cs ≡ false → Fits cs → Fits (c ∷ cs)
room cs c more fits = grind (arith, nat_tests)

without_top_fits : (cs : List PushedHandler) → Fits cs → Fits (without_top cs)
without_top_fits [] fits = fits
without_top_fits (c ∷ cs) fits = omega arith

pub within_is : {x y : Stacks} → y ≡ x → AreWithinLimit x → AreWithinLimit y
within_is is within = rw is within

pub within_none : AreWithinLimit no_cleanups
within_none s = omega arith

pub within_pushed : (x : Stacks) (s : ℕ) (c : PushedHandler) → AreWithinLimit x → is_full_stack (x s) ≡ false → AreWithinLimit (with_top s c x)
within_pushed x s c within more = within_put x s (c ∷ x s) within (room (x s) c more (within s))

pub within_popped : (x : Stacks) (s : ℕ) → AreWithinLimit x → AreWithinLimit (top_taken s x)
within_popped x s within = within_put x s (without_top (x s)) within (without_top_fits (x s) (within s))

pub within_emptied : (x : Stacks) (s : ℕ) → AreWithinLimit x → AreWithinLimit (emptied s x)
within_emptied x s within = within_put x s [] within (omega arith)
