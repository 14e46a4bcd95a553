-- A trace of which no stamp breaks a rule.
use Rattle.std.proofs.Common.{◌≡◌, ℕ, ◌+◌, ◌<◌, ◌≤◌, Bool, true, false, if◌then◌else◌, ◌||◌, List, [], ◌∷◌, length, All, Option, Some, None, IfSome, refl, arith}
use Rattle.std.proofs.lemmas.Bool.{or_parts, ltb-false, leb-false}
use Rattle.std.proofs.lemmas.List.Elements.{All-nil, All-cons}
use Rattle.pth_base.specs.Descriptors.{descriptor_limit}
use Rattle.pth_kernel.specs.declared.trace.Entry.{Entry}
use Rattle.pth_kernel.specs.declared.trace.Entry.TheVariants as entry
use Rattle.pth_kernel.specs.declared.trace.Stamp.{Stamp}
use Rattle.pth_kernel.specs.Entries.{room_brought, connection_brought}
use Rattle.pth_kernel.specs.Trace.{stamp_limit, most_room, is_misshapen, is_out_of_range, is_before_last, breaks_fd, is_full_of_stamps, faults, first_fault_below, first_fault}
use Rattle.pth_kernel.specs.Kept.{IsSoundStamp, IsRising, IsSoundTrace}

-- ---- a stamp

room-within : (e : Entry) → is_misshapen e ≡ false → room_brought e ≤ most_room
room-within (entry.Arrive bytes) h = omega arith
room-within entry.Eof h = omega arith
room-within (entry.Room n) h = ltb-false _ _ (or_parts _ _ h).1
room-within (entry.Conn g) h = omega arith
room-within entry.Up h = omega arith
room-within entry.Refuse h = omega arith
room-within entry.Exc h = omega arith
room-within entry.Fault h = omega arith

connection-within : (e : Entry) → is_misshapen e ≡ false → IfSome (connection_brought e) (λ g. g < descriptor_limit)
connection-within (entry.Arrive bytes) h = tt
connection-within entry.Eof h = tt
connection-within (entry.Room n) h = tt
connection-within (entry.Conn g) h = leb-false _ _ h
connection-within entry.Up h = tt
connection-within entry.Refuse h = tt
connection-within entry.Exc h = tt
connection-within entry.Fault h = tt

sound_stamp : (s : Stamp) → is_out_of_range s ≡ false → IsSoundStamp s
sound_stamp s h =
    let p = or_parts _ (is_misshapen s.what) h in
    let q = or_parts _ _ p.0 in
    record { early = ltb-false _ _ q.0; fd = leb-false _ _ q.1; room = room-within s.what p.1; connection = connection-within s.what p.1 }

-- ---- a stamp below others

-- the time of the nearest
abbrev last_time : List Stamp → ℕ
last_time [] = 0
last_time (s ∷ above) = s.at

not_before : (above : List Stamp) (at : ℕ) → is_before_last above at ≡ false → last_time above ≤ at
not_before [] at h = omega arith
not_before (s ∷ above) at h = ltb-false _ _ h

by_first : (b : Bool) (n : ℕ) (o : Option ℕ) → (if b then Some n else o) ≡ None → (b ≡ false) × (o ≡ None)
by_first true n o h = cc
by_first false n o h = (refl, h)

step : (live : ℕ) (above : List Stamp) (s : Stamp) (ss : List Stamp) → first_fault_below live above (s ∷ ss) ≡ None → (faults live above s ≡ false) × (first_fault_below live (s ∷ above) ss ≡ None)
unfolding first_fault_below
step live above s ss h = by_first (faults live above s) (length above) (first_fault_below live (s ∷ above) ss) h

-- ---- all stamps

rising : (live : ℕ) (above ss : List Stamp) → first_fault_below live above ss ≡ None → IsRising (last_time above) ss
rising live above [] h = tt
rising live above (s ∷ ss) h =
    let p = step live above s ss h in
    let q = or_parts (is_out_of_range s || is_before_last above s.at) (breaks_fd live above s) (or_parts _ (is_full_of_stamps above) p.0).0 in
    (not_before above s.at (or_parts (is_out_of_range s) (is_before_last above s.at) q.0).1, rising live (s ∷ above) ss p.1)

each : (live : ℕ) (above ss : List Stamp) → first_fault_below live above ss ≡ None → All IsSoundStamp ss
each live above [] h = All-nil IsSoundStamp
each live above (s ∷ ss) h =
    let p = step live above s ss h in
    let q = or_parts (is_out_of_range s || is_before_last above s.at) (breaks_fd live above s) (or_parts _ (is_full_of_stamps above) p.0).0 in
    All-cons IsSoundStamp s ss (sound_stamp s (or_parts (is_out_of_range s) (is_before_last above s.at) q.0).0) (each live (s ∷ above) ss p.1)

few : (live : ℕ) (above ss : List Stamp) → first_fault_below live above ss ≡ None → length above ≤ stamp_limit → length above + length ss ≤ stamp_limit
few live above [] h low = omega arith
few live above (s ∷ ss) h low =
    let p = step live above s ss h in
    let room : length above < stamp_limit = leb-false _ _ (or_parts _ (is_full_of_stamps above) p.0).1 in
    let rest : length (s ∷ above) + length ss ≤ stamp_limit = few live (s ∷ above) ss p.1 (omega arith) in
    omega arith

pub sound : (live : ℕ) (ss : List Stamp) → first_fault live ss ≡ None → IsSoundTrace ss
sound live ss h = record { few = let f = few live [] ss h (omega arith) in omega arith; rising = rising live [] ss h; each = each live [] ss h }
