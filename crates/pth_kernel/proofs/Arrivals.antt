-- What one entry more brings.
use Rattle.std.proofs.Common.{◌≡◌, ℕ, ◌+◌, ◌≤◌, true, false, Bool, ◌||◌, List, [], ◌∷◌, ◌++◌, length, flat_map, filter_map, sum_by, Option, Some, None, option_to_list, refl, sym, ◌∙◌, ap, arith}
use Rattle.std.specs.Option.{option_or}
use Rattle.std.specs.List.{list_any}
use Rattle.std.proofs.lemmas.List.{length-append, append-nil}
use Rattle.std.proofs.lemmas.List.Concat.{flat_map-append}
use Rattle.std.proofs.lemmas.List.Folds.{list_any-append}
use Rattle.std.proofs.lemmas.List.Sums.{sum_by_push}
use Rattle.std.proofs.lemmas.List.Elements.{filter_map-append}
use Rattle.pth_kernel.specs.declared.trace.Entry.{Entry}
use Rattle.pth_kernel.specs.declared.trace.Entry.TheVariants as entry
use Rattle.pth_kernel.specs.declared.arrived.Arrived.{Arrived}
use Rattle.pth_kernel.specs.Entries.{bytes_brought, room_brought, connection_brought, settling_brought, is_eof, is_exception, is_failure}
use Rattle.pth_kernel.specs.Kernel.{earliest, untouched}
use Rattle.pth_kernel.specs.Arrivals.{arrived_of, with_entry}
use Rattle.pth_kernel.specs.Channels.{ChannelOf, IsUsedWithin}

pub within-none : (a : Arrived) (live : Bool) → a ≡ arrived_of [] → IsUsedWithin (record { bytes = []; connections = []; arrived = a; used = untouched live })
unfolding arrived_of
within-none a live e = rw e (record { taken = omega arith; bytes = omega arith; given = omega arith; accepted = omega arith; connections = omega arith })

-- ---- the same in one form for each kind of entry

abbrev with_one : Entry → Arrived → Arrived
with_one e a = record {
  bytes = a.bytes + length (bytes_brought e);
  room = a.room + room_brought e;
  connections = a.connections + length (option_to_list (connection_brought e));
  settled = option_or a.settled (settling_brought e);
  ended = a.ended || is_eof e;
  exceptional = a.exceptional || is_exception e;
  failed = a.failed || is_failure e;
}

add-zero : (n : ℕ) → n + 0 ≡ n
add-zero n = omega arith

or-false : (b : Bool) → (b || false) ≡ b
or-false true = refl
or-false false = refl

or-true : (b : Bool) → (b || true) ≡ true
or-true true = refl
or-true false = refl

or-none : (o : Option Bool) → option_or o None ≡ o
or-none None = refl
or-none (Some b) = refl

one_form : (e : Entry) (a : Arrived) → with_one e a ≡ with_entry e a
one_form (entry.Arrive bytes) a = simp (add-zero, or-false, or-none)
one_form entry.Eof a = simp (add-zero, or-false, or-true, or-none)
one_form (entry.Room n) a = simp (add-zero, or-false, or-none)
one_form (entry.Conn g) a = simp (add-zero, or-false, or-none)
one_form entry.Up a = simp (add-zero, or-false)
one_form entry.Refuse a = simp (add-zero, or-false)
one_form entry.Exc a = simp (add-zero, or-false, or-true, or-none)
one_form entry.Fault a = simp (add-zero, or-false, or-true, or-none)

-- ---- of a list

pub bytes-more : (es : List Entry) (e : Entry) → flat_map bytes_brought (es ++ e ∷ []) ≡ flat_map bytes_brought es ++ bytes_brought e
bytes-more es e = flat_map-append bytes_brought es (e ∷ []) ∙ ap (λ (l : List ℕ). flat_map bytes_brought es ++ l) (append-nil (bytes_brought e))

listed : {A : Type 0} (h : Entry → Option A) (e : Entry) (o : Option A) → h e ≡ o → filter_map h (e ∷ []) ≡ option_to_list o
listed h e (Some x) s = rw s refl
listed h e None s = rw s refl

pub map-more : {A : Type 0} (h : Entry → Option A) (es : List Entry) (e : Entry) → filter_map h (es ++ e ∷ []) ≡ filter_map h es ++ option_to_list (h e)
map-more {A = A} h es e = filter_map-append h es (e ∷ []) ∙ ap (λ (l : List A). filter_map h es ++ l) (listed h e (h e) refl)

first-more : {A : Type 0} (xs : List A) (o : Option A) → earliest (xs ++ option_to_list o) ≡ option_or (earliest xs) o
first-more [] (Some x) = refl
first-more [] None = refl
first-more (x ∷ xs) o = refl

any-more : (is : Entry → Bool) (es : List Entry) (e : Entry) → list_any is (es ++ e ∷ []) ≡ (list_any is es || is e)
any-more is es e = list_any-append is es (e ∷ []) ∙ ap (λ (b : Bool). list_any is es || b) (or-false (is e))

pub arrived-more : (es : List Entry) (e : Entry) → arrived_of (es ++ e ∷ []) ≡ with_entry e (arrived_of es)
unfolding arrived_of
arrived-more es e =
    simp (bytes-more, map-more, length-append, sum_by_push, first-more, any-more) (one_form e (arrived_of es))

-- what is brought before something more is no more than all
pub arrived-part : (es fs : List Entry) → let a = arrived_of es in (a.bytes ≤ length (flat_map bytes_brought (es ++ fs))) × (a.connections ≤ length (filter_map connection_brought (es ++ fs)))
unfolding arrived_of
arrived-part es fs = (
  rw (flat_map-append bytes_brought es fs, length-append (flat_map bytes_brought es) (flat_map bytes_brought fs)) (omega arith),
  rw (filter_map-append connection_brought es fs, length-append (filter_map connection_brought es) (filter_map connection_brought fs)) (omega arith),
)

pub arrived-bytes : (es : List Entry) (e : Entry) → (arrived_of (es ++ e ∷ [])).bytes ≡ (arrived_of es).bytes + length (bytes_brought e)
unfolding arrived_of
arrived-bytes es e = ap length (bytes-more es e) ∙ length-append (flat_map bytes_brought es) (bytes_brought e)

pub arrived-connections : (es : List Entry) (e : Entry) → (arrived_of (es ++ e ∷ [])).connections ≡ (arrived_of es).connections + length (option_to_list (connection_brought e))
unfolding arrived_of
arrived-connections es e = ap length (map-more connection_brought es e) ∙ length-append (filter_map connection_brought es) (option_to_list (connection_brought e))

pub arrived-rooms : (es : List Entry) (e : Entry) → sum_by room_brought (es ++ e ∷ []) ≡ (arrived_of es).room + room_brought e
unfolding arrived_of
arrived-rooms es e = sum_by_push room_brought es e

-- an entry more by its kind is the same in one form
pub more-bytes : (e : Entry) (a : Arrived) → (with_entry e a).bytes ≡ a.bytes + length (bytes_brought e)
more-bytes e a = ap (λ (b : Arrived). b.bytes) (sym (one_form e a))

pub more-room : (e : Entry) (a : Arrived) → (with_entry e a).room ≡ a.room + room_brought e
more-room e a = ap (λ (b : Arrived). b.room) (sym (one_form e a))

pub more-connections : (e : Entry) (a : Arrived) → (with_entry e a).connections ≡ a.connections + length (option_to_list (connection_brought e))
more-connections e a = ap (λ (b : Arrived). b.connections) (sym (one_form e a))

pub within-more : (e : Entry) (x : ChannelOf) → IsUsedWithin x → x.arrived.bytes + length (bytes_brought e) ≤ length x.bytes → x.arrived.connections + length (option_to_list (connection_brought e)) ≤ length x.connections → IsUsedWithin (record x { arrived = with_entry e x.arrived })
within-more e x w bytes connections = record {
  taken = omega (arith, more-bytes e x.arrived, w.taken);
  bytes = omega (arith, more-bytes e x.arrived);
  given = omega (arith, more-room e x.arrived, w.given);
  accepted = omega (arith, more-connections e x.arrived, w.accepted);
  connections = omega (arith, more-connections e x.arrived);
}
