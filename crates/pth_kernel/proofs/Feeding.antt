-- One stamp more is kept, or has come.
use Rattle.std.proofs.Common.{◌≡◌, ◌≢◌, ℕ, ◌==◌, ◌+◌, ◌*◌, ◌<◌, ◌≤◌, Bool, true, false, cond, List, [], ◌∷◌, ◌++◌, length, get_or, set, take, map, filter, sum_by, All, option_to_list, inl, inr, refl, sym, ◌∙◌, ap, subst, arith, get_or-set_same, get_or-set_other, length-set}
use Rattle.std.proofs.lemmas.Bool.{cases_eq}
use Rattle.std.proofs.lemmas.List.{length-take, map-set, set-get_or, get_or-map}
use Rattle.std.proofs.lemmas.List.Elements.{All-head, All-tail, All-take}
use Rattle.std.proofs.lemmas.List.Sums.{sum_by-cons}
use Rattle.pth_base.specs.Descriptors.{contains, descriptor_limit}
use Rattle.pth_base.proofs.Tables.{same_self, not_same}
use Rattle.pth_kernel.specs.declared.trace.Entry.{Entry}
use Rattle.pth_kernel.specs.declared.trace.Stamp.{Stamp}
use Rattle.pth_kernel.specs.Entries.{bytes_brought, room_brought, connection_brought}
use Rattle.pth_kernel.specs.Trace.{stamp_limit, most_room}
use Rattle.pth_kernel.specs.Kernel.{Descriptor}
use Rattle.pth_kernel.specs.Arrivals.{with_entry}
use Rattle.pth_kernel.specs.Channels.{ChannelOf, gathered, counted, unfed}
use Rattle.pth_kernel.specs.Kept.{IsSoundStamp, entries, IsFed, AreFed}
use Rattle.pth_kernel.proofs.Arrivals.{bytes-more, map-more, arrived-more, arrived-part, arrived-bytes, arrived-connections, arrived-rooms}
use Rattle.pth_kernel.proofs.Coming.{entries-none, entries-here, entries-other, entries-rest, rest_of}

-- ---- a descriptor

fed-gather : (all : List Entry) (e : Entry) (x : ChannelOf) → IsFed all [] x → IsFed (all ++ e ∷ []) [] (gathered e x)
fed-gather all e x fed = record {
  bytes = ap (λ (l : List ℕ). l ++ bytes_brought e) fed.bytes ∙ sym (bytes-more all e);
  connections = ap (λ (l : List ℕ). l ++ option_to_list (connection_brought e)) fed.connections ∙ sym (map-more connection_brought all e);
  arrived = fed.arrived;
}

fed-count : (all some : List Entry) (e : Entry) (x : ChannelOf) → IsFed all some x → IsFed all (some ++ e ∷ []) (counted e x)
fed-count all some e x fed = record { bytes = fed.bytes; connections = fed.connections; arrived = ap (with_entry e) fed.arrived ∙ sym (arrived-more some e) }

-- ---- how much room comes

rooms : (f : ℕ) (ss : List Stamp) → All IsSoundStamp ss → sum_by room_brought (map (λ (s : Stamp). s.what) (filter (λ (s : Stamp). s.fd.0 == f) ss)) ≤ length ss * most_room
rooms f [] all = omega arith
rooms f (s ∷ ss) all =
    let one = (All-head IsSoundStamp s ss all).room in
    let rest = rooms f ss (All-tail IsSoundStamp s ss all) in
    by_first (s.fd.0 == f) one rest
  where
    by_first : (b : Bool) → room_brought s.what ≤ most_room → sum_by room_brought (map (λ (t : Stamp). t.what) (filter (λ (t : Stamp). t.fd.0 == f) ss)) ≤ length ss * most_room → sum_by room_brought (map (λ (t : Stamp). t.what) (cond b (s ∷ filter (λ (t : Stamp). t.fd.0 == f) ss) (filter (λ (t : Stamp). t.fd.0 == f) ss))) ≤ length (s ∷ ss) * most_room
    by_first true one rest = rw (sum_by-cons room_brought s.what (map (λ (t : Stamp). t.what) (filter (λ (t : Stamp). t.fd.0 == f) ss))) (omega arith)
    by_first false one rest = omega arith

room-few : (f n : ℕ) (ss : List Stamp) → All IsSoundStamp ss → sum_by room_brought (entries f n ss) ≤ length ss * most_room
unfolding entries
room-few f n ss all =
    let part = rooms f (take n ss) (All-take IsSoundStamp n ss all) in
    let short : length (take n ss) ≤ length ss = omega (arith, length-take n ss) in
    omega arith

-- ---- all of them

module _ (ss : List Stamp) (a b c d : ℕ) (xs : List ChannelOf) (i : ℕ) (y : ChannelOf) (low : i < length xs) (fed : AreFed ss a b xs) (here : IsFed (entries i c ss) (entries i d ss) y) (others : (f : ℕ) → f ≢ i → (entries f c ss ≡ entries f a ss) × (entries f d ss ≡ entries f b ss)) where
  at : (f : ℕ) (z : ChannelOf) → f < length xs → IsFed (entries f c ss) (entries f d ss) (get_or (set xs i y) f z)
  at f z h = elim (cases_eq f i) [
    | inl k ↦ subst (λ (g : ℕ). IsFed (entries g c ss) (entries g d ss) (get_or (set xs i y) g z)) (sym k) (subst (IsFed (entries i c ss) (entries i d ss)) (sym (get_or-set_same xs i y z low)) here)
    | inr n ↦ subst (IsFed (entries f c ss) (entries f d ss)) (sym (get_or-set_other xs i f y z n)) (let o = others f n in rw (o.0, o.1) (fed f z h))
  ]

  pub fed-set : AreFed ss c d (set xs i y)
  fed-set f z h = at f z (subst (λ (n : ℕ). f < n) (length-set xs i y) h)

-- the same uses after one of them was set
pub same_uses : (xs : List ChannelOf) (i : ℕ) (x y : ChannelOf) → i < length xs → x ≡ get_or xs i x → y.used ≡ x.used → map (λ (z : ChannelOf). z.used) (set xs i y) ≡ map (λ (z : ChannelOf). z.used) xs
same_uses xs i x y low is same =
    let used : ChannelOf → Descriptor = λ z. z.used in
    map-set used xs i y
    ∙ ap (set (map used xs) i) (same ∙ ap used is ∙ sym (get_or-map used xs i x x.used low))
    ∙ set-get_or (map used xs) i x.used

module _ (ss : List Stamp) (n : ℕ) (xs : List ChannelOf) (s : Stamp) (x : ChannelOf) (in' : n < length ss) (at : s ≡ get_or ss n s) (low : s.fd.0 < length xs) (is : x ≡ get_or xs s.fd.0 x) where
  apart : (f : ℕ) → f ≢ s.fd.0 → entries f (n + 1) ss ≡ entries f n ss
  apart f h = entries-other f n ss s in' at (not_same s.fd.0 f (λ k. h (sym k)))

  more : entries s.fd.0 (n + 1) ss ≡ entries s.fd.0 n ss ++ s.what ∷ []
  more = entries-here s.fd.0 n ss s in' at (same_self s.fd.0)

  fed_here : (a b : ℕ) → AreFed ss a b xs → IsFed (entries s.fd.0 a ss) (entries s.fd.0 b ss) x
  fed_here a b fed = subst (IsFed (entries s.fd.0 a ss) (entries s.fd.0 b ss)) (sym is) (fed s.fd.0 x low)

  pub gather-more : AreFed ss n 0 xs → AreFed ss (n + 1) 0 (set xs s.fd.0 (gathered s.what x))
  gather-more fed =
      let none : entries s.fd.0 0 ss ≡ [] = entries-none s.fd.0 ss in
      let was : IsFed (entries s.fd.0 n ss) [] x = subst (λ (l : List Entry). IsFed (entries s.fd.0 n ss) l x) none (fed_here n 0 fed) in
      let now : IsFed (entries s.fd.0 (n + 1) ss) (entries s.fd.0 0 ss) (gathered s.what x) = rw (more, none) (fed-gather (entries s.fd.0 n ss) s.what x was) in
      fed-set ss n 0 (n + 1) 0 xs s.fd.0 (gathered s.what x) low fed now (λ f h. (apart f h, refl))

  pub count-more : AreFed ss (length ss) n xs → AreFed ss (length ss) (n + 1) (set xs s.fd.0 (counted s.what x))
  count-more fed =
      let now : IsFed (entries s.fd.0 (length ss) ss) (entries s.fd.0 (n + 1) ss) (counted s.what x) = rw more (fed-count (entries s.fd.0 (length ss) ss) (entries s.fd.0 n ss) s.what x (fed_here (length ss) n fed)) in
      fed-set ss (length ss) n (length ss) (n + 1) xs s.fd.0 (counted s.what x) low fed now (λ f h. (refl, apart f h))

  -- no more comes than there is
  pub bytes-within : AreFed ss (length ss) n xs → x.arrived.bytes + length (bytes_brought s.what) ≤ length x.bytes
  bytes-within fed =
      let h = fed_here (length ss) n fed in
      let p = (arrived-part (entries s.fd.0 (n + 1) ss) (rest_of s.fd.0 (n + 1) ss)).0 in
      let q = arrived-bytes (entries s.fd.0 n ss) s.what in
      rw (h.bytes, h.arrived, entries-rest s.fd.0 (n + 1) ss, ← q, ← more) p

  pub connections-within : AreFed ss (length ss) n xs → x.arrived.connections + length (option_to_list (connection_brought s.what)) ≤ length x.connections
  connections-within fed =
      let h = fed_here (length ss) n fed in
      let p = (arrived-part (entries s.fd.0 (n + 1) ss) (rest_of s.fd.0 (n + 1) ss)).1 in
      let q = arrived-connections (entries s.fd.0 n ss) s.what in
      rw (h.connections, h.arrived, entries-rest s.fd.0 (n + 1) ss, ← q, ← more) p

  pub room-within : All IsSoundStamp ss → length ss ≤ stamp_limit → AreFed ss (length ss) n xs → x.arrived.room + room_brought s.what ≤ 18446744073709551615
  room-within all few fed =
      let h = fed_here (length ss) n fed in
      let p = room-few s.fd.0 (n + 1) ss all in
      let q = arrived-rooms (entries s.fd.0 n ss) s.what in
      let r : sum_by room_brought (entries s.fd.0 n ss ++ s.what ∷ []) ≤ length ss * most_room = rw more at p in
      rw (h.arrived, ← q) (omega arith)

pub fd-low : (ss : List Stamp) (n m : ℕ) (s : Stamp) → All IsSoundStamp ss → n < length ss → s ≡ get_or ss n s → m ≡ descriptor_limit → s.fd.0 < m
fd-low ss n m s all in' at many = let h = (all n s in').fd in let low : s.fd.0 < descriptor_limit = subst (λ (t : Stamp). t.fd.0 < descriptor_limit) (sym at) h in omega arith

-- ---- none

pub fed-none : (ss : List Stamp) (live : ℕ) (xs : List ChannelOf) → ((f : ℕ) (d : ChannelOf) → f < length xs → get_or xs f d ≡ unfed (contains live f)) → AreFed ss 0 0 xs
fed-none ss live xs all f d h =
    rw (entries-none f ss) (subst (IsFed [] []) (sym (all f d h)) (record { bytes = refl; connections = refl; arrived = refl }))
