-- What the fields of a kernel show of its descriptors, and what a change of one of them is to the kernel.
use Rattle.std.proofs.Common.{◌≡◌, ◌≢◌, ℕ, ◌==◌, ◌<◌, ◌≤◌, Bool, false, cond, List, [], ◌∷◌, ◌++◌, length, get_or, set, take, drop, map, filter, filter_map, flat_map, All, Some, None, refl, sym, ◌∙◌, ap, ap₂, subst, arith, length-set}
use Rattle.std.proofs.lemmas.Bool.{ne_eqb}
use Rattle.std.proofs.lemmas.List.{length-map, map-set, get_or-map, get_or_past, take_at}
use Rattle.std.proofs.lemmas.List.Concat.{flat_map-append}
use Rattle.std.proofs.lemmas.List.Elements.{filter_map-append, All-head, All-tail, All-take}
use Rattle.std.specs.Prelude.{slice_get}
use Rattle.std.proofs.lemmas.Option.{slice_get-get_or, slice_get_past}
use Rattle.pth_base.specs.Descriptors.{descriptor_limit}
use Rattle.pth_base.specs.Table.{put, table}
use Rattle.pth_base.proofs.Lists.{table_set}
use Rattle.pth_kernel.specs.declared.trace.Entry.{Entry}
use Rattle.pth_kernel.specs.declared.trace.Stamp.{Stamp}
use Rattle.pth_kernel.specs.declared.arrived.Arrived.{Arrived}
use Rattle.pth_kernel.specs.Entries.{bytes_brought, connection_brought}
use Rattle.pth_kernel.specs.Kernel.{next_time, Descriptor, Kernel, KernelOf, kernel_of, untouched, came_to, unread, connections, with_descriptor}
use Rattle.pth_kernel.specs.Arrivals.{arrived_of}
use Rattle.pth_kernel.specs.Channels.{ChannelOf, using}
use Rattle.pth_kernel.specs.Kept.{IsSoundStamp, entries, IsFed, IsKeptBeside, IsChannelOf, IsUnknown}
use Rattle.pth_kernel.proofs.Coming.{least-next, came-first, entries-rest, rest_of}
use Rattle.pth_kernel.proofs.Feeding.{fed-set}

-- ---- what has come is the first part of all

come-bytes : (all some rest : List Entry) (x : ChannelOf) → IsFed all some x → all ≡ some ++ rest → take x.arrived.bytes x.bytes ≡ flat_map bytes_brought some
unfolding arrived_of
come-bytes all some rest x fed is =
    let long : x.arrived.bytes ≡ length (flat_map bytes_brought some) = ap (λ (a : Arrived). a.bytes) fed.arrived in
    let whole : x.bytes ≡ flat_map bytes_brought some ++ flat_map bytes_brought rest = fed.bytes ∙ ap (flat_map bytes_brought) is ∙ flat_map-append bytes_brought some rest in
    rw whole (take_at (flat_map bytes_brought some) (flat_map bytes_brought rest) x.arrived.bytes (sym long))

come-connections : (all some rest : List Entry) (x : ChannelOf) → IsFed all some x → all ≡ some ++ rest → take x.arrived.connections x.connections ≡ filter_map connection_brought some
unfolding arrived_of
come-connections all some rest x fed is =
    let long : x.arrived.connections ≡ length (filter_map connection_brought some) = ap (λ (a : Arrived). a.connections) fed.arrived in
    let whole : x.connections ≡ filter_map connection_brought some ++ filter_map connection_brought rest = fed.connections ∙ ap (filter_map connection_brought) is ∙ filter_map-append connection_brought some rest in
    rw whole (take_at (filter_map connection_brought some) (filter_map connection_brought rest) x.arrived.connections (sym long))

-- ---- no stamp is for a descriptor past the last

filter-past : (f : ℕ) (ss : List Stamp) → All IsSoundStamp ss → descriptor_limit ≤ f → filter (λ (s : Stamp). s.fd.0 == f) ss ≡ []
filter-past f [] all high = refl
filter-past f (s ∷ ss) all high =
    let low = (All-head IsSoundStamp s ss all).fd in
    let apart : s.fd.0 ≢ f = λ same. omega arith in
    ap (λ (b : Bool). cond b (s ∷ filter (λ (t : Stamp). t.fd.0 == f) ss) (filter (λ (t : Stamp). t.fd.0 == f) ss)) (ne_eqb s.fd.0 f apart) ∙ filter-past f ss (All-tail IsSoundStamp s ss all) high

entries-past : (f n : ℕ) (ss : List Stamp) → All IsSoundStamp ss → descriptor_limit ≤ f → entries f n ss ≡ []
unfolding entries
entries-past f n ss all high = ap (map (λ (s : Stamp). s.what)) (filter-past f (take n ss) (All-take IsSoundStamp n ss all) high)

-- ---- the fields of a kernel

abbrev pub uses_of : List ChannelOf → List Descriptor
uses_of xs = map (λ (x : ChannelOf). x.used) xs

abbrev pub seen : List Stamp → (now clock : ℕ) → List ChannelOf → KernelOf
seen ss now clock xs = record { trace = ss; now = now; clock = clock; descriptors = uses_of xs }

module _ (ss : List Stamp) (now clock place : ℕ) (xs : List ChannelOf) (kept : IsKeptBeside ss now clock place xs) where
  abbrev k : Kernel
  k = kernel_of (seen ss now clock xs)

  pub came : (f : ℕ) → came_to k f ≡ entries f place ss
  came f = came-first k f place kept.sound.rising kept.divided

  low-in : (i : ℕ) → i < descriptor_limit → i < length xs
  low-in i low = let many = kept.many in omega arith

  used-at : (i : ℕ) (x : ChannelOf) → i < descriptor_limit → x ≡ get_or xs i x → x.used ≡ k.descriptors i
  used-at i x low is = ap (λ (y : ChannelOf). y.used) is ∙ sym (get_or-map (λ (y : ChannelOf). y.used) xs i x (untouched false) (low-in i low))

  fed-at : (i : ℕ) (x : ChannelOf) → i < descriptor_limit → x ≡ get_or xs i x → IsFed (entries i (length ss) ss) (entries i place ss) x
  fed-at i x low is = subst (IsFed (entries i (length ss) ss) (entries i place ss)) (sym is) (kept.fed i x (low-in i low))

  shows-at : (i : ℕ) (x : ChannelOf) → i < descriptor_limit → x ≡ get_or xs i x → IsChannelOf k i x
  unfolding unread connections
  shows-at i x low is =
      let fed = fed-at i x low is in
      let used = used-at i x low is in
      record {
        used = used;
        arrived = fed.arrived ∙ ap arrived_of (sym (came i));
        bytes = ap₂ (λ (d : Descriptor) (l : List ℕ). drop d.taken l) used (come-bytes (entries i (length ss) ss) (entries i place ss) (rest_of i place ss) x fed (entries-rest i place ss) ∙ ap (flat_map bytes_brought) (sym (came i)));
        connections = ap₂ (λ (d : Descriptor) (l : List ℕ). drop d.accepted l) used (come-connections (entries i (length ss) ss) (entries i place ss) (rest_of i place ss) x fed (entries-rest i place ss) ∙ ap (filter_map connection_brought) (sym (came i)));
      }

  -- a descriptor that an operand names
  pub shows : (f i : ℕ) (x : ChannelOf) → f ≡ i → i < descriptor_limit → x ≡ get_or xs i x → IsChannelOf k f x
  shows f i x named low is = subst (λ (g : ℕ). IsChannelOf k g x) (sym named) (shows-at i x low is)

  -- or names none
  pub unknown : (f : ℕ) → descriptor_limit ≤ f → IsUnknown k f
  unknown f high =
      let many = kept.many in
      record {
        used = get_or_past (uses_of xs) f (untouched false) (omega (arith, length-map xs (λ (y : ChannelOf). y.used)));
        came = came f ∙ entries-past f place ss kept.sound.each high;
      }

  -- ---- the next time

  pub next-at : (s : Stamp) → place < length ss → s ≡ get_or ss place s → Some s.at ≡ next_time k
  next-at s h at =
      let times : slice_get (map (λ (t : Stamp). t.at) ss) place ≡ Some s.at = slice_get-get_or (map (λ (t : Stamp). t.at) ss) place 0 (omega (arith, length-map ss (λ (t : Stamp). t.at))) ∙ ap (λ (n : ℕ). Some n) (get_or-map (λ (t : Stamp). t.at) ss place s 0 h ∙ ap (λ (t : Stamp). t.at) (sym at)) in
      sym (least-next now 0 ss place kept.sound.rising kept.sound.each kept.divided ∙ times)

  pub next-none : length ss ≤ place → None ≡ next_time k
  next-none h = sym (least-next now 0 ss place kept.sound.rising kept.sound.each kept.divided ∙ slice_get_past (map (λ (t : Stamp). t.at) ss) place (omega (arith, length-map ss (λ (t : Stamp). t.at))))

  -- ---- one descriptor is another

  set-seen : (i : ℕ) (y : ChannelOf) → i < descriptor_limit → kernel_of (seen ss now clock (set xs i y)) ≡ record k { descriptors = put k.descriptors i y.used }
  set-seen i y low =
      let long : i < length (uses_of xs) = let many = kept.many in omega (arith, length-map xs (λ (y : ChannelOf). y.used)) in
      ap (λ (d : ℕ → Descriptor). record k { descriptors = d }) (ap (table (untouched false)) (map-set (λ (y : ChannelOf). y.used) xs i y) ∙ table_set (uses_of xs) i y.used (untouched false) long)

  changed-at : (i : ℕ) (x y : ChannelOf) (g : Descriptor → Descriptor) → i < descriptor_limit → x ≡ get_or xs i x → y.used ≡ g x.used → kernel_of (seen ss now clock (set xs i y)) ≡ with_descriptor i g k
  changed-at i x y g low is same = set-seen i y low ∙ ap (λ (d : Descriptor). record k { descriptors = put k.descriptors i d }) (same ∙ ap g (used-at i x low is))

  pub changed : (f i : ℕ) (x y : ChannelOf) (g : Descriptor → Descriptor) → f ≡ i → i < descriptor_limit → x ≡ get_or xs i x → y.used ≡ g x.used → kernel_of (seen ss now clock (set xs i y)) ≡ with_descriptor f g k
  changed f i x y g named low is same = subst (λ (h : ℕ). kernel_of (seen ss now clock (set xs i y)) ≡ with_descriptor h g k) (sym named) (changed-at i x y g low is same)

  pub kept-using : (i : ℕ) (x : ChannelOf) (d : Descriptor) → i < descriptor_limit → x ≡ get_or xs i x → IsKeptBeside ss now clock place (set xs i (using d x))
  kept-using i x d low is =
      let fed = fed-at i x low is in
      let here : IsFed (entries i (length ss) ss) (entries i place ss) (using d x) = record { bytes = fed.bytes; connections = fed.connections; arrived = fed.arrived } in
      record {
        sound = kept.sound;
        early = kept.early;
        short = kept.short;
        divided = kept.divided;
        many = length-set xs i (using d x) ∙ kept.many;
        fed = fed-set ss (length ss) place (length ss) place xs i (using d x) (low-in i low) kept.fed here (λ f n. (refl, refl));
      }
