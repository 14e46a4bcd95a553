-- What a change of a descriptor is, and one that changes nothing.
use Rattle.std.proofs.Common.{◌≡◌, ℕ, ◌==◌, ◌+◌, ◌<◌, ◌≤◌, ℤ, pos, negsuc, Bool, true, false, cond, if◌then◌else◌, List, [], ◌∷◌, length, get_or, set, take, drop, map, filter, filter_map, All, Option, Some, None, IfSome, Ok, Err, refl, sym, ◌∙◌, ap, arith}
use Rattle.std.specs.List.{cons_option}
use Rattle.std.specs.Result.{result_map_both}
use Rattle.std.proofs.lemmas.List.{set-get_or, take_all}
use Rattle.std.proofs.lemmas.List.Elements.{All-nil, All-cons, All-head, All-tail, All-take, All-drop}
use Rattle.pth_base.specs.Descriptors.{descriptor_limit}
use Rattle.pth_base.specs.Table.{put}
use Rattle.pth_base.specs.declared.errno.Errno.{Errno}
use Rattle.pth_base.specs.declared.errno.Errno.TheVariants.{EBADF, EINVAL}
use Rattle.pth_base.proofs.Lists.{put_none}
use Rattle.pth_kernel.specs.declared.trace.Stamp.{Stamp}
use Rattle.pth_kernel.specs.Entries.{connection_brought}
use Rattle.pth_kernel.specs.Kernel.{Descriptor, Kernel, kernel_of, earliest, unread, room, connections, came_to, with_descriptor, bytes_taken, room_used}
use Rattle.pth_kernel.specs.Modes.{is_mode, mode_answer, sets_mode}
use Rattle.pth_kernel.specs.Channels.{ChannelOf, moded}
use Rattle.pth_kernel.specs.Kept.{IsSoundStamp, IsKeptBeside, entries, IsUnknown}
use Rattle.pth_kernel.proofs.Questions.{no_bytes, no_room}
use Rattle.pth_kernel.proofs.Shown.{seen, came}

pub unset : (xs : List ChannelOf) (i : ℕ) (x y : ChannelOf) → x ≡ get_or xs i x → y ≡ x → set xs i y ≡ xs
unset xs i x y is same = ap (set xs i) (same ∙ is) ∙ set-get_or xs i x

pub unchanged : (k : Kernel) (f : ℕ) (g : Descriptor → Descriptor) → g (k.descriptors f) ≡ k.descriptors f → k ≡ with_descriptor f g k
unchanged k f g same =
    let t : put k.descriptors f (g (k.descriptors f)) ≡ k.descriptors = put_none k.descriptors f (g (k.descriptors f)) (sym same) in
    ap (λ (d : ℕ → Descriptor). record k { descriptors = d }) (sym t)

-- ---- nothing is taken of no descriptor

take_none : {A : Type 0} (n : ℕ) (xs : List A) → [] ≡ xs → [] ≡ take n xs
take_none n xs e = let none : length xs ≡ 0 = sym (ap length e) in e ∙ sym (take_all n xs (omega arith))

module _ (k : Kernel) (f : ℕ) (u : IsUnknown k f) where
  pub takes_none : (n : ℕ) → [] ≡ take n (unread k f)
  takes_none n = take_none n (unread k f) (no_bytes k f u)

  pub takes_nothing : (n : ℕ) → n ≤ length (unread k f) → k ≡ bytes_taken f n k
  takes_nothing n few =
      let none : n ≡ 0 = let e = ap (length {A = ℕ}) (no_bytes k f u) in omega arith in
      unchanged k f (λ (d : Descriptor). record d { taken = d.taken + n }) (ap (λ (t : ℕ). record (k.descriptors f) { taken = t }) (omega arith))

  pub gives_nothing : (n : ℕ) → n ≤ room k f → k ≡ room_used f n k
  gives_nothing n few =
      let none : n ≡ 0 = let e = no_room k f u in omega arith in
      unchanged k f (λ (d : Descriptor). record d { given = d.given + n }) (ap (λ (t : ℕ). record (k.descriptors f) { given = t }) (omega arith))

-- ---- a connection has a descriptor

by_option : (o : Option ℕ) (xs : List ℕ) → IfSome o (λ g. g < descriptor_limit) → All (λ g. g < descriptor_limit) xs → All (λ g. g < descriptor_limit) (cons_option o xs)
by_option (Some g) xs low all = All-cons (λ g. g < descriptor_limit) g xs low all
by_option None xs low all = all

lows : (f : ℕ) (ss : List Stamp) → All IsSoundStamp ss → All (λ g. g < descriptor_limit) (filter_map connection_brought (map (λ (s : Stamp). s.what) (filter (λ (s : Stamp). s.fd.0 == f) ss)))
lows f [] all = All-nil (λ g. g < descriptor_limit)
lows f (s ∷ ss) all = by_test (s.fd.0 == f) (All-head IsSoundStamp s ss all).connection (lows f ss (All-tail IsSoundStamp s ss all))
  where
    by_test : (b : Bool) → IfSome (connection_brought s.what) (λ g. g < descriptor_limit) → All (λ g. g < descriptor_limit) (filter_map connection_brought (map (λ (t : Stamp). t.what) (filter (λ (t : Stamp). t.fd.0 == f) ss))) → All (λ g. g < descriptor_limit) (filter_map connection_brought (map (λ (t : Stamp). t.what) (cond b (s ∷ filter (λ (t : Stamp). t.fd.0 == f) ss) (filter (λ (t : Stamp). t.fd.0 == f) ss))))
    by_test true low tail = by_option (connection_brought s.what) (filter_map connection_brought (map (λ (t : Stamp). t.what) (filter (λ (t : Stamp). t.fd.0 == f) ss))) low tail
    by_test false low tail = tail

lows-first : (f n : ℕ) (ss : List Stamp) → All IsSoundStamp ss → All (λ g. g < descriptor_limit) (filter_map connection_brought (entries f n ss))
unfolding entries
lows-first f n ss all = lows f (take n ss) (All-take IsSoundStamp n ss all)

first-low : (xs : List ℕ) (g : ℕ) → All (λ g. g < descriptor_limit) xs → earliest xs ≡ Some g → g < descriptor_limit
first-low [] g all is = cc
first-low (x ∷ xs) g all is = let low : x < descriptor_limit = All-head (λ g. g < descriptor_limit) x xs all in let same : x ≡ g = cc in omega arith

module _ (ss : List Stamp) (now clock place : ℕ) (xs : List ChannelOf) (kept : IsKeptBeside ss now clock place xs) where
  pub connection-low : (f g : ℕ) → earliest (connections (kernel_of (seen ss now clock xs)) f) ≡ Some g → g < descriptor_limit
  unfolding connections
  connection-low f g is =
      let k = kernel_of (seen ss now clock xs) in
      let all : All (λ g. g < descriptor_limit) (filter_map connection_brought (came_to k f)) = rw (came ss now clock place xs kept f) (lows-first f place ss kept.sound.each) in
      first-low (drop (k.descriptors f).accepted (filter_map connection_brought (came_to k f))) g (All-drop (λ g. g < descriptor_limit) (k.descriptors f).accepted (filter_map connection_brought (came_to k f)) all) is

-- ---- a mode

by_tests : (b t : Bool) (n : ℕ) → (if b then (if t then Ok (pos n) else Err EINVAL) else Err EBADF) ≡ result_map_both (λ (n : ℕ). pos n) (λ (e : Errno). e) (if b then (if t then Ok n else Err EINVAL) else Err EBADF)
by_tests true true n = refl
by_tests true false n = refl
by_tests false t n = refl

pub answered-mode : (k : Kernel) (f : ℕ) (m : ℤ) (d : Descriptor) → d ≡ k.descriptors f → (if d.live then (if is_mode m then Ok (pos d.mode) else Err EINVAL) else Err EBADF) ≡ result_map_both (λ (n : ℕ). pos n) (λ (e : Errno). e) (mode_answer k f m)
answered-mode k f m d is = rw is (by_tests (k.descriptors f).live (is_mode m) (k.descriptors f).mode)

by_zero : (k : Kernel) (f m : ℕ) (b : Bool) → with_descriptor f (λ (d : Descriptor). if b then d else record d { mode = m }) k ≡ (if b then k else with_descriptor f (λ (d : Descriptor). record d { mode = m }) k)
by_zero k f m true = sym (unchanged k f (λ (d : Descriptor). d) refl)
by_zero k f m false = refl

pub set-mode : (k : Kernel) (f : ℕ) (m : ℤ) → with_descriptor f (moded m) k ≡ sets_mode f m k
set-mode k f (pos m) = by_zero k f m (m == 0)
set-mode k f (negsuc m) = sym (unchanged k f (λ (d : Descriptor). d) refl)
