-- While nothing comes to a descriptor, every question to the kernel is answered as before.
use Rattle.std.proofs.Common.{◌≡◌, ◌∙◌, ℕ, ◌==◌, ◌+◌, ◌<◌, ◌≤◌, ◌&&◌, ◌||◌, not, nat_lt, nat_le, Bool, true, false, cond, if◌then◌else◌, ℤ, List, [], ◌∷◌, map, filter, All, Option, Some, None, is_some, refl, ap, arith}
use Rattle.std.proofs.lemmas.Bool.Decides.{nat_tests}
use Rattle.std.proofs.lemmas.List.Elements.{All-cons, All-head, All-nil, All-tail}
use Rattle.std.specs.List.{list_any, list_all}
use Rattle.pth_base.specs.Descriptors.{members}
use Rattle.pth_base.specs.declared.errno.Errno.TheVariants.{EBADF}
use mathlib.Core.Path.{fun_ext}
use Rattle.pth_base.specs.Limits.{last_moment}
use Rattle.pth_base.specs.declared.answer.Answer.{Answer}
use Rattle.pth_kernel.specs.declared.trace.Stamp.{Stamp}
use Rattle.pth_kernel.specs.Kernel.{Kernel, advanced, came_to, unread, room, connections, connected, is_fd_live, fd_named, is_readable, is_writeable, is_exceptional}
use Rattle.pth_kernel.specs.Moments.{least_after, least_by}
use Rattle.pth_io.specs.Attempts.{read_answer, write_answer, accept_answer, connect_answer, select_answer, is_any_ready, is_past, sets_answer, fails, not_yet}
use Rattle.pth_numbered.specs.Clauses.{◌when◌otherwise◌}
use Rattle.pth_model.specs.declared.awaits.Awaits.{Awaits}
use Rattle.pth_model.specs.declared.awaits.Awaits.TheVariants.{Reading, Writing, Connection, ConnectAnswer, Selection}
use Rattle.pth_model.specs.Coming.{descriptors_bring}
use Rattle.pth_waits.specs.Dormant.{bound}

-- a stamp has come at one moment as at the other
abbrev pub IsSame : ℕ → ℕ → Stamp → Type 0
IsSame now n s = nat_le s.at n ≡ nat_le s.at now

module _ (k : Kernel) (n : ℕ) (none : All (IsSame k.now n) k.trace) where
  abbrev j : Kernel
  j = advanced n k

  one_same : (f : ℕ) (s : Stamp) (xs ys : List Stamp) → IsSame k.now n s → xs ≡ ys → cond ((s.fd.0 == f) && nat_le s.at n) (s ∷ xs) xs ≡ cond ((s.fd.0 == f) && nat_le s.at k.now) (s ∷ ys) ys
  one_same f s xs ys is rest = rw (is, rest) refl

  filter_same : (f : ℕ) (xs : List Stamp) → All (IsSame k.now n) xs → filter (λ (s : Stamp). (s.fd.0 == f) && nat_le s.at n) xs ≡ filter (λ (s : Stamp). (s.fd.0 == f) && nat_le s.at k.now) xs
  filter_same f [] all = refl
  filter_same f (s ∷ xs) all = one_same f s _ _ (All-head (IsSame k.now n) s xs all) (filter_same f xs (All-tail (IsSame k.now n) s xs all))

  pub came_still : (f : ℕ) → came_to j f ≡ came_to k f
  unfolding came_to
  came_still f = ap (map (λ (s : Stamp). s.what)) (filter_same f k.trace none)

  unread_still : (f : ℕ) → unread j f ≡ unread k f
  unfolding unread
  unread_still f = rw (came_still f) refl

  room_still : (f : ℕ) → room j f ≡ room k f
  unfolding room
  room_still f = rw (came_still f) refl

  connections_still : (f : ℕ) → connections j f ≡ connections k f
  unfolding connections
  connections_still f = rw (came_still f) refl

  connected_still : (f : ℕ) → connected j f ≡ connected k f
  unfolding connected
  connected_still f = rw (came_still f) refl

  pub readable_still : (f : ℕ) → is_readable j f ≡ is_readable k f
  readable_still f = rw (unread_still f, came_still f, connections_still f) refl

  pub writeable_still : (f : ℕ) → is_writeable j f ≡ is_writeable k f
  writeable_still f = rw (room_still f, came_still f) refl

  pub exceptional_still : (f : ℕ) → is_exceptional j f ≡ is_exceptional k f
  exceptional_still f = rw (came_still f) refl

  read_still : (f : ℕ) (m : ℤ) → read_answer j f m ≡ read_answer k f m
  unfolding read_answer
  read_still f m = rw (unread_still f, came_still f) refl

  write_still : (f total done : ℕ) → write_answer j f total done ≡ write_answer k f total done
  unfolding write_answer
  write_still f total done = rw (room_still f, came_still f) refl

  accept_still : (f : ℕ) → accept_answer j f ≡ accept_answer k f
  unfolding accept_answer
  accept_still f = rw (connections_still f, came_still f) refl

  connect_still : (f : ℕ) → connect_answer j f ≡ connect_answer k f
  unfolding connect_answer
  connect_still f = rw (connected_still f, came_still f) refl

  -- ---- what waits at descriptors

  -- pth_select, whose deadline has come at one moment as at the other
  abbrev select_by : (live readable writeable exceptional : ℕ → Bool) → (past : Bool) → (r w x : ℕ) → Option Answer
  select_by live readable writeable exceptional past r w x =
      fails EBADF when not (list_all live (members r) && list_all live (members w) && list_all live (members x)) otherwise
      Some (sets_answer k (filter readable (members r)) (filter writeable (members w)) (filter exceptional (members x))) when list_any readable (members r) || list_any writeable (members w) || list_any exceptional (members x) otherwise
      Some (sets_answer k [] [] []) when past otherwise
      not_yet

  select_still : (r w x : ℕ) (deadline : Option ℕ) → is_past j deadline ≡ is_past k deadline → select_answer j r w x deadline ≡ select_answer k r w x deadline
  unfolding select_answer
  select_still r w x deadline past =
      ap (λ (f : ℕ → Bool). select_by (is_fd_live k) f (is_writeable j) (is_exceptional j) (is_past j deadline) r w x) (fun_ext readable_still)
      ∙ ap (λ (f : ℕ → Bool). select_by (is_fd_live k) (is_readable k) f (is_exceptional j) (is_past j deadline) r w x) (fun_ext writeable_still)
      ∙ ap (λ (f : ℕ → Bool). select_by (is_fd_live k) (is_readable k) (is_writeable k) f (is_past j deadline) r w x) (fun_ext exceptional_still)
      ∙ ap (λ (b : Bool). select_by (is_fd_live k) (is_readable k) (is_writeable k) (is_exceptional k) b r w x) past

  pub any_still : (r w x : ℕ) → is_any_ready j r w x ≡ is_any_ready k r w x
  any_still r w x =
      ap (λ (f : ℕ → Bool). list_any f (members r) || list_any (is_writeable j) (members w) || list_any (is_exceptional j) (members x)) (fun_ext readable_still)
      ∙ ap (λ (f : ℕ → Bool). list_any (is_readable k) (members r) || list_any f (members w) || list_any (is_exceptional j) (members x)) (fun_ext writeable_still)
      ∙ ap (λ (f : ℕ → Bool). list_any (is_readable k) (members r) || list_any (is_writeable k) (members w) || list_any f (members x)) (fun_ext exceptional_still)

  -- no deadline comes between
  abbrev pub HasNoDeadline : Awaits → Type 0
  HasNoDeadline (Selection r w x deadline) = is_past j deadline ≡ is_past k deadline
  HasNoDeadline a = Unit {0}

  pub bring_still : (a : Awaits) → HasNoDeadline a → descriptors_bring j a ≡ descriptors_bring k a
  bring_still (Reading f m) h = rw (read_still (fd_named f) m) refl
  bring_still (Writing f total done) h = rw (write_still (fd_named f) total done, room_still (fd_named f)) refl
  bring_still (Connection f) h = rw (accept_still (fd_named f)) refl
  bring_still (ConnectAnswer f) h = rw (connect_still (fd_named f)) refl
  bring_still (Selection r w x deadline) h = ap (λ (o : Option Answer). is_some o) (select_still r.0 w.0 x.0 deadline h)
  bring_still a h = refl

-- ---- until the next arrival

abbrev Counted : ℕ → ℕ → Bool
Counted now m = nat_lt now m && nat_le m last_moment

module _ (now n : ℕ) (later : now ≤ n) (within : n < last_moment + 1) where
  come_later : (m : ℕ) → n < m → nat_le m n ≡ nat_le m now
  come_later m h = grind (arith, nat_tests)

  not_counted : (m : ℕ) → Counted now m ≡ false → nat_le m n ≡ nat_le m now
  not_counted m h = grind (arith, nat_tests)

  one_bound : (m : ℕ) (o : Option ℕ) (b : Bool) → Counted now m ≡ b → n < bound (if b then least_by m o else o) → (nat_le m n ≡ nat_le m now) × (n < bound o)
  one_bound m None true is h = (come_later m h, within)
  one_bound m (Some q) true is h = (come_later m (omega arith), omega arith)
  one_bound m o false is h = (not_counted m is, h)

  pub all_still : (xs : List Stamp) → n < bound (least_after now (map (λ (s : Stamp). s.at) xs)) → All (IsSame now n) xs
  all_still [] h = All-nil (IsSame now n)
  all_still (s ∷ xs) h =
      let one = one_bound s.at (least_after now (map (λ (x : Stamp). x.at) xs)) (Counted now s.at) refl h in
      All-cons (IsSame now n) s xs one.0 (all_still xs one.1)
