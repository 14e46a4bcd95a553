-- What calls on mutexes, locks and ports come to is exclusive, by the tests of their rows.
use Rattle.std.proofs.Common.{◌≡◌, ◌<◌, ◌≤◌, ℕ, zero, suc, ◌+◌, ◌-◌, ◌==◌, ◌&&◌, ◌||◌, not, nat_le, nat_lt, Bool, true, false, cond, if◌then◌else◌, ℤ, pos, List, [], ◌∷◌, length, find, Option, Some, None, is_some, is_none, is_ok, Result, Ok, Err, refl, sym, ◌∙◌, ap, arith}
use Rattle.std.specs.List.{range_with_len}
use Rattle.std.specs.Option.{ok_or}
use Rattle.std.proofs.lemmas.Bool.{not-false, true≢false, and_parts, not-true, or_parts}
use Rattle.std.proofs.lemmas.Bool.Decides.{nat_tests}
use Rattle.pth_base.specs.Program.{Functions}
use Rattle.pth_base.specs.declared.answer.Answer.{Answer}
use Rattle.pth_base.specs.declared.answer.Answer.TheVariants as answer
use Rattle.pth_base.specs.declared.call.Call.{Call}
use Rattle.pth_base.specs.declared.call.Call.TheVariants as call
use Rattle.pth_base.specs.declared.errno.Errno.{Errno}
use Rattle.pth_base.specs.declared.errno.Errno.TheVariants.{EACCES, EAGAIN, EBUSY, EDEADLK, EEXIST, EINVAL, ENOENT}
use Rattle.pth_base.specs.declared.mark.Mark.TheVariants as mark
use Rattle.pth_numbered.specs.Numbered.{number_known}
use Rattle.pth_numbered.specs.Operands.{number, is_zero}
use Rattle.pth_lock.specs.Objects.{object_limit, object_named, is_object}
use Rattle.pth_lock.specs.Mutexes.{Mutex, has, is_anothers, owner_of, levels_of, level_limit, release_answer, take_answer}
use Rattle.pth_lock.specs.RwLocks.{LockTables, holds, may_enter, is_held}
use Rattle.pth_cond.specs.Conditions.{is_initialised}
use Rattle.pth_port.specs.Mail.{Mail, Message, is_live as is_mail_live, is_port, is_taken, messages, messages_at, message_limit, oldest, port_limit, port_put_answer, reply_port}
use Rattle.pth_store.specs.Keys.{Tables, free_key, keys_from, key_limit}
use Rattle.pth_model.specs.declared.awaits.Awaits.{Awaits}
use Rattle.pth_model.specs.declared.awaits.Awaits.TheVariants as awaits
use Rattle.pth_model.specs.Acts.{answer_in}
use Rattle.pth_model.specs.Calls.{unless_settled}
use Rattle.pth_model.specs.Store.{Resources}
use Rattle.pth_model.specs.Ports.{put_done, says_message}
use Rattle.pth_model.specs.RingWaits.{extra_ring, is_no_ring, is_claimed_ring}
use Rattle.pth_model.specs.Rows.{row_of}
use Rattle.pth_model.specs.State.{State}
use Rattle.pth_model.specs.Transition.{Piece, silent, tid}
use Rattle.pth_model.specs.declared.verdict.Verdict.{Verdict}
use Rattle.pth_model.specs.declared.verdict.Verdict.TheVariants.{Says, Yields, Blocks, Ends, Kills}
use Rattle.pth_model.specs.Verdict.{refused, says, done, by_result, taken_or}
use Rattle.pth_numbered.specs.Clauses.{◌when◌otherwise◌}
use Rattle.pth_laws.proofs.Book.{Book}
use Rattle.pth_laws.proofs.Laws.{IsAnswerExclusive, IsExclusiveMark, HasMutex, MayTake}
use Rattle.pth_model.specs.Awaits.{is_await}

-- calls on mutexes, locks and ports, and the one that makes keys
abbrev pub is_locking : Call → Bool
is_locking (call.MutexInit m) = true
is_locking (call.MutexAcquire m v e) = true
is_locking (call.MutexRelease m) = true
is_locking (call.RwInit l) = true
is_locking (call.RwAcquire l write v e) = true
is_locking (call.RwRelease l) = true
is_locking (call.CondAwait c m e) = true
is_locking (call.KeyCreate h) = true
is_locking (call.PortCreate name) = true
is_locking (call.PortPut p v r) = true
is_locking (call.PortGet p) = true
is_locking (call.PortPending p) = true
is_locking (call.Reply m v) = true
is_locking (call.PortDestroy p) = true
is_locking c = false

-- a pth_cond_await that begins to await gives its mutex back, which t has
abbrev pub IsWaitExclusive : Resources → ℕ → Call → Type 0
IsWaitExclusive k t (call.CondAwait c m e) = k.awaits t ≡ false → HasMutex k t (object_named m)
IsWaitExclusive k t c = Unit {0}

-- what a verdict on a call of t tells is exclusive
abbrev pub IsVerdictExclusive : Resources → ℕ → Call → Verdict → Type 0
IsVerdictExclusive k t c (Says a) = IsAnswerExclusive k t c a
IsVerdictExclusive k t c (Yields a) = IsAnswerExclusive k t c a
IsVerdictExclusive k t c (Blocks p) = IsWaitExclusive k t c
IsVerdictExclusive k t c (Ends v) = Unit {0}
IsVerdictExclusive k t c Kills = IsAnswerExclusive k t c (answer.Int (pos 1))

-- a call that blocks tells a wait
pub wait_exclusive : (b : Book) (t : ℕ) (c : Call) → IsWaitExclusive b.resources t c → IsExclusiveMark b (mark.Waits (tid t) c)
wait_exclusive b t (call.CondAwait c m e) law = law
wait_exclusive b t c law = tt

some_of : {A : Type 0} (o : Option A) → is_none o ≡ false → is_some o ≡ true
some_of None h = absurd (true≢false h)
some_of (Some a) h = refl

-- of two tests of which not both fail, one holds
one_of : (a b : Bool) → (not a && not b) ≡ false → (a || b) ≡ true
one_of true b h = refl
one_of false true h = refl
one_of false false h = absurd (true≢false h)

-- a mutex that nobody has is no other thread's
free_is : (t : ℕ) (z : Mutex) → is_none (owner_of z) ≡ true → is_anothers t z ≡ false
free_is t None h = refl
free_is t (Some None) h = refl
free_is t (Some (Some o)) h = absurd (true≢false (sym h))

-- one that somebody has, and no other thread, is its own
own_is : (t : ℕ) (z : Mutex) → is_none (owner_of z) ≡ false → is_anothers t z ≡ false → has t z ≡ true
own_is t None h other = absurd (true≢false h)
own_is t (Some None) h other = absurd (true≢false h)
own_is t (Some (Some o)) h other = not-false _ other

below : (m : ℤ) → not (is_object m) ≡ false → object_named m < object_limit
below m h = let low : nat_lt (object_named m) object_limit ≡ true = not-false _ h in grind (arith, nat_tests)

-- what is found from a number on, of so many, is one of these
found_below : (test : ℕ → Bool) (n k i : ℕ) → find test (range_with_len k n) ≡ Some i → i < k + n
found_below test zero k i h = absurd (cc h)
found_below test (suc n) k i h = by_test (test k) h (found_below test n (k + 1) i)
  where
    by_test : (b : Bool) → cond b (Some k) (find test (range_with_len (k + 1) n)) ≡ Some i → (find test (range_with_len (k + 1) n) ≡ Some i → i < k + 1 + n) → i < k + suc n
    by_test true h later = let same : k ≡ i = cc in omega (arith, same)
    by_test false h later = let below = later h in omega (arith, below)

found_key : (test : ℕ → Bool) (from i : ℕ) → from ≤ key_limit → find test (keys_from from) ≡ Some i → i < key_limit
found_key test from i low h = let below = found_below test (key_limit - from) from i h in omega (arith, below, low)

-- a key that is found free is one of those that there may be
free_below : (x : Tables) (i : ℕ) → free_key x ≡ Some i → i < key_limit
free_below x i free = found_key (λ k. is_none (x.keys k)) 0 i (omega arith) free

module _ (k : Resources) (t : ℕ) where
  other_answer : (c : Call) (a : Answer) → is_locking c ≡ false → IsAnswerExclusive k t c a
  other_answer (call.MutexInit m) a h = absurd (true≢false h)
  other_answer (call.MutexAcquire m v e) a h = absurd (true≢false h)
  other_answer (call.MutexRelease m) a h = absurd (true≢false h)
  other_answer (call.RwInit l) a h = absurd (true≢false h)
  other_answer (call.RwAcquire l write v e) a h = absurd (true≢false h)
  other_answer (call.RwRelease l) a h = absurd (true≢false h)
  other_answer (call.CondAwait c m e) a h = absurd (true≢false h)
  other_answer (call.KeyCreate x) a h = absurd (true≢false h)
  other_answer (call.PortCreate name) a h = absurd (true≢false h)
  other_answer (call.PortPut p v r) a h = absurd (true≢false h)
  other_answer (call.PortGet p) a h = absurd (true≢false h)
  other_answer (call.PortPending p) a h = absurd (true≢false h)
  other_answer (call.Reply m v) a h = absurd (true≢false h)
  other_answer (call.PortDestroy p) a h = absurd (true≢false h)
  other_answer c a h = tt

  other_wait : (c : Call) → is_locking c ≡ false → IsWaitExclusive k t c
  other_wait (call.CondAwait c m e) h = absurd (true≢false h)
  other_wait c h = tt

  -- any other call
  pub other_exclusive : (c : Call) (v : Verdict) → is_locking c ≡ false → IsVerdictExclusive k t c v
  other_exclusive c (Says a) h = other_answer c a h
  other_exclusive c (Yields a) h = other_answer c a h
  other_exclusive c (Blocks p) h = other_wait c h
  other_exclusive c (Ends v) h = tt
  other_exclusive c Kills h = other_answer c (answer.Int (pos 1)) h

  abbrev z : ℤ → Mutex
  z m = k.store.mutexes (object_named m)

  abbrev x : LockTables
  x = k.store.rw_locks

  init_exclusive : (m : ℤ) (a b : Bool) → not (is_object m) ≡ a → is_some (z m) ≡ b → IsVerdictExclusive k t (call.MutexInit m) (by_result done (if a then Err EINVAL else if b then Err EBUSY else Ok tt))
  init_exclusive m true b unknown was = tt
  init_exclusive m false true unknown was = tt
  init_exclusive m false false unknown was = (refl, record { known = below m unknown; new = was })

  acquire_exclusive : (m v e : ℤ) (ring a b c d : Bool) → is_none (z m) ≡ a → is_anothers t (z m) ≡ c → IsVerdictExclusive k t (call.MutexAcquire m v e) (refused EINVAL when ring otherwise taken_or (if a then Err EINVAL else if b then Err EAGAIN else if c then Err EBUSY else Ok tt) (refused EBUSY when d otherwise Blocks (awaits.Mutex m)))
  acquire_exclusive m v e true a b c d none other = tt
  acquire_exclusive m v e false true b c d none other = tt
  acquire_exclusive m v e false false true c d none other = tt
  acquire_exclusive m v e false false false true true none other = tt
  acquire_exclusive m v e false false false true false none other = tt
  acquire_exclusive m v e false false false false d none other = (refl, record { initialised = some_of (z m) none; free = other })

  release_exclusive : (m : ℤ) (a b c : Bool) → is_none (z m) ≡ a → is_none (owner_of (z m)) ≡ b → is_anothers t (z m) ≡ c → IsVerdictExclusive k t (call.MutexRelease m) (by_result done (if a then Err EINVAL else if b then Err EDEADLK else if c then Err EACCES else Ok tt))
  release_exclusive m true b c none free other = tt
  release_exclusive m false true c none free other = tt
  release_exclusive m false false true none free other = tt
  release_exclusive m false false false none free other = (refl, own_is t (z m) free other)

  -- and so an act of a handler
  release_act : (m : ℤ) (a b c : Bool) → is_none (z m) ≡ a → is_none (owner_of (z m)) ≡ b → is_anothers t (z m) ≡ c → IsAnswerExclusive k t (call.MutexRelease m) (answer_in (by_result done (if a then Err EINVAL else if b then Err EDEADLK else if c then Err EACCES else Ok tt)))
  release_act m true b c none free other = tt
  release_act m false true c none free other = tt
  release_act m false false true none free other = tt
  release_act m false false false none free other = (refl, own_is t (z m) free other)

  pub release_said : (m : ℤ) → IsAnswerExclusive k t (call.MutexRelease m) (answer_in (by_result done (release_answer t (z m))))
  release_said m = release_act m (is_none (z m)) (is_none (owner_of (z m))) (is_anothers t (z m)) refl refl refl

  lock_init_exclusive : (l : ℤ) (a b : Bool) → not (is_object l) ≡ a → x.initialised (object_named l) ≡ b → IsVerdictExclusive k t (call.RwInit l) (by_result done (if a then Err EINVAL else if b then Err EBUSY else Ok tt))
  lock_init_exclusive l true b unknown was = tt
  lock_init_exclusive l false true unknown was = tt
  lock_init_exclusive l false false unknown was = (refl, record { known = below l unknown; new = was })

  enter_exclusive : (l : ℤ) (write : Bool) (v e : ℤ) (ring a b c d : Bool) → not (x.initialised (object_named l)) ≡ a → holds x t (object_named l) ≡ b → not (may_enter x write (object_named l)) ≡ c → IsVerdictExclusive k t (call.RwAcquire l write v e) (refused EINVAL when ring otherwise taken_or (if a then Err EINVAL else if b then Err EDEADLK else if c then Err EBUSY else Ok tt) (refused EBUSY when d otherwise Blocks (awaits.Lock l write)))
  enter_exclusive l write v e true a b c d none held out = tt
  enter_exclusive l write v e false true b c d none held out = tt
  enter_exclusive l write v e false false true c d none held out = tt
  enter_exclusive l write v e false false false true true none held out = tt
  enter_exclusive l write v e false false false true false none held out = tt
  enter_exclusive l write v e false false false false d none held out = (refl, record { initialised = not-false _ none; out = held; enters = not-false _ out })

  lock_release_exclusive : (l : ℤ) (a b c : Bool) → not (holds x t (object_named l)) ≡ c → IsVerdictExclusive k t (call.RwRelease l) (by_result done (if a then Err EINVAL else if b then Err EDEADLK else if c then Err EACCES else Ok tt))
  lock_release_exclusive l true b c held = tt
  lock_release_exclusive l false true c held = tt
  lock_release_exclusive l false false true held = tt
  lock_release_exclusive l false false false held = (refl, not-false _ held)

  await_exclusive : (c m e : ℤ) (bad a b other claimed : Bool) → k.awaits t ≡ false → is_none (owner_of (z m)) ≡ b → is_anothers t (z m) ≡ other → IsVerdictExclusive k t (call.CondAwait c m e) (refused EINVAL when bad otherwise by_result (λ released. refused EBUSY when claimed otherwise Blocks (awaits.Notice c)) (if a then Err EINVAL else if b then Err EDEADLK else if other then Err EACCES else Ok (tt {0})))
  await_exclusive c m e true a b other claimed idle free own = λ awaits. absurd (true≢false (sym awaits ∙ idle))
  await_exclusive c m e false true b other claimed idle free own = λ awaits. absurd (true≢false (sym awaits ∙ idle))
  await_exclusive c m e false false true other claimed idle free own = λ awaits. absurd (true≢false (sym awaits ∙ idle))
  await_exclusive c m e false false false true claimed idle free own = λ awaits. absurd (true≢false (sym awaits ∙ idle))
  await_exclusive c m e false false false false true idle free own = λ awaits. absurd (true≢false (sym awaits ∙ idle))
  await_exclusive c m e false false false false false idle free own = λ none. own_is t (z m) free own

  -- who can take a mutex may
  take_allowed : (m : ℤ) (a b other : Bool) → is_none (z m) ≡ a → is_anothers t (z m) ≡ other → is_ok (if a then Err EINVAL else if b then Err EAGAIN else if other then Err EBUSY else Ok (tt {0})) ≡ true → MayTake k t (object_named m)
  take_allowed m true b other none own h = absurd (true≢false (sym h))
  take_allowed m false true other none own h = absurd (true≢false (sym h))
  take_allowed m false false true none own h = absurd (true≢false (sym h))
  take_allowed m false false false none own h = record { initialised = some_of (z m) none; free = own }

  pub may_take : (m : ℤ) → is_ok (take_answer t (z m)) ≡ true → MayTake k t (object_named m)
  may_take m h = take_allowed m (is_none (z m)) (levels_of t (z m) == level_limit) (is_anothers t (z m)) refl refl h

  -- a key that is made is the least that is free
  create_exclusive : (h : Option ℤ) (o : Option ℕ) → free_key k.store.keys ≡ o → IsVerdictExclusive k t (call.KeyCreate h) (by_result says (ok_or o EAGAIN))
  create_exclusive h None free = tt
  create_exclusive h (Some i) free = (i, refl, free_below k.store.keys i free)

  -- ports, and the messages at them

  abbrev q : Mail
  q = k.store.mail

  port_create_exclusive : (name : Option (List ℕ)) (a b : Bool) → IsVerdictExclusive k t (call.PortCreate name) (by_result says (if a then Err EEXIST else if b then Err EAGAIN else Ok (k.store.ports.made + 1)))
  port_create_exclusive name true b = tt
  port_create_exclusive name false true = tt
  port_create_exclusive name false false = (k.store.ports.made, ap pos (omega arith))

  put_exclusive : (p v r : ℤ) (a b : Bool) → (not (is_port q p) || not (is_zero r) && not (is_port q r)) ≡ a → IsVerdictExclusive k t (call.PortPut p v r) (by_result put_done (if a then Err EINVAL else if b then Err EAGAIN else Ok (q.made + 1)))
  put_exclusive p v r true b there = tt
  put_exclusive p v r false true there = tt
  put_exclusive p v r false false there = let h = or_parts (not (is_port q p)) (not (is_zero r) && not (is_port q r)) there in (refl, record { there = not-false _ h.0; reply = one_of (is_zero r) (is_port q r) h.1 })

  -- and so an act of a handler
  put_act : (p v r : ℤ) (o : Result ℕ Errno) → IsVerdictExclusive k t (call.PortPut p v r) (by_result put_done o) → IsAnswerExclusive k t (call.PortPut p v r) (answer_in (by_result put_done o))
  put_act p v r (Ok n) h = h
  put_act p v r (Err e) h = h

  pub put_said : (p v r : ℤ) → IsAnswerExclusive k t (call.PortPut p v r) (answer_in (by_result put_done (port_put_answer q k.store.ports.made p r)))
  put_said p v r = put_act p v r (port_put_answer q k.store.ports.made p r) (put_exclusive p v r (not (is_port q p) || not (is_zero r) && not (is_port q r)) (nat_le message_limit (messages q k.store.ports.made)) refl)

  get_exclusive : (p : ℤ) (a : Bool) (ms : List Message) → not (is_port q p) ≡ a → messages_at q p ≡ ms → IsVerdictExclusive k t (call.PortGet p) (by_result says_message (if a then Err EINVAL else oldest ms))
  get_exclusive p true ms there are = tt
  get_exclusive p false [] there are = record { there = not-false _ there; none = are }
  get_exclusive p false (m ∷ ms) there are = record { there = not-false _ there; first = ap oldest are }

  pending_exclusive : (p : ℤ) (a : Bool) → not (is_port q p) ≡ a → IsVerdictExclusive k t (call.PortPending p) (by_result says (if a then Err EINVAL else Ok (length (messages_at q p))))
  pending_exclusive p true there = tt
  pending_exclusive p false there = record { there = not-false _ there; count = refl }

  reply_exclusive : (m v : ℤ) (a : Bool) → not (is_mail_live q (reply_port (q.kept (number m)))) ≡ a → IsVerdictExclusive k t (call.Reply m v) (by_result done (if a then Err ENOENT else Ok tt))
  reply_exclusive m v true there = tt
  reply_exclusive m v false there = (refl, not-false _ there)

  destroy_exclusive : (p : ℤ) (a : Bool) → not (is_port q p) ≡ a → IsVerdictExclusive k t (call.PortDestroy p) (by_result done (if a then Err EINVAL else Ok tt))
  destroy_exclusive p true there = tt
  destroy_exclusive p false there = (refl, not-false _ there)

module _ {P S H : Type 0} (f : P → Functions S H) (s : State P S H) (t : ℕ) where
  abbrev r : Resources
  r = s.resources

  -- a call begins
  pub begins_exclusive : (c : Call) → r.awaits t ≡ false → IsVerdictExclusive r t c (row_of f s t c).begin.verdict
  unfolding row_of
  begins_exclusive (call.MutexInit m) idle = init_exclusive r t m (not (is_object m)) (is_some (z r t m)) refl refl
  begins_exclusive (call.MutexAcquire m v e) idle = acquire_exclusive r t m v e (is_no_ring s (extra_ring e)) (is_none (z r t m)) (levels_of t (z r t m) == level_limit) (is_anothers t (z r t m)) (not (is_zero v) || is_claimed_ring s (extra_ring e)) refl refl
  begins_exclusive (call.MutexRelease m) idle = release_exclusive r t m (is_none (z r t m)) (is_none (owner_of (z r t m))) (is_anothers t (z r t m)) refl refl refl
  begins_exclusive (call.RwInit l) idle = lock_init_exclusive r t l (not (is_object l)) (r.store.rw_locks.initialised (object_named l)) refl refl
  begins_exclusive (call.RwAcquire l write v e) idle = enter_exclusive r t l write v e (is_no_ring s (extra_ring e)) (not (r.store.rw_locks.initialised (object_named l))) (holds r.store.rw_locks t (object_named l)) (not (may_enter r.store.rw_locks write (object_named l))) (not (is_zero v) || is_claimed_ring s (extra_ring e)) refl refl refl
  begins_exclusive (call.RwRelease l) idle = lock_release_exclusive r t l (not (r.store.rw_locks.initialised (object_named l))) (not (is_held r.store.rw_locks (object_named l))) (not (holds r.store.rw_locks t (object_named l))) refl
  begins_exclusive (call.CondAwait c m e) idle = await_exclusive r t c m e (not (is_initialised s.control.conditions c) || is_no_ring s (extra_ring e)) (is_none (z r t m)) (is_none (owner_of (z r t m))) (is_anothers t (z r t m)) (is_claimed_ring s (extra_ring e)) idle refl refl
  begins_exclusive (call.KeyCreate h) idle = create_exclusive r t h (free_key r.store.keys) refl
  begins_exclusive (call.PortCreate name) idle = port_create_exclusive r t name (is_taken r.store.ports name) (nat_le port_limit (number_known r.store.mail.at r.store.ports.made))
  begins_exclusive (call.PortPut p v o) idle = put_exclusive r t p v o (not (is_port r.store.mail p) || not (is_zero o) && not (is_port r.store.mail o)) (nat_le message_limit (messages r.store.mail r.store.ports.made)) refl
  begins_exclusive (call.PortGet p) idle = get_exclusive r t p (not (is_port r.store.mail p)) (messages_at r.store.mail p) refl refl
  begins_exclusive (call.PortPending p) idle = pending_exclusive r t p (not (is_port r.store.mail p)) refl
  begins_exclusive (call.Reply m v) idle = reply_exclusive r t m v (not (is_mail_live r.store.mail (reply_port (r.store.mail.kept (number m))))) refl
  begins_exclusive (call.PortDestroy p) idle = destroy_exclusive r t p (not (is_port r.store.mail p)) refl
  begins_exclusive c idle = other_exclusive r t c (row_of f s t c).begin.verdict refl

  -- a call is tried again

  acquires_again : (m v e : ℤ) (come b : Bool) (a : Piece P S H) → (not (is_none (z r t m)) && is_none (owner_of (z r t m))) ≡ b → IsVerdictExclusive r t (call.MutexAcquire m v e) (unless_settled come (record { verdict = says 1 when b otherwise Blocks (awaits.Mutex m); effect = a })).verdict
  acquires_again m v e false true a is = let h = and_parts _ _ is in (refl, record { initialised = some_of (z r t m) (not-true _ h.0); free = free_is t (z r t m) h.1 })
  acquires_again m v e true true a is = let h = and_parts _ _ is in (refl, record { initialised = some_of (z r t m) (not-true _ h.0); free = free_is t (z r t m) h.1 })
  acquires_again m v e false false a is = tt
  acquires_again m v e true false a is = tt

  abbrev locks : LockTables
  locks = r.store.rw_locks

  enters_again : (l : ℤ) (write : Bool) (v e : ℤ) (come b : Bool) (a : Piece P S H) → ((locks.initialised (object_named l) && may_enter locks write (object_named l)) && not (holds locks t (object_named l))) ≡ b → IsVerdictExclusive r t (call.RwAcquire l write v e) (unless_settled come (record { verdict = says 1 when b otherwise Blocks (awaits.Lock l write); effect = a })).verdict
  enters_again l write v e false true a is = let h = and_parts _ _ is in let g = and_parts _ _ h.0 in (refl, record { initialised = g.0; out = not-true _ h.1; enters = g.1 })
  enters_again l write v e true true a is = let h = and_parts _ _ is in let g = and_parts _ _ h.0 in (refl, record { initialised = g.0; out = not-true _ h.1; enters = g.1 })
  enters_again l write v e false false a is = tt
  enters_again l write v e true false a is = tt

  pub again_exclusive : (c : Call) (b : Awaits) (come : Bool) → is_await c ≡ false → IsVerdictExclusive r t c (unless_settled come ((row_of f s t c).again b)).verdict
  unfolding row_of
  again_exclusive (call.MutexAcquire m v e) b come other = acquires_again m v e come (not (is_none (z r t m)) && is_none (owner_of (z r t m))) silent refl
  again_exclusive (call.RwAcquire l write v e) b come other = enters_again l write v e come ((locks.initialised (object_named l) && may_enter locks write (object_named l)) && not (holds locks t (object_named l))) silent refl
  again_exclusive (call.MutexInit m) b false other = tt
  again_exclusive (call.MutexInit m) b true other = tt
  again_exclusive (call.MutexRelease m) b false other = tt
  again_exclusive (call.MutexRelease m) b true other = tt
  again_exclusive (call.RwInit l) b false other = tt
  again_exclusive (call.RwInit l) b true other = tt
  again_exclusive (call.RwRelease l) b false other = tt
  again_exclusive (call.RwRelease l) b true other = tt
  again_exclusive (call.KeyCreate h) b false other = tt
  again_exclusive (call.KeyCreate h) b true other = tt
  again_exclusive (call.PortCreate name) b false other = tt
  again_exclusive (call.PortCreate name) b true other = tt
  again_exclusive (call.PortPut p v o) b false other = tt
  again_exclusive (call.PortPut p v o) b true other = tt
  again_exclusive (call.PortGet p) b false other = tt
  again_exclusive (call.PortGet p) b true other = tt
  again_exclusive (call.PortPending p) b false other = tt
  again_exclusive (call.PortPending p) b true other = tt
  again_exclusive (call.Reply m v) b false other = tt
  again_exclusive (call.Reply m v) b true other = tt
  again_exclusive (call.PortDestroy p) b false other = tt
  again_exclusive (call.PortDestroy p) b true other = tt
  again_exclusive (call.CondAwait c m e) b come other = absurd (true≢false other)
  again_exclusive c b come other = other_exclusive r t c (unless_settled come ((row_of f s t c).again b)).verdict refl
