-- Runs with a trace that differs only in what is later.
use Rattle.std.proofs.Common.{◌≡◌, ◌≢◌, ◌<◌, ◌≤◌, ℕ, suc, ◌==◌, ◌&&◌, min, nat_le, nat_lt, Bool, true, false, true≢false, if◌then◌else◌, List, [], ◌∷◌, ◌++◌, map, filter, Option, Some, None, refl, ap, sym, ◌∙◌, subst, le_of_lt, le_trans, arith}
use Rattle.std.proofs.lemmas.Bool.{leb-true, le-leb}
use Rattle.std.proofs.lemmas.Bool.Decides.{nat_tests}
use Rattle.pth_base.specs.Limits.{last_moment}
use Rattle.pth_base.specs.Program.{Functions}
use Rattle.pth_base.specs.declared.outcome.Outcome.TheVariants.{Stalled}
use Rattle.pth_kernel.specs.Kernel.{Kernel, advanced, came_to}
use Rattle.pth_kernel.specs.Moments.{least_by, least_after}
use Rattle.pth_kernel.specs.declared.trace.Stamp.{Stamp}
use Rattle.pth_base.specs.declared.mark.Mark.TheVariants as mark
use Rattle.pth_model.specs.Calls.{waits_until}
use Rattle.pth_model.specs.Changes.{sets, enters, leaves_queue, moves_to, blocked_of}
use Rattle.pth_model.specs.Course.{Course}
use Rattle.pth_model.specs.Part.{Part, Move, Take, Step, Close, Halt, next_part, part, part_by, moves, moves_by, closes, turn_ends}
use Rattle.pth_model.specs.Pass.{pass, looks, to_wake, woken, all_woken, is_ready_at, moment, moments}
use Rattle.pth_model.specs.Run.{parts, run}
use Rattle.pth_model.specs.State.{State, Given, Turn, now_of}
use Rattle.pth_model.specs.Transition.{controlled, tells}
use Rattle.pth_agreement.specs.Traces.{up_to, DiffersLater, AgreesWithTrace, with_trace}
use Rattle.pth_agreement.proofs.Placed.{Bare}
use Rattle.pth_agreement.proofs.Parts.{PartSame}
use Rattle.pth_agreement.proofs.WholeRuns.{only_trace, asks_left, call_is_left, bare_given, ends_kernel, gives_own, own, own_trace, run_same, run_bare}
use Rattle.pth_agreement.proofs.Kernels.{ShowsSame}

-- what passes one test, of what passes a wider one
module _ {A : Type 0} (narrow wide : A → Bool) (implies : (x : A) → narrow x ≡ true → wide x ≡ true) where
  within_by : (x : A) (xs ys : List A) (w n : Bool) → wide x ≡ w → narrow x ≡ n → filter narrow ys ≡ filter narrow xs → filter narrow (if w then x ∷ ys else ys) ≡ (if n then x ∷ filter narrow xs else filter narrow xs)
  within_by x xs ys true n w_so n_so same = ap (λ b. if b then x ∷ filter narrow ys else filter narrow ys) n_so ∙ ap (λ zs. if n then x ∷ zs else zs) same
  within_by x xs ys false true w_so n_so same = absurd (true≢false (sym (implies x n_so) ∙ w_so))
  within_by x xs ys false false w_so n_so same = same

  filter_within : (xs : List A) → filter narrow (filter wide xs) ≡ filter narrow xs
  filter_within [] = refl
  filter_within (x ∷ xs) = within_by x xs (filter wide xs) (wide x) (narrow x) refl refl (filter_within xs)

both_hold : (a b : Bool) → (a && b) ≡ true → b ≡ true
both_hold true b h = h
both_hold false b h = absurd (true≢false (sym h))

-- a kernel that is not past the moment shows the same
pub shows_up_to : (m : ℕ) (a b : List Stamp) (k : Kernel) → up_to m b ≡ up_to m a → k.trace ≡ a → k.now ≤ m → ShowsSame (only_trace b) k
unfolding came_to
shows_up_to m a b k same at now = λ i f. map (λ (s : Stamp). s.what) (shown f i)
  where
    shown : (f : ℕ) → filter (λ (s : Stamp). (s.fd.0 == f) && nat_le s.at k.now) b ≡ filter (λ (s : Stamp). (s.fd.0 == f) && nat_le s.at k.now) k.trace
    shown f =
        let test : Stamp → Bool = λ s. (s.fd.0 == f) && nat_le s.at k.now in
        let wide : Stamp → Bool = λ s. nat_le s.at m in
        let within : (s : Stamp) → test s ≡ true → wide s ≡ true = λ s h. le-leb s.at m (le_trans (leb-true s.at k.now (both_hold (s.fd.0 == f) (nat_le s.at k.now) h)) now) in
        sym (filter_within test wide within b) ∙ ap (filter test) same ∙ filter_within test wide within a ∙ ap (filter test) (sym at)

-- the least moment, if it is not later than m
abbrev at_most : ℕ → Option ℕ → Option ℕ
at_most m None = None
at_most m (Some n) = if nat_le n m then Some n else None

at_most_by : (n x : ℕ) (b : Bool) → (if b then Some n else None) ≡ Some x → Some n ≡ Some x
at_most_by n x true h = h
at_most_by n x false h = absurd (cc h)

at_most_some : (m x : ℕ) (o : Option ℕ) → at_most m o ≡ Some x → o ≡ Some x
at_most_some m x None h = h
at_most_some m x (Some n) h = at_most_by n x (nat_le n m) h

-- one moment more, that is not later than m, or is later
earlier_by : (m y n : ℕ) (b : Bool) → nat_le n m ≡ b → nat_le y m ≡ true → least_by y (if b then Some n else None) ≡ (if nat_le (min y n) m then Some (min y n) else None)
earlier_by m y n true n_so y_so = let within : nat_le (min y n) m ≡ true = grind (arith, nat_tests) in sym (ap (λ b. if b then Some (min y n) else None) within)
earlier_by m y n false n_so y_so = let same : min y n ≡ y = grind (arith, nat_tests) in sym (ap (λ k. if nat_le k m then Some k else None) same ∙ ap (λ b. if b then Some y else None) y_so)

earlier : (m y : ℕ) (o : Option ℕ) → nat_le y m ≡ true → least_by y (at_most m o) ≡ at_most m (least_by y o)
earlier m y None so = sym (ap (λ b. if b then Some y else None) so)
earlier m y (Some n) so = earlier_by m y n (nat_le n m) refl so

later_by : (m y n : ℕ) (b : Bool) → nat_le n m ≡ b → nat_le y m ≡ false → (if b then Some n else None) ≡ (if nat_le (min y n) m then Some (min y n) else None)
later_by m y n true n_so y_so = let same : min y n ≡ n = grind (arith, nat_tests) in sym (ap (λ k. if nat_le k m then Some k else None) same ∙ ap (λ b. if b then Some n else None) n_so)
later_by m y n false n_so y_so = let past : nat_le (min y n) m ≡ false = grind (arith, nat_tests) in sym (ap (λ b. if b then Some (min y n) else None) past)

later : (m y : ℕ) (o : Option ℕ) → nat_le y m ≡ false → at_most m o ≡ at_most m (least_by y o)
later m y None so = sym (ap (λ b. if b then Some y else None) so)
later m y (Some n) so = later_by m y n (nat_le n m) refl so

-- the least of those that are not later
least_up_to : (now m : ℕ) (xs : List ℕ) → least_after now (filter (λ x. nat_le x m) xs) ≡ at_most m (least_after now xs)
least_up_to now m [] = refl
least_up_to now m (y ∷ ys) = by_moment (nat_le y m) refl (least_up_to now m ys)
  where
    not_later : (c : Bool) (rest : Option ℕ) → nat_le y m ≡ true → rest ≡ at_most m (least_after now ys) → (if c then least_by y rest else rest) ≡ at_most m (if c then least_by y (least_after now ys) else least_after now ys)
    not_later true rest so same = ap (least_by y) same ∙ earlier m y (least_after now ys) so
    not_later false rest so same = same

    is_later : (c : Bool) (rest : Option ℕ) → nat_le y m ≡ false → rest ≡ at_most m (least_after now ys) → rest ≡ at_most m (if c then least_by y (least_after now ys) else least_after now ys)
    is_later true rest so same = same ∙ later m y (least_after now ys) so
    is_later false rest so same = same

    by_moment : (b : Bool) → nat_le y m ≡ b → least_after now (filter (λ x. nat_le x m) ys) ≡ at_most m (least_after now ys) → least_after now (if b then y ∷ filter (λ x. nat_le x m) ys else filter (λ x. nat_le x m) ys) ≡ at_most m (least_after now (y ∷ ys))
    by_moment true so same = not_later (nat_lt now y && nat_le y last_moment) (least_after now (filter (λ x. nat_le x m) ys)) so same
    by_moment false so same = is_later (nat_lt now y && nat_le y last_moment) (least_after now (filter (λ x. nat_le x m) ys)) so same

filter_append : {A : Type 0} (test : A → Bool) (xs ys : List A) → filter test (xs ++ ys) ≡ filter test xs ++ filter test ys
filter_append test [] ys = refl
filter_append {A = A} test (x ∷ xs) ys = by_test (test x) (filter_append test xs ys)
  where
    by_test : (b : Bool) → filter test (xs ++ ys) ≡ filter test xs ++ filter test ys → (if b then x ∷ filter test (xs ++ ys) else filter test (xs ++ ys)) ≡ (if b then x ∷ filter test xs else filter test xs) ++ filter test ys
    by_test true same = ap (λ zs. x ∷ zs) same
    by_test false same = same

abbrev times : List Stamp → List ℕ
times l = map (λ (s : Stamp). s.at) l

times_up_to : (m : ℕ) (trace : List Stamp) → filter (λ x. nat_le x m) (times trace) ≡ times (up_to m trace)
times_up_to m [] = refl
times_up_to m (s ∷ trace) = by_test (nat_le s.at m) (times_up_to m trace)
  where
    by_test : (b : Bool) → filter (λ x. nat_le x m) (times trace) ≡ times (up_to m trace) → (if b then s.at ∷ filter (λ x. nat_le x m) (times trace) else filter (λ x. nat_le x m) (times trace)) ≡ times (if b then s ∷ up_to m trace else up_to m trace)
    by_test true same = ap (λ zs. s.at ∷ zs) same
    by_test false same = same

-- the next moment, if it is not later than m
pub next_same : (now m x : ℕ) (ms : List ℕ) (a b : List Stamp) → up_to m b ≡ up_to m a → x ≤ m → least_after now (map (λ (s : Stamp). s.at) a ++ ms) ≡ Some x → least_after now (map (λ (s : Stamp). s.at) b ++ ms) ≡ Some x
next_same now m x ms a b same within next =
    at_most_some m x (least_after now (map (λ (s : Stamp). s.at) b ++ ms)) (
    sym (least_up_to now m (map (λ (s : Stamp). s.at) b ++ ms)) ∙ ap (least_after now) (parted b)
    ∙ ap (λ (l : List Stamp). least_after now (map (λ (s : Stamp). s.at) l ++ filter (λ x. nat_le x m) ms)) same
    ∙ ap (least_after now) (sym (parted a)) ∙ least_up_to now m (map (λ (s : Stamp). s.at) a ++ ms) ∙ ap (at_most m) next ∙ ap (λ b. if b then Some x else None) (le-leb x m within))
  where
    parted : (trace : List Stamp) → filter (λ x. nat_le x m) (map (λ (s : Stamp). s.at) trace ++ ms) ≡ map (λ (s : Stamp). s.at) (up_to m trace) ++ filter (λ x. nat_le x m) ms
    parted trace = filter_append (λ x. nat_le x m) (map (λ (s : Stamp). s.at) trace) ms ∙ ap (λ xs. xs ++ filter (λ x. nat_le x m) ms) (times_up_to m trace)

-- ---- a run

some_same : (n k : ℕ) → Some n ≡ Some k → n ≡ k
some_same n k h = cc h

-- a pass leaves the kernel as it is
woken_kernel : {P S H : Type 0} (ts : List ℕ) (s : State P S H) → (all_woken ts s).state.control.kernel ≡ s.control.kernel
unfolding all_woken woken is_ready_at leaves_queue sets enters
woken_kernel [] s = refl
woken_kernel (t ∷ ts) s = woken_kernel ts (woken t s).state

pass_kernel : {P S H : Type 0} (f : P → Functions S H) (s : State P S H) → (pass f s).state.control.kernel ≡ s.control.kernel
unfolding pass looks
pass_kernel f s = woken_kernel (to_wake f s) (controlled (looks f s) s)

module _ {P S H : Type 0} (p : P) (m : ℕ) (trace other : List Stamp) (same : up_to m other ≡ up_to m trace) (f : P → Functions S H) where
  abbrev bare : Unit {0} → Functions S H
  bare u = f p

  abbrev IsAsked : Bare S H → Part → Type 0
  IsAsked = PartSame p (only_trace other) f (f p).step

  -- where time moves to m at most
  move_same : (x : Turn) (s : Bare S H) (o : Option ℕ) → moment bare s ≡ o → s.control.kernel.trace ≡ trace → now_of (moves_by bare x o s).state.control ≤ m → (moves_by bare x o s).turn.outcome ≢ Stalled → IsAsked s Move
  unfolding waits_until
  move_same x s None next kept within goes_on = absurd (goes_on refl)
  move_same x s (Some n) next kept within goes_on =
      let at : n ≤ m = subst (λ (k : Kernel). k.now ≤ m) (pass_kernel bare (tells (mark.Moved n) (controlled (moves_to n) s)).state) within in (
        next_same (now_of s.control) m n (moments bare s) trace other same at (ap (λ (l : List Stamp). least_after (now_of s.control) (map (λ (s : Stamp). s.at) l ++ moments bare s)) (sym kept) ∙ next) ∙ sym next,
        λ to leads. asks_left other (moves_to to s.control) (shows_up_to m trace other (advanced to s.control.kernel) same kept (subst (λ n. n ≤ m) (some_same n to (sym next ∙ leads)) at)),
      )

  asked_same : (x : Turn) (s : Bare S H) (a : Part) → s.control.kernel.trace ≡ trace → now_of s.control ≤ m → now_of (part_by bare x s a).state.control ≤ m → (part_by bare x s a).turn.outcome ≢ Stalled → IsAsked s a
  unfolding moves closes
  asked_same x s Move kept before within goes_on = move_same x s (moment bare s) refl kept within goes_on
  asked_same x s Take kept before within goes_on = tt
  asked_same x s (Step t) kept before within goes_on = (
    asks_left other s.control (shows_up_to m trace other s.control.kernel same kept before),
    gives_own (f p) (blocked_of s.control t) (s.control.threads.progress t) s.control.shared,
    call_is_left other p f (f p).step (blocked_of s.control t) (s.control.threads.progress t) s.control.shared,
  )
  asked_same x s (Close t) kept before within goes_on =
      let u = controlled (turn_ends t) s in
      asks_left other u.control (shows_up_to m trace other u.control.kernel same (ap (λ (k : Kernel). k.trace) (ends_kernel t s) ∙ kept) (subst (λ (k : Kernel). k.now ≤ m) (pass_kernel bare u) within))
  asked_same x s Halt kept before within goes_on = tt

module _ {P S H : Type 0} (f : P → Functions S H) where
  pub traces_agree : (g : Given P) (trace : List Stamp) (i : ℕ) → DiffersLater f g trace i → AgreesWithTrace f g trace i
  unfolding parts part
  traces_agree g trace i differs = run_same g.program (only_trace trace) f (f g.program).step (bare_given g) i asked ∙ sym (ap (with_trace trace) (run_bare f g i))
    where
      now_within : (j : ℕ) → j ≤ i → now_of (run (own f g.program) (bare_given g) j).state.control ≤ differs.moment
      now_within j before = subst (λ (c : Course P S H). now_of c.state.control ≤ differs.moment) (run_bare f g j) (differs.not_past j before).now

      not_stalled : (j : ℕ) → j ≤ i → (run (own f g.program) (bare_given g) j).turn.outcome ≢ Stalled
      not_stalled j before = subst (λ (c : Course P S H). c.turn.outcome ≢ Stalled) (run_bare f g j) (differs.not_past j before).not_stalled

      asked : (j : ℕ) → j < i → let c = run (own f g.program) (bare_given g) j in PartSame g.program (only_trace trace) f (f g.program).step c.state (next_part c.state c.turn)
      asked j before =
          let c = run (own f g.program) (bare_given g) j in
          asked_same g.program differs.moment g.kernel.trace trace differs.same f c.turn c.state (next_part c.state c.turn) (own_trace (own f g.program) (bare_given g) j) (now_within j (le_of_lt before)) (now_within (suc j) before) (not_stalled (suc j) before)
