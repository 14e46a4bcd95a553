-- One part of a run, with another program and another kernel.
use Rattle.std.proofs.Common.{◌≡◌, ℕ, ◌+◌, List, [], ◌∷◌, reverse, Option, Some, None, refl, ap, ◌∙◌}
use Rattle.pth_base.specs.Program.{Functions, Stepped}
use Rattle.pth_base.specs.declared.answer.Answer.{Answer}
use Rattle.pth_base.specs.declared.mark.Mark.TheVariants as mark
use Rattle.pth_agreement.proofs.Others.{Others, AllLeft}
use Rattle.pth_agreement.specs.Descriptors.{asked_by_call}
use Rattle.pth_queue.specs.declared.queue.Queue.TheVariants.{New, Ready}
use Rattle.pth_model.specs.declared.blocked.Blocked.{Blocked}
use Rattle.pth_model.specs.declared.next.Next.{Next}
use Rattle.pth_model.specs.declared.next.Next.TheVariants as next
use Rattle.pth_model.specs.declared.progress.Progress.{Progress}
use Rattle.pth_model.specs.Calls.{begun}
use Rattle.pth_model.specs.Changes.{sets, goes_on, enters, leaves_queue, raises_ready, trails, runs_now, moves_to, blocked_of, holders}
use Rattle.pth_model.specs.Course.{Course, within}
use Rattle.pth_model.specs.Part.{Part, Move, Take, Step, Close, Halt, next_part, part, part_by, chosen, readies, readies_all, readies_new, runs, dispatches, takes, takes_by, takes_next, owes_after, turn_after, step_completed, stepping, steps, steps_by, steps_on, is_put_back, is_put_waiting, placed_by, is_placed, time_passes, turn_ends, closes, moves, moves_by}
use Rattle.pth_model.specs.Pass.{pass, is_ready_at, moment}
use Rattle.pth_model.specs.State.{Turn, queue}
use Rattle.pth_model.specs.Transition.{Went, changes, controlled, tells, ◌and◌, ◌and_then◌, ◌and_finally◌}
use Rattle.pth_agreement.proofs.Placed.{Bare, placed, gone, AreSame, and_same, changes_same, then_at, finally_at}
use Rattle.pth_agreement.proofs.Kernels.{AsksLeft}
use Rattle.pth_agreement.proofs.Endings.{stepping_so}
use Rattle.pth_agreement.proofs.Calls.{begun_same, gone_on_same}
use Rattle.pth_agreement.proofs.Passes.{pass_same}

-- by: what call blocks a thread, and how far the thread is. If no call blocks it, a step asks its program for the next call.
abbrev pub StepAlikeBy : {S H : Type 0} → (a b : Functions S H) → Option Blocked → Option (Progress S) → H → Type 0
StepAlikeBy a b None (Some p) shared = b.step p.state shared p.owed ≡ a.step p.state shared p.owed
StepAlikeBy a b None None shared = Unit {0}
StepAlikeBy a b (Some c) p shared = Unit {0}

module _ {P S H : Type 0} (p : P) (other : Others) where
  abbrev pub placed_course : Course (Unit {0}) S H → Course P S H
  placed_course c = record { state = placed p other c.state; turn = c.turn; marks = c.marks }

  -- the same part comes next
  pub next_part_same : (s : Bare S H) (x : Turn) → next_part (placed p other s) x ≡ next_part s x
  unfolding next_part
  next_part_same s x = refl

  -- ---- Take

  readies_same : (ts : List ℕ) → AreSame {S = S} {H = H} p other (readies_all ts) (readies_all ts)
  unfolding readies_all readies is_ready_at leaves_queue sets enters
  readies_same [] k = refl
  readies_same (t ∷ ts) k = readies_same ts (readies t k)

  taken_same : (x : Turn) (o : Option ℕ) (s : Bare S H) → takes_by x o (placed p other s) ≡ placed_course (takes_by x o s)
  unfolding dispatches runs trails leaves_queue sets
  taken_same x None s = refl
  taken_same x (Some t) s = refl

  takes_same : (x : Turn) (s : Bare S H) → takes x (placed p other s) ≡ placed_course (takes x s)
  unfolding takes
  takes_same x s =
      let u = controlled readies_new s in
      ap (λ k. takes_next x (record { resources = s.resources; control = k })) (readies_same (reverse (holders (queue s.control New))) s.control)
      ∙ taken_same x (chosen u.control.scheduler.preferred (queue u.control Ready)) u

  -- ---- Close

  put_same : (t : ℕ) (r : Option ℕ) (b : Option Blocked) → AreSame {S = S} {H = H} p other (placed_by t r b) (placed_by t r b)
  unfolding is_put_back is_put_waiting sets enters
  put_same t None b k = refl
  put_same t (Some r) (Some b) k = refl
  put_same t (Some r) None k = refl

  is_placed_same : (t : ℕ) → AreSame {S = S} {H = H} p other (is_placed t) (is_placed t)
  unfolding is_placed
  is_placed_same t k = ap (runs_now None) (put_same t k.scheduler.running (blocked_of k t) k)

  ends_same : (t : ℕ) → AreSame {S = S} {H = H} p other (turn_ends t) (turn_ends t)
  unfolding raises_ready
  ends_same t = and_same p other raises_ready (is_placed t and time_passes) raises_ready (is_placed t and time_passes) (λ k. refl) (and_same p other (is_placed t) time_passes (is_placed t) time_passes (is_placed_same t) (λ k. refl))

  -- ---- Step

  owed_same : (t : ℕ) (n : Next) → AreSame {S = S} {H = H} p other (owes_after t n) (owes_after t n)
  unfolding goes_on
  owed_same t (next.Done a) k = refl
  owed_same t (next.Yields a) k = refl
  owed_same t n k = refl

  step_completed_same : (x : Turn) (t : ℕ) (w : Went (Unit {0}) S H) → step_completed x t (gone p other w) ≡ placed_course (step_completed x t w)
  step_completed_same x t w = ap (λ k. record { state = record { resources = w.told.state.resources; control = k }; turn = turn_after t w.next x; marks = w.told.marks }) (owed_same t w.next w.told.state.control)

  stepping_same : (t : ℕ) (y : Stepped S H) → AreSame p other (stepping t y) (stepping t y)
  unfolding goes_on
  stepping_same t y k = refl

  module _ (f : P → Functions S H) (step : S → H → Answer → Stepped S H) where
    abbrev bare : Unit {0} → Functions S H
    bare = stepping_so f p step

    -- what is asked in a part has the same answer
    abbrev pub StepSame : ℕ → Bare S H → Type 0
    StepSame t s = StepAlikeBy (bare tt) (f p) (blocked_of s.control t) (s.control.threads.progress t) s.control.shared

    -- and the call that is asked for asks only of descriptors that are left
    abbrev pub CallLeftBy : Option Blocked → Option (Progress S) → H → Type 0
    CallLeftBy None (Some o) shared = AllLeft other (asked_by_call (step o.state shared o.owed).call)
    CallLeftBy None None shared = Unit {0}
    CallLeftBy (Some b) o shared = Unit {0}

    abbrev pub CallLeft : ℕ → Bare S H → Type 0
    CallLeft t s = CallLeftBy (blocked_of s.control t) (s.control.threads.progress t) s.control.shared

    abbrev pub PartSame : Bare S H → Part → Type 0
    PartSame s Move = (moment f (placed p other s) ≡ moment bare s) × ((m : ℕ) → moment bare s ≡ Some m → AsksLeft other (moves_to m s.control))
    PartSame s Take = Unit {0}
    PartSame s (Step t) = AsksLeft other s.control × StepSame t s × CallLeft t s
    PartSame s (Close t) = AsksLeft other (turn_ends t s.control)
    PartSame s Halt = Unit {0}

    steps_by_same : (t : ℕ) (b : Option Blocked) (o : Option (Progress S)) (s : Bare S H) → AsksLeft other s.control → StepAlikeBy (bare tt) (f p) b o s.control.shared → CallLeftBy b o s.control.shared → steps_by f t b o (placed p other s) ≡ gone p other (steps_by bare t b o s)
    unfolding goes_on
    steps_by_same t (Some b) o s left same call_left = gone_on_same p other f step t s left.shows (left.waits t)
    steps_by_same t None None s left same call_left = gone_on_same p other f step t s left.shows (left.waits t)
    steps_by_same t None (Some o) s left same call_left =
        let y = step o.state s.control.shared o.owed in
        ap (λ z. (changes (stepping t z) and_finally begun f t z.call) (placed p other s)) same
        ∙ finally_at p other (changes (stepping t y)) (begun bare t y.call) (changes (stepping t y)) (begun f t y.call) s (changes_same p other (stepping t y) (stepping t y) (stepping_same t y) s) (begun_same p other f step t y.call (controlled (stepping t y) s) left.shows call_left)

    steps_same : (x : Turn) (t : ℕ) (s : Bare S H) → AsksLeft other s.control → StepSame t s → CallLeft t s → steps f x t (placed p other s) ≡ placed_course (steps bare x t s)
    unfolding steps
    steps_same x t s left same call_left =
        let y = record x { steps = x.steps + 1 } in
        ap (step_completed y t) (steps_by_same t (blocked_of s.control t) (s.control.threads.progress t) s left same call_left) ∙ step_completed_same y t (steps_on bare t s)

    closes_same : (x : Turn) (t : ℕ) (s : Bare S H) → AsksLeft other (turn_ends t s.control) → closes f x t (placed p other s) ≡ placed_course (closes bare x t s)
    unfolding closes
    closes_same x t s shows =
        let u = controlled (turn_ends t) s in
        ap (within (record x { gave = None })) (then_at p other (changes (turn_ends t)) (pass bare) (changes (turn_ends t)) (pass f) s (changes_same p other (turn_ends t) (turn_ends t) (ends_same t) s) (pass_same p other f step u shows))

    moves_by_same : (x : Turn) (o : Option ℕ) (s : Bare S H) → ((m : ℕ) → o ≡ Some m → AsksLeft other (moves_to m s.control)) → moves_by f x o (placed p other s) ≡ placed_course (moves_by bare x o s)
    moves_by_same x None s shows = refl
    moves_by_same x (Some m) s shows =
        let u = (tells (mark.Moved m) (controlled (moves_to m) s)).state in
        ap (within x) (then_at p other (changes (moves_to m)) (tells (mark.Moved m) and_then pass bare) (changes (moves_to m)) (tells (mark.Moved m) and_then pass f) s refl
        (then_at p other (tells (mark.Moved m)) (pass bare) (tells (mark.Moved m)) (pass f) (controlled (moves_to m) s) refl (pass_same p other f step u (shows m refl))))

    part_by_same : (x : Turn) (s : Bare S H) (a : Part) → PartSame s a → part_by f x (placed p other s) a ≡ placed_course (part_by bare x s a)
    unfolding moves
    part_by_same x s Move same = ap (λ o. moves_by f x o (placed p other s)) same.0 ∙ moves_by_same x (moment bare s) s same.1
    part_by_same x s Take same = takes_same x s
    part_by_same x s (Step t) same = steps_same x t s same.0 same.1 same.2
    part_by_same x s (Close t) same = closes_same x t s same
    part_by_same x s Halt same = refl

    pub part_same : (x : Turn) (s : Bare S H) → PartSame s (next_part s x) → part f x (placed p other s) ≡ placed_course (part bare x s)
    unfolding part
    part_same x s same = ap (part_by f x (placed p other s)) (next_part_same s x) ∙ part_by_same x s (next_part s x) same
