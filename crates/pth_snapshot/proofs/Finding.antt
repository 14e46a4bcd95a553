-- A place is one part of a run, and what was saved there is found.
use Rattle.std.proofs.Common.{◌≡◌, ◌⊎◌, ℕ, zero, suc, ◌≤◌, List, Option, Some, None, is_some, Result, Ok, Err, refl, sym, ap, ap₂, ◌∙◌, arith, subst, inl, inr}
use Rattle.pth_base.specs.Limits.{last_moment, most_steps}
use Rattle.pth_base.specs.Program.{Functions}
use Rattle.pth_base.specs.declared.mark.Mark.TheVariants.{Moved}
use Rattle.pth_base.specs.declared.outcome.Outcome.TheVariants.{Running}
use Rattle.pth_kernel.specs.Kernel.{Kernel}
use Rattle.pth_line.specs.Script.{Sections, functions_of}
use Rattle.pth_operand.specs.declared.cells.Cells.{Cells}
use Rattle.pth_operand.specs.declared.frame.Frame.{Frame}
use Rattle.pth_model.specs.Course.{Course}
use Rattle.pth_model.specs.Changes.{moves_to, sets, leaves_queue, trails}
use Rattle.pth_model.specs.Part.{Part, Move, Take, Step, Close, Halt, next_part, part, part_by, moves, moves_by, takes, takes_by, readies_new, dispatches, runs, steps, closes, turn_ends}
use Rattle.pth_model.specs.Pass.{moment}
use Rattle.pth_model.specs.Run.{run, parts, GoesUntil, stops_at, stops_or_closed, TurnsTo}
use Rattle.pth_model.specs.State.{State, Turn, Given, start, now_of}
use Rattle.pth_model.specs.Transition.{controlled, changes, tells, ◌and_then◌}
use Rattle.pth_model.proofs.Runs.{goes-once}
use Rattle.pth_script.specs.TextRows.{text_rows}
use Rattle.pth_script.proofs.Once.{not_both, one_script, one_kernel, one_top}
use Rattle.pth_sched.specs.MachineOf.{MachineOf}
use Rattle.pth_sched.specs.Running.{Stands, StandsAt, IsAtStep, IsBetweenTurns}
use Rattle.pth_sched.proofs.Stopping.{pass_kernel}
use Rattle.pth_sched.proofs.Times.{IsLater, moment_later, readied_kernel, step_at}
use Rattle.pth_snapshot.specs.Dump.{dump}
use Rattle.pth_snapshot.specs.Loading.{Gives, IsFound, IsLoaded, IsTakenUp, IsRefusedSnapshot, IsRefusedAt, refused_by, breach_of, row_at}
use Rattle.pth_snapshot.specs.Place.{OpensAt, LeadsTo, leads_by, has_come, IsPlace, IsSavable, is_step, named_place, place_of}
use Rattle.pth_snapshot.specs.declared.load.LoadErr.{LoadErr}
use Rattle.pth_snapshot.specs.declared.load.LoadErr.TheVariants as err
use Rattle.pth_snapshot.specs.declared.place.Kind.{Kind}
use Rattle.pth_snapshot.specs.declared.place.Kind.TheVariants as kind
use Rattle.pth_snapshot.specs.declared.place.Place.{Place}
use Rattle.pth_snapshot.proofs.Leading.{savable_there}
use Rattle.pth_snapshot.proofs.Named.{dump_names}
use Rattle.pth_snapshot.proofs.Parts.{part_is_place}

module _ {P S H : Type 0} (f : P → Functions S H) (g : Given P) where
  -- ---- one part

  opens_once : (steps k l : ℕ) → OpensAt f g steps k → OpensAt f g steps l → k ≡ l
  opens_once zero k l a b = a ∙ sym b
  opens_once (suc n) k l a b =
      let same : b.0 ≡ a.0 = goes-once (stops_at f g n) 0 b.0 a.0 b.1 a.1 in
      goes-once (stops_or_closed f g (suc n) a.0) a.0 k l a.2 (subst (λ h. TurnsTo f g (suc n) h l) same b.2)

  leads_once_by : (o : Kind) (p : Place) (i j : ℕ) → leads_by f g o p i → leads_by f g o p j → i ≡ j
  leads_once_by kind.Step p i j a b = goes-once (stops_at f g p.steps) 0 i j a b
  leads_once_by kind.Open p i j a b =
      let same : b.0 ≡ a.0 = opens_once p.steps b.0 a.0 b.1 a.1 in
      goes-once (has_come f g p.now) a.0 i j a.2 (subst (λ k. GoesUntil (has_come f g p.now) k j) same b.2)

  pub leads_once : (p : Place) (i j : ℕ) → LeadsTo f g p i → LeadsTo f g p j → i ≡ j
  leads_once p i j a b = leads_once_by p.kind p i j a b

  -- ---- time

  abbrev IsEarly : State P S H → Type 0
  IsEarly s = now_of s.control ≤ last_moment

  move_early : (x : Turn) (s : State P S H) → IsEarly s → IsEarly (moves f x s).state
  unfolding moves
  move_early x s early = by_moment (moment f s) (λ m is. moment_later f s m is)
    where
      by_moment : (o : Option ℕ) → ((m : ℕ) → o ≡ Some m → IsLater (now_of s.control) m) → IsEarly (moves_by f x o s).state
      by_moment None later = early
      by_moment (Some m) later =
          subst (λ (k : Kernel). k.now ≤ last_moment) (sym (pass_kernel f ((changes (moves_to m) and_then tells (Moved m)) s).state)) (later m refl).within

  taken_early : (x : Turn) (o : Option ℕ) (s : State P S H) → IsEarly s → IsEarly (takes_by x o s).state
  unfolding dispatches runs sets leaves_queue trails
  taken_early x None s early = early
  taken_early x (Some t) s early = early

  take_early : (x : Turn) (s : State P S H) → IsEarly s → IsEarly (takes x s).state
  unfolding takes
  take_early x s early = taken_early x _ (controlled readies_new s) (subst (λ (k : Kernel). k.now ≤ last_moment) (sym (readied_kernel _ s.control)) early)

  close_early : (x : Turn) (t : ℕ) (s : State P S H) → IsEarly (closes f x t s).state
  unfolding closes
  close_early x t s = subst (λ (k : Kernel). k.now ≤ last_moment) (sym (pass_kernel f (controlled (turn_ends t) s))) (omega arith)

  step_early : (x : Turn) (t : ℕ) (s : State P S H) → IsEarly s → IsEarly (steps f x t s).state
  step_early x t s early = subst (λ n. n ≤ last_moment) (sym (step_at f t (now_of s.control) x s refl)) early

  early_by : (x : Turn) (s : State P S H) (p : Part) → IsEarly s → IsEarly (part_by f x s p).state
  early_by x s Move early = move_early x s early
  early_by x s Take early = take_early x s early
  early_by x s (Step t) early = step_early x t s early
  early_by x s (Close t) early = close_early x t s
  early_by x s Halt early = early

  -- a run that began no later than the last moment goes no further
  pub run_early : g.kernel.now ≤ last_moment → (i : ℕ) → IsEarly (run f g i).state
  unfolding parts part start
  run_early began zero = began
  run_early began (suc i) = early_by (run f g i).turn (run f g i).state (next_part (run f g i).state (run f g i).turn) (run_early began i)

  pub named_there : g.kernel.now ≤ last_moment → (i : ℕ) → IsSavable f g i → named_place (dump (run f g i)) ≡ Ok (place_of (run f g i))
  named_there began i s = dump_names (run f g i) s.few (run_early began i)

-- ---- one run

abbrev given_of : Sections → Kernel → ℕ → Given Sections
given_of p k m = record { program = p; kernel = k; top = m }

same_given : (p q : Sections) (k l : Kernel) (m n : ℕ) → p ≡ q → k ≡ l → m ≡ n → ◌≡◌ {A = Given Sections} (record { program = p; kernel = k; top = m }) (record { program = q; kernel = l; top = n })
same_given p q k l m n a b e = ap₂ (λ (x : Sections) (y : Kernel). given_of x y m) a b ∙ ap (λ (t : ℕ). given_of q l t) e

-- an input gives one run
gives_once : (input : List ℕ) (g h : Given Sections) → Gives input g → Gives input h → h ≡ g
gives_once input g h a b =
    b.given
    ∙ same_given _ _ _ _ _ _ (one_script input _ _ b.accepted.1 a.accepted.1) (one_kernel input _ _ b.accepted.2 a.accepted.2) (one_top input _ _ b.accepted.3 a.accepted.3)
    ∙ sym a.given

-- it begins at moment 0
begins_early : (input : List ℕ) (g : Given Sections) → Gives input g → g.kernel.now ≤ last_moment
begins_early input g a = subst (λ (h : Given Sections). h.kernel.now ≤ last_moment) (sym a.given) (subst (λ (k : Kernel). k.now ≤ last_moment) (sym (a.accepted.2).6) (omega arith))

-- ---- what was saved

module _ (input : List ℕ) (g : Given Sections) (i : ℕ) (a : Gives input g) (s : IsSavable functions_of g i) where
  abbrev pub text : List ℕ
  text = dump (run functions_of g i)

  here : IsPlace functions_of g (place_of (run functions_of g i)) i
  here = part_is_place functions_of g i s

  there : named_place text ≡ Ok (place_of (run functions_of g i))
  there = named_there functions_of g (begins_early input g a) i s

  abbrev place_from : Result Place ℕ → Place → Place
  place_from (Ok p) q = p
  place_from (Err n) q = q

  named_once : (p : Place) → named_place text ≡ Ok p → place_of (run functions_of g i) ≡ p
  named_once p named = ap (λ r. place_from r p) (sym there ∙ named)

  part_once : (p : Place) (j : ℕ) → named_place text ≡ Ok p → LeadsTo functions_of g p j → j ≡ i
  part_once p j named leads = leads_once functions_of g p j i leads (subst (λ q. LeadsTo functions_of g q i) (named_once p named) here.leads)

  -- it is not refused
  not_refused_at : (p : Place) (line : ℕ) → named_place text ≡ Ok p → IsRefusedAt functions_of g text p line → ⊥
  not_refused_at p line named (inl ends) = ends.1.ended (subst (λ j. (run functions_of g j).turn.outcome ≡ Running) (sym (part_once p ends.1.part named ends.1.leads)) s.goes)
  not_refused_at p line named (inr (inl open_still)) =
      open_still.1.kind (
      subst (λ j. is_some (run functions_of g j).state.control.scheduler.running ≡ is_step p.kind) (sym (part_once p open_still.1.part named open_still.1.leads))
      (subst (λ q. is_some (run functions_of g i).state.control.scheduler.running ≡ is_step q.kind) (named_once p named) here.kind))
  not_refused_at p line named (inr (inr differs)) =
      let same : differs.part ≡ i = part_once p differs.part named differs.is.leads in
      differs.differ.here (ap (λ j. row_at (text_rows (dump (run functions_of g j))) differs.differ.row) (sym same))

  not_refused_by : (r : Result Place ℕ) (line : ℕ) → named_place text ≡ r → refused_by functions_of g text r line → ⊥
  not_refused_by (Ok p) line named is = not_refused_at p line named is
  not_refused_by (Err n) line named is = (let e = sym there ∙ named in cc e)

  pub found : (r : Result (MachineOf Sections Frame Cells) LoadErr) → IsLoaded input text r → IsFound g i r
  found (Ok m) loaded =
      let taken : IsTakenUp functions_of g text m = subst (λ h. IsTakenUp functions_of h text m) (gives_once input g loaded.0 a loaded.1) loaded.2 in
      subst (λ j. StandsAt functions_of g j m) (part_once taken.place taken.part taken.named taken.is.leads) taken.stands
  found (Err (err.Input line rule)) refused = absurd (not_both input line (breach_of rule) a.accepted.0 refused)
  found (Err (err.Refused line)) refused =
      absurd (not_refused_by (named_place text) line refl (subst (λ h. IsRefusedSnapshot functions_of h text line) (gives_once input g refused.0 a refused.1) refused.2))
  found (Err err.OutOfMemory) tt = refl

-- what a machine wrote between two calls is found
pub found_of : (input saved : List ℕ) (g : Given Sections) (i : ℕ) (m : MachineOf Sections Frame Cells) → Gives input g → StandsAt functions_of g i m → IsAtStep m ⊎ IsBetweenTurns m → m.turn.steps ≤ most_steps
    → ((c : Course Sections Frame Cells) → Stands m c → saved ≡ dump c) → (r : Result (MachineOf Sections Frame Cells) LoadErr) → IsLoaded input saved r → IsFound g i r
found_of input saved g i m gives st rests few is r loaded =
    found input g i gives (savable_there functions_of g i m st rests few) r (subst (λ text. IsLoaded input text r) (is (run functions_of g i) st) loaded)
