-- A state without its program and its kernel, and the same state with both: pieces of the machine that do the same to the two.
use Rattle.std.proofs.Common.{◌≡◌, Bool, true, false, List, [], ◌∷◌, ◌++◌, refl, ◌∙◌, ap}
use Rattle.pth_base.specs.declared.mark.Mark.{Mark}
use Rattle.pth_agreement.proofs.Others.{Others, other_kernel}
use Rattle.pth_model.specs.declared.next.Next.{Next}
use Rattle.pth_model.specs.State.{State, Control}
use Rattle.pth_model.specs.Transition.{Transition, Piece, Change, Went, Last, changes, tells, tells_each, where_so, ◌and◌, ◌and_then◌, ◌and_next◌, ◌and_finally◌}
use Rattle.pth_model.specs.Row.{Attempt, refuses, effect_of, unless_refused}

-- a state whose program is nothing of note
abbrev pub Bare : Type 0 → Type 0 → Type 0
Bare S H = State (Unit {0}) S H

module _ {P S H : Type 0} (p : P) (other : Others) where
  abbrev pub placed_control : Control (Unit {0}) S H → Control P S H
  placed_control k = record {
    program = p;
    shared = k.shared;
    threads = k.threads;
    attributes = k.attributes;
    events = k.events;
    conditions = k.conditions;
    barriers = k.barriers;
    kernel = other_kernel other k.kernel;
    used = k.used;
    scheduler = k.scheduler;
    top = k.top;
  }

  -- with this program and this kernel
  abbrev pub placed : Bare S H → State P S H
  placed s = record { resources = s.resources; control = placed_control s.control }

  abbrev pub moved : Transition (Unit {0}) S H → Transition P S H
  moved x = record { state = placed x.state; marks = x.marks }

  abbrev pub gone : Went (Unit {0}) S H → Went P S H
  gone w = record { told = moved w.told; next = w.next }

  -- two changes, two pieces, two last pieces that do the same
  abbrev pub AreSame : Change (Unit {0}) S H → Change P S H → Type 0
  AreSame a b = (k : Control (Unit {0}) S H) → b (placed_control k) ≡ placed_control (a k)

  abbrev pub DoSame : Piece (Unit {0}) S H → Piece P S H → Type 0
  DoSame a b = (s : Bare S H) → b (placed s) ≡ moved (a s)

  abbrev pub GoSame : Last (Unit {0}) S H → Last P S H → Type 0
  GoSame a b = (s : Bare S H) → b (placed s) ≡ gone (a s)

  -- two attempts, made at one state
  pub record AttemptSame (a : Attempt (Unit {0}) S H) (b : Attempt P S H) (s : Bare S H) : Type 0 where
    pub verdict : b.verdict ≡ a.verdict
    pub effect : b.effect (placed s) ≡ moved (a.effect s)

  -- one change and then another
  pub and_same : (a c : Change (Unit {0}) S H) (b d : Change P S H) → AreSame a b → AreSame c d → AreSame (a and c) (b and d)
  and_same a c b d x y k = ap d (x k) ∙ y (a k)

  pub changes_same : (a : Change (Unit {0}) S H) (b : Change P S H) → AreSame a b → DoSame (changes a) (changes b)
  changes_same a b x s = ap (λ k. record { state = record { resources = s.resources; control = k }; marks = [] }) (x s.control)

  -- one piece and then another, at one state
  pub then_at : (a c : Piece (Unit {0}) S H) (b d : Piece P S H) (s : Bare S H) → b (placed s) ≡ moved (a s) → d (placed (a s).state) ≡ moved (c (a s).state) → (b and_then d) (placed s) ≡ moved ((a and_then c) s)
  then_at a c b d s x y =
      ap (λ z. let w = d z.state in record { state = w.state; marks = z.marks ++ w.marks }) x
      ∙ ap (λ w. record { state = w.state; marks = (a s).marks ++ w.marks }) y

  pub then_same : (a c : Piece (Unit {0}) S H) (b d : Piece P S H) → DoSame a b → DoSame c d → DoSame (a and_then c) (b and_then d)
  then_same a c b d x y s = then_at a c b d s (x s) (y (a s).state)

  pub finally_at : (a : Piece (Unit {0}) S H) (c : Last (Unit {0}) S H) (b : Piece P S H) (d : Last P S H) (s : Bare S H) → b (placed s) ≡ moved (a s) → d (placed (a s).state) ≡ gone (c (a s).state) → (b and_finally d) (placed s) ≡ gone ((a and_finally c) s)
  finally_at a c b d s x y =
      ap (λ z. let w = d z.state in record { told = record { state = w.told.state; marks = z.marks ++ w.told.marks }; next = w.next }) x
      ∙ ap (λ w. record { told = record { state = w.told.state; marks = (a s).marks ++ w.told.marks }; next = w.next }) y

  pub next_same : (a : Piece (Unit {0}) S H) (b : Piece P S H) (n : Next) → DoSame a b → GoSame (a and_next n) (b and_next n)
  next_same a b n x s = ap (λ z. record { told = z; next = n }) (x s)

  pub where_same : (so : Bool) (a : Piece (Unit {0}) S H) (b : Piece P S H) → DoSame a b → DoSame (where_so so a) (where_so so b)
  where_same true a b x s = x s
  where_same false a b x s = refl

  pub each_same : (ms : List Mark) → DoSame (tells_each ms) (tells_each ms)
  unfolding tells_each
  each_same [] s = refl
  each_same (m ∷ ms) s = then_same (tells m) (tells_each ms) (tells m) (tells_each ms) (λ u. refl) (each_same ms) s

  unless_same : (b : Bool) (x : Piece (Unit {0}) S H) (y : Piece P S H) (s : Bare S H) → y (placed s) ≡ moved (x s) → unless_refused b y (placed s) ≡ moved (unless_refused b x s)
  unless_same true x y s same = refl
  unless_same false x y s same = same

  pub effect_same : (a : Attempt (Unit {0}) S H) (b : Attempt P S H) (s : Bare S H) → AttemptSame a b s → effect_of b (placed s) ≡ moved (effect_of a s)
  effect_same a b s x = ap (λ v. unless_refused (refuses v) b.effect (placed s)) x.verdict ∙ unless_same (refuses a.verdict) a.effect b.effect s x.effect
