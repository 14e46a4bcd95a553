-- What is known of the stamps above, so that the next one's rules need not look at them.
use Rattle.std.specs.Prelude.{◌≡◌, ℕ, ◌++◌, nat_lt, Bool, false, List, [], ◌∷◌, length, reverse, None}
use Rattle.pth_base.specs.Descriptors.{contains}
use Rattle.pth_kernel.specs.declared.rules.Rules.{Rules}
use Rattle.pth_kernel.specs.declared.trace.Stamp.{Stamp}
use Rattle.pth_kernel.specs.Trace.{is_before_last, is_fd_known, has_input_ended, faults, first_fault}

-- they tell of the stamps above, the nearest first: its time, the descriptors that are known and whose input has ended, and how
-- many stamps there are
pub record Knows (rules : Rules) (live : ℕ) (above : List Stamp) : Type 0 where
  pub last : (at : ℕ) → nat_lt at rules.last ≡ is_before_last above at
  pub known : (f : ℕ) → contains rules.known.0 f ≡ is_fd_known live above f
  pub ended : (f : ℕ) → contains rules.ended.0 f ≡ has_input_ended above f
  pub count : rules.count ≡ length above

-- an answer is that of a test on the stamps above, whichever they know
abbrev pub AnswersOn : Rules → Bool → (ℕ → List Stamp → Bool) → Type 0
AnswersOn rules answer test = (live : ℕ) (above : List Stamp) → Knows rules live above → answer ≡ test live above

-- ---- one stamp more

-- a stamp that breaks no rule is known too from then on
abbrev pub KnowsNext : Rules → Stamp → Rules → Type 0
KnowsNext old s new = (live : ℕ) (above : List Stamp) → Knows old live above → faults live above s ≡ false → Knows new live (s ∷ above)

-- they know the stamps of a trace, none of which breaks a rule
pub record KnowsTrace (rules : Rules) (live : ℕ) (trace : List Stamp) : Type 0 where
  pub knows : Knows rules live (reverse trace)
  pub faultless : first_fault live trace ≡ None

-- they do from then on with a stamp at its end that breaks none
abbrev pub KnowsTraceNext : Rules → List Stamp → Stamp → Rules → Type 0
KnowsTraceNext old trace s new = (live : ℕ) → KnowsTrace old live trace → faults live (reverse trace) s ≡ false → KnowsTrace new live (trace ++ s ∷ [])

-- a trace none of whose stamps breaks a rule stays so with a stamp at its end that breaks none
abbrev pub StaysFaultless : List Stamp → Stamp → Type 0
StaysFaultless trace s = (live : ℕ) → first_fault live trace ≡ None → faults live (reverse trace) s ≡ false → first_fault live (trace ++ s ∷ []) ≡ None
