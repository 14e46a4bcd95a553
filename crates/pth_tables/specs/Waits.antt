-- What is kept for the waits of the ready threads, by slot, and its changes: nothing of a trail.
use Rattle.std.specs.Prelude.{◌≡◌, ℕ, suc, ◌+◌, ◌-◌, ◌%◌, ◌^◌, ◌==◌, ◌&&◌, nat_lt, nat_le, Bool, true, false, ℤ, List, [], ◌∷◌, if◌then◌else◌}
use Rattle.pth_base.specs.Limits.{last_count}
use Rattle.pth_base.specs.Table.{put, table}
use Rattle.pth_model.specs.Allowance.{grace}
use Rattle.pth_tables.specs.declared.waits.Turn.{Turn}
use Rattle.pth_tables.specs.declared.waits.Wait.{Wait}

-- so many numbers a word holds
abbrev pub words : ℕ
words = 2 ^ 64

pub record WaitsOf : Type 0 where
  -- the greatest base priority
  pub top : ℕ
  pub dispatches : ℕ
  -- those by name, as a word
  pub named : ℕ
  -- the new threads at Top that stood ready at some dispatch, as a word
  pub tops : ℕ
  -- those that entered since the last dispatch and are ready, as a word
  pub pending : ℕ
  -- by slot
  pub waits : ℕ → Wait

abbrev pub no_wait : Wait
no_wait = record { entered = 0; grace = 0; number = 0; top = false }

-- the same, by a list: past its end nothing is kept
pub record KeptWaits : Type 0 where
  pub top : ℕ
  pub dispatches : ℕ
  pub named : ℕ
  pub tops : ℕ
  pub pending : ℕ
  pub slots : List Wait

abbrev pub waits_of : KeptWaits → WaitsOf
waits_of kept = record {
  top = kept.top;
  dispatches = kept.dispatches;
  named = kept.named;
  tops = kept.tops;
  pending = kept.pending;
  waits = table no_wait kept.slots;
}

abbrev pub no_waits : ℕ → WaitsOf
no_waits top = record { top = top; dispatches = 0; named = 0; tops = 0; pending = 0; waits = λ s. no_wait }

-- a word, one more or one less
abbrev pub one_more : Bool → ℕ → ℕ
one_more b n = if b then (n + 1) % words else n

abbrev pub one_less : Bool → ℕ → ℕ
one_less b n = if b then (n + (words - 1)) % words else n

-- the thread of a slot enters the ready queue
unfoldable pub enters_ready : ℕ → ℤ → Bool → WaitsOf → WaitsOf
enters_ready s rank top x = record x {
  pending = one_more top x.pending;
  waits = put x.waits s (record { entered = x.dispatches; grace = grace x.top rank; number = 0; top = top });
}

-- it entered at Top since the last dispatch
abbrev pub is_pending : ℕ → WaitsOf → Bool
is_pending s x = (x.waits s).top && ((x.waits s).entered == x.dispatches)

-- the thread of a slot leaves the ready queue, and is not dispatched
unfoldable pub leaves_ready : ℕ → WaitsOf → WaitsOf
leaves_ready s x = record x { pending = one_less (is_pending s x) x.pending }

-- a dispatch sees those at Top that entered since the last
unfoldable pub seen_at_top : WaitsOf → WaitsOf
seen_at_top x = record x { tops = (x.tops + x.pending) % words; pending = 0 }

-- what with both totals is the place, as a word
abbrev pub number_of : ℕ → WaitsOf → ℕ
number_of place x = (place + (words - (x.named + x.tops) % words)) % words

-- the thread of a slot comes to the point after its grace, with so many before it
unfoldable pub reached : ℕ → ℕ → WaitsOf → WaitsOf
reached s place x = record x { waits = put x.waits s (record (x.waits s) { number = number_of place x }) }

-- the dispatches since the thread of a slot entered
abbrev pub waited_by : ℕ → WaitsOf → ℕ
waited_by s x = x.dispatches - (x.waits s).entered

-- at the dispatch that follows it comes to the point after its grace
abbrev pub is_due : WaitsOf → ℕ → Bool
is_due x s = waited_by s x == (x.waits s).grace

-- its place is its number, if it is due
abbrev pub reached_if : ℕ → ℕ → WaitsOf → WaitsOf
reached_if s place x = if is_due x s then reached s place x else x

-- and so for all of these, the first of which has so many before it
unfoldable pub reached_all : ℕ → List ℕ → WaitsOf → WaitsOf
reached_all place [] x = x
reached_all place (s ∷ ss) x = reached_if s place (reached_all (suc place) ss x)

-- as a dispatch finds it, if these slots are ready, in order
abbrev pub met : List ℕ → WaitsOf → WaitsOf
met order x = reached_all 0 order (seen_at_top x)

-- a dispatch is over
unfoldable pub dispatched : Bool → WaitsOf → WaitsOf
dispatched by_name x = record x { dispatches = x.dispatches + 1; named = one_more by_name x.named }

-- the grace, the number and both totals, as a word
abbrev pub late_by : ℕ → WaitsOf → ℕ
late_by s x = ((x.waits s).grace + ((x.waits s).number + (x.named + x.tops) % words) % words) % words

-- what a ready thread is allowed so far
abbrev pub allowed_by : ℕ → WaitsOf → ℕ
allowed_by s x = if nat_le (waited_by s x) (x.waits s).grace then (x.waits s).grace else late_by s x

-- what a thread is allowed at its own dispatch, which is met and not over
abbrev pub allowed_taken : ℕ → WaitsOf → ℕ
allowed_taken s x = if nat_lt (waited_by s x) (x.waits s).grace then (x.waits s).grace else late_by s x

-- counts stand still after so many dispatches
abbrev pub is_counting : WaitsOf → Bool
is_counting x = nat_lt x.dispatches last_count

-- While dispatches are counted: how long the thread of a slot waited, and how long it might, if it is dispatched now, where these
-- slots are ready, in order.
pub record TellsTurn (s : ℕ) (order : List ℕ) (x : WaitsOf) (turn : Turn) : Type 0 where
  pub waited : is_counting x ≡ true → turn.waited ≡ waited_by s (met order x)
  pub allowed : is_counting x ≡ true → turn.allowed ≡ allowed_taken s (met order x)

-- a dispatch, by name or not, where these slots are ready, in order
unfoldable pub takes_ready : Bool → List ℕ → WaitsOf → WaitsOf
takes_ready by_name order x = if is_counting x then dispatched by_name (met order x) else x
