-- What words stand for as marks and endings, where they tell no call, no act and no stall.
use Rattle.std.specs.Prelude.{ℕ, List, [], ◌∷◌, Option, Some, None, true, false, codes, if◌then◌else◌, option_and_then, option_map}
use Rattle.std.specs.Str.{bytes_eq}
use Rattle.pth_base.specs.declared.call.Call.{Call}
use Rattle.pth_base.specs.declared.ids.Tid.{Tid}
use Rattle.pth_base.specs.declared.mark.Mark.{Mark}
use Rattle.pth_base.specs.declared.mark.Mark.TheVariants as mark
use Rattle.pth_text.specs.Number.{numeral_value}
use Rattle.pth_transcript.specs.Naturals.{natural_value, index_value, object_value, thread_value}
use Rattle.pth_transcript.specs.declared.ending.Ending.{Ending}
use Rattle.pth_transcript.specs.declared.ending.Ending.TheVariants as ending
use Rattle.pth_transcript.specs.declared.told.Told.{Told}

-- ---- lines that do not begin with a thread

-- a dispatch of a thread that waited so many turns and may wait so many
unfoldable pub dispatch_of : (turn at t rank : List ℕ) → (waited allowed : ℕ) → Option Mark
dispatch_of turn at t rank waited allowed =
    option_and_then (λ turn. option_and_then (λ at. option_and_then (λ t. option_map (λ rank. mark.Dispatch turn at t rank waited allowed)
    (numeral_value rank)) (thread_value t)) (natural_value at)) (natural_value turn)

-- the same, by the words of an audit
unfoldable pub audited_of : (turn at t rank waited allowed : List ℕ) → Option Mark
audited_of turn at t rank waited allowed =
    option_and_then (λ waited. option_and_then (λ allowed. dispatch_of turn at t rank waited allowed) (natural_value allowed)) (natural_value waited)

abbrev pub told_plain : Mark → Told
told_plain m = record { mark = m; audit = false }

abbrev pub told_audited : Mark → Told
told_audited m = record { mark = m; audit = true }

-- the words behind `turn`
abbrev pub turn_of : List (List ℕ) → Option Told
turn_of (turn ∷ at_word ∷ at ∷ t ∷ rank_word ∷ rank ∷ []) = option_map told_plain (dispatch_of turn at t rank 0 0)
turn_of (turn ∷ at_word ∷ at ∷ t ∷ rank_word ∷ rank ∷ waited_word ∷ waited ∷ allowed_word ∷ allowed ∷ []) =
    option_map told_audited (audited_of turn at t rank waited allowed)
turn_of _ = None

-- the words behind `wake`
abbrev pub woken_of : List (List ℕ) → Option Mark
woken_of (t ∷ rank_word ∷ rank ∷ []) = option_and_then (λ t. option_map (λ rank. mark.Woke t rank) (numeral_value rank)) (thread_value t)
woken_of _ = None

-- the words behind `idle`
abbrev pub moved_of : List (List ℕ) → Option Mark
moved_of (to_word ∷ at ∷ []) = option_map (λ at. mark.Moved at) (natural_value at)
moved_of _ = None

-- ---- marks of a thread

-- its end, a note, or a barrier that it leaves
abbrev pub valued_of : Tid → (word number : List ℕ) → Option Mark
valued_of t word number =
    if bytes_eq word (codes "ends") then option_map (λ v. mark.Ended t v) (numeral_value number)
    else (if bytes_eq word (codes "note") then option_map (λ v. mark.Noted t v) (numeral_value number)
    else (if bytes_eq word (codes "withdraws") then option_map (λ b. mark.Withdrew t b) (object_value number)
    else None))

-- a mutex or a lock that it gives up
abbrev pub given_of : Tid → (kind number : List ℕ) → Option Mark
given_of t kind number =
    if bytes_eq kind (codes "mutex") then option_map (λ m. mark.GaveMutex t m) (object_value number)
    else (if bytes_eq kind (codes "rwlock") then option_map (λ l. mark.GaveLock t l) (object_value number)
    else None)

-- a mutex that it takes
abbrev pub taken_of : Tid → (kind number : List ℕ) → Option Mark
taken_of t kind number =
    if bytes_eq kind (codes "mutex") then option_map (λ m. mark.Took t m) (object_value number)
    else None

-- a mutex that it takes, or a mutex or a lock that it gives up
abbrev pub held_of : Tid → (word kind number : List ℕ) → Option Mark
held_of t word kind number =
    if bytes_eq word (codes "takes") then taken_of t kind number
    else (if bytes_eq word (codes "gives") then given_of t kind number
    else None)

-- a handler or a destructor that runs with an argument
abbrev pub run_of : Tid → (word number arg : List ℕ) → Option Mark
run_of t word number arg =
    if bytes_eq word (codes "handler") then option_and_then (λ h. option_map (λ arg. mark.Handler t (record { 0 = h }) arg) (numeral_value arg)) (index_value number)
    else (if bytes_eq word (codes "destructor") then option_and_then (λ k. option_map (λ arg. mark.Destructor t k arg) (numeral_value arg)) (object_value number)
    else None)

-- a mark that tells no call and no act
abbrev pub plain_of : Tid → List (List ℕ) → Option Mark
plain_of t (word ∷ []) = if bytes_eq word (codes "canceled") then Some (mark.Canceled t None) else None
plain_of t (word ∷ number ∷ []) = valued_of t word number
plain_of t (word ∷ kind ∷ number ∷ []) = held_of t word kind number
plain_of t (word ∷ number ∷ arg_word ∷ arg ∷ []) = run_of t word number arg
plain_of t _ = None

-- a mark with a call that is not answered, by its last word
unfoldable pub unanswered_of : Tid → (last : List ℕ) → Call → Option Mark
unanswered_of t last c =
    if bytes_eq last (codes "waits") then Some (mark.Waits t c)
    else (if bytes_eq last (codes "retakes") then Some (mark.Retakes t c)
    else (if bytes_eq last (codes "canceled") then Some (mark.Canceled t (Some c))
    else None))

-- ---- endings

-- an ending that is no stall
abbrev pub ending_of : List (List ℕ) → Option Ending
ending_of (word ∷ []) = if bytes_eq word (codes "killed") then Some ending.Killed else None
ending_of (word ∷ v ∷ []) = if bytes_eq word (codes "ended") then option_map (λ v. ending.Ended v) (numeral_value v) else None
ending_of (word ∷ limit_word ∷ n ∷ []) = if bytes_eq word (codes "step") then option_map (λ n. ending.StepLimit n) (natural_value n) else None
ending_of _ = None
