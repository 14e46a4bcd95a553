-- What laws of explanations speak of: what the last mark about a thread says, and lists.
use Rattle.std.specs.Prelude.{◌≡◌, ◌⊎◌, ◌<◌, ◌≤◌, ℕ, ◌==◌, ◌||◌, Bool, true, false, List, [], ◌∷◌, fold, get_or, length, if◌then◌else◌, Option, Some, None}
use Rattle.pth_base.specs.declared.mark.Mark.{Mark}
use Rattle.pth_base.specs.declared.mark.Mark.TheVariants as mark
use Rattle.pth_laws.specs.Marks.{thread_of}
use Rattle.pth_explaining.specs.Threads.{spawned_by}

-- ---- the last mark about a thread

abbrev pub is_number : ℕ → Option ℕ → Bool
is_number t None = false
is_number t (Some u) = u == t

-- a mark is of t, or spawns t
abbrev pub is_about : ℕ → Mark → Bool
is_about t m = is_number t (thread_of m) || is_number t (spawned_by m)

-- the last mark about t
abbrev pub about_after : ℕ → Option Mark → Mark → Option Mark
about_after t last m = if is_about t m then Some m else last

abbrev pub last_about : ℕ → List Mark → Option Mark
last_about t marks = fold (about_after t) None marks

-- a mark says that its thread waits
abbrev pub says_wait : Option Mark → Bool
says_wait (Some (mark.Waits u c)) = true
says_wait (Some (mark.Retakes u c)) = true
says_wait m = false

-- ---- lists

-- x is one of them
abbrev pub IsAmong : {A : Type 0} → A → List A → Type 0
IsAmong x [] = ⊥
IsAmong x (y ∷ ys) = (x ≡ y) ⊎ IsAmong x ys

-- the first thread of these is the least
abbrev pub BeginsWithLeast : List ℕ → Type 0
BeginsWithLeast ts = (i : ℕ) → i < length ts → get_or ts 0 0 ≤ get_or ts i 0
