-- How many numbers of each kind a world gave. None is used twice.
--
-- Numbers are a function of the kind, so a further kind is a constructor and a clause of `one_of` and of `made`.
use Rattle.std.specs.Prelude.{◌≡◌, ℕ, ◌+◌, ◌<◌, ◌≤◌}
use Rattle.pth_world.specs.World.{WorldOf}

-- what has a number: a thread, an attribute object, an event or a message port
pub data Kind : Type 0 where
  Thread : Kind
  Object : Kind
  Event : Kind
  Port : Kind

-- so many numbers of each kind
abbrev pub Numbers : Type 0
Numbers = Kind → ℕ

abbrev pub no_numbers : Numbers
no_numbers k = 0

-- one number of this kind, and none of others
abbrev pub one_of : Kind → Numbers
one_of Thread Thread = 1
one_of Object Object = 1
one_of Event Event = 1
one_of Port Port = 1
one_of j k = 0

abbrev pub one_of_each : Numbers
one_of_each k = 1

-- how many a world gave
abbrev pub made : {P S H : Type 0} → WorldOf P S H → Numbers
made w Thread = w.threads.records.made
made w Object = w.attributes.objects.made
made w Event = w.events.made
made w Port = w.store.ports.made

-- at most n of each kind
abbrev pub HasGiven : {P S H : Type 0} → ℕ → WorldOf P S H → Type 0
HasGiven n w = (k : Kind) → made w k ≤ n

-- so few of each kind that there is a next one
abbrev pub HasNumbers : {P S H : Type 0} → WorldOf P S H → Type 0
HasNumbers w = (k : Kind) → made w k < 2147483648

-- from w to v: at most so many more of each kind
abbrev pub GivesAtMost : {P S H : Type 0} → Numbers → WorldOf P S H → WorldOf P S H → Type 0
GivesAtMost n w v = (k : Kind) → made v k ≤ made w k + n k

-- no number of any kind was given
abbrev pub GivesNone : {P S H : Type 0} → WorldOf P S H → WorldOf P S H → Type 0
GivesNone w v = (k : Kind) → made v k ≡ made w k
