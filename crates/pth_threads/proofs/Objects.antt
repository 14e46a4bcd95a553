-- What a change of what is numbered makes of the attribute objects.
use Rattle.std.proofs.Common.{◌≡◌, ◌≢◌, ℕ, ◌+◌, ℤ, pos, negsuc, ◌<ℤ◌, ◌≤ℤ◌, true, false, Option, Some, None, is_none, option_map, IfSome, IfNone, Result, Ok, Err, IfOk, OnOk, OnErr, refl, sym, ◌∙◌, ap, subst, arith}
use Rattle.std.proofs.lemmas.Int.{ints}
use Rattle.pth_base.specs.Limits.{IsGreatestPriority}
use Rattle.pth_base.specs.Table.{put}
use Rattle.pth_base.specs.declared.ids.Slot.{Slot}
use Rattle.pth_numbered.specs.declared.error.AddErr.{AddErr}
use Rattle.pth_base.specs.Naming.{seen}
use Rattle.pth_base.proofs.Tables.{put_by, same_self, not_same}
use Rattle.pth_base.proofs.Namings.{seen_at, seen_put, seen_add, seen_drop}
use Rattle.pth_numbered.specs.Numbered as numbered
use Rattle.pth_numbered.specs.Numbered.{NumberedOf, thing_at, number_at, number_known}
use Rattle.pth_numbered.specs.Operands.{number, named}
use Rattle.pth_threads.specs.Threads.{ThreadsOf, entry_at, tid_at, tid_of, slot_of, count}
use Rattle.pth_threads.specs.Attributes.{AttrsOf, attribute_limit, object_of, known_of, is_full, first_values, AreSet, MayStand, AreKept, MakesObject, Exchanges, Drops}
use Rattle.pth_threads.specs.declared.attribute.Attribute.{Attribute}
use Rattle.pth_threads.specs.declared.attribute.Attribute.TheVariants.{Free}
use Rattle.pth_threads.specs.declared.entry.Entry.{Entry}
use Rattle.pth_threads.specs.declared.entry.NewThread.{NewThread}

-- ---- what is found

-- what stands at a slot stands under its number
seen_none : {A : Type 0} (d : A) (slots : ℕ → Option ℕ) (f : ℕ → A) (n : ℕ) → slots n ≡ None → seen d slots f n ≡ d
unfolding seen
seen_none d slots f n e = rw e

pub object_at : (x : AttrsOf) (n u : ℕ) → slot_of x.objects n ≡ Some u → object_of x n ≡ thing_at x.objects u
object_at x n u e = seen_at None (slot_of x.objects) (thing_at x.objects) n u e

pub no_object : (x : AttrsOf) (n : ℕ) → slot_of x.objects n ≡ None → object_of x n ≡ None
no_object x n e = seen_none None (slot_of x.objects) (thing_at x.objects) n e

pub entry_known : (x : ThreadsOf) (t u : ℕ) → slot_of x t ≡ Some u → known_of x t ≡ entry_at x u
entry_known x t u e = seen_at None (slot_of x) (entry_at x) t u e

pub not_known : (x : ThreadsOf) (t : ℕ) → slot_of x t ≡ None → known_of x t ≡ None
not_known x t e = seen_none None (slot_of x) (entry_at x) t e

-- an operand names nothing below 0 and above the numbers that were given
pub below_none : (objects : ℕ → Option Attribute) (a : ℤ) → a <ℤ pos 0 → named objects a ≡ None
below_none objects (pos n) low = absurd (omega (arith, ints))
below_none objects (negsuc n) low = refl

pub above_none : (x : AttrsOf) (a : ℤ) → numbered.IsKept x.objects → pos x.objects.made <ℤ a → named (object_of x) a ≡ None
above_none x (pos n) law high = no_object x n (law.fresh n (omega (arith, ints)))
above_none x (negsuc n) law high = refl

-- what is looked up for an operand
attribute_at : (objects : ℕ → Option Attribute) (a : ℤ) → pos 0 ≤ℤ a → named objects a ≡ objects (number a)
attribute_at objects (pos n) high = refl
attribute_at objects (negsuc n) high = absurd (omega (arith, ints))

pub found_none : (x : AttrsOf) (a : ℤ) (o : Option Slot) → pos 0 ≤ℤ a → slot_of x.objects (number a) ≡ option_map (λ (s : Slot). s.0) o → IfNone o (named (object_of x) a ≡ None)
found_none x a None high e = attribute_at (object_of x) a high ∙ no_object x (number a) e
found_none x a (Some s) high e = tt

pub found_some : (x : AttrsOf) (a : ℤ) (o : Option Slot) → pos 0 ≤ℤ a → slot_of x.objects (number a) ≡ option_map (λ (s : Slot). s.0) o → IfSome o (λ s. named (object_of x) a ≡ thing_at x.objects s.0)
found_some x a None high e = tt
found_some x a (Some s) high e = attribute_at (object_of x) a high ∙ object_at x (number a) s.0 e

-- a thread that is found is known
some_entry : (o : Option Entry) → tid_of o ≢ 0 → is_none o ≡ false
some_entry (Some e) used = refl
some_entry None used = absurd (used refl)

pub known_thread : (x : ThreadsOf) (t u : ℕ) → slot_of x t ≡ Some u → tid_at x u ≢ 0 → is_none (known_of x t) ≡ false
unfolding tid_at
known_thread x t u e used = rw (entry_known x t u e) (some_entry (entry_at x u) used)

-- ---- how many there are

pub full : (x : AttrsOf) → numbered.IsKept x.objects → AreKept x → count x.objects ≡ x.objects.limit → is_full (object_of x) x.objects.made ≡ true
full x law kept e = let is : number_known (object_of x) x.objects.made ≡ attribute_limit = law.counted ∙ e ∙ kept.limit in rw is (same_self attribute_limit)

pub room : (x : AttrsOf) → numbered.IsKept x.objects → AreKept x → (count x.objects ≡ x.objects.limit → ⊥) → is_full (object_of x) x.objects.made ≡ false
room x law kept e = not_same (number_known (object_of x) x.objects.made) attribute_limit (λ is. e (sym law.counted ∙ is ∙ sym kept.limit))

-- ---- what is kept

abbrev AreAllowed : ℕ → (ℕ → Option Attribute) → Type 0
AreAllowed top f = (u : ℕ) (o : Attribute) → f u ≡ Some o → MayStand top o

some_is : (o p : Attribute) → Some o ≡ Some p → o ≡ p
some_is o p h = cc

not_some : (o : Attribute) → None ≡ Some o → ⊥
not_some o h = cc

allowed_put : (top : ℕ) (f : ℕ → Option Attribute) (u : ℕ) (o : Option Attribute) → AreAllowed top f → ((p : Attribute) → o ≡ Some p → MayStand top p) → AreAllowed top (put f u o)
allowed_put top f u o all here i p =
    let P : Option Attribute → Type 0 = λ v. v ≡ Some p → MayStand top p in
    put_by P f u o i (λ same. here p) (λ apart. all i p)

-- the objects exchanged, under the same greatest priority
abbrev pub with_objects : AttrsOf → NumberedOf Attribute → AttrsOf
with_objects x y = record x { objects = y }

kept_by : (x : AttrsOf) (y : NumberedOf Attribute) (u : ℕ) (o : Option Attribute) → AreKept x → thing_at y ≡ put (thing_at x.objects) u o → y.limit ≡ x.objects.limit → ((p : Attribute) → o ≡ Some p → MayStand x.top p) → AreKept (with_objects x y)
kept_by x y u o kept things limit here = record {
  limit = limit ∙ kept.limit;
  allowed = subst (AreAllowed x.top) (sym things) (allowed_put x.top (thing_at x.objects) u o kept.allowed here);
  range = kept.range;
}

-- an object with values of its own has such that it may have
pub allowed_at : (x : AttrsOf) (a : ℤ) (u : ℕ) → AreKept x → named (object_of x) a ≡ thing_at x.objects u → (y : NewThread) → named (object_of x) a ≡ Some (Free y) → AreSet x.top y
allowed_at x a u kept e y h = kept.allowed u (Free y) (sym e ∙ h)

pub first_allowed : (top : ℕ) → AreSet top first_values
first_allowed top = record { prio = record { low = omega (arith, ints); high = omega (arith, ints) }; cancel = record { low = omega arith; high = omega arith } }

-- ---- one more object

module _ (x : AttrsOf) (y : NumberedOf Attribute) (u : ℕ) (o : Attribute) (adds : numbered.Adds x.objects y u o) where
  pub made : numbered.IsKept x.objects → MakesObject x (with_objects x y) o
  made law = record {
    objects = rw (adds.slots, adds.things) (seen_add None (slot_of x.objects) (number_at x.objects) (thing_at x.objects) (x.objects.made + 1) u law.tied (Some o) adds.unused);
    made = adds.made;
    count = adds.count;
    top = refl;
  }

  pub kept_made : AreKept x → MayStand x.top o → AreKept (with_objects x y)
  kept_made kept may = kept_by x y u (Some o) kept adds.things adds.limit (λ p same. subst (MayStand x.top) (some_is o p same) may)

-- whatever the answer
pub kept_added : (x : AttrsOf) (y : NumberedOf Attribute) (o : Attribute) (r : Result (ℕ × Slot) AddErr) → AreKept x → MayStand x.top o → IfOk r (λ p. numbered.Adds x.objects y p.1.0 o) → OnErr r (y ≡ x.objects) → AreKept (with_objects x y)
kept_added x y o (Ok p) kept may adds same = kept_made x y p.1.0 o adds kept may
kept_added x y o (Err e) kept may adds same = subst (λ z. AreKept (with_objects x z)) (sym same) kept

pub made_added : (x : AttrsOf) (y : NumberedOf Attribute) (o : Attribute) (r : Result (ℕ × Slot) AddErr) → numbered.IsKept x.objects → IfOk r (λ p. numbered.Adds x.objects y p.1.0 o) → OnOk r (MakesObject x (with_objects x y) o)
made_added x y o (Ok p) law adds = made x y p.1.0 o adds law
made_added x y o (Err e) law adds = tt

-- ---- another object

module _ (x : AttrsOf) (y : NumberedOf Attribute) (u : ℕ) (o : Attribute) (changes : numbered.Changes x.objects y u o) where
  pub exchanged : numbered.IsKept x.objects → number_at x.objects u ≢ 0 → Exchanges x (with_objects x y) (number_at x.objects u) o
  exchanged law used = record {
    objects = rw (changes.slots, changes.things) (seen_put None (slot_of x.objects) (number_at x.objects) (thing_at x.objects) (number_at x.objects u) u (Some o) law.tied (law.tied.slot u used));
    made = changes.made;
    count = changes.count;
    top = refl;
  }

  pub kept_exchanged : AreKept x → MayStand x.top o → AreKept (with_objects x y)
  kept_exchanged kept may = kept_by x y u (Some o) kept changes.things changes.limit (λ p same. subst (MayStand x.top) (some_is o p same) may)

-- ---- an object is gone

module _ (x : AttrsOf) (y : NumberedOf Attribute) (u : ℕ) (gone : numbered.Removes x.objects y u) where
  pub dropped : numbered.IsKept x.objects → number_at x.objects u ≢ 0 → Drops x (with_objects x y) (number_at x.objects u)
  dropped law used = record {
    objects = rw (gone.slots, gone.things) (seen_drop None (slot_of x.objects) (number_at x.objects) (thing_at x.objects) (number_at x.objects u) u law.tied None (law.tied.slot u used));
    made = gone.made;
    count = gone.count;
    top = refl;
  }

  pub kept_dropped : AreKept x → AreKept (with_objects x y)
  kept_dropped kept = kept_by x y u None kept gone.things gone.limit (λ p same. absurd (not_some p same))

-- ---- no objects

pub no_objects : (x : AttrsOf) → slot_of x.objects ≡ (λ _. None) → object_of x ≡ (λ _. None)
unfolding seen
no_objects x e = rw e

pub kept_none : (x : AttrsOf) → thing_at x.objects ≡ (λ _. None) → x.objects.limit ≡ attribute_limit → IsGreatestPriority x.top → AreKept x
kept_none x things limit range = record { limit = limit; range = range; allowed = λ u o h. absurd (not_some o (sym (ap (λ (f : ℕ → Option Attribute). f u) things) ∙ h)) }
