-- What a new thread is given has a base priority of a thread.
use Rattle.std.proofs.Common.{◌≡◌, ◌≤◌, ℕ, Option, Some, None, is_none, option_map, Result, Ok, Err, IfOk, if◌then◌else◌, refl, subst, arith}
use Rattle.std.proofs.lemmas.Int.{ints}
use Rattle.std.specs.Option.{ok_or}
use Rattle.pth_base.specs.declared.errno.Errno.{Errno}
use Rattle.pth_base.specs.declared.errno.Errno.TheVariants.{ESRCH}
use Rattle.pth_threads.specs.Attributes.{AreSet, known_of, values_of, values_answer}
use Rattle.pth_threads.specs.declared.attribute.Attribute.{Attribute}
use Rattle.pth_threads.specs.declared.attribute.Attribute.TheVariants.{Free, Bound}
use Rattle.pth_threads.specs.declared.entry.Entry.{Entry}
use Rattle.pth_threads.specs.declared.entry.NewThread.{NewThread}
use Rattle.pth_world.specs.Sound.{IsPrio, HasPrio}
use Rattle.pth_world.specs.WellFormed.{WellFormed}
use Rattle.pth_world.specs.World.{WorldOf, entry_in}
use Rattle.pth_world.proofs.Moves.{whole_prio}

abbrev HasItsPrio : NewThread → Type 0
HasItsPrio x = IsPrio x.prio

of_object : (top : ℕ) → top ≤ 20 → (x : NewThread) → AreSet top x → IsPrio x.prio
of_object top most x set = record { low = (let h = set.prio.low in omega (arith, ints)); high = (let h = set.prio.high in omega (arith, ints)) }

same_ok : (x y : NewThread) → IsPrio y.prio → ◌≡◌ {A = Result NewThread Errno} (Ok x) (Ok y) → IsPrio x.prio
same_ok x y may is = let same : y ≡ x = cc in subst HasItsPrio same may

pub given_prio : {P S H : Type 0} (top : ℕ) → top ≤ 20 → (w : WorldOf P S H) (o : Option Attribute) (q : Result NewThread Errno) → WellFormed w → q ≡ values_answer (known_of w.threads.records) o → ((x : NewThread) → o ≡ Some (Free x) → AreSet top x) → IfOk q (λ of. IsPrio of.prio)
given_prio top most w o (Err e) whole is set = tt
given_prio top most w None (Ok x) whole is set = absurd (cc is)
given_prio top most w (Some (Free y)) (Ok x) whole is set = same_ok x y (of_object top most y (set y refl)) is
given_prio top most w (Some (Bound t)) (Ok x) whole is set = by_thread (known_of w.threads.records t.0) (whole_prio w t.0 whole) is
  where
    by_thread : (k : Option Entry) → HasPrio k → Ok x ≡ (if is_none k then Err ESRCH else ok_or (option_map values_of k) ESRCH) → IsPrio x.prio
    by_thread None has h = absurd (cc h)
    by_thread (Some e) has h = same_ok x (values_of e) has h
