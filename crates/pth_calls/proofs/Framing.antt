-- What single calls leave of a world.
use Rattle.std.proofs.Common.{◌≡◌, ◌≢◌, ◌∙◌, ◌+◌, ◌≤◌, ℕ, Bool, true, false, Option, Some, Result, Ok, Err, OnOk, OnErr, if◌then◌else◌, refl, ap, sym, subst, arith}
use Rattle.pth_kernel.specs.Kernel.{KernelOf}
use Rattle.pth_model.specs.Ending.{other_than}
use Rattle.pth_ring.specs.Arena.{RingsOf, events_of}
use Rattle.pth_ring.specs.Rings.{Events}
use Rattle.pth_threads.specs.Attributes.{AttrsOf}
use Rattle.pth_world.proofs.Events.{events_frame}
use Rattle.pth_world.proofs.Frames.{gives_none}
use Rattle.pth_world.proofs.Kernels.{kernel_whole}
use Rattle.pth_world.proofs.Moves.{rests_still}
use Rattle.pth_world.proofs.Ranks.{ranks_none}
use Rattle.pth_world.proofs.SettingValues.{objects_frame}
use Rattle.pth_world.specs.Frame.{Frame}
use Rattle.pth_world.specs.Ranks.{KeepsRanks}
use Rattle.pth_world.specs.Numbering.{Thread, Object, Event, Port, Numbers, no_numbers, one_of}
use Rattle.pth_world.specs.WellFormed.{WellFormed}
use Rattle.pth_world.specs.World.{WorldOf}

-- one of two
pub made_either : (b : Bool) (x y : Events) (m : ℕ) → x.made ≤ m → y.made ≤ m → (if b then x else y).made ≤ m
made_either true x y m a e = a
made_either false x y m a e = e

-- a thread still runs where another one ends
pub runs_still : (t u : ℕ) (r : Option ℕ) → r ≡ Some t → u ≢ t → other_than u r ≡ Some t
runs_still t u r is other = rests_still u r (λ (same : r ≡ Some u). (let e : u ≡ t = cc in other e)) ∙ is

pub runs_unless : (b : Bool) (t u : ℕ) (r : Option ℕ) → r ≡ Some t → u ≢ t → (if b then r else other_than u r) ≡ Some t
runs_unless true t u r is other = is
runs_unless false t u r is other = runs_still t u r is other

pub runs_if : (b : Bool) (t u : ℕ) (r : Option ℕ) → r ≡ Some t → u ≢ t → (if b then other_than u r else r) ≡ Some t
runs_if true t u r is other = runs_still t u r is other
runs_if false t u r is other = is

module _ {P S H : Type 0} (w : WorldOf P S H) (whole : WellFormed w) where
  -- the rings changed, or not
  pub rings_frame : {A E : Type 0} (n : Numbers) (x : RingsOf) (now : Events) (q : Result A E) → OnOk q (events_of x ≡ now) → OnErr q (x ≡ w.events) → now.made ≤ w.events.made + n Event → Frame w (record w { events = x }) n w.scheduler.running false
  rings_frame n x now (Ok y) changed refused few = events_frame w x n whole (let is = ap (λ (k : Events). k.made) changed in omega arith)
  rings_frame n x now (Err d) changed refused few = events_frame w x n whole (let is = ap (λ (k : RingsOf). k.made) refused in omega arith)

  -- the objects changed, or not, and none was made
  pub kept_objects_frame : {A E : Type 0} (y : AttrsOf) (q : Result A E) → OnOk q ((y.objects.made ≡ w.attributes.objects.made) × (y.top ≡ w.attributes.top)) → OnErr q (y ≡ w.attributes) → Frame w (record w { attributes = y }) no_numbers w.scheduler.running false
  kept_objects_frame y (Ok x) kept refused = objects_frame w y no_numbers whole kept.1 (let is : y.objects.made ≡ w.attributes.objects.made = kept.0 in omega arith)
  kept_objects_frame y (Err e) kept refused = objects_frame w y no_numbers whole (ap (λ (k : AttrsOf). k.top) refused) (let is = ap (λ (k : AttrsOf). k.objects.made) refused in omega arith)

  -- one was made
  pub object_made_frame : (v : WorldOf P S H) → v ≡ record w { attributes = v.attributes } → v.attributes.objects.made ≡ w.attributes.objects.made + 1 → v.attributes.top ≡ w.attributes.top → Frame w v (one_of Object) w.scheduler.running false
  object_made_frame v same made top = subst (λ (z : WorldOf P S H). Frame w z (one_of Object) w.scheduler.running false) (sym same) (objects_frame w v.attributes (one_of Object) whole top (let is = made in omega arith))

-- the kernel changed alone
pub kernel_frame : {P S H : Type 0} (w : WorldOf P S H) (x : KernelOf) → WellFormed w → Frame w (record w { kernel = x }) no_numbers w.scheduler.running false
kernel_frame w x whole = record {
  whole = kernel_whole w x whole;
  runs = refl;
  made = gives_none no_numbers w (record w { kernel = x }) (λ k. refl);
  ranks = ranks_none w.threads;
  preferred = refl;
}

-- new threads are favoured, or not
pub favoured_frame : {P S H : Type 0} (w v : WorldOf P S H) (on : Bool) → WellFormed v → v ≡ record w { scheduler = record w.scheduler { favour_new = on } } → Frame w v no_numbers w.scheduler.running false
favoured_frame {P} {S} {H} w v on whole same =
    subst (λ (z : WorldOf P S H). Frame w z no_numbers w.scheduler.running false) (sym same) (record {
      whole = subst (λ (z : WorldOf P S H). WellFormed z) same whole;
      runs = refl;
      made = gives_none no_numbers w (record w { scheduler = record w.scheduler { favour_new = on } }) (λ k. refl);
      ranks = ranks_none w.threads;
      preferred = refl;
    })

-- a thread was made
pub spawned_frame : {P S H : Type 0} (w v : WorldOf P S H) (r : Option ℕ) → w.scheduler.running ≡ r → WellFormed v → v.threads.records.made ≡ w.threads.records.made + 1 → KeepsRanks 1 w.threads v.threads → v ≡ record w { threads = v.threads } → Frame w v (one_of Thread) r false
spawned_frame {P} {S} {H} w v r is whole made ranks same = record {
  whole = whole;
  runs = ap (λ (z : WorldOf P S H). z.scheduler.running) same ∙ is;
  made = elim [
    | Thread ↦ (let e = made in omega arith)
    | Object ↦ (let e = ap (λ (z : WorldOf P S H). z.attributes.objects.made) same in omega arith)
    | Event ↦ (let e = ap (λ (z : WorldOf P S H). z.events.made) same in omega arith)
    | Port ↦ (let e = ap (λ (z : WorldOf P S H). z.store.ports.made) same in omega arith)
  ];
  ranks = ranks;
  preferred = ap (λ (z : WorldOf P S H). z.scheduler.preferred) same;
}
