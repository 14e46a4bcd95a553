use Rattle.std.proofs.Common.{◌≡◌, ◌<◌, ◌∙◌, ℕ, Bool, true, false, List, length, set, ℤ, pos, negsuc, refl, ap, sym, subst, arith}
use Rattle.std.proofs.lemmas.Int.{ints}
use lib.IntN.{nat_abs}
use lib.Signed.{lt_z, le_z}
use mir.Syntax.{w64}
use mir.Val.{to_z, of_z}
use Rattle.pth_base.specs.Table.{put, table}
use Rattle.pth_base.proofs.Lists.{table_set}
use Rattle.pth_numbered.specs.Operands.{number}
use Rattle.pth_model.specs.State.{Control}
use Rattle.pth_model.specs.Changes.{uses}
use Rattle.pth_world.specs.Shows.{Shows}
use Rattle.pth_world.specs.World.{WorldOf}
use Rattle.pth_world.proofs.world.World.once.Goals as goal

place_is : (o : ℤ) → lt_z o (pos 0) ≡ false → nat_abs o ≡ number o
place_is (pos n) h = refl
place_is (negsuc n) h = absurd (cc h)

place_low : (o : ℤ) → lt_z o (pos 0) ≡ false → le_z (pos 64) o ≡ false → nat_abs o < 64
place_low (pos n) h k = grind (arith, ints)
place_low (negsuc n) h k = absurd (cc h)

used_shows : {P S H : Type 0} (w : WorldOf P S H) (y : List Bool) (o : ℕ) (k : Control P S H) → table false y ≡ put (table false w.used) o true → Shows w k → Shows (record w { used = y }) (uses o k)
used_shows w y o k is sh = record { program = sh.program; shared = sh.shared; threads = sh.threads; attributes = sh.attributes; events = sh.events; conditions = sh.conditions; barriers = sh.barriers; kernel = sh.kernel; used = ap (λ (f : ℕ → Bool). put f o true) sh.used ∙ sym is; scheduler = sh.scheduler }

pub returns-clause-first : goal.returns-clause-first
returns-clause-first g c first k =
    let w = c.self.inside in
    let is : to_z w64 (of_z w64 c.args.o) ≡ c.args.o = omega (arith, ints) in
    let low = rw is at c.if-o-lt0.false in
    let high = rw is at c.if-o-ge-ONCE_CONTROLS.false in
    let within : nat_abs c.args.o < length w.used = subst (λ (n : ℕ). nat_abs c.args.o < n) (sym c.self.told) (place_low c.args.o low high) in
    let is_put : table false (set w.used (nat_abs c.args.o) true) ≡ put (table false w.used) (number c.args.o) true =
    table_set w.used (nat_abs c.args.o) true false within ∙ ap (λ (n : ℕ). put (table false w.used) n true) (place_is c.args.o low) in
    rw (← c.self.view_is, is) (λ sh. used_shows _ _ (number c.args.o) k is_put sh)
