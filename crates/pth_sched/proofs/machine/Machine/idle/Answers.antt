use Rattle.std.proofs.Common.{◌≡◌, ◌∙◌, Bool, true, false, None, Result, Ok, Err, IfOk, if◌then◌else◌, ap, refl, sym, subst, rules}
use Rattle.std.specs.Result.{is_err}
use Rattle.pth_base.specs.declared.outcome.Outcome.{Outcome}
use Rattle.pth_base.specs.declared.outcome.Outcome.TheVariants.{OutOfMemory, Running}
use Rattle.pth_model.specs.Course.{Course}
use Rattle.pth_model.specs.Part.{moves}
use Rattle.pth_sched.specs.Running.{Stands, Makes}
use Rattle.std.proofs.lemmas.Result.{IfOk-weaker}
use Rattle.pth_sched.proofs.Following.{made_part}
use Rattle.pth_sched.proofs.Moving.{empty_is_idle}
use Rattle.pth_sched.proofs.Parts.{part_move, makes_as}
use Rattle.std.proofs.Common.{OnOk}
use Rattle.pth_end.specs.Whole.{Whole}
use Rattle.pth_sched.specs.MachineOf.{MachineOf}
use Rattle.pth_sched.proofs.machine.Machine.idle.Goals as goal

-- a machine that goes on did not fail
unfailed : (failed : Bool) (o : Outcome) → (if failed then OutOfMemory else o) ≡ Running → failed ≡ false
unfailed true o goes = absurd (cc goes)
unfailed false o goes = refl

-- what is answered is no failure
if_answered : {A E : Type 0} (r : Result A E) (Q : A → Type 0) (R : Bool → A → Type 0) → ((x : A) → Q x → R false x) → IfOk r Q → IfOk r (R (is_err r))
if_answered (Ok x) Q R leads h = leads x h
if_answered (Err e) Q R leads h = tt

pub returns-clause-moves : goal.returns-clause-moves
returns-clause-moves g c =
    let inside = c.self.inside.schedule in
    let new = c.idle-moved.new.self in
    let goes = unfailed c.self.inside.failed inside.turn.outcome (subst (λ m. m.turn.outcome ≡ Running) (sym c.self.view_is) c.requires.goes) in
    let as_made = λ (failed moved : Bool). moved ≡ true → (k : Course _ _ _) → Stands c.args.self.now k → Makes (record new { turn = record new.turn { outcome = if failed then OutOfMemory else new.turn.outcome } }) c.args.marks.now c.idle-moved.new.marks (moves g.P.Program.functions k.turn k.state) in
    rw c.is_err-self-inside.ensures.value (if_answered c.idle-moved.result _ as_made (λ moved makes yes k st. makes yes k
    (subst (λ (failed : Bool). Stands (record inside { turn = record inside.turn { outcome = if failed then OutOfMemory else inside.turn.outcome } }) k) goes (subst (λ m. Stands m k) (sym c.self.view_is) st))) c.idle-moved.ensures.moves)

-- where nobody runs, nothing is new or ready and nobody has given up control, the part that comes next is a move
pub returns-clause-follows : goal.returns-clause-follows
returns-clause-follows g c =
    let gave : c.args.self.now.turn.gave ≡ None = search rules in
    IfOk-weaker c.idle-moved.result _ _ (λ moved makes yes x i st. made_part g.P.Program.functions x i c.args.self.now _ _ _ (λ k at. makes_as _ _ _ (part_move g.P.Program.functions _ k at c.requires.goes gave c.requires.nobody (empty_is_idle _ _ at.world.control c.requires.none_new c.requires.none_ready)) _ _ (makes yes k at)) st) (returns-clause-moves g c)

pub returns-clause-whole : goal.returns-clause-whole
returns-clause-whole g c = subst (λ (m : MachineOf _ _ _). OnOk c.idle-moved.result (Whole m.world → Whole c.idle-moved.new.self.world)) c.self.view_is c.idle-moved.ensures.whole

pub returns-clause-stays : goal.returns-clause-stays
returns-clause-stays g c =
    let inside = c.self.inside.schedule in
    let new = c.idle-moved.new.self in
    let goes = unfailed c.self.inside.failed inside.turn.outcome (subst (λ m. m.turn.outcome ≡ Running) (sym c.self.view_is) c.requires.goes) in
    let shown = λ (failed : Bool). record inside { turn = record inside.turn { outcome = if failed then OutOfMemory else inside.turn.outcome } } in
    let as_stays = λ (failed moved : Bool). moved ≡ false → (record new { turn = record new.turn { outcome = if failed then OutOfMemory else new.turn.outcome } } ≡ c.args.self.now) × (c.idle-moved.new.marks ≡ c.args.marks.now) in
    rw c.is_err-self-inside.ensures.value (if_answered c.idle-moved.result _ as_stays (λ moved stays no. let same = stays no in (same.0 ∙ sym (ap shown goes) ∙ c.self.view_is, same.1)) c.idle-moved.ensures.stays)
