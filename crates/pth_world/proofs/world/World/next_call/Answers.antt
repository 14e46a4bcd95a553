use Rattle.std.proofs.Common.{Result, Ok, Err, IfOk, OnOk}
use Rattle.std.proofs.Common.{IsSome, None, sym, ◌∙◌, ap, subst}
use Rattle.pth_base.specs.Table.{table}
use Rattle.pth_base.proofs.Tables.{put_here}
use Rattle.pth_model.specs.Changes.{owing}
use Rattle.pth_base.specs.declared.answer.Answer.TheVariants as answer
use Rattle.pth_world.proofs.Slots.{used}
use Rattle.pth_world.proofs.Sound.{some_kept}
use Rattle.pth_world.proofs.Wholes.{next_call_is, next_sound, next_but, next_shows, next_touches, next_whole}
use Rattle.pth_world.proofs.Showing.{progress_is}
use Rattle.pth_world.proofs.world.World.next_call.Goals as goal

-- what follows from both facts of a step that succeeds
both : {X E : Type 0} {A C : X → Type 0} {B : Type 0} (r : Result X E) → IfOk r A → OnOk r B → ((x : X) → A x → B → C x) → IfOk r C
both (Ok x) a b f = f x a b
both (Err x) a b f = tt

pub step-requires-clause-some : goal.step-requires-clause-some
step-requires-clause-some g c =
    let u = c.slot-slot.result.0 in
    let took = rw c.progress_mut.ensures.value at c.take_owed-answer.ensures.set in
    let some = some_kept (owing answer.None) _ (c.requires.sound.recorded u (used _ c.args.t.0 u c.requires.sound c.slot-slot.ensures.slot)) in
    subst (λ o. IsSome o) (sym (ap (λ k. k u) took ∙ put_here (table None c.args.self.now.threads.progress) u _)) some

pub returns-clause-some : goal.returns-clause-some
returns-clause-some g c k sh =
    let u = c.slot-slot.result.0 in
    rw (progress_is _ k c.args.t.0 u c.requires.sound c.slot-slot.ensures.slot sh.threads) (c.requires.sound.recorded u (used _ c.args.t.0 u c.requires.sound c.slot-slot.ensures.slot))

pub returns-clause-call : goal.returns-clause-call
returns-clause-call g c =
    let m = c.take_owed-answer.new.self in
    let owed = rw c.progress_mut.ensures.value at c.take_owed-answer.ensures.value in
    let took = rw c.progress_mut.ensures.value at c.take_owed-answer.ensures.set in
    both c.step.result c.step.ensures.step c.step.ensures.same (λ call steps same. next_call_is c.args.self.now c.step.new.self c.args.t.0 c.slot-slot.result.0 c.requires.sound c.slot-slot.ensures.slot g.P.Program.functions c.take_owed-answer.result call m owed took steps same c.step.ensures.long)

pub returns-clause-shows : goal.returns-clause-shows
returns-clause-shows g c =
    let m = c.take_owed-answer.new.self in
    let owed = rw c.progress_mut.ensures.value at c.take_owed-answer.ensures.value in
    let took = rw c.progress_mut.ensures.value at c.take_owed-answer.ensures.set in
    both c.step.result c.step.ensures.step c.step.ensures.same (λ call steps same. next_shows c.args.self.now c.step.new.self c.args.t.0 c.slot-slot.result.0 c.requires.sound c.slot-slot.ensures.slot g.P.Program.functions c.take_owed-answer.result call m owed took steps same c.step.ensures.long)

pub returns-clause-sound : goal.returns-clause-sound
returns-clause-sound g c =
    let m = c.take_owed-answer.new.self in
    let owed = rw c.progress_mut.ensures.value at c.take_owed-answer.ensures.value in
    let took = rw c.progress_mut.ensures.value at c.take_owed-answer.ensures.set in
    both c.step.result c.step.ensures.step c.step.ensures.same (λ call steps same. next_sound c.args.self.now c.step.new.self c.args.t.0 c.slot-slot.result.0 c.requires.sound c.slot-slot.ensures.slot g.P.Program.functions c.take_owed-answer.result call m owed took steps same c.step.ensures.long)

pub returns-clause-touches : goal.returns-clause-touches
returns-clause-touches g c =
    let m = c.take_owed-answer.new.self in
    let owed = rw c.progress_mut.ensures.value at c.take_owed-answer.ensures.value in
    let took = rw c.progress_mut.ensures.value at c.take_owed-answer.ensures.set in
    both c.step.result c.step.ensures.step c.step.ensures.same (λ call steps same. next_touches c.args.self.now c.step.new.self c.args.t.0 c.slot-slot.result.0 c.requires.sound c.slot-slot.ensures.slot g.P.Program.functions c.take_owed-answer.result call m owed took steps same c.step.ensures.long)

pub returns-clause-whole : goal.returns-clause-whole
returns-clause-whole g c =
    let m = c.take_owed-answer.new.self in
    let owed = rw c.progress_mut.ensures.value at c.take_owed-answer.ensures.value in
    let took = rw c.progress_mut.ensures.value at c.take_owed-answer.ensures.set in
    both c.step.result c.step.ensures.step c.step.ensures.same (λ call steps same. next_whole c.args.self.now c.step.new.self c.args.t.0 c.slot-slot.result.0 c.requires.sound c.slot-slot.ensures.slot g.P.Program.functions c.take_owed-answer.result call m owed took steps same c.step.ensures.long)

pub returns-clause-but : goal.returns-clause-but
returns-clause-but g c =
    let m = c.take_owed-answer.new.self in
    let owed = rw c.progress_mut.ensures.value at c.take_owed-answer.ensures.value in
    let took = rw c.progress_mut.ensures.value at c.take_owed-answer.ensures.set in
    both c.step.result c.step.ensures.step c.step.ensures.same (λ call steps same. next_but c.args.self.now c.step.new.self c.args.t.0 c.slot-slot.result.0 c.requires.sound c.slot-slot.ensures.slot g.P.Program.functions c.take_owed-answer.result call m owed took steps same c.step.ensures.long)
