use Rattle.std.proofs.Common.{refl, ap, SFits, w64, to_z-of_z, rules}
use Rattle.pth_base.specs.declared.call.Call.TheVariants.{KeySet}
use Rattle.pth_model.specs.Store.{Store, with_keys}
use Rattle.pth_store.specs.Keys.{key_named, key_set_answer, with_key_value}
use Rattle.pth_world.specs.Store.{store_of}
use Rattle.pth_world.specs.World.{WorldOf}
use Rattle.pth_end.proofs.Acting.{memory_done, memory_refused, set_tells}
use Rattle.pth_end.proofs.Handled.{handled_stored, if_answered}
use Rattle.pth_end.proofs.acts.set_key.Goals as goal

pub returns-in-Ok-clause-told : goal.returns-in-Ok-clause-told
returns-in-Ok-clause-told g c =
    let k : SFits w64 c.args.k = search rules in
    let v : SFits w64 c.args.v = search rules in
    let answer = rw c.in-Ok.is at c.set_key.ensures.answer in
    memory_done c.args.w.now c.set_key.new.self c.args.t c.set_key.ensures.keeps.shows (KeySet c.args.k c.args.v) (λ x. key_set_answer x.keys c.args.k) (with_keys (with_key_value c.args.t.0 (key_named c.args.k) c.args.v)) (set_tells c.args.t c.args.k c.args.v) refl tt (simp to_z-of_z at answer) (simp to_z-of_z at c.in-Ok.ensures.changes)

pub returns-in-Ok-clause-handled : goal.returns-in-Ok-clause-handled
returns-in-Ok-clause-handled g c = handled_stored c.args.w.now c.set_key.new.self c.requires.whole c.set_key.ensures.keeps (ap (λ (s : Store). s.cleanups) c.in-Ok.ensures.changes)

pub returns-in-Err-clause-told : goal.returns-in-Err-clause-told
returns-in-Err-clause-told g c =
    let k : SFits w64 c.args.k = search rules in
    let answer = rw c.in-Err.is at c.set_key.ensures.answer in
    memory_refused c.args.w.now c.set_key.new.self c.args.t c.set_key.ensures.keeps.shows (KeySet c.args.k c.args.v) (λ x. key_set_answer x.keys c.args.k) (with_keys (with_key_value c.args.t.0 (key_named c.args.k) c.args.v)) (set_tells c.args.t c.args.k c.args.v) refl c.in-Err.refusal c.refused.result (simp to_z-of_z at answer) c.refused.ensures c.in-Err.ensures.refused

pub returns-in-Err-clause-handled : goal.returns-in-Err-clause-handled
returns-in-Err-clause-handled g c =
    if_answered c.refused.result (handled_stored c.args.w.now c.set_key.new.self c.requires.whole c.set_key.ensures.keeps (ap (λ (z : WorldOf _ _ _). (store_of z.store).cleanups) c.in-Err.ensures.refused))
