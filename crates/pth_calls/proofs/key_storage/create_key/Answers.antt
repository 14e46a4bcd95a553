use Rattle.std.proofs.Common.{◌≡◌, ◌∙◌, pos, sym, SFits, w64, to_z, of_z, to_z-of_z, rules}
use Rattle.pth_end.proofs.Handled.{stored_frame}
use Rattle.pth_calls.proofs.Storing.{created_told, create_refused}
use Rattle.pth_calls.proofs.key_storage.create_key.Goals as goal

pub returns-in-Ok-clause-told : goal.returns-in-Ok-clause-told
returns-in-Ok-clause-told g c =
    let fits : SFits w64 c.from.result = search rules in
    let is : to_z w64 (of_z w64 c.from.result) ≡ pos c.in-Ok.key = rw to_z-of_z c.from.ensures in
    created_told c.args.w.now c.create_key.new.self c.args.t c.create_key.ensures.keeps.shows c.args.destructor c.in-Ok.key _ is (sym c.in-Ok.is ∙ c.create_key.ensures.answer) (rw c.destructor_named.ensures at c.in-Ok.ensures.changes)

pub returns-in-Ok-clause-frame : goal.returns-in-Ok-clause-frame
returns-in-Ok-clause-frame g c = stored_frame c.args.w.now _ c.requires.runs c.create_key.new.self c.requires.whole c.create_key.ensures.keeps

pub returns-in-Err-clause-told : goal.returns-in-Err-clause-told
returns-in-Err-clause-told g c = create_refused c.args.w.now c.create_key.new.self c.args.t c.create_key.ensures.keeps.shows c.args.destructor c.in-Err.e (sym c.in-Err.is ∙ c.create_key.ensures.answer) c.in-Err.ensures.refused

pub returns-in-Err-clause-frame : goal.returns-in-Err-clause-frame
returns-in-Err-clause-frame g c = stored_frame c.args.w.now _ c.requires.runs c.create_key.new.self c.requires.whole c.create_key.ensures.keeps
