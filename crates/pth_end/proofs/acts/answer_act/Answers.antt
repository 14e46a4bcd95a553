use Rattle.std.proofs.Common.{inl, inr, SFits, w64, to_z-of_z, rules}
use Rattle.std.proofs.lemmas.Result.{IfOk-weaker}
use Rattle.pth_end.proofs.Answers.{answered_told}
use Rattle.pth_end.proofs.Acting.{told_as, each_told_as, acted_key_set, acted_release, acted_put, noted, quiet_note, quiet_set, quiet_notify}
use Rattle.pth_end.proofs.acts.answer_act.Goals as goal

pub returns-in-Note-clause-told : goal.returns-in-Note-clause-told
returns-in-Note-clause-told g c = elim c.in-Note.is [
  | inl (n, is) ↦ rw is (noted c.args.w.now _ (quiet_note c.args.t n))
  | inr (n, v, is) ↦ rw is (noted c.args.w.now _ (quiet_set c.args.t n v))
]

pub returns-in-SetKey-clause-told : goal.returns-in-SetKey-clause-told
returns-in-SetKey-clause-told g c =
    let k : SFits w64 c.in-SetKey.k = search rules in
    let v : SFits w64 c.in-SetKey.v = search rules in
    rw c.in-SetKey.is (each_told_as c.args.w.now c.set_key.new.w _ _ c.set_key.result _ (acted_key_set c.args.t c.in-SetKey.k c.in-SetKey.v) (simp to_z-of_z at c.set_key.ensures.told))

pub returns-in-Release-clause-told : goal.returns-in-Release-clause-told
returns-in-Release-clause-told g c =
    let m : SFits w64 c.in-Release.m = search rules in
    rw c.in-Release.is (told_as c.args.w.now c.release_mutex.new.w _ _ _ _ (acted_release c.args.t c.in-Release.m c.release_mutex.result) (simp to_z-of_z at c.release_mutex.ensures.told))

pub returns-in-Notify-clause-told : goal.returns-in-Notify-clause-told
returns-in-Notify-clause-told g c =
    let x : SFits w64 c.in-Notify.c = search rules in
    let v : SFits w64 c.in-Notify.v = search rules in
    rw c.in-Notify.is (answered_told c.args.w.now c.notify.new.w _ _ _ (quiet_notify c.args.t c.in-Notify.c c.in-Notify.v c.notify.result) (simp to_z-of_z at c.notify.ensures.answered))

pub returns-in-Put-clause-told : goal.returns-in-Put-clause-told
returns-in-Put-clause-told g c =
    let p : SFits w64 c.in-Put.p = search rules in
    let v : SFits w64 c.in-Put.v = search rules in
    let told = simp to_z-of_z at (IfOk-weaker c.put_message.result _ _ (λ a each. each c.args.t) c.put_message.ensures.told) in
    rw c.in-Put.is (each_told_as c.args.w.now c.put_message.new.w _ _ c.put_message.result _ (acted_put c.args.t c.in-Put.p c.in-Put.v) told)
