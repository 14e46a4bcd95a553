use Rattle.std.proofs.Common.{◌∙◌, not, ap, sym, rules, SFits, w64, to_z-of_z}
use Rattle.pth_port.specs.Mail.{Mail, is_port, messages_at}
use Rattle.pth_port.specs.Ports.{mail_of}
use Rattle.pth_model.specs.Changes.{is_empty}
use Rattle.pth_model.specs.Looks.{found_by}
use Rattle.pth_model.specs.Store.{Store}
use Rattle.pth_waits.proofs.Messages.{pending_found, refused_found}
use Rattle.pth_waits.proofs.looks.found_message.Goals as goal

pub returns-in-Ok : goal.returns-in-Ok
returns-in-Ok g c = λ s e st.
    let fits : SFits w64 c.args.p = search rules in
    let p = c.args.p in
    let is = rw (to_z-of_z fits, c.ports.ensures) at c.in-Ok.ensures in
    c.status_of.ensures
    ∙ pending_found (mail_of c.args.w.now.store.ports) p c.in-Ok.n is
    ∙ ap (λ (q : Mail). found_by (not (is_port q p)) (not (is_empty (messages_at q p)))) (sym (ap (λ (x : Store). x.mail) st.store))

pub returns-in-Err : goal.returns-in-Err
returns-in-Err g c = λ s e st.
    let fits : SFits w64 c.args.p = search rules in
    let p = c.args.p in
    let is = rw (to_z-of_z fits, c.ports.ensures) at c.in-Err.ensures in
    refused_found (mail_of c.args.w.now.store.ports) p c.in-Err.field-0 is
    ∙ ap (λ (q : Mail). found_by (not (is_port q p)) (not (is_empty (messages_at q p)))) (sym (ap (λ (x : Store). x.mail) st.store))
