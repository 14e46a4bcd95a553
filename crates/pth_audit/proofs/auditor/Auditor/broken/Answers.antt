use Rattle.std.proofs.Common.{refl}
use Rattle.pth_audit.proofs.Auditing.{is_disorderly, is_shared, is_out_of_order, is_lawful}
use Rattle.pth_audit.proofs.auditor.Auditor.broken.Goals as goal

pub returns-then-not-is_lawful : goal.returns-then-not-is_lawful
returns-then-not-is_lawful c = λ marks f.
    is_disorderly marks c.args.mark.now f.lawful (c.if-not-is_in_time.ensures.in_time refl) (c.if-not-is_lawful.ensures.no refl marks f.endings)

pub returns-then-not-is_lawful-2 : goal.returns-then-not-is_lawful-2
returns-then-not-is_lawful-2 c = λ marks f.
    is_shared marks c.args.mark.now f.lawful (c.if-not-is_in_time.ensures.in_time refl) (c.if-not-is_lawful.ensures.yes refl marks f.endings)
    (λ o. cc ((c.if-not-is_lawful-2.ensures marks f.holds).1 o))

pub returns-then-not-is_lawful-3 : goal.returns-then-not-is_lawful-3
returns-then-not-is_lawful-3 c = λ marks f.
    is_out_of_order marks c.args.mark.now f.lawful (c.if-not-is_in_time.ensures.in_time refl) (c.if-not-is_lawful.ensures.yes refl marks f.endings)
    ((c.if-not-is_lawful-2.ensures marks f.holds).0 refl) (λ o. cc ((c.if-not-is_lawful-3.ensures marks f.mail).1 o))

pub returns-else-not-is_lawful-3 : goal.returns-else-not-is_lawful-3
returns-else-not-is_lawful-3 c = λ marks f.
    is_lawful marks c.args.mark.now f.lawful (c.if-not-is_in_time.ensures.in_time refl) (c.if-not-is_lawful.ensures.yes refl marks f.endings)
    ((c.if-not-is_lawful-2.ensures marks f.holds).0 refl) ((c.if-not-is_lawful-3.ensures marks f.mail).0 refl)
