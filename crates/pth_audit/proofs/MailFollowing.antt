-- The messages that a judge keeps are those after its marks.
use Rattle.std.proofs.Common.{◌≡◌, List, [], ◌∷◌, ◌++◌, sym, ◌∙◌, ap}
use Rattle.std.proofs.lemmas.List.Sums.{fold-append}
use Rattle.pth_base.specs.declared.mark.Mark.{Mark}
use Rattle.pth_port.specs.Mail.{Mail, no_mail}
use Rattle.pth_port.proofs.Changes.{mail_is}
use Rattle.pth_laws.specs.InOrder.{mail_after, mail}
use Rattle.pth_audit.specs.declared.mailboxes.Mailboxes.{Mailboxes}
use Rattle.pth_audit.specs.Mailboxes.{mail_of, FollowsMail}

pub mail_had : (b : Mailboxes) (marks : List Mark) → FollowsMail b marks → mail marks ≡ mail_of b
mail_had b marks f = mail_is (mail marks) (mail_of b) f.at f.kept f.made

pub mail_follows : (b : Mailboxes) (marks : List Mark) → mail marks ≡ mail_of b → FollowsMail b marks
mail_follows b marks e = record { at = ap (λ (q : Mail). q.at) e; kept = ap (λ (q : Mail). q.kept) e; made = ap (λ (q : Mail). q.made) e }

-- one mark more
pub mail_more : (b c : Mailboxes) (m : Mark) → mail_of c ≡ mail_after (mail_of b) m → (marks : List Mark) → FollowsMail b marks → FollowsMail c (marks ++ m ∷ [])
mail_more b c m after marks f =
    mail_follows c (marks ++ m ∷ [])
    (fold-append mail_after no_mail marks (m ∷ []) ∙ ap (λ (q : Mail). mail_after q m) (mail_had b marks f) ∙ sym after)
