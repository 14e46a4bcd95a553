-- The test of a mark decides what is said of it.
use Rattle.std.proofs.Common.{◌≡◌, ℕ, ◌==◌, ◌&&◌, Bool, true, false, ℤ, pos, negsuc, List, [], ◌∷◌, length, refl, sym, ap, subst, arith}
use Rattle.std.specs.Bool.{Decides}
use Rattle.std.specs.Ordering.{int_eq}
use Rattle.std.proofs.lemmas.Bool.Decides.{Decides-eqb, Decides-int_eq}
use Rattle.pth_base.specs.declared.answer.Answer.TheVariants.{Fail, Int, Msg}
use Rattle.pth_base.specs.declared.call.Call.TheVariants as call
use Rattle.pth_base.specs.declared.errno.Errno.TheVariants.{ENOENT}
use Rattle.pth_base.specs.declared.mark.Mark.{Mark}
use Rattle.pth_base.specs.declared.mark.Mark.TheVariants as mark
use Rattle.pth_numbered.specs.Operands.{◌is◌}
use Rattle.pth_port.specs.Mail.{Message}
use Rattle.pth_laws.specs.InOrder.{IsOldest, IsInOrderAt, queue}
use Rattle.pth_laws.proofs.Traffic.{Says, said}
use Rattle.pth_audit.specs.declared.mailboxes.Mailboxes.{Mailboxes}
use Rattle.pth_audit.specs.Mailboxes.{queues_of, queue_in, first, is_first, is_in_order, FollowsMail}

-- what is said of a mark in order, by cases
says : (waiting : ℤ → List Message) (m : Mark) → IsInOrderAt waiting m → Says waiting m
says waiting (mark.Answered t (call.PortGet p) (Msg id v)) h = h.got_is_oldest t p id v refl
says waiting (mark.Answered t (call.PortGet p) (Fail ENOENT)) h = h.none_is_there t p refl
says waiting (mark.Answered t (call.PortPending p) (Int n)) h = h.as_many_are_there t p n refl
says waiting m h = tt

both : (a b : Bool) (P Q : Type 0) → Decides a P → Decides b Q → Decides (a && b) (P × Q)
both true true P Q f g = (λ h. (f.0 refl, g.0 refl), λ h. refl)
both true false P Q f g = (λ h. absurd (cc h), λ h. g.1 h.1)
both false b P Q f g = (λ h. absurd (cc h), λ h. f.1 h.0)

oldest_decides : (n : ℕ) (v : ℤ) (ms : List Message) → Decides (is_first n v (first ms)) (IsOldest n v ms)
oldest_decides n v [] = (λ h. absurd (cc h), λ h. absurd h)
oldest_decides n v (m ∷ ms) = both (m.number == n) (int_eq m.value v) (m.number ≡ n) (m.value ≡ v) (Decides-eqb m.number n) (Decides-int_eq m.value v)

none_decides : (ms : List Message) → Decides (length ms == 0) (ms ≡ [])
none_decides [] = (λ h. refl, λ h. refl)
none_decides (m ∷ ms) = (λ h. absurd (let none : length (m ∷ ms) ≡ 0 = (Decides-eqb (length (m ∷ ms)) 0).0 h in omega (arith, none)), λ h. absurd (cc h))

count_decides : (n : ℤ) (k : ℕ) → Decides (n is k) (n ≡ pos k)
count_decides (pos n) k = (λ h. ap pos ((Decides-eqb n k).0 h), λ h. (Decides-eqb n k).1 (let e : n ≡ k = cc h in e))
count_decides (negsuc n) k = (λ h. absurd (cc h), λ h. absurd (cc h))

says_decides : (waiting : ℤ → List Message) (m : Mark) → Decides (is_in_order waiting m) (Says waiting m)
says_decides waiting (mark.Answered t (call.PortGet p) (Msg id v)) = oldest_decides id.0 v (waiting p)
says_decides waiting (mark.Answered t (call.PortGet p) (Fail ENOENT)) = none_decides (waiting p)
says_decides waiting (mark.Answered t (call.PortPending p) (Int n)) = count_decides n (length (waiting p))
says_decides waiting m = (λ h. tt, λ h. refl)

order_decides : (waiting : ℤ → List Message) (m : Mark) → Decides (is_in_order waiting m) (IsInOrderAt waiting m)
order_decides waiting m = (λ h. said waiting m ((says_decides waiting m).0 h), λ h. (says_decides waiting m).1 (says waiting m h))

-- the test by the messages that a judge keeps decides it, by the marks that it has followed
pub judged : (b : Mailboxes) (m : Mark) (r : Bool) → r ≡ is_in_order (queue_in (queues_of b.ports.entries)) m → (marks : List Mark) → FollowsMail b marks → Decides r (IsInOrderAt (queue marks) m)
judged b m r tested marks f =
    let same : queue marks ≡ queue_in (queues_of b.ports.entries) = ap queue_in f.at in
    subst (λ (s : Bool). Decides s (IsInOrderAt (queue marks) m)) (sym tested)
    (subst (λ (w : ℤ → List Message). Decides (is_in_order w m) (IsInOrderAt (queue marks) m)) same (order_decides (queue marks) m))
