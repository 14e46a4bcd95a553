-- No count is greater than the number of marks, so none overflows before 2^64 - 1 of them.
use Rattle.std.proofs.Common.{◌≡◌, ◌+◌, ◌-◌, ◌≤◌, ◌<◌, ◌^◌, ◌==◌, ◌&&◌, ◌||◌, ℕ, zero, suc, ℤ, pos, Bool, true, false, if◌then◌else◌, List, [], ◌∷◌, fold, length, Option, Some, None, Result, Err, IsErrAnd, IsErrOf, inl, inr, sym, arith}
use Rattle.std.specs.Bool.{Decides}
use lib.Dec.{ltb}
use Rattle.std.proofs.lemmas.Bool.{cases_lt}
use Rattle.std.proofs.lemmas.Bool.Decides.{Decides-ltb}
use Rattle.std.proofs.lemmas.Result.{err_from_is_err_and}
use Rattle.pth_base.specs.Table.{put}
use Rattle.pth_base.specs.declared.act.Act.TheVariants as act
use Rattle.pth_base.specs.declared.answer.Answer.TheVariants.{Int, Msg}
use Rattle.pth_base.specs.declared.call.Call.TheVariants as call
use Rattle.pth_base.specs.declared.mark.Mark.{Mark}
use Rattle.pth_base.specs.declared.mark.Mark.TheVariants as mark
use Rattle.pth_numbered.specs.Operands.{number}
use Rattle.pth_port.specs.Mail.{Mail, Message, is_live, messages_of, no_mail, sent, with_port, put_to, got, replied, sent_back, closed_port}
use Rattle.pth_laws.specs.Exclusive.{Share, gives, gives_up, takes_level, share_after, levels}
use Rattle.pth_laws.specs.InOrder.{port_index, reply_index, mail_after, mail}
use Rattle.pth_audit.specs.Holds.{FollowsHolds, IsCountable, has_levels}
use Rattle.pth_audit.specs.Mailboxes.{FollowsMail}
use Rattle.pth_audit.specs.declared.error.AuditErr.{AuditErr}
use Rattle.pth_audit.specs.declared.error.AuditErr.TheVariants.{OutOfMemory, Overflow}
use Rattle.pth_audit.specs.declared.holds.Effect.{Effect}
use Rattle.pth_audit.specs.declared.holds.Effect.TheVariants as effect
use Rattle.pth_audit.specs.declared.holds.Holds.{Holds}
use Rattle.pth_audit.specs.declared.mailboxes.Mailboxes.{Mailboxes}

-- ---- counts

-- a count that one mark raises by one at most, and n marks more by n at most
along : (a b c n : ℕ) → b ≤ a + 1 → c ≤ b + n → c ≤ a + suc n
along a b c n one rest = omega arith

from_none : (a b n : ℕ) → b ≡ a → b ≤ 0 + n → a ≤ n
from_none a b n is few = omega arith

at_end : (a n : ℕ) → a ≤ n → a ≡ 18446744073709551615 → 2 ^ 64 ≤ n + 1
at_end a n few full = omega arith

-- ---- messages that were put

one_of : (b : Bool) (x y : Mail) (n : ℕ) → x.made ≤ n → y.made ≤ n → (if b then x else y).made ≤ n
one_of true x y n here there = here
one_of false x y n here there = there

same_count : (n : ℕ) → n ≤ n + 1
same_count n = omega arith

next_count : (n : ℕ) → n + 1 ≤ n + 1
next_count n = omega arith

made_port : (p : ℕ) (q : Mail) → (with_port p q).made ≤ q.made + 1
made_port p q = one_of (is_live q p) q (record q { at = put q.at p (Some []) }) (q.made + 1) (same_count q.made) (same_count q.made)

made_put : (p : ℕ) (v : ℤ) (r : ℕ) (q : Mail) → (put_to p v r q).made ≤ q.made + 1
made_put p v r q =
    let m : Message = record { number = q.made + 1; value = v; reply = r } in
    one_of (is_live q p && ((r == 0) || is_live q r)) (sent p m (record q { made = q.made + 1 })) q (q.made + 1) (next_count q.made) (same_count q.made)

made_got : (p : ℕ) (ms : List Message) (q : Mail) → (got p ms q).made ≤ q.made + 1
made_got p [] q = same_count q.made
made_got p (m ∷ ms) q = same_count q.made

made_replied : (v : ℤ) (o : Option Message) (q : Mail) → (replied v o q).made ≤ q.made + 1
made_replied v None q = same_count q.made
made_replied v (Some m) q =
    one_of (is_live q m.reply) (sent m.reply (record m { value = v; reply = 0 }) (record q { kept = put q.kept m.number None })) q (q.made + 1)
    (same_count q.made) (same_count q.made)

made_back : (ms : List Message) (q : Mail) (n : ℕ) → q.made ≤ n → (sent_back ms q).made ≤ n
made_back [] q n few = few
made_back (m ∷ ms) q n few = made_back ms (sent m.reply (record m { reply = 0 }) q) n few

made_closed : (p : ℕ) (q : Mail) → (closed_port p q).made ≤ q.made + 1
made_closed p q = made_back (messages_of (q.at p)) (record q { at = put q.at p None }) (q.made + 1) (same_count q.made)

made_after : (q : Mail) (m : Mark) → (mail_after q m).made ≤ q.made + 1
made_after q (mark.Answered t (call.PortCreate name) (Int p)) = made_port (port_index p) q
made_after q (mark.Answered t (call.PortPut p v r) (Int (pos (suc zero)))) = made_put (port_index p) v (reply_index r) q
made_after q (mark.Acted t (act.Put p v) (Int (pos (suc zero)))) = made_put (port_index p) v 0 q
made_after q (mark.Answered t (call.PortGet p) (Msg id v)) = made_got (port_index p) (messages_of (q.at (port_index p))) q
made_after q (mark.Answered t (call.Reply m v) (Int (pos (suc zero)))) = made_replied v (q.kept (number m)) q
made_after q (mark.Answered t (call.PortDestroy p) (Int (pos (suc zero)))) = made_closed (port_index p) q
made_after q m = same_count q.made

made_along : (q : Mail) (marks : List Mark) → (fold mail_after q marks).made ≤ q.made + length marks
made_along q [] = omega arith
made_along q (m ∷ ms) = along q.made (mail_after q m).made (fold mail_after (mail_after q m) ms).made (length ms) (made_after q m) (made_along (mail_after q m) ms)

-- so many messages take as many marks
pub puts_overflow : (b : Mailboxes) (marks : List Mark) → FollowsMail b marks → b.made ≡ 18446744073709551615 → 2 ^ 64 ≤ length marks + 1
puts_overflow b marks f full = at_end b.made (length marks) (from_none b.made (mail marks).made (length marks) f.made (made_along no_mail marks)) full

-- ---- levels of a mutex

level_more : (up take give : Bool) (n : ℕ) → (if up then 0 else (if take then n + 1 else (if give then n - 1 else n))) ≤ n + 1
level_more true take give n = omega arith
level_more false true give n = omega arith
level_more false false true n = omega arith
level_more false false false n = omega arith

levels_along : (t : ℕ) (i : ℤ) (x : Share) (marks : List Mark) → (fold (share_after t i) x marks).had ≤ x.had + length marks
levels_along t i x [] = omega arith
levels_along t i x (m ∷ ms) =
    along x.had (share_after t i x m).had (fold (share_after t i) (share_after t i x m) ms).had (length ms)
    (level_more (gives_up t i m) (takes_level t i x.awaiting m) (gives t i x.awaiting m) x.had) (levels_along t i (share_after t i x m) ms)

-- a level more is counted if the count is not the last value of a `u64`
pub counts : (n m : ℕ) → n ≡ m → Decides (ltb n 18446744073709551615) (m + 1 < 2 ^ 64)
counts n m is =
    let low = Decides-ltb n 18446744073709551615 in
    (λ passes. (let less = low.0 passes in omega (arith, less, is)), λ less. low.1 (omega (arith, less, is)))

not_below : (a n : ℕ) → a ≤ n → (a + 1 < 2 ^ 64 → ⊥) → 2 ^ 64 ≤ n + 1
not_below a n few over = elim (cases_lt (a + 1) (2 ^ 64)) [
  | inl low ↦ absurd (over low)
  | inr high ↦ omega (arith, high)
]

-- so many levels take as many marks
pub levels_overflow : (h : Holds) (marks : List Mark) → FollowsHolds h marks → (d : Effect) → (IsCountable h d → ⊥) → 2 ^ 64 ≤ length marks + 1
levels_overflow h marks f (effect.Takes t i) over =
    not_below (has_levels h t i) (length marks)
    (from_none (has_levels h t i) (levels t i marks) (length marks) (sym (f.levels t i)) (levels_along t i (record { had = 0; awaiting = false }) marks)) over
levels_overflow h marks f d over = absurd (over tt)

-- ---- errors

other_error : {T : Type 0} (r : Result T AuditErr) (e : AuditErr) → r ≡ Err e → e ≡ OutOfMemory → r ≡ Err Overflow → ⊥
other_error r e is memory overflow = cc

-- want of memory is no overflow
pub no_overflow : {T P : Type 0} (r : Result T AuditErr) → IsErrAnd r (λ e. e ≡ OutOfMemory) → IsErrOf r Overflow → P
no_overflow r memory overflow = let p = err_from_is_err_and r memory in absurd (other_error r p.0 p.1 p.2 overflow)
