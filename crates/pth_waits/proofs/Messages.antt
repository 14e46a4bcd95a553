-- What is found of events of messages.
use Rattle.std.proofs.Common.{◌≡◌, ℕ, suc, nat_lt, ℤ, not, Bool, true, false, if◌then◌else◌, List, [], ◌∷◌, length, Result, Ok, Err, refl, ap, arith}
use Rattle.std.proofs.lemmas.Bool.Decides.{nat_tests}
use Rattle.pth_base.specs.declared.errno.Errno.{Errno}
use Rattle.pth_base.specs.declared.errno.Errno.TheVariants.{EINVAL}
use Rattle.pth_port.specs.Mail.{Mail, Message, is_port, messages_at, port_pending_answer}
use Rattle.pth_ring.specs.declared.event.Status.TheVariants.{Failed}
use Rattle.pth_model.specs.Changes.{is_empty}
use Rattle.pth_model.specs.Looks.{found_by}

one_more : (n k : ℕ) → n ≡ suc k → nat_lt 0 n ≡ true
one_more n k is = grind (arith, nat_tests)

some_queued : (ms : List Message) (n : ℕ) → n ≡ length ms → nat_lt 0 n ≡ not (is_empty ms)
some_queued [] n is = ap (nat_lt 0) is
some_queued (m ∷ ms) n is = one_more n (length ms) is

-- how many messages are queued at a port, if that is live
abbrev counted : Bool → List Message → Result ℕ Errno
counted live ms = if not live then Err EINVAL else Ok (length ms)

ok_by : (live : Bool) (ms : List Message) (n : ℕ) → Ok n ≡ counted live ms → found_by false (nat_lt 0 n) ≡ found_by (not live) (not (is_empty ms))
ok_by true ms n is = (let same : n ≡ length ms = cc is in ap (found_by false) (some_queued ms n same))
ok_by false ms n is = absurd (cc is)

err_by : (live : Bool) (ms : List Message) (e : Errno) → Err e ≡ counted live ms → Failed ≡ found_by (not live) (not (is_empty ms))
err_by true ms e is = absurd (cc is)
err_by false ms e is = refl

-- by how many messages are queued at its port
pub pending_found : (q : Mail) (p : ℤ) (n : ℕ) → Ok n ≡ port_pending_answer q p
    → found_by false (nat_lt 0 n) ≡ found_by (not (is_port q p)) (not (is_empty (messages_at q p)))
pending_found q p n is = ok_by (is_port q p) (messages_at q p) n is

-- its port is not live
pub refused_found : (q : Mail) (p : ℤ) (e : Errno) → Err e ≡ port_pending_answer q p
    → Failed ≡ found_by (not (is_port q p)) (not (is_empty (messages_at q p)))
refused_found q p e is = err_by (is_port q p) (messages_at q p) e is
