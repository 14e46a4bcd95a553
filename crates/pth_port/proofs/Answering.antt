-- How calls are answered.
use Rattle.std.proofs.Common.{◌≡◌, ℕ, ◌≤◌, ◌<◌, Bool, true, false, if◌then◌else◌, length, Result, Ok, Err, refl, ◌∙◌, ap, nat_le, arith}
use Rattle.std.proofs.lemmas.Bool.{le-leb, lt-leb}
use Rattle.pth_base.specs.declared.errno.Errno.{Errno}
use Rattle.pth_base.specs.declared.refusal.Refusal.{Refusal}
use Rattle.pth_base.specs.declared.refusal.Refusal.TheVariants.{Fail, OutOfMemory}
use Rattle.pth_port.proofs.Changes.{names_made}
use Rattle.pth_port.specs.Mail.{message_limit, messages}
use Rattle.pth_port.specs.Ports.{PortsOf, mail_of, names_of, NumbersWithMemory, PortsAreKept}

module _ {A : Type 0} (f : A → ℕ) (n : ℕ) (e : Errno) where
  pub answer_test : (b : Bool) → b ≡ true → NumbersWithMemory (if b then Err e else Ok n) f (Err (Fail e))
  answer_test b is = rw is refl

  pub answer_memory : (b : Bool) (r : Result A Refusal) (d : Refusal) → b ≡ false → r ≡ Err d → d ≡ OutOfMemory → NumbersWithMemory (if b then Err e else Ok n) f r
  answer_memory b r d is err memory = rw (is, err) memory

  pub answer_given : (b : Bool) (a : A) → b ≡ false → f a ≡ n → NumbersWithMemory (if b then Err e else Ok n) f (Ok a)
  answer_given b a is given = rw is given

-- the first test does not hold
pub answer_past : {A : Type 0} (f : A → ℕ) (e : Errno) (rest : Result ℕ Errno) (b : Bool) (r : Result A Refusal) → b ≡ false → NumbersWithMemory rest f r → NumbersWithMemory (if b then Err e else rest) f r
answer_past f e rest b r is answers = rw is answers

-- ---- room for messages

module _ (x : PortsOf) (kept : PortsAreKept x) where
  all_messages : messages (mail_of x) (names_of x).made ≡ length x.stored_messages
  all_messages = ap (messages (mail_of x)) (names_made x) ∙ kept.stored_count

  pub is_full : message_limit ≤ length x.stored_messages → nat_le message_limit (messages (mail_of x) (names_of x).made) ≡ true
  is_full full = le-leb message_limit _ (omega (arith, all_messages, full))

  pub has_room : length x.stored_messages < message_limit → nat_le message_limit (messages (mail_of x) (names_of x).made) ≡ false
  has_room room = lt-leb message_limit _ (omega (arith, all_messages, room))
