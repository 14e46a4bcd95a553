-- A world in which ports have become others, as a call on ports tells.
use Rattle.std.proofs.Common.{◌≡◌, ◌∙◌, ℕ, ℤ, pos, false, Result, Ok, Err, IfOk, refl, ap, sym, subst}
use Rattle.pth_base.specs.declared.answer.Answer.{Answer}
use Rattle.pth_base.specs.declared.answer.Answer.TheVariants.{Int, Fail}
use Rattle.pth_base.specs.declared.call.Call.{Call}
use Rattle.pth_base.specs.declared.call.Call.TheVariants as call
use Rattle.pth_base.specs.declared.errno.Errno.{Errno}
use Rattle.pth_base.specs.declared.ids.MsgId.{MsgId}
use Rattle.pth_base.specs.declared.ids.Tid.{Tid}
use Rattle.pth_base.specs.declared.mark.Mark.TheVariants.{Answered}
use Rattle.pth_base.specs.declared.memory.OutOfMemory.{OutOfMemory}
use Rattle.pth_base.specs.declared.refusal.Refusal.{Refusal}
use Rattle.pth_base.specs.declared.refusal.Refusal.TheVariants as refusal
use Rattle.pth_numbered.specs.Operands.{number}
use Rattle.pth_port.proofs.Changes.{names_made}
use Rattle.pth_port.specs.Mail.{Mail, PortNames, port_put_answer, put_to}
use Rattle.pth_port.specs.Ports.{PortsOf, mail_of, names_of, NumbersWithMemory}
use Rattle.pth_model.specs.Awaits.{is_await}
use Rattle.pth_model.specs.Ports.{port_put, put_done}
use Rattle.pth_model.specs.Resources.{told, answer_told}
use Rattle.pth_model.specs.Store.{Resources, Store, with_ports}
use Rattle.pth_model.specs.Row.{◌trying◌}
use Rattle.pth_model.specs.State.{Control}
use Rattle.pth_model.specs.Transition.{changes, nothing}
use Rattle.pth_model.specs.Verdict.{by_result}
use Rattle.pth_model.specs.declared.verdict.Verdict.{Verdict}
use Rattle.pth_model.specs.declared.verdict.Verdict.TheVariants.{Says}
use Rattle.pth_world.proofs.Stores.{ports_keep, stored_shows}
use Rattle.pth_world.specs.Keeps.{KeepsAllButStore}
use Rattle.pth_world.specs.Leading.{IsTold}
use Rattle.pth_world.specs.Shows.{Shows}
use Rattle.pth_world.specs.Store.{store_of}
use Rattle.pth_world.specs.WellFormed.{WellFormed}
use Rattle.pth_world.specs.World.{WorldOf}
use Rattle.pth_end.specs.Handling.{IsHandled}
use Rattle.pth_end.specs.Saying.{SaysRefusal}
use Rattle.pth_end.proofs.Acting.{error_told, value_told}
use Rattle.pth_end.proofs.Handled.{handled_stored}

-- what a part that takes memory answers with a number
pub number_given : {A : Type 0} (r : Result ℕ Errno) (f : A → ℕ) (a : A) → NumbersWithMemory r f (Ok a) → r ≡ Ok (f a)
number_given (Ok n) f a is = ap (λ (k : ℕ). Ok k) (sym is)
number_given (Err e) f a is = absurd (cc is)

pub number_refused : {A : Type 0} (r : Result ℕ Errno) (f : A → ℕ) (e : Errno) → NumbersWithMemory r f (Err (refusal.Fail e)) → r ≡ Err e
number_refused (Ok n) f e is = absurd (cc is)
number_refused (Err d) f e is = let same : e ≡ d = cc is in ap (λ (x : Errno). Err x) (sym same)

pub memory_refusal : {A : Type 0} (r : Result ℕ Errno) (f : A → ℕ) (e : Refusal) → NumbersWithMemory r f (Err e) → (d : Errno) → e ≡ refusal.Fail d → r ≡ Err d
memory_refusal r f e answers d is = number_refused r f d (subst (λ (z : Refusal). NumbersWithMemory r f (Err z)) is answers)

-- of each thread
pub each_thread : {A E : Type 0} (r : Result A E) (Q : Tid → A → Type 0) → ((t : Tid) → IfOk r (Q t)) → IfOk r (λ a. (t : Tid) → Q t a)
each_thread (Ok a) Q h = h
each_thread (Err e) Q h = tt

module _ {P S H : Type 0} (w : WorldOf P S H) (x : PortsOf) where
  abbrev pub ported : WorldOf P S H
  ported = record w { store = record w.store { ports = x } }

  shows : (k : Control P S H) → Shows w k → Shows ported k
  shows = stored_shows w (record w.store { ports = x })

  module _ {A : Type 0} (t : Tid) (c : Call) (answer : Store → Result A Errno) (say : A → Verdict) where
    abbrev Told : Answer → Type 0
    Told a = IsTold w ported (Answered t c a) a (λ s. by_result say (answer s.resources.store) trying changes nothing)

    -- the answer tells so of the ports
    pub port_told : (y : A) (a : Answer) (g : PortNames → PortNames) (h : Mail → Mail) → answer (store_of w.store) ≡ Ok y → say y ≡ Says a → ((k : Resources) → (told k (Answered t c a)).store ≡ with_ports g h k.store) → names_of x ≡ g (names_of w.store.ports) → mail_of x ≡ h (mail_of w.store.ports) → Told a
    port_told y a g h is says tell names mail = value_told w ported t shows c answer say y a (with_ports g h) is says tell (λ i. record (store_of w.store) { ports = names i; mail = mail i })

    -- or the call is refused
    pub port_refused : (e : Errno) → answer (store_of w.store) ≡ Err e → is_await c ≡ false → x ≡ w.store.ports → Told (Fail e)
    port_refused e is other same = error_told w ported t shows c answer say e is other (ap (λ (z : PortsOf). record w { store = record w.store { ports = z } }) same)

    -- where the part takes memory
    pub ports_refused : (e : Refusal) (r : Result Answer OutOfMemory) → ((d : Errno) → e ≡ refusal.Fail d → answer (store_of w.store) ≡ Err d) → IfOk r (λ a. SaysRefusal e a) → is_await c ≡ false → x ≡ w.store.ports → IfOk r (λ a. Told a)
    ports_refused (refusal.Fail e) (Ok a) is saying other same = subst (λ (b : Answer). Told b) (sym saying) (port_refused e (is e refl) other same)
    ports_refused refusal.OutOfMemory (Ok a) is saying other same = absurd saying
    ports_refused e (Err o) is saying other same = tt

  -- a message is put, or not
  pub put_told : (t : Tid) (p v r : ℤ) (m : MsgId) → NumbersWithMemory (port_put_answer (mail_of w.store.ports) (names_of w.store.ports).made p r) (λ (m : MsgId). m.0) (Ok m) → names_of x ≡ names_of w.store.ports → mail_of x ≡ put_to (number p) v (number r) (mail_of w.store.ports) → IsTold w ported (Answered t (call.PortPut p v r) (Int (pos 1))) (Int (pos 1)) (λ s. (port_put s p r).begin)
  unfolding told answer_told
  put_told t p v r m answers names mail =
      port_told t (call.PortPut p v r) (λ y. port_put_answer y.mail y.ports.made p r) put_done m.0 (Int (pos 1)) (λ n. n) (put_to (number p) v (number r))
      (number_given _ (λ (m : MsgId). m.0) m answers) refl (λ k. refl) names mail

  pub put_refused : (t : Tid) (p v r : ℤ) (e : Refusal) (a : Result Answer OutOfMemory) → NumbersWithMemory (port_put_answer (mail_of w.store.ports) (names_of w.store.ports).made p r) (λ (m : MsgId). m.0) (Err e) → IfOk a (λ b. SaysRefusal e b) → x ≡ w.store.ports → IfOk a (λ b. IsTold w ported (Answered t (call.PortPut p v r) b) b (λ s. (port_put s p r).begin))
  put_refused t p v r e a answers saying same =
      ports_refused t (call.PortPut p v r) (λ y. port_put_answer y.mail y.ports.made p r) put_done e a
      (memory_refusal _ (λ (m : MsgId). m.0) e answers) saying refl same

  -- where no port was made
  pub ports_kept : (names_of x).made ≡ (names_of w.store.ports).made → KeepsAllButStore w ported
  ports_kept made = ports_keep w x (sym (names_made x) ∙ made ∙ names_made w.store.ports)

  -- other messages alone: a handler may put one
  pub ports_handled : WellFormed w → names_of x ≡ names_of w.store.ports → IsHandled w ported
  ports_handled whole names = handled_stored w ported whole (ports_kept (ap (λ (n : PortNames). n.made) names)) refl
