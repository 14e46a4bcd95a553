-- Calls on message ports: their rows only answer, and the marks tell what they change.
use Rattle.std.proofs.Common.{◌≡◌, ◌∙◌, ℕ, ℤ, pos, false, List, Option, Result, Ok, Err, IfOk, refl, ap, sym, arith}
use Rattle.pth_base.specs.declared.answer.Answer.{Answer}
use Rattle.pth_base.specs.declared.answer.Answer.TheVariants.{Int, Msg, Fail}
use Rattle.pth_base.specs.declared.call.Call.TheVariants as call
use Rattle.pth_base.specs.declared.errno.Errno.{Errno}
use Rattle.pth_base.specs.declared.ids.Tid.{Tid}
use Rattle.pth_base.specs.declared.mark.Mark.TheVariants.{Answered}
use Rattle.pth_base.specs.declared.memory.OutOfMemory.{OutOfMemory}
use Rattle.pth_base.specs.declared.refusal.Refusal.{Refusal}
use Rattle.pth_base.specs.declared.refusal.Refusal.TheVariants as refusal
use Rattle.pth_numbered.specs.Operands.{number}
use Rattle.pth_port.proofs.Changes.{names_made}
use Rattle.pth_port.specs.Mail.{PortNames, messages_at, port_create_answer, port_get_answer, reply_answer, port_destroy_answer, with_port, got, replied, closed_port, port_added, port_removed}
use Rattle.pth_port.specs.Ports.{PortsOf, mail_of, names_of}
use Rattle.pth_store.specs.Storing.{AnswersWithMemory}
use Rattle.pth_model.specs.Ports.{port_create, port_get, reply, port_destroy, says_message}
use Rattle.pth_model.specs.Resources.{told, answer_told}
use Rattle.pth_model.specs.Verdict.{says, done}
use Rattle.pth_world.proofs.Ranks.{ranks_none}
use Rattle.pth_world.proofs.Stores.{stored_whole, nothing_ported}
use Rattle.pth_world.specs.Frame.{Frame}
use Rattle.pth_world.specs.Leading.{IsQuiet, IsTold}
use Rattle.pth_world.specs.Numbering.{Thread, Object, Event, Port, one_of}
use Rattle.pth_world.specs.Store.{store_of}
use Rattle.pth_world.specs.WellFormed.{WellFormed}
use Rattle.pth_world.specs.World.{WorldOf}
use Rattle.pth_end.specs.Saying.{SaysRefusal}
use Rattle.pth_end.proofs.Acting.{done_answered, error_answered}
use Rattle.pth_end.proofs.Ported.{ported, port_told, port_refused, ports_refused}

-- what is asked of ports changes nothing
pub quiet_find : (t : Tid) (name : List ℕ) (a : Answer) → IsQuiet (Answered t (call.PortFind name) a)
unfolding told answer_told
quiet_find t name a = λ x. refl

pub quiet_pending : (t : Tid) (p : ℤ) (a : Answer) → IsQuiet (Answered t (call.PortPending p) a)
unfolding told answer_told
quiet_pending t p a = λ x. refl

module _ {P S H : Type 0} (w : WorldOf P S H) (x : PortsOf) (t : Tid) where
  -- a port is made, or not
  pub created_told : (name : Option (List ℕ)) (p : ℕ) → port_create_answer (names_of w.store.ports) (mail_of w.store.ports) name ≡ Ok p → names_of x ≡ port_added name (names_of w.store.ports) → mail_of x ≡ with_port p (mail_of w.store.ports) → IsTold w (ported w x) (Answered t (call.PortCreate name) (Int (pos p))) (Int (pos p)) (λ s. (port_create s name).begin)
  unfolding told answer_told
  created_told name p is named more = port_told w x t (call.PortCreate name) (λ y. port_create_answer y.ports y.mail name) says p (Int (pos p)) (port_added name) (with_port p) is refl (λ k. refl) named more

  pub create_refused : (name : Option (List ℕ)) (e : Refusal) (r : Result Answer OutOfMemory) → ((d : Errno) → e ≡ refusal.Fail d → port_create_answer (names_of w.store.ports) (mail_of w.store.ports) name ≡ Err d) → IfOk r (λ a. SaysRefusal e a) → x ≡ w.store.ports → IfOk r (λ a. IsTold w (ported w x) (Answered t (call.PortCreate name) a) a (λ s. (port_create s name).begin))
  create_refused name e r is saying same = ports_refused w x t (call.PortCreate name) (λ y. port_create_answer y.ports y.mail name) says e r is saying refl same

  -- a message is got, or not
  pub got_told : (p : ℤ) (m : ℕ) (v : ℤ) → port_get_answer (mail_of w.store.ports) p ≡ Ok (m, v) → names_of x ≡ names_of w.store.ports → mail_of x ≡ got (number p) (messages_at (mail_of w.store.ports) p) (mail_of w.store.ports) → IsTold w (ported w x) (Answered t (call.PortGet p) (Msg (record { 0 = m }) v)) (Msg (record { 0 = m }) v) (λ s. (port_get s p).begin)
  unfolding told answer_told
  got_told p m v is named more = port_told w x t (call.PortGet p) (λ y. port_get_answer y.mail p) says_message (m, v) (Msg (record { 0 = m }) v) (λ n. n) (λ q. got (number p) (messages_at q p) q) is refl (λ k. refl) named more

  pub get_refused : (p : ℤ) (e : Errno) → port_get_answer (mail_of w.store.ports) p ≡ Err e → x ≡ w.store.ports → IsTold w (ported w x) (Answered t (call.PortGet p) (Fail e)) (Fail e) (λ s. (port_get s p).begin)
  get_refused p e is same = port_refused w x t (call.PortGet p) (λ y. port_get_answer y.mail p) says_message e is refl same

  -- a message goes back, or not
  pub replied_told : (m v : ℤ) (u : Unit {0}) → AnswersWithMemory (reply_answer (mail_of w.store.ports) m) (Ok u) → names_of x ≡ names_of w.store.ports → mail_of x ≡ replied v ((mail_of w.store.ports).kept (number m)) (mail_of w.store.ports) → IsTold w (ported w x) (Answered t (call.Reply m v) (Int (pos 1))) (Int (pos 1)) (λ s. (reply s m).begin)
  unfolding told answer_told
  replied_told m v u answers named more = port_told w x t (call.Reply m v) (λ y. reply_answer y.mail m) done tt (Int (pos 1)) (λ n. n) (λ q. replied v (q.kept (number m)) q) (sym (done_answered _ u answers)) refl (λ k. refl) named more

  pub reply_refused : (m v : ℤ) (e : Errno) → AnswersWithMemory (reply_answer (mail_of w.store.ports) m) (Err (refusal.Fail e)) → x ≡ w.store.ports → IsTold w (ported w x) (Answered t (call.Reply m v) (Fail e)) (Fail e) (λ s. (reply s m).begin)
  reply_refused m v e answers same = port_refused w x t (call.Reply m v) (λ y. reply_answer y.mail m) done e (sym (error_answered _ e answers)) refl same

  -- a port is destroyed, or not
  pub destroyed_told : (p : ℤ) (u : Unit {0}) → AnswersWithMemory (port_destroy_answer (mail_of w.store.ports) p) (Ok u) → names_of x ≡ port_removed (number p) (names_of w.store.ports) → mail_of x ≡ closed_port (number p) (mail_of w.store.ports) → IsTold w (ported w x) (Answered t (call.PortDestroy p) (Int (pos 1))) (Int (pos 1)) (λ s. (port_destroy s p).begin)
  unfolding told answer_told
  destroyed_told p u answers named more = port_told w x t (call.PortDestroy p) (λ y. port_destroy_answer y.mail p) done tt (Int (pos 1)) (port_removed (number p)) (closed_port (number p)) (sym (done_answered _ u answers)) refl (λ k. refl) named more

  pub destroy_refused : (p : ℤ) (e : Errno) → AnswersWithMemory (port_destroy_answer (mail_of w.store.ports) p) (Err (refusal.Fail e)) → x ≡ w.store.ports → IsTold w (ported w x) (Answered t (call.PortDestroy p) (Fail e)) (Fail e) (λ s. (port_destroy s p).begin)
  destroy_refused p e answers same = port_refused w x t (call.PortDestroy p) (λ y. port_destroy_answer y.mail p) done e (sym (error_answered _ e answers)) refl same

  -- a port was made
  pub created_frame : (name : Option (List ℕ)) (r : Option ℕ) → names_of x ≡ port_added name (names_of w.store.ports) → w.scheduler.running ≡ r → WellFormed w → Frame w (ported w x) (one_of Port) r false
  created_frame name r more runs whole = record {
    whole = stored_whole w (record w.store { ports = x }) (λ u dead h. nothing_ported (store_of w.store) u (names_of x) (mail_of x) h) whole;
    runs = runs;
    made = elim [ Thread ↦ omega arith | Object ↦ omega arith | Event ↦ omega arith | Port ↦ (let now = sym (names_made x) ∙ ap (λ (n : PortNames). n.made) more in let before = names_made w.store.ports in omega (arith, now, before)) ];
    ranks = ranks_none w.threads;
    preferred = refl;
  }
