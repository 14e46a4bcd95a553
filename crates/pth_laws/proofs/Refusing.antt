-- A call that is refused as it begins changes nothing.
use Rattle.std.proofs.Common.{◌≡◌, ℕ, Bool, false, if◌then◌else◌, [], ◌∷◌, refl, ap}
use Rattle.pth_lock.specs.Objects.{object_named}
use Rattle.pth_base.specs.Program.{Functions}
use Rattle.pth_base.specs.declared.answer.Answer.TheVariants as answer
use Rattle.pth_base.specs.declared.call.Call.{Call}
use Rattle.pth_base.specs.declared.call.Call.TheVariants as call
use Rattle.pth_base.specs.declared.errno.Errno.{Errno}
use Rattle.pth_base.specs.declared.mark.Mark.TheVariants as mark
use Rattle.pth_model.specs.declared.next.Next.TheVariants as next
use Rattle.pth_model.specs.Resources.{told, answer_told, retaken}
use Rattle.pth_model.specs.Store.{Resources}
use Rattle.pth_model.specs.State.{State}
use Rattle.pth_model.specs.Transition.{Piece, tid}
use Rattle.pth_model.specs.declared.verdict.Verdict.{Verdict}
use Rattle.pth_model.specs.declared.verdict.Verdict.TheVariants.{Says, Yields, Blocks, Ends, Kills}
use Rattle.pth_model.specs.Verdict.{refused}
use Rattle.pth_model.specs.Row.{◌trying◌}
use Rattle.pth_model.specs.Rows.{row_of}
use Rattle.pth_model.specs.Calls.{begun, begun_as}
use Rattle.pth_laws.specs.Refusals.{IsRefusal}

-- an error tells nothing of what threads have
fails_untold : (k : Resources) (t : ℕ) (c : Call) (e : Errno) → k.awaits t ≡ false → answer_told k t c (answer.Fail e) ≡ k
unfolding answer_told
fails_untold k t (call.CondAwait c m x) e awaits = ap (λ (b : Bool). if b then retaken k t (object_named m) else k) awaits
fails_untold k t c e awaits = refl

said_fails : (x e : Errno) → Says (answer.Fail x) ≡ refused e → x ≡ e
said_fails x e h = cc

module _ {P S H : Type 0} (f : P → Functions S H) (t : ℕ) (e : Errno) where
  as_refused : (c : Call) (v : Verdict) (a : Piece P S H) (s : State P S H) → v ≡ refused e → s.resources.awaits t ≡ false → IsRefusal t c e s (begun_as f t c (v trying a) s)
  unfolding told
  as_refused c (Says (answer.Fail x)) a s h awaits =
      let same = said_fails x e h in
      record {
        state = ap (λ (k : Resources). record s { resources = k }) (fails_untold s.resources t c x awaits);
        marks = ap (λ (y : Errno). mark.Answered (tid t) c (answer.Fail y) ∷ []) same;
        next = ap (λ (y : Errno). next.Done (answer.Fail y)) same;
      }
  as_refused c (Says x) a s h awaits = absurd (cc h)
  as_refused c (Yields x) a s h awaits = absurd (cc h)
  as_refused c (Blocks p) a s h awaits = absurd (cc h)
  as_refused c (Ends v) a s h awaits = absurd (cc h)
  as_refused c Kills a s h awaits = absurd (cc h)

  pub refuses_so : (c : Call) (s : State P S H) → (row_of f s t c).begin.verdict ≡ refused e → s.resources.awaits t ≡ false → IsRefusal t c e s (begun f t c s)
  unfolding begun row_of
  refuses_so call.Plain s h awaits = absurd (cc h)
  refuses_so (call.Note v) s h awaits = absurd (cc h)
  refuses_so c s h awaits = as_refused c (row_of f s t c).begin.verdict (row_of f s t c).begin.effect s h awaits
