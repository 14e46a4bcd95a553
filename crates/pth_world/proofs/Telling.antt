-- A world stands for the state after a mark that tells what threads have.
use Rattle.std.proofs.Common.{◌≡◌, false, List, [], ◌∷◌, ◌++◌, refl, sym, ◌∙◌, ap}
use Rattle.pth_base.specs.declared.ids.Tid.{Tid}
use Rattle.pth_base.specs.declared.call.Call.{Call}
use Rattle.pth_base.specs.declared.call.Call.TheVariants as call
use Rattle.pth_base.specs.declared.answer.Answer.TheVariants.{Fail}
use Rattle.pth_base.specs.declared.errno.Errno.{Errno}
use Rattle.pth_base.specs.declared.mark.Mark.{Mark}
use Rattle.pth_base.specs.declared.mark.Mark.TheVariants.{Answered}
use Rattle.pth_model.specs.Awaits.{is_await}
use Rattle.pth_model.specs.Resources.{told, answer_told}
use Rattle.pth_model.specs.Store.{Resources}
use Rattle.pth_model.specs.State.{State}
use Rattle.pth_model.specs.Transition.{tells}
use Rattle.pth_world.specs.World.{WorldOf}
use Rattle.pth_world.specs.Store.{StoreOf, store_of}
use Rattle.pth_world.specs.Shows.{Shows, StandsFor}
use Rattle.pth_world.specs.Leading.{Leads, IsQuiet}

-- the mark tells what threads stored in world v, where they had stored what they have in w
abbrev pub Tells : {P S H : Type 0} → WorldOf P S H → Mark → WorldOf P S H → Type 0
Tells w m v = (k : Resources) → k.store ≡ store_of w.store → (told k m).store ≡ store_of v.store

-- a refused call changes nothing, but for one that awaits a condition
pub quiet-refused : (t : Tid) (c : Call) (e : Errno) → is_await c ≡ false → IsQuiet (Answered t c (Fail e))
unfolding told answer_told
quiet-refused t (call.Exit v) e other k = refl
quiet-refused t (call.CondAwait c m x) e other k = absurd (cc other)
quiet-refused t c e other k = refl

module _ {P S H : Type 0} (w v : WorldOf P S H) (m : Mark) where
  -- a mark that changes nothing, where nothing else is stored
  pub quiet_tells : IsQuiet m → v.store ≡ w.store → Tells w m v
  quiet_tells quiet same k has = quiet k ∙ has ∙ ap (λ (y : StoreOf). store_of y) (sym same)

  module _ (s : State P S H) (tell : Tells w m v) (st : StandsFor w s) (sh : Shows v s.control) where
    pub tells_stands : StandsFor v (tells m s).state
    tells_stands = record { control = sh; store = tell s.resources st.store }

    pub tells_leads : (old new : List Mark) → new ≡ old ++ m ∷ [] → Leads v old new (tells m s)
    tells_leads old new appended = record { stands = tells_stands; tells = appended }

module _ {P S H : Type 0} where
  -- a mark that changes nothing of what threads have
  pub quiet_leads : (w : WorldOf P S H) (s : State P S H) (m : Mark) (old new : List Mark) → IsQuiet m → StandsFor w s → new ≡ old ++ m ∷ [] → Leads w old new (tells m s)
  quiet_leads w s m old new quiet st appended = tells_leads w w m s (quiet_tells w w m quiet refl) st st.control old new appended

  -- what threads have, where nothing else is stored
  pub has_still : (w v : WorldOf P S H) (s : State P S H) → v.store ≡ w.store → s.resources.store ≡ store_of w.store → s.resources.store ≡ store_of v.store
  has_still w v s same has = has ∙ ap (λ (y : StoreOf). store_of y) (sym same)
