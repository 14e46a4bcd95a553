-- A look at a handler: its act, and what follows.
use Rattle.std.proofs.Common.{◌≡◌, ◌∙◌, ◌+◌, ◌-◌, ◌≤◌, ℕ, ℤ, List, Option, Some, None, ap, ap₂, sym, append-nil}
use Rattle.pth_base.specs.Cut.{IsCut}
use Rattle.pth_base.specs.Program.{Functions, Acted as ActOf}
use Rattle.pth_base.specs.declared.act.Act.{Act}
use Rattle.pth_base.specs.declared.ids.HandlerId.{HandlerId}
use Rattle.pth_base.specs.declared.mark.Mark.{Mark}
use Rattle.pth_model.specs.Acts.{acts, acts_from, goes_on_after}
use Rattle.pth_model.specs.Changes.{shares}
use Rattle.pth_model.specs.State.{State}
use Rattle.pth_model.specs.Transition.{Piece, controlled}
use Rattle.pth_world.proofs.Telling.{has_still}
use Rattle.pth_world.specs.Leading.{Leads}
use Rattle.pth_world.specs.Shows.{Shows, StandsFor}
use Rattle.pth_world.specs.World.{WorldOf}
use Rattle.pth_end.proofs.Acting.{acts_are, look}
use Rattle.pth_end.proofs.Chains.{leads_then, cut_one, cut_second}

-- the program was asked in world w, and gave r
module _ {P S H : Type 0} (f : P → Functions S H) (w v : WorldOf P S H) (t : ℕ) (h : HandlerId) (x : ℤ) (i : ℕ) (low : i ≤ 64) (r : Option Act) (is : record { act = r; shared = v.shared } ≡ (f w.program).act h.0 x i w.shared) (s : State P S H) (st : StandsFor w s)
    (shows : Shows v (shares ((f s.control.program).act h.0 x i s.control.shared).shared s.control)) (stored : v.store ≡ w.store) where
  abbrev pub looked : State P S H
  looked = controlled (shares (look f t h x s i).shared) s

  abbrev rest : Piece P S H
  rest = acts_from f t h x (65 - (i + 1)) (i + 1)

  look_is : (look f t h x s i).act ≡ r
  look_is = ap (λ (a : ActOf H). a.act) (ap₂ (λ (p : P) (y : H). (f p).act h.0 x i y) st.control.program st.control.shared ∙ sym is)

  all_is : acts_from f t h x (65 - i) i s ≡ goes_on_after t r rest looked
  all_is = acts_are f t h x s i low ∙ ap (λ (o : Option Act). goes_on_after t o rest looked) look_is

  pub looked_stands : StandsFor v looked
  looked_stands = record { control = shows; store = has_still w v s stored st.store }

  pub no_act : (old : List Mark) → r ≡ None → Leads v old old (acts_from f t h x (65 - i) i s)
  no_act old none = rw (all_is, none) (record { stands = looked_stands; tells = sym (append-nil old) })

  module _ (a : Act) (some : r ≡ Some a) where
    pub act_then : (y z : WorldOf P S H) (old mid new : List Mark) → Leads y old mid (acts t a looked) → Leads z mid new (rest (acts t a looked).state) → Leads z old new (acts_from f t h x (65 - i) i s)
    act_then y z old mid new first second = rw (all_is, some) (leads_then y z looked (acts t a) rest old mid new first second)

    pub act_cut : (old new : List Mark) → IsCut old new (acts t a looked).marks → IsCut old new (acts_from f t h x (65 - i) i s).marks
    act_cut old new cut = rw (all_is, some) (cut_one looked (acts t a) rest old new cut)

    pub rest_cut : (y : WorldOf P S H) (old mid new : List Mark) → Leads y old mid (acts t a looked) → IsCut mid new (rest (acts t a looked).state).marks → IsCut old new (acts_from f t h x (65 - i) i s).marks
    rest_cut y old mid new first cut = rw (all_is, some) (cut_second y looked (acts t a) rest old mid new first cut)
