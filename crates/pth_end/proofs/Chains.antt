-- Pieces that follow one another.
use Rattle.std.proofs.Common.{◌∙◌, List, ◌++◌, Result, ap, append_assoc}
use Rattle.std.proofs.lemmas.Result.{on_ok_weaker, on_err_weaker}
use Rattle.pth_base.proofs.Cuts.{cut_then, cut_first}
use Rattle.pth_base.specs.Cut.{IsCut}
use Rattle.pth_base.specs.declared.mark.Mark.{Mark}
use Rattle.pth_base.specs.declared.memory.OutOfMemory.{OutOfMemory}
use Rattle.pth_model.specs.State.{State}
use Rattle.pth_model.specs.Transition.{Piece, ◌and_then◌}
use Rattle.pth_world.specs.Leading.{LedTo, Leads}
use Rattle.pth_world.specs.Shows.{StandsFor}
use Rattle.pth_world.specs.World.{WorldOf}

module _ {P S H : Type 0} where
  -- the second piece goes on from where the first led
  pub leads_then : (v w : WorldOf P S H) (s : State P S H) (a b : Piece P S H) (old mid new : List Mark) → Leads v old mid (a s) → Leads w mid new (b (a s).state) → Leads w old new ((a and_then b) s)
  leads_then v w s a b old mid new first second = record {
    stands = second.stands;
    tells = second.tells ∙ ap (λ (m : List Mark). m ++ (b (a s).state).marks) first.tells ∙ append_assoc old (a s).marks (b (a s).state).marks;
  }

  -- it broke off in the second piece
  pub cut_second : (v : WorldOf P S H) (s : State P S H) (a b : Piece P S H) (old mid new : List Mark) → Leads v old mid (a s) → IsCut mid new (b (a s).state).marks → IsCut old new ((a and_then b) s).marks
  cut_second v s a b old mid new first cut = cut_then old mid new (a s).marks (b (a s).state).marks first.tells cut

  -- it broke off in the first
  pub cut_one : (s : State P S H) (a b : Piece P S H) (old new : List Mark) → IsCut old new (a s).marks → IsCut old new ((a and_then b) s).marks
  cut_one s a b old new cut = cut_first old new (a s).marks (b (a s).state).marks cut

  -- the first piece led there, and the second went on from there
  pub goes_then : {T : Type 0} (from : State P S H → Type 0) (a b : Piece P S H) (v w : WorldOf P S H) (old mid new : List Mark) (r : Result T OutOfMemory) → ((s : State P S H) → from s → Leads v old mid (a s)) → LedTo (StandsFor v) b w mid new r → LedTo from (a and_then b) w old new r
  goes_then from a b v w old mid new r first second = record {
    leads = on_ok_weaker r (λ rest s st. let l = first s st in leads_then v w s a b old mid new l (rest _ l.stands)) second.leads;
    cut = on_err_weaker r (λ rest s st. let l = first s st in cut_second v s a b old mid new l (rest _ l.stands)) second.cut;
  }
