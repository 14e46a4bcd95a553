-- The cleanup handlers of a thread run one after another.
use Rattle.std.proofs.Common.{◌≡◌, ℕ, List, [], ◌∷◌, Result, sym, subst, append-nil}
use Rattle.std.proofs.lemmas.Result.{on_ok_weaker, on_err_weaker}
use Rattle.pth_base.specs.Cut.{IsCut}
use Rattle.pth_base.specs.Program.{Functions}
use Rattle.pth_base.specs.declared.mark.Mark.{Mark}
use Rattle.pth_base.specs.declared.memory.OutOfMemory.{OutOfMemory}
use Rattle.pth_model.specs.Acts.{runs_handler}
use Rattle.pth_model.specs.Ending.{runs_cleanups, runs_each}
use Rattle.pth_model.specs.Store.{Store}
use Rattle.pth_model.specs.State.{State}
use Rattle.pth_store.specs.Cleanups.{PushedHandler}
use Rattle.pth_world.specs.Leading.{LedTo, Leads}
use Rattle.pth_world.specs.Shows.{StandsFor}
use Rattle.pth_world.specs.Store.{store_of}
use Rattle.pth_world.specs.World.{WorldOf}
use Rattle.pth_end.proofs.Chains.{leads_then, cut_one, cut_second}

module _ {P S H : Type 0} (f : P → Functions S H) (t : ℕ) (s : State P S H) (all : List PushedHandler) where
  -- none is left
  pub none_runs : (w : WorldOf P S H) (old : List Mark) → all ≡ [] → StandsFor w s → Leads w old old (runs_each f t all s)
  unfolding runs_each
  none_runs w old none st = rw none (record { stands = st; tells = sym (append-nil old) })

  module _ (c : PushedHandler) (cs : List PushedHandler) (is : all ≡ c ∷ cs) where
    pub one_runs : (v w : WorldOf P S H) (old mid new : List Mark) → Leads v old mid (runs_handler f t c.0 c.1 s) → Leads w mid new (runs_each f t cs (runs_handler f t c.0 c.1 s).state) → Leads w old new (runs_each f t all s)
    unfolding runs_each
    one_runs v w old mid new first rest = rw is (leads_then v w s (runs_handler f t c.0 c.1) (runs_each f t cs) old mid new first rest)

    pub one_cut : (old new : List Mark) → IsCut old new (runs_handler f t c.0 c.1 s).marks → IsCut old new (runs_each f t all s).marks
    unfolding runs_each
    one_cut old new cut = rw is (cut_one s (runs_handler f t c.0 c.1) (runs_each f t cs) old new cut)

    pub rest_cut : (v : WorldOf P S H) (old mid new : List Mark) → Leads v old mid (runs_handler f t c.0 c.1 s) → IsCut mid new (runs_each f t cs (runs_handler f t c.0 c.1 s).state).marks → IsCut old new (runs_each f t all s).marks
    unfolding runs_each
    rest_cut v old mid new first cut = rw is (cut_second v s (runs_handler f t c.0 c.1) (runs_each f t cs) old mid new first cut)

-- the whole stack is run
pub all_run : {P S H T : Type 0} (f : P → Functions S H) (t : ℕ) (w v : WorldOf P S H) (old new : List Mark) (r : Result T OutOfMemory) → LedTo (StandsFor w) (runs_each f t ((store_of w.store).cleanups t)) v old new r → LedTo (StandsFor w) (runs_cleanups f t) v old new r
all_run f t w v old new r runs = record {
  leads = on_ok_weaker r (λ leads s st. subst (λ (x : Store). Leads v old new (runs_each f t (x.cleanups t) s)) (sym st.store) (leads s st)) runs.leads;
  cut = on_err_weaker r (λ cut s st. subst (λ (x : Store). IsCut old new (runs_each f t (x.cleanups t) s).marks) (sym st.store) (cut s st)) runs.cut;
}
