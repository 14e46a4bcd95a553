-- The destructors of a thread run one after another.
use Rattle.std.proofs.Common.{◌≡◌, ◌∙◌, ◌-◌, ◌<◌, ℕ, zero, suc, ℤ, pos, List, Option, Some, None, ap, sym, append-nil, arith}
use Rattle.pth_base.specs.Cut.{IsCut}
use Rattle.pth_base.specs.Program.{Functions}
use Rattle.pth_base.specs.declared.ids.Tid.{Tid}
use Rattle.pth_base.specs.declared.mark.Mark.{Mark}
use Rattle.pth_base.specs.declared.mark.Mark.TheVariants.{Destructor}
use Rattle.pth_model.specs.declared.destructors.Due.{Due}
use Rattle.pth_model.specs.declared.destructors.DestructorRound.{DestructorRound}
use Rattle.pth_model.specs.Ending.{destructs, destructs_by, next_destructor, runs_destructor}
use Rattle.pth_model.specs.Resources.{told}
use Rattle.pth_model.specs.Store.{Store, with_keys}
use Rattle.pth_model.specs.State.{State}
use Rattle.pth_store.specs.Keys.{with_key_value}
use Rattle.pth_world.specs.Leading.{Leads}
use Rattle.pth_world.proofs.Telling.{Tells}
use Rattle.pth_world.specs.Shows.{StandsFor}
use Rattle.pth_world.specs.Store.{store_of}
use Rattle.pth_world.specs.World.{WorldOf}
use Rattle.pth_end.proofs.Chains.{leads_then, cut_one, cut_second}

-- the value is 0 from then on
pub destructor_tells : {P S H : Type 0} (w v : WorldOf P S H) (t : Tid) (k : ℕ) (x : ℤ) → store_of v.store ≡ with_keys (with_key_value t.0 k (pos 0)) (store_of w.store) → Tells w (Destructor t k x) v
unfolding told
destructor_tells w v t k x changes r has = ap (with_keys (with_key_value t.0 k (pos 0))) has ∙ sym changes

module _ {P S H : Type 0} (f : P → Functions S H) (t : ℕ) (w : WorldOf P S H) (s : State P S H) (st : StandsFor w s) (r : DestructorRound) where
  -- the next one, by what the world has stored
  abbrev next : Option Due
  next = next_destructor (store_of w.store).keys t r

  all_is : (n : ℕ) → destructs f t (suc n) r s ≡ destructs_by f t next (destructs f t n) s
  unfolding destructs
  all_is n = ap (λ (x : Store). destructs_by f t (next_destructor x.keys t r) (destructs f t n) s) st.store

  -- none is left, or none may run any more
  pub none_runs : (n : ℕ) (old : List Mark) → next ≡ None → Leads w old old (destructs f t n r s)
  unfolding destructs
  none_runs zero old none = record { stands = st; tells = sym (append-nil old) }
  none_runs (suc n) old none = rw (all_is n, none) (record { stands = st; tells = sym (append-nil old) })

  pub no_more : (n : ℕ) (old : List Mark) → n ≡ 0 → Leads w old old (destructs f t n r s)
  unfolding destructs
  no_more n old none = rw none (record { stands = st; tells = sym (append-nil old) })

  module _ (d : Due) (n m : ℕ) (less : n ≡ suc m) (is : next ≡ Some d) where
    here : destructs f t n r s ≡ destructs_by f t (Some d) (destructs f t m) s
    here = ap (λ (k : ℕ). destructs f t k r s) less ∙ all_is m ∙ ap (λ (o : Option Due). destructs_by f t o (destructs f t m) s) is

    pub one_runs : (v y : WorldOf P S H) (old mid new : List Mark) → Leads v old mid (runs_destructor f t d s) → Leads y mid new (destructs f t m d.round (runs_destructor f t d s).state) → Leads y old new (destructs f t n r s)
    one_runs v y old mid new first rest = rw here (leads_then v y s (runs_destructor f t d) (destructs f t m d.round) old mid new first rest)

    pub one_cut : (old new : List Mark) → IsCut old new (runs_destructor f t d s).marks → IsCut old new (destructs f t n r s).marks
    one_cut old new cut = rw here (cut_one s (runs_destructor f t d) (destructs f t m d.round) old new cut)

    pub rest_cut : (v : WorldOf P S H) (old mid new : List Mark) → Leads v old mid (runs_destructor f t d s) → IsCut mid new (destructs f t m d.round (runs_destructor f t d s).state).marks → IsCut old new (destructs f t n r s).marks
    rest_cut v old mid new first cut = rw here (cut_second v s (runs_destructor f t d) (destructs f t m d.round) old mid new first cut)

-- one fewer
pub one_less : (n : ℕ) → 0 < n → n ≡ suc (n - 1)
one_less n some = omega arith
