-- The whole text, piece by piece.
use Rattle.std.proofs.Common.{◌≡◌, ℕ, List, ◌++◌, codes, sym, ap, ap₂, ◌∙◌}
use Rattle.std.proofs.lemmas.List.{append_assoc}
use Rattle.pth_kernel.specs.Kernel.{kernel_of}
use Rattle.pth_model.specs.Course.{Course}
use Rattle.pth_sched.specs.MachineOf.{MachineOf}
use Rattle.pth_sched.specs.Running.{Stands}
use Rattle.pth_world.specs.Store.{store_of}
use Rattle.pth_snapshot.specs.Dump.{dump, place_rows, single_rows, thread_rows, mutex_rows, fd_rows}

-- a piece behind pieces
behind : (old now next pieces piece : List ℕ) → now ≡ old ++ pieces → next ≡ now ++ piece → next ≡ old ++ (pieces ++ piece)
behind old now next pieces piece so_far here = here ∙ ap (λ x. x ++ piece) so_far ∙ append_assoc old pieces piece

module _ {P S H : Type 0} (m : MachineOf P S H) (c : Course P S H) (st : Stands m c) where
  pub dumped : (old o1 o2 o3 o4 o5 o6 : List ℕ) → o1 ≡ old ++ place_rows m.turn.steps m.world.scheduler.running
      → o2 ≡ o1 ++ single_rows m.world.kernel.now m.turn.turns m.world.scheduler.favour_new m.world.scheduler.preferred
      → o3 ≡ o2 ++ thread_rows c.state.control → o4 ≡ o3 ++ mutex_rows (store_of m.world.store).mutexes → o5 ≡ o4 ++ fd_rows (kernel_of m.world.kernel)
      → o6 ≡ o5 ++ codes "end\n" → o6 ≡ old ++ dump c
  dumped old o1 o2 o3 o4 o5 o6 h1 h2 h3 h4 h5 h6 =
      let k = c.state.control in
      let turn = st.turn in
      let sched = st.world.control.scheduler in
      let kernel = st.world.control.kernel in
      let store = st.world.store in
      behind old o5 o6 _ _
      (behind old o4 o5 _ _
      (behind old o3 o4 _ _
      (behind old o2 o3 _ _
      (behind old o1 o2 _ _
      (h1 ∙ ap₂ (λ t s. old ++ place_rows t.steps s.running) (sym turn) (sym sched))
      (h2 ∙ ap₂ (λ t s. o1 ++ single_rows m.world.kernel.now t.turns s.favour_new s.preferred) (sym turn) (sym sched)
      ∙ ap (λ x. o1 ++ single_rows x.now c.turn.turns k.scheduler.favour_new k.scheduler.preferred) (sym kernel)))
      h3)
      (h4 ∙ ap (λ s. o3 ++ mutex_rows s.mutexes) (sym store)))
      (h5 ∙ ap (λ x. o4 ++ fd_rows x) (sym kernel)))
      h6
