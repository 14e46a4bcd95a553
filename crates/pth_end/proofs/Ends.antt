-- A thread ends as the definitions say.
use Rattle.std.proofs.Common.{◌≡◌, ◌∙◌, ℕ, ℤ, false, List, [], ◌∷◌, ◌++◌, refl, ap, sym}
use Rattle.pth_base.specs.Cut.{IsCut}
use Rattle.pth_base.specs.Program.{Functions}
use Rattle.pth_base.specs.declared.mark.Mark.{Mark}
use Rattle.pth_base.specs.declared.mark.Mark.TheVariants.{Ended}
use Rattle.pth_model.specs.Ending.{ending, leaves, dies, gives_all, other_than, runs_cleanups, runs_destructors, undoes_wait}
use Rattle.pth_model.specs.Resources.{store_without, told}
use Rattle.pth_model.specs.Store.{Resources}
use Rattle.pth_model.specs.State.{State}
use Rattle.pth_model.specs.Transition.{Piece, tid, ◌and_then◌}
use Rattle.pth_world.proofs.Frames.{frame_then, moved_frame}
use Rattle.pth_world.specs.Frame.{Frame}
use Rattle.pth_world.specs.Keeps.{KeepsAllButStore, MovesThreads}
use Rattle.pth_world.specs.Leading.{Leads}
use Rattle.pth_world.specs.Numbering.{no_numbers}
use Rattle.pth_world.specs.Shows.{Shows, StandsFor}
use Rattle.pth_world.specs.Store.{store_of}
use Rattle.pth_world.specs.World.{WorldOf}
use Rattle.pth_end.specs.Handling.{IsHandled}
use Rattle.pth_end.proofs.Chains.{leads_then, cut_one, cut_second}
use Rattle.pth_end.proofs.Handled.{handled_frame, stored_frame}

-- a thread that ended has nothing
ended_told : (k : Resources) (t : ℕ) (v : ℤ) → (told k (Ended (tid t) v)).store ≡ store_without t k.store
unfolding told
ended_told k t v = refl

module _ {P S H : Type 0} (w a : WorldOf P S H) where
  -- then it ran its handlers and destructors, what it stored is forgotten, and it is dead or gone
  pub end_frame : (t : ℕ) (b c y : WorldOf P S H) → Frame w a no_numbers w.scheduler.running false → IsHandled a b → KeepsAllButStore b c → MovesThreads c y 0 (other_than t c.scheduler.running) → Frame w y no_numbers (other_than t w.scheduler.running) false
  end_frame t b c y undone handled keeps moves =
      let r = w.scheduler.running in
      let ran = handled_frame a r undone.runs b handled in
      let forgot = stored_frame b r ran.runs c handled.whole keeps in
      let left = moved_frame no_numbers c y (other_than t c.scheduler.running) (other_than t r) (ap (other_than t) forgot.runs) moves in
      frame_then no_numbers w c y r (other_than t r) false (frame_then no_numbers w b c r r false (frame_then no_numbers w a b r r false undone ran) forgot) left

module _ {P S H : Type 0} (f : P → Functions S H) (t : ℕ) (v : ℤ) where
  -- the last piece: what it stored is forgotten, and it is dead or gone
  pub dies_leads : (w y : WorldOf P S H) (s : State P S H) (old new : List Mark) → StandsFor w s → Shows y (leaves t v s.control) → store_of y.store ≡ store_without t (store_of w.store) → new ≡ old ++ Ended (tid t) v ∷ [] → Leads y old new (dies t v s)
  dies_leads w y s old new st shows stored appended = record {
    stands = record {
      control = shows;
      store = ended_told s.resources t v ∙ ap (store_without t) st.store ∙ sym stored;
    };
    tells = appended;
  }

  -- what comes after its handlers, and after its destructors
  abbrev pub leaving : Piece P S H
  leaving = gives_all t and_then dies t v

  abbrev pub after_cleanups : Piece P S H
  after_cleanups = runs_destructors f t and_then leaving

  abbrev pub after_wait : Piece P S H
  after_wait = runs_cleanups f t and_then after_cleanups

  -- the state after its wait was undone, after its handlers, and after its destructors
  abbrev pub undone_state : State P S H → State P S H
  undone_state s = (undoes_wait t s).state

  abbrev pub cleaned_state : State P S H → State P S H
  cleaned_state s = (runs_cleanups f t (undone_state s)).state

  abbrev pub destructed_state : State P S H → State P S H
  destructed_state s = (runs_destructors f t (cleaned_state s)).state

  -- all of them
  pub end_leads : (z a b c y : WorldOf P S H) (s : State P S H) (old l m n o new : List Mark) → Leads z old l (undoes_wait t s) → Leads a l m (runs_cleanups f t (undone_state s)) → Leads b m n (runs_destructors f t (cleaned_state s))
      → Leads c n o (gives_all t (destructed_state s)) → Leads y o new (dies t v (gives_all t (destructed_state s)).state) → Leads y old new (ending f t v s)
  unfolding ending
  end_leads z a b c y s old l m n o new undone cleaned destructed gave died =
      let last = leads_then c y (destructed_state s) (gives_all t) (dies t v) n o new gave died in
      let later = leads_then b y (cleaned_state s) (runs_destructors f t) leaving m n new destructed last in
      let rest = leads_then a y (undone_state s) (runs_cleanups f t) after_cleanups l m new cleaned later in
      let all = leads_then z y s (undoes_wait t) after_wait old l new undone rest in
      record { stands = all.stands; tells = all.tells }

  -- it broke off as its wait was undone
  pub cut_waiting : (s : State P S H) (old new : List Mark) → IsCut old new (undoes_wait t s).marks → IsCut old new (ending f t v s).marks
  unfolding ending
  cut_waiting s old new cut = let c = cut_one s (undoes_wait t) after_wait old new cut in record { first = c.first; rest = c.rest; new_is = c.new_is; whole_is = c.whole_is }

  -- or later
  pub cut_undone : (z : WorldOf P S H) (s : State P S H) (old l new : List Mark) → Leads z old l (undoes_wait t s) → IsCut l new (after_wait (undone_state s)).marks → IsCut old new (ending f t v s).marks
  unfolding ending
  cut_undone z s old l new undone cut = let c = cut_second z s (undoes_wait t) after_wait old l new undone cut in record { first = c.first; rest = c.rest; new_is = c.new_is; whole_is = c.whole_is }

  -- as its cleanups ran
  pub cut_cleaning : (s : State P S H) (l new : List Mark) → IsCut l new (runs_cleanups f t (undone_state s)).marks → IsCut l new (after_wait (undone_state s)).marks
  cut_cleaning s l new cut = cut_one (undone_state s) (runs_cleanups f t) after_cleanups l new cut

  -- or later
  pub cut_later : (a : WorldOf P S H) (s : State P S H) (l m new : List Mark) → Leads a l m (runs_cleanups f t (undone_state s)) → IsCut m new (after_cleanups (cleaned_state s)).marks → IsCut l new (after_wait (undone_state s)).marks
  cut_later a s l m new cleaned cut = cut_second a (undone_state s) (runs_cleanups f t) after_cleanups l m new cleaned cut

  -- as it gave up what it had, or where its end was told
  pub cut_giving : (b : WorldOf P S H) (s : State P S H) (m n new : List Mark) → Leads b m n (runs_destructors f t (cleaned_state s)) → IsCut n new (leaving (destructed_state s)).marks → IsCut m new (after_cleanups (cleaned_state s)).marks
  cut_giving b s m n new destructed cut = cut_second b (cleaned_state s) (runs_destructors f t) leaving m n new destructed cut
