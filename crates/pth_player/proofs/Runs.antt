-- From the parts of the call to what was done.
use Rattle.std.proofs.Common.{◌≡◌, ◌∙◌, ℕ, List, Bool, true, false, ap, Option, Some, None, Result, Ok, Err, IfOk, IsErr, IsErrAnd, MatchResult, refl, sym, subst, inl, inr}
use Rattle.std.proofs.KnownBytes.{Appends-nil}
use Rattle.pth_base.specs.declared.outcome.Outcome.{Outcome}
use Rattle.pth_streams.specs.declared.sink.SinkErr.{SinkErr}
use Rattle.pth_streams.specs.declared.sink.SinkErr.TheVariants as sink
use Rattle.pth_print.specs.declared.fault_line.Fault.{Fault}
use Rattle.pth_print.specs.declared.fault_line.Fault.TheVariants as fault
use Rattle.pth_kernel.specs.Kernel.{KernelOf}
use Rattle.pth_line.specs.Script.{Sections, functions_of}
use Rattle.pth_command.specs.CommandLine.{Chooses, Asked, asked_of}
use Rattle.pth_command.specs.declared.choice.Choice.{Choice}
use Rattle.pth_command.specs.declared.command_line.WordsErr.{WordsErr}
use Rattle.pth_command.specs.declared.command_line.WordsErr.TheVariants as words
use Rattle.pth_filter.specs.Faults.{fault_of_write}
use Rattle.pth_filter.specs.Objects.{Object, OtherStays, OthersUntouched, Stands, is_file, made, named, nothing}
use Rattle.pth_player.specs.FaultsOfErrors.{fault_of_words}
use Rattle.pth_player.specs.Drive.{Drives, IsRestTo}
use Rattle.pth_streams.specs.Inputs.{Inputs}
use Rattle.pth_streams.specs.Scene.{Scene, scene}
use Rattle.pth_player.specs.Objects.{ObjectRead, asked_object, cut}
use Rattle.pth_player.specs.Output.{given_script, outcome_status, told_output, upgrade_output, IsRunOutput}
use Rattle.pth_player.specs.Play.{HoldsScript, IsRead, Played, PlayedFor, ReadsText, WritesScript, done_status}
use Rattle.pth_streams.specs.Pieces.{Received}
use Rattle.pth_streams.specs.Pieces.{WritesPiece}
use Rattle.pth_player.specs.declared.done.Done.{Done}
use Rattle.pth_player.specs.declared.done.Done.TheVariants as done
use Rattle.pth_script.specs.Upgrade.{IsUpgrade, upgraded}
use Rattle.pth_model.specs.Run.{run}
use Rattle.std.specs.Io.KnownBytes.{Appends}
use Rattle.pth_streams.specs.Pieces.{AppendsPart, AppendsPrefix}
use Rattle.pth_player.proofs.Beginnings.{whole_text}
use Rattle.pth_player.proofs.Reading.{read_stood}
use Rattle.pth_player.proofs.Results.{err_is, ok_is, ok_not_err}

-- nothing was touched if nothing was called
stays_refl : {S F : Type 0} (of_file : Bool) (input : S) (files : F) → OtherStays of_file input input files files
stays_refl true input files = refl
stays_refl false input files = refl

pub others_refl : {S F : Type 0} (object : Object) (input : S) (files : F) → OthersUntouched object input input files files
others_refl nothing input files = (refl, refl)
others_refl (made text) input files = (refl, refl)
others_refl (named name) input files = stays_refl (is_file name) input files

-- nothing is read of an object that is not asked
pub stood_refl : (object : Object) (ins : Inputs) → Stands object ins ins
stood_refl nothing ins = tt
stood_refl (made text) ins = tt
stood_refl (named name) ins = refl

-- the words ask for this
pub is_asked : (asked : Option Asked) (q : Result Choice WordsErr) (s : Result Choice Fault) (c : Choice) → Chooses asked q → MatchResult q (λ c. s ≡ Ok c) (λ x. IsErrAnd s (λ y. y ≡ fault_of_words x))
    → s ≡ Ok c → asked ≡ Some (asked_of c)
is_asked asked (Ok d) s c answers m is = answers ∙ ap (λ (x : Choice). Some (asked_of x)) (ok_is s d c m is)
is_asked asked (Err x) s c answers m is = absurd (subst (λ t. IsErrAnd t (λ y. y ≡ fault_of_words x)) is m)

-- a write as what was done, and as what comes of it
abbrev pub ran_of : Result Outcome SinkErr → Result Done SinkErr
ran_of (Ok o) = Ok (done.Ran o)
ran_of (Err e) = Err e

abbrev pub upgraded_of : Result (Unit {0}) SinkErr → Result Done SinkErr
upgraded_of (Ok x) = Ok done.Upgraded
upgraded_of (Err e) = Err e

abbrev pub done_of : Result Done SinkErr → Result Done Fault
done_of (Ok d) = Ok d
done_of (Err e) = Err (fault_of_write e)

module _ (asked : Option Asked) (ins : Inputs) (w : Received) where
  abbrev before : Scene
  before = scene ins w

  unasked_by : (e : WordsErr) (e2 : Fault) → e2 ≡ fault_of_words e → Chooses asked (Err e) → Played asked before before (Err e2)
  unasked_by words.Refused e2 is h = subst (λ o. Played o before before (Err e2)) (sym h) (subst (λ f. Played None before before (Err f)) (sym is) (Appends-nil w.written, refl))
  unasked_by words.OutOfMemory e2 is h = subst (λ f. Played asked before before (Err f)) (sym is) (out_of_memory asked)
    where
      out_of_memory : (o : Option Asked) → Played o before before (Err fault.OutOfMemory)
      out_of_memory None = (Appends-nil w.written, refl)
      out_of_memory (Some x) = (stood_refl (asked_object (Some x)) ins, inl (Appends-nil w.written, refl))

  unasked_for : (q : Result Choice WordsErr) (s : Result Choice Fault) (e : Fault) → Chooses asked q → MatchResult q (λ c. s ≡ Ok c) (λ x. IsErrAnd s (λ y. y ≡ fault_of_words x)) → s ≡ Err e
      → Played asked before before (Err e)
  unasked_for (Ok c) s e answers m is = absurd (ok_not_err s c e m is)
  unasked_for (Err x) s e answers m is = unasked_by x e (subst (λ t. IsErrAnd t (λ y. y ≡ fault_of_words x)) is m) answers

  -- the words were refused, or memory ran out for them
  pub unasked : (q : Result Choice WordsErr) (s : Result Choice Fault) (e : Fault) (r : Result Done Fault) → Chooses asked q
      → MatchResult q (λ c. s ≡ Ok c) (λ x. IsErrAnd s (λ y. y ≡ fault_of_words x)) → s ≡ Err e → IsErr r → IsErrAnd r (λ y. y ≡ e) → Played asked before before r
  unasked q s e r answers m is h k = subst (λ y. Played asked before before y) (sym (err_is r e h k)) (unasked_for q s e answers m is)

module _ (asked : Asked) (ins later : Inputs) (w : Received) where
  abbrev scene_before : Scene
  scene_before = scene ins w

  abbrev unwritten : Scene
  unwritten = scene later w

  module _ {T : Type 0} (Is : T → List ℕ → Type 0) where
    unread_by : (e : Fault) → ReadsText Is (asked_object (Some asked)) ins later (Err e) → PlayedFor asked scene_before unwritten (Err e)
    unread_by (fault.Input line flaw) h = (h.0, h.1, (Appends-nil w.written, refl))
    unread_by fault.ReadFault h = (h, (Appends-nil w.written, refl))
    unread_by fault.OutOfMemory h = (h, inl (Appends-nil w.written, refl))
    unread_by fault.Words h = absurd h
    unread_by fault.WriteFault h = absurd h

    -- the object was not read, or it holds no script
    pub unread : (e : Fault) (r : Result Done Fault) → ReadsText Is (asked_object (Some asked)) ins later (Err e) → IsErr r → IsErrAnd r (λ y. y ≡ e) → PlayedFor asked scene_before unwritten r
    unread e r h some k = subst (λ y. PlayedFor asked scene_before unwritten y) (sym (err_is r e some k)) (unread_by e h)

  -- memory ran out for the machine
  pub unmade : Stands (asked_object (Some asked)) ins later → PlayedFor asked scene_before unwritten (Err fault.OutOfMemory)
  unmade stood = (stood, inl (Appends-nil w.written, refl))

  module _ (z : Received) where
    abbrev after : Scene
    after = scene later z

    -- what was written comes to what was done
    wrote : (read : ObjectRead (asked_object (Some asked)) ins later) (r : Result Done SinkErr) → WritesScript asked scene_before after r → PlayedFor asked scene_before after (done_of r)
    wrote read (Ok d) h = (read, h)
    wrote read (Err sink.Failed) h = (read, h)
    wrote read (Err sink.OutOfMemory) h = (read_stood (asked_object (Some asked)) ins later read, inr h)

    -- the machine of a script was driven
    module _ (runs : asked.upgrade ≡ false) (script : Sections × KernelOf × ℕ) (h : ReadsText IsRead (asked_object (Some asked)) ins later (Ok script)) where
      -- the run stops at part j, and this is its text
      module _ (j : ℕ) (rest : List ℕ) (is : IsRestTo functions_of (given_script script) asked 0 j rest) where
        is_output : IsRunOutput functions_of (given_script script) asked (told_output asked (run functions_of (given_script script) j))
        is_output = (j, (whole_text functions_of (given_script script) asked j rest is).0, refl)

        holds : HoldsScript asked scene_before (told_output asked (run functions_of (given_script script) j))
        holds = (h.1.0, h.1.1, inl (runs, given_script script, h.1.2, is_output))

        text_is : rest ≡ (told_output asked (run functions_of (given_script script) j)).text
        text_is = (whole_text functions_of (given_script script) asked j rest is).1

      drove_by : (r : Result Outcome SinkErr) → Drives functions_of (given_script script) asked 0 w z r → WritesScript asked scene_before after (ran_of r)
      drove_by (Ok o) d = (
        told_output asked (run functions_of (given_script script) d.0),
        holds d.0 d.1 d.2,
        ap outcome_status (sym d.3),
        (subst (Appends w.written z.written) (text_is d.0 d.1 d.2) d.4, d.5),
      )
      drove_by (Err sink.Failed) d = (
        told_output asked (run functions_of (given_script script) d.0),
        holds d.0 d.1 d.2,
        tt,
        (subst (AppendsPart w.written z.written) (text_is d.0 d.1 d.2) d.3, d.4),
      )
      drove_by (Err sink.OutOfMemory) d = (
        told_output asked (run functions_of (given_script script) d.0),
        holds d.0 d.1 d.2,
        tt,
        (subst (AppendsPrefix w.written z.written) (text_is d.0 d.1 d.2) d.3, d.4),
      )

      pub drove : (r : Result Outcome SinkErr) → Drives functions_of (given_script script) asked 0 w z r → PlayedFor asked scene_before after (done_of (ran_of r))
      drove r d = wrote h.0 (ran_of r) (drove_by r d)

    -- the text in version 2 was written
    module _ (upgrades : asked.upgrade ≡ true) (text : List ℕ) (h : ReadsText IsUpgrade (asked_object (Some asked)) ins later (Ok text)) where
      wrote_by : (r : Result (Unit {0}) SinkErr) → WritesPiece w z text r → WritesScript asked scene_before after (upgraded_of r)
      wrote_by r piece = (upgrade_output (cut h.1.0), (h.1.0, h.1.1, inr (upgrades, h.1.2.0, refl)), status_of r, piece_of r (subst (λ t. WritesPiece w z t r) h.1.2.1 piece))
        where
          status_of : (r : Result (Unit {0}) SinkErr) → IfOk (upgraded_of r) (λ d. 0 ≡ done_status d)
          status_of (Ok x) = refl
          status_of (Err e) = tt

          piece_of : (r : Result (Unit {0}) SinkErr) → WritesPiece w z (upgraded (cut h.1.0)) r → WritesPiece w z (upgraded (cut h.1.0)) (upgraded_of r)
          piece_of (Ok x) p = p
          piece_of (Err sink.Failed) p = p
          piece_of (Err sink.OutOfMemory) p = p

      pub wrote_upgrade : (r : Result (Unit {0}) SinkErr) → WritesPiece w z text r → PlayedFor asked scene_before after (done_of (upgraded_of r))
      wrote_upgrade r piece = wrote h.0 (upgraded_of r) (wrote_by r piece)

-- what was done for what the words ask
pub ran_for : (asked : Option Asked) (x : Asked) (old new : Scene) (r : Result Done Fault) → asked ≡ Some x → PlayedFor x old new r → Played asked old new r
ran_for asked x old new r is h = subst (λ o. Played o old new r) (sym is) h

-- the fault of a sink, as its caller tells it
pub told_as : (asked : Asked) (old new : Scene) (e : SinkErr) (f : Fault) → f ≡ fault_of_write e → PlayedFor asked old new (Err (fault_of_write e)) → PlayedFor asked old new (Err f)
told_as asked old new e f is h = subst (λ y. PlayedFor asked old new (Err y)) (sym is) h
