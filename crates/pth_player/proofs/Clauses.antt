-- The clauses of the top call, from what was done and how the call ends.
use Rattle.std.proofs.Common.{◌≡◌, ◌≢◌, ◌∙◌, ◌⊎◌, ◌<◌, ℕ, List, [], Option, Some, None, Result, Ok, Err, IfSome, sym, refl, subst, arith, inl, inr}
use Rattle.pth_base.specs.declared.outcome.Outcome.TheVariants as outcomes
use Rattle.pth_command.specs.CommandLine.{Asked, asked_by}
use Rattle.pth_filter.proofs.Answering.{answers}
use Rattle.pth_filter.specs.Answers.{Ends, HasOutput, IsTextStatus, Ran, TopCall}
use Rattle.pth_filter.specs.Faults.{Reports}
use Rattle.pth_filter.specs.Output.{Output}
use Rattle.pth_player.specs.declared.done.Done.{Done}
use Rattle.pth_player.specs.declared.done.Done.TheVariants as done
use Rattle.pth_player.specs.Objects.{asked_object, content, cut}
use Rattle.pth_player.specs.Output.{IsRefused, play, program}
use Rattle.pth_player.specs.Play.{HoldsNoScript, HoldsScript, Plays, Played, PlayedFor, ReadsWhole, RefusesInput, RefusesWords, WritesScript, answer_of, done_status}
use Rattle.pth_player.proofs.Outputs.{no_fault, refused_output, script_accepted, script_output, words_output}
use Rattle.pth_player.proofs.Reading.{read_stood}
use Rattle.pth_player.proofs.Results.{always, told}
use Rattle.pth_player.proofs.RunTexts.{shows_runs}
use Rattle.pth_print.specs.FaultLines.{fault_line, fault_status}
use Rattle.pth_print.specs.declared.fault_line.Fault.{Fault}
use Rattle.pth_print.specs.declared.fault_line.Fault.TheVariants as fault
use Rattle.pth_print.specs.declared.fault_line.Flaw.TheVariants.{Breaks, NoTranscript}
use Rattle.pth_script.specs.Broken.{IsAccepted}
use Rattle.pth_script.proofs.Once.{not_both}
use Rattle.pth_streams.proofs.Pieces.{all_of, part_is_prefix}
use Rattle.pth_streams.specs.Inputs.{AreHeld}
use Rattle.pth_streams.specs.Pieces.{AppendsPrefix, Received}
use Rattle.pth_streams.specs.Scene.{Scene}
use Rattle.pth_streams.specs.declared.sink.SinkErr.{SinkErr}
use Rattle.pth_streams.specs.declared.sink.SinkErr.TheVariants as sink

-- ---- what was done, as it is of any program

module _ (old new : Scene) (asked : Asked) where
  -- a script has one output
  has : (out : Output) → HoldsScript asked old out → HasOutput play (Some asked) old out
  has out h = (h.0, h.1, script_output asked h.0 out h.2)

  wrote : (d : Done) → IsTextStatus (done_status d) → PlayedFor asked old new (Ok d) → Ran play (Some asked) old new (Ok (done_status d))
  wrote d status ran =
      let s = ran.1 in (
        read_stood (asked_object (Some asked)) old.ins new.ins ran.0,
        status,
        (s.0, has s.0 s.1, no_fault asked (cut s.1.0) s.0 s.1.2, s.2, s.3.0, s.3.1),
      )

  as_ran_for : (r : Result Done Fault) → PlayedFor asked old new r → Ran play (Some asked) old new (answer_of r)
  as_ran_for (Ok done.Upgraded) ran = wrote done.Upgraded (inl refl) ran
  as_ran_for (Ok (done.Ran (outcomes.Ended v))) ran = wrote (done.Ran (outcomes.Ended v)) (inl refl) ran
  as_ran_for (Ok (done.Ran outcomes.Killed)) ran = wrote (done.Ran outcomes.Killed) (inl refl) ran
  as_ran_for (Ok (done.Ran outcomes.Stalled)) ran = wrote (done.Ran outcomes.Stalled) (inr (inl refl)) ran
  as_ran_for (Ok (done.Ran outcomes.Running)) ran = wrote (done.Ran outcomes.Running) (inr (inr refl)) ran
  as_ran_for (Ok (done.Ran outcomes.OutOfMemory)) ran =
      let s = ran.1 in (
        read_stood (asked_object (Some asked)) old.ins new.ins ran.0,
        inr (s.0, has s.0 s.1, all_of old.out.written new.out.written s.0.text s.3.0, s.3.1),
      )
  as_ran_for (Err fault.Words) ran = absurd ran
  as_ran_for (Err (fault.Input line (Breaks breach))) ran =
      let h = ran.1 in
      (read_stood (asked_object (Some asked)) old.ins new.ins ran.0, (h.0, h.1, refused_output asked h.0 line breach h.2), ran.2)
  as_ran_for (Err (fault.Input line NoTranscript)) ran = let h = ran.1 in absurd h.2
  as_ran_for (Err fault.ReadFault) ran = (ran.0, ran.1)
  as_ran_for (Err fault.WriteFault) ran =
      let s = ran.1 in
      (read_stood (asked_object (Some asked)) old.ins new.ins ran.0, (s.0, has s.0 s.1, s.3.0, s.3.1))
  as_ran_for (Err fault.OutOfMemory) ran = (ran.0, elim ran.1 [ inl none ↦ inl none | inr s ↦ inr (s.0, has s.0 s.1, s.3.0, s.3.1) ])

as_ran : (old new : Scene) (asked : Option Asked) (r : Result Done Fault) → Played asked old new r → Ran play asked old new (answer_of r)
as_ran old new (Some asked) r ran = as_ran_for old new asked r ran
as_ran old new None (Ok d) ran = absurd ran
as_ran old new None (Err fault.Words) ran = (tt, ([], refl, words_output []), ran)
as_ran old new None (Err (fault.Input line flaw)) ran = absurd ran
as_ran old new None (Err fault.ReadFault) ran = absurd ran
as_ran old new None (Err fault.WriteFault) ran = absurd ran
as_ran old new None (Err fault.OutOfMemory) ran = (tt, inl ran)

-- ---- what holds of this program beside

module _ (old new : Scene) (status : ℕ) (w x : Received) where
  abbrev Ended : Result Done Fault → Type 0
  Ended r = Ends program (answer_of r) status w x

  -- a fault other than this one has this status only if memory ran out
  other : (f : Fault) → Reports program f status w x → (k : ℕ) → k ≢ fault_status f → k ≢ 7 → status ≡ k → ⊥
  other f (inl h) k apart not7 e = apart (sym e ∙ h.0)
  other f (inr h) k apart not7 e = not7 (sym e ∙ h.0)

  -- what was done has no status of a fault
  not_done : (d : Done) → Ended (Ok d) → (k : ℕ) → 1 < k → k < 6 → status ≡ k → ⊥
  not_done done.Upgraded ends k lo hi h = let e = ends.0 in omega arith
  not_done (done.Ran (outcomes.Ended v)) ends k lo hi h = let e = ends.0 in omega arith
  not_done (done.Ran outcomes.Killed) ends k lo hi h = let e = ends.0 in omega arith
  not_done (done.Ran outcomes.Stalled) ends k lo hi h = let e = ends.0 in omega arith
  not_done (done.Ran outcomes.Running) ends k lo hi h = let e = ends.0 in omega arith
  not_done (done.Ran outcomes.OutOfMemory) ends k lo hi h = other fault.OutOfMemory ends k (λ e. omega arith) (λ e. omega arith) h

  abbrev Refusal : Type 0
  Refusal = (status ≡ 3) ⊎ ((status ≡ 4) ⊎ (status ≡ 7))

  module _ (asked : Asked) where
    -- ---- the input that is refused

    abbrev Told : Option (List ℕ)
    Told = content (Some asked) old

    not_refused : (bytes : List ℕ) → AreHeld Told bytes → IsAccepted (cut bytes) → IfSome Told (λ xs. IsRefused (cut xs) → ⊥)
    not_refused bytes held accepted = told (λ xs. bytes ≡ xs) (λ xs. IsRefused (cut xs) → ⊥) Told
        (λ xs e refused. not_both (cut xs) refused.0 refused.1 (subst (λ ys. IsAccepted (cut ys)) e accepted) refused.2) held

    refused_with : Refusal → IfSome Told (λ bytes. IsRefused (cut bytes) → Refusal)
    refused_with h = always (λ bytes. IsRefused (cut bytes) → Refusal) Told (λ bytes refused. h)

    accepted_with : (r : Result Done SinkErr) → WritesScript asked old new r → IfSome Told (λ bytes. IsRefused (cut bytes) → Refusal)
    accepted_with r s = told (λ xs. IsRefused (cut xs) → ⊥) (λ xs. IsRefused (cut xs) → Refusal) Told (λ xs no refused. absurd (no refused)) (not_refused s.1.0 s.1.1 (script_accepted asked (cut s.1.0) s.0 s.1.2))

    refuses_for : (r : Result Done Fault) → PlayedFor asked old new r → Ended r → IfSome Told (λ bytes. IsRefused (cut bytes) → Refusal)
    refuses_for (Ok o) ran ends = accepted_with (Ok o) ran.1
    refuses_for (Err fault.Words) ran ends = absurd ran
    refuses_for (Err (fault.Input line flaw)) ran ends = refused_with (elim ends [ inl k ↦ inl k.0 | inr k ↦ inr (inr k.0) ])
    refuses_for (Err fault.ReadFault) ran ends = refused_with (elim ends [ inl k ↦ inr (inl k.0) | inr k ↦ inr (inr k.0) ])
    refuses_for (Err fault.WriteFault) ran ends = accepted_with (Err sink.Failed) ran.1
    refuses_for (Err fault.OutOfMemory) ran ends = refused_with (elim ends [ inl k ↦ inr (inr k.0) | inr k ↦ inr (inr k.0) ])

    holds_none : (r : Result Done Fault) → PlayedFor asked old new r → Ended r → status ≡ 3 → HoldsNoScript (Some asked) old
    holds_none (Ok o) ran ends e = absurd (not_done o ends 3 (omega arith) (omega arith) e)
    holds_none (Err fault.Words) ran ends e = absurd ran
    holds_none (Err (fault.Input line (Breaks breach))) ran ends e = let h = ran.1 in (h.0, h.1, (line, breach, h.2))
    holds_none (Err (fault.Input line NoTranscript)) ran ends e = let h = ran.1 in absurd h.2
    holds_none (Err fault.ReadFault) ran ends e = absurd (other fault.ReadFault ends 3 (λ h. omega arith) (λ h. omega arith) e)
    holds_none (Err fault.WriteFault) ran ends e = absurd (other fault.WriteFault ends 3 (λ h. omega arith) (λ h. omega arith) e)
    holds_none (Err fault.OutOfMemory) ran ends e = absurd (other fault.OutOfMemory ends 3 (λ h. omega arith) (λ h. omega arith) e)

    -- ---- the object that is read

    read_for : (r : Result Done Fault) → PlayedFor asked old new r → Ended r → ReadsWhole (Some asked) old new status
    read_for (Ok o) ran ends not4 not7 = ran.0
    read_for (Err fault.Words) ran ends not4 not7 = absurd ran
    read_for (Err (fault.Input line flaw)) ran ends not4 not7 = ran.0
    read_for (Err fault.ReadFault) ran ends not4 not7 = elim ends [ inl k ↦ absurd (not4 k.0) | inr k ↦ absurd (not7 k.0) ]
    read_for (Err fault.WriteFault) ran ends not4 not7 = ran.0
    read_for (Err fault.OutOfMemory) ran ends not4 not7 = elim ends [ inl k ↦ absurd (not7 k.0) | inr k ↦ absurd (not7 k.0) ]

    two_for : (r : Result Done Fault) → PlayedFor asked old new r → Ended r → status ≡ 2 → ⊥
    two_for (Ok o) ran ends e = not_done o ends 2 (omega arith) (omega arith) e
    two_for (Err fault.Words) ran ends e = ran
    two_for (Err (fault.Input line flaw)) ran ends e = other (fault.Input line flaw) ends 2 (λ h. omega arith) (λ h. omega arith) e
    two_for (Err fault.ReadFault) ran ends e = other fault.ReadFault ends 2 (λ h. omega arith) (λ h. omega arith) e
    two_for (Err fault.WriteFault) ran ends e = other fault.WriteFault ends 2 (λ h. omega arith) (λ h. omega arith) e
    two_for (Err fault.OutOfMemory) ran ends e = other fault.OutOfMemory ends 2 (λ h. omega arith) (λ h. omega arith) e

  -- ---- words that are refused: status 2, or memory ran out

  refused_or_memory : (r : Result Done Fault) → Played None old new r → Ended r → (status ≡ 2) ⊎ (status ≡ 7)
  refused_or_memory (Ok o) ran ends = absurd ran
  refused_or_memory (Err fault.Words) ran ends = elim ends [ inl k ↦ inl k.0 | inr k ↦ inr k.0 ]
  refused_or_memory (Err (fault.Input line flaw)) ran ends = absurd ran
  refused_or_memory (Err fault.ReadFault) ran ends = absurd ran
  refused_or_memory (Err fault.WriteFault) ran ends = absurd ran
  refused_or_memory (Err fault.OutOfMemory) ran ends = elim ends [ inl k ↦ inr k.0 | inr k ↦ inr k.0 ]

  not_three : (r : Result Done Fault) → Played None old new r → Ended r → status ≡ 3 → ⊥
  not_three r ran ends e = elim (refused_or_memory r ran ends) [ inl k ↦ omega (arith, k, e) | inr k ↦ omega (arith, k, e) ]

  -- ---- the clauses

  reads_whole : (asked : Option Asked) (r : Result Done Fault) → Played asked old new r → Ended r → ReadsWhole asked old new status
  reads_whole (Some asked) r ran ends not4 not7 = read_for asked r ran ends not4 not7
  reads_whole None r ran ends not4 not7 = tt

  refuses_words : (asked : Option Asked) (r : Result Done Fault) → Played asked old new r → Ended r → RefusesWords asked status
  refuses_words (Some asked) r ran ends = record { only = λ e. absurd (two_for asked r ran ends e); always = λ e. absurd (cc) }
  refuses_words None r ran ends = record { only = λ e. refl; always = λ e. refused_or_memory r ran ends }

  some_is : (asked : Asked) → Some asked ≢ None
  some_is asked e = cc

  refuses_input : (asked : Option Asked) (r : Result Done Fault) → Played asked old new r → Ended r → RefusesInput asked old status
  refuses_input (Some asked) r ran ends = record { only = λ e. (some_is asked, holds_none asked r ran ends e); always = λ some. refuses_for asked r ran ends }
  refuses_input None r ran ends = record { only = λ e. absurd (not_three r ran ends e); always = λ some. absurd (some refl) }

  -- ---- want of memory

  abbrev ComesToFault : Option Asked → Type 0
  ComesToFault asked = (f : Fault) × Played asked old new (Err f) × AppendsPrefix w.written x.written (fault_line program f)

  begun : (f : Fault) → Reports program f status w x → AppendsPrefix w.written x.written (fault_line program f)
  begun f (inl h) = elim h.1 [
    | inl all ↦ all_of w.written x.written (fault_line program f) all.0
    | inr part ↦ part_is_prefix w.written x.written (fault_line program f) part.0
  ]
  begun f (inr h) = h.1.0

  -- what was written whole was written as far as memory lasted
  ran_out : (asked : Asked) (d : Done) → PlayedFor asked old new (Ok d) → PlayedFor asked old new (Err fault.OutOfMemory)
  ran_out asked d ran =
      let s = ran.1 in (
        read_stood (asked_object (Some asked)) old.ins new.ins ran.0,
        inr (s.0, s.1, tt, (all_of old.out.written new.out.written s.0.text s.3.0, s.3.1)),
      )

  memory_for : (asked : Asked) (d : Done) → PlayedFor asked old new (Ok d) → Ended (Ok d) → status ≡ 7 → ComesToFault (Some asked)
  memory_for asked done.Upgraded ran ends e = absurd (let k = ends.0 in omega arith)
  memory_for asked (done.Ran (outcomes.Ended v)) ran ends e = absurd (let k = ends.0 in omega arith)
  memory_for asked (done.Ran outcomes.Killed) ran ends e = absurd (let k = ends.0 in omega arith)
  memory_for asked (done.Ran outcomes.Stalled) ran ends e = absurd (let k = ends.0 in omega arith)
  memory_for asked (done.Ran outcomes.Running) ran ends e = absurd (let k = ends.0 in omega arith)
  memory_for asked (done.Ran outcomes.OutOfMemory) ran ends e =
      (fault.OutOfMemory, ran_out asked (done.Ran outcomes.OutOfMemory) ran, begun fault.OutOfMemory ends)

  memory : (asked : Option Asked) (r : Result Done Fault) → Played asked old new r → Ended r → status ≡ 7 → ComesToFault asked
  memory (Some asked) (Ok d) ran ends e = memory_for asked d ran ends e
  memory None (Ok d) ran ends e = absurd ran
  memory asked (Err f) ran ends e = (f, ran, begun f ends)

-- what the call did
pub plays : (call : TopCall) (r : Result Done Fault) → Played (asked_by call.words) call.old call.new r
    → Ends program (answer_of r) call.status call.err_old call.err_new → Plays call
plays call r ran ends =
    let asked = asked_by call.words in
    let all = answers play call (answer_of r) (as_ran call.old call.new asked r ran) ends in
    record {
      answers = all;
      reads_whole = reads_whole call.old call.new call.status call.err_old call.err_new asked r ran ends;
      refuses_words = refuses_words call.old call.new call.status call.err_old call.err_new asked r ran ends;
      refuses_input = refuses_input call.old call.new call.status call.err_old call.err_new asked r ran ends;
      laws = shows_runs call all;
      memory = memory call.old call.new call.status call.err_old call.err_new asked r ran ends;
    }
