-- A machine that follows a run keeps the laws of runs.
use Rattle.std.proofs.Common.{◌≡◌, ◌≢◌, ◌∙◌, ◌⊎◌, ◌+◌, ℕ, Bool, List, [], ◌++◌, ap, append-nil, append_assoc, inl, inr, refl, subst, sym}
use Rattle.pth_base.specs.Program.{Functions}
use Rattle.pth_base.specs.declared.mark.Mark.{Mark}
use Rattle.pth_base.specs.declared.outcome.Outcome.{Outcome}
use Rattle.pth_base.specs.declared.outcome.Outcome.TheVariants.{Ended, Killed, OutOfMemory, Running, Stalled}
use Rattle.pth_model.specs.Run.{run}
use Rattle.pth_model.specs.State.{Given}
use Rattle.pth_laws.proofs.RunLaws.{beginning_meets_laws, run_meets_laws}
use Rattle.pth_laws.specs.RunLaws.{MeetsMarkLaws}
use Rattle.pth_sched.specs.MachineOf.{MachineOf}
use Rattle.pth_sched.specs.Running.{BreaksOffBefore, FollowsUntil, HasKeptLaws, KeepsLaws, StandsAt}

memory_or_not : (o : Outcome) → (o ≡ OutOfMemory) ⊎ (o ≢ OutOfMemory)
memory_or_not OutOfMemory = inl refl
memory_or_not (Ended v) = inr (λ h. cc h)
memory_or_not Killed = inr (λ h. cc h)
memory_or_not Stalled = inr (λ h. cc h)
memory_or_not Running = inr (λ h. cc h)

-- marks that are put together in two ways
regrouped : (t o a b c : List Mark) → (t ++ (o ++ a ++ b)) ++ c ≡ (t ++ o ++ a) ++ (b ++ c)
regrouped t o a b c =
    append_assoc t (o ++ a ++ b) c
    ∙ ap (λ (x : List Mark). t ++ x) (append_assoc (o ++ a) b c)
    ∙ sym (append_assoc t (o ++ a) (b ++ c))
    ∙ ap (λ (x : List Mark). x ++ (b ++ c)) (sym (append_assoc t o a))

-- a machine that stands at a part, when all has been told up to there
pub standing_keeps : {P S H : Type 0} (f : P → Functions S H) (g : Given P) (part : ℕ) (v : MachineOf P S H) (marks : List Mark) → StandsAt f g part v → marks ≡ (run f g part).marks → HasKeptLaws f g v marks
standing_keeps f g part v marks stands told =
    let laws = run_meets_laws f g part in
    record {
      laws = subst MeetsMarkLaws (sym told) laws.marks;
      part = part;
      rest = [];
      beginning = append-nil marks ∙ told;
      stands = λ memory. record { part = part; stands = stands; told = told; laws = laws };
    }

module _ {P S H : Type 0} (f : P → Functions S H) (g : Given P) (halts : ℕ → Bool) (i : ℕ) (v : MachineOf P S H) (old new before : List Mark) (so_far : before ++ old ≡ (run f g i).marks) where
  -- a machine that follows the run has told all up to where it stands
  followed_keeps : FollowsUntil f g halts i v old new → HasKeptLaws f g v (before ++ new)
  followed_keeps go =
      standing_keeps f g go.part v (before ++ new) go.stands (
      ap (λ (x : List Mark). before ++ x) go.appended
      ∙ sym (append_assoc before old go.told)
      ∙ ap (λ (x : List Mark). x ++ go.told) so_far
      ∙ sym go.between)

  -- if memory ended in a part, what was told is a beginning of what the run tells with this part
  broken_keeps : v.turn.outcome ≡ OutOfMemory → BreaksOffBefore f g halts i old new → HasKeptLaws f g v (before ++ new)
  broken_keeps memory stop =
      let cut = stop.cut in
      let begins : (before ++ new) ++ cut.rest ≡ (run f g (stop.part + 1)).marks =
      ap (λ (x : List Mark). (before ++ x) ++ cut.rest) cut.new_is
      ∙ regrouped before old stop.told cut.first cut.rest
      ∙ ap (λ (x : List Mark). x ++ stop.told ++ (cut.first ++ cut.rest)) so_far
      ∙ ap (λ (x : List Mark). x ++ (cut.first ++ cut.rest)) (sym stop.between)
      ∙ ap (λ (x : List Mark). (run f g stop.part).marks ++ x) cut.whole_is
      ∙ sym stop.within in
      record {
        laws = beginning_meets_laws (before ++ new) cut.rest (subst MeetsMarkLaws (sym begins) (run_meets_laws f g (stop.part + 1)).marks);
        part = stop.part + 1;
        rest = cut.rest;
        beginning = begins;
        stands = λ lasts. absurd (lasts memory);
      }

-- what a call that goes on, or breaks off, keeps
pub drives_lawfully : {P S H : Type 0} (f : P → Functions S H) (halts : Given P → ℕ → ℕ → Bool) (o : Outcome) (m v : MachineOf P S H) (old new : List Mark)
    → o ≡ v.turn.outcome
    → (o ≢ OutOfMemory → (g : Given P) (i : ℕ) → StandsAt f g i m → FollowsUntil f g (halts g i) i v old new)
    → (o ≡ OutOfMemory → (g : Given P) (i : ℕ) → StandsAt f g i m → BreaksOffBefore f g (halts g i) i old new)
    → KeepsLaws f m v old new
drives_lawfully f halts o m v old new same goes_on breaks_off = λ g i before st so_far. elim (memory_or_not o) [
  | inl memory ↦ broken_keeps f g (halts g i) i v old new before so_far (sym same ∙ memory) (breaks_off memory g i st)
  | inr lasts ↦ followed_keeps f g (halts g i) i v old new before so_far (goes_on lasts g i st)
]
