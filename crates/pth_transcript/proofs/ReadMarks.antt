-- What is read of a mark or of an ending is one that lines can spell.
use Rattle.std.proofs.Common.{◌≡◌, ℕ, Bool, true, false, List, [], ◌∷◌, codes, Option, Some, None, refl, sym, subst}
use Rattle.std.specs.Prelude.{IfSome, option_and_then, option_map}
use Rattle.std.specs.Str.{bytes_eq}
use Rattle.pth_base.specs.declared.answer.Answer.{Answer}
use Rattle.pth_base.specs.declared.call.Call.{Call}
use Rattle.pth_base.specs.declared.ids.Tid.{Tid}
use Rattle.pth_base.specs.declared.mark.Mark.{Mark}
use Rattle.pth_base.specs.declared.mark.Mark.TheVariants as mark
use Rattle.pth_text.specs.Number.{numeral_value}
use Rattle.pth_transcript.specs.AnswerMeanings.{IsReadableActed}
use Rattle.pth_transcript.specs.MarkMeanings.{dispatch_of, audited_of, told_plain, told_audited, turn_of, woken_of, moved_of, valued_of, given_of, taken_of, held_of, run_of, plain_of, unanswered_of, ending_of}
use Rattle.pth_transcript.specs.Naturals.{natural_value, index_value, object_value, thread_value}
use Rattle.pth_transcript.specs.Readable.{IsReadable}
use Rattle.pth_transcript.specs.ReadableAnswers.{IsReadableAnswer}
use Rattle.pth_transcript.specs.ReadableMarks.{IsReadableTid, IsReadableAudit, IsReadableMark, IsReadableTold, IsReadableEnding}
use Rattle.pth_transcript.specs.declared.act.Acted.{Acted}
use Rattle.pth_transcript.specs.declared.ending.Ending.TheVariants as ending
use Rattle.pth_transcript.proofs.ReadValues.{mapped, chained, tested, natural_fits, index_fits, object_fits, thread_fits, number_fits}

-- ---- lines that do not begin with a thread

-- a dispatch
dispatch_readable : (audit : Bool) (turn at t rank : List ℕ) (waited allowed : ℕ) → IsReadableAudit audit waited allowed
    → IfSome (dispatch_of turn at t rank waited allowed) (IsReadableMark audit)
unfolding dispatch_of
dispatch_readable audit turn at t rank waited allowed fine =
    let P : Mark → Type 0 = IsReadableMark audit in
    chained P (λ turn. option_and_then (λ at. option_and_then (λ t. option_map (λ rank. mark.Dispatch turn at t rank waited allowed)
    (numeral_value rank)) (thread_value t)) (natural_value at)) (natural_value turn) (natural_fits turn)
    (λ turn small. chained P
    (λ at. option_and_then (λ t. option_map (λ rank. mark.Dispatch turn at t rank waited allowed) (numeral_value rank)) (thread_value t))
    (natural_value at) (natural_fits at)
    (λ at low. chained P (λ t. option_map (λ rank. mark.Dispatch turn at t rank waited allowed) (numeral_value rank)) (thread_value t) (thread_fits t)
    (λ t here. mapped P (λ rank. mark.Dispatch turn at t rank waited allowed) (numeral_value rank) (number_fits rank)
    (λ rank fits. (small, low, here, fits, fine)))))

audited_readable : (turn at t rank waited allowed : List ℕ) → IfSome (audited_of turn at t rank waited allowed) (IsReadableMark true)
unfolding audited_of
audited_readable turn at t rank waited allowed =
    chained (IsReadableMark true) (λ waited. option_and_then (λ allowed. dispatch_of turn at t rank waited allowed) (natural_value allowed))
    (natural_value waited) (natural_fits waited)
    (λ waited small. chained (IsReadableMark true) (λ allowed. dispatch_of turn at t rank waited allowed) (natural_value allowed) (natural_fits allowed)
    (λ allowed low. dispatch_readable true turn at t rank waited allowed (small, low)))

-- a mark whose line tells of no audit
pub unaudited_readable : (o : Option Mark) → IfSome o (IsReadableMark false) → IfSome (option_map told_plain o) IsReadableTold
unaudited_readable o fine = mapped IsReadableTold told_plain o fine (λ m fine. fine)

-- the words behind `turn`
pub turn_readable : (ws : List (List ℕ)) → IfSome (turn_of ws) IsReadableTold
turn_readable (turn ∷ at_word ∷ at ∷ t ∷ rank_word ∷ rank ∷ []) =
    unaudited_readable (dispatch_of turn at t rank 0 0) (dispatch_readable false turn at t rank 0 0 (refl, refl))
turn_readable (turn ∷ at_word ∷ at ∷ t ∷ rank_word ∷ rank ∷ waited_word ∷ waited ∷ allowed_word ∷ allowed ∷ []) =
    mapped IsReadableTold told_audited (audited_of turn at t rank waited allowed) (audited_readable turn at t rank waited allowed) (λ m fine. fine)
turn_readable _ = tt

pub woken_readable : (ws : List (List ℕ)) → IfSome (woken_of ws) (IsReadableMark false)
woken_readable (t ∷ rank_word ∷ rank ∷ []) =
    chained (IsReadableMark false) (λ t. option_map (λ rank. mark.Woke t rank) (numeral_value rank)) (thread_value t) (thread_fits t)
    (λ t low. mapped (IsReadableMark false) (λ rank. mark.Woke t rank) (numeral_value rank) (number_fits rank) (λ rank fits. (low, fits)))
woken_readable _ = tt

pub moved_readable : (ws : List (List ℕ)) → IfSome (moved_of ws) (IsReadableMark false)
moved_readable (to_word ∷ at ∷ []) =
    mapped (IsReadableMark false) (λ at. mark.Moved at) (natural_value at) (natural_fits at) (λ at low. low)
moved_readable _ = tt

-- ---- marks of a thread

module _ (t : Tid) (low : IsReadableTid t) where
  -- its end, a note, or a barrier that it leaves
  valued_readable : (word number : List ℕ) → IfSome (valued_of t word number) (IsReadableMark false)
  valued_readable word number =
      let P : Mark → Type 0 = IsReadableMark false in
      tested P (bytes_eq word (codes "ends")) _ _
      (λ test. mapped P (λ v. mark.Ended t v) (numeral_value number) (number_fits number) (λ v fits. (low, fits)))
      (tested P (bytes_eq word (codes "note")) _ _
      (λ test. mapped P (λ v. mark.Noted t v) (numeral_value number) (number_fits number) (λ v fits. (low, fits)))
      (tested P (bytes_eq word (codes "withdraws")) _ _
      (λ test. mapped P (λ b. mark.Withdrew t b) (object_value number) (object_fits number) (λ b small. (low, small))) tt))

  -- a mutex or a lock
  taken_readable : (kind number : List ℕ) → IfSome (taken_of t kind number) (IsReadableMark false)
  taken_readable kind number =
      let P : Mark → Type 0 = IsReadableMark false in
      tested P (bytes_eq kind (codes "mutex")) _ _
      (λ test. mapped P (λ m. mark.Took t m) (object_value number) (object_fits number) (λ m small. (low, small))) tt

  given_readable : (kind number : List ℕ) → IfSome (given_of t kind number) (IsReadableMark false)
  given_readable kind number =
      let P : Mark → Type 0 = IsReadableMark false in
      tested P (bytes_eq kind (codes "mutex")) _ _
      (λ test. mapped P (λ m. mark.GaveMutex t m) (object_value number) (object_fits number) (λ m small. (low, small)))
      (tested P (bytes_eq kind (codes "rwlock")) _ _
      (λ test. mapped P (λ l. mark.GaveLock t l) (object_value number) (object_fits number) (λ l small. (low, small))) tt)

  held_readable : (word kind number : List ℕ) → IfSome (held_of t word kind number) (IsReadableMark false)
  held_readable word kind number =
      let P : Mark → Type 0 = IsReadableMark false in
      tested P (bytes_eq word (codes "takes")) _ _ (λ test. taken_readable kind number)
      (tested P (bytes_eq word (codes "gives")) _ _ (λ test. given_readable kind number) tt)

  -- a handler or a destructor
  run_readable : (word number arg : List ℕ) → IfSome (run_of t word number arg) (IsReadableMark false)
  run_readable word number arg =
      let P : Mark → Type 0 = IsReadableMark false in
      tested P (bytes_eq word (codes "handler")) _ _
      (λ test. chained P (λ h. option_map (λ arg. mark.Handler t (record { 0 = h }) arg) (numeral_value arg)) (index_value number) (index_fits number)
      (λ h small. mapped P (λ arg. mark.Handler t (record { 0 = h }) arg) (numeral_value arg) (number_fits arg) (λ arg fits. (low, small, fits))))
      (tested P (bytes_eq word (codes "destructor")) _ _
      (λ test. chained P (λ k. option_map (λ arg. mark.Destructor t k arg) (numeral_value arg)) (object_value number) (object_fits number)
      (λ k small. mapped P (λ arg. mark.Destructor t k arg) (numeral_value arg) (number_fits arg) (λ arg fits. (low, small, fits)))) tt)

  -- a mark that tells no call and no act
  pub plain_readable : (ws : List (List ℕ)) → IfSome (plain_of t ws) (IsReadableMark false)
  plain_readable [] = tt
  plain_readable (word ∷ []) = tested (IsReadableMark false) (bytes_eq word (codes "canceled")) (Some (mark.Canceled t None)) None (λ test. low) tt
  plain_readable (word ∷ number ∷ []) = valued_readable word number
  plain_readable (word ∷ kind ∷ number ∷ []) = held_readable word kind number
  plain_readable (word ∷ number ∷ arg_word ∷ arg ∷ []) = run_readable word number arg
  plain_readable (a ∷ b ∷ c ∷ d ∷ e ∷ ws) = tt

  -- a mark with a call that is not answered
  pub unanswered_readable : (last : List ℕ) (c : Call) → IsReadable c → IfSome (unanswered_of t last c) (IsReadableMark false)
  unfolding unanswered_of
  unanswered_readable last c fine =
      tested (IsReadableMark false) (bytes_eq last (codes "waits")) (Some (mark.Waits t c)) _ (λ test. (low, fine))
      (tested (IsReadableMark false) (bytes_eq last (codes "retakes")) (Some (mark.Retakes t c)) _ (λ test. (low, fine))
      (tested (IsReadableMark false) (bytes_eq last (codes "canceled")) (Some (mark.Canceled t (Some c))) None (λ test. (low, fine)) tt))

  -- a call and its answer
  pub answered_readable : (c : Call) (o : Option Answer) (r : Option Mark) → r ≡ option_map (λ a. mark.Answered t c a) o → IsReadable c
      → IfSome o (IsReadableAnswer c) → IfSome r (IsReadableMark false)
  answered_readable c o r is fine answer =
      subst (λ r. IfSome r (IsReadableMark false)) (sym is)
      (mapped (IsReadableMark false) (λ a. mark.Answered t c a) o answer (λ a answer. (low, fine, answer)))

  -- an act and its answer
  pub act_readable : (o : Option Acted) (r : Option Mark) → r ≡ option_map (λ acted. mark.Acted t acted.act acted.answer) o → IfSome o IsReadableActed
      → IfSome r (IsReadableMark false)
  act_readable o r is fine =
      subst (λ r. IfSome r (IsReadableMark false)) (sym is)
      (mapped (IsReadableMark false) (λ acted. mark.Acted t acted.act acted.answer) o fine (λ acted fine. (low, fine)))

-- ---- endings

-- an ending that is no stall
pub other_readable : (ws : List (List ℕ)) → IfSome (ending_of ws) IsReadableEnding
other_readable [] = tt
other_readable (word ∷ []) = tested IsReadableEnding (bytes_eq word (codes "killed")) (Some ending.Killed) None (λ test. tt) tt
other_readable (word ∷ v ∷ []) =
    tested IsReadableEnding (bytes_eq word (codes "ended")) (option_map (λ v. ending.Ended v) (numeral_value v)) None
    (λ test. mapped IsReadableEnding (λ v. ending.Ended v) (numeral_value v) (number_fits v) (λ v fits. fits)) tt
other_readable (word ∷ limit_word ∷ n ∷ []) =
    tested IsReadableEnding (bytes_eq word (codes "step")) (option_map (λ n. ending.StepLimit n) (natural_value n)) None
    (λ test. mapped IsReadableEnding (λ n. ending.StepLimit n) (natural_value n) (natural_fits n) (λ n small. small)) tt
other_readable (a ∷ b ∷ c ∷ d ∷ ws) = tt
