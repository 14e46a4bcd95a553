-- Marks and endings whose lines are read back as them.
use Rattle.std.specs.Prelude.{◌≡◌, ◌<◌, ◌^◌, ◌++◌, ℕ, Bool, true, false, List, [], ◌∷◌, drop, map, Option, Some, None, FitsSigned, IsSomeAnd, All, codes}
use Rattle.std.specs.Int.{w64}
use Rattle.pth_base.specs.declared.answer.Answer.{Answer}
use Rattle.pth_base.specs.declared.call.Call.{Call}
use Rattle.pth_base.specs.declared.ids.Tid.{Tid}
use Rattle.pth_base.specs.declared.mark.Mark.{Mark}
use Rattle.pth_base.specs.declared.mark.Mark.TheVariants as mark
use Rattle.pth_base.specs.declared.outcome.Outcome.TheVariants as outcome
use Rattle.pth_print.specs.AnswerWords.{answer_words}
use Rattle.pth_print.specs.CallWords.{call_words}
use Rattle.pth_print.specs.EndLines.{end_words}
use Rattle.pth_print.specs.MarkLines.{mark_words, mark_line}
use Rattle.pth_transcript.specs.MarkMeanings.{unanswered_of}
use Rattle.pth_transcript.specs.Readable.{IsReadable}
use Rattle.pth_transcript.specs.ReadableAnswers.{IsReadableAnswer, IsReadableAct}
use Rattle.pth_transcript.specs.Transcript.{ending_line}
use Rattle.pth_transcript.specs.declared.ending.Ending.{Ending}
use Rattle.pth_transcript.specs.declared.ending.Ending.TheVariants as ending
use Rattle.pth_transcript.specs.declared.told.Told.{Told}

-- ---- what lines can spell

-- a thread's number has 32 bits
abbrev pub IsReadableTid : Tid → Type 0
IsReadableTid t = t.0 < 2 ^ 32

-- what an audit tells has 64 bits, and is 0 where none is asked for
abbrev pub IsReadableAudit : (audit : Bool) → (waited allowed : ℕ) → Type 0
IsReadableAudit true waited allowed = (waited < 2 ^ 64) × (allowed < 2 ^ 64)
IsReadableAudit false waited allowed = (waited ≡ 0) × (allowed ≡ 0)

-- a mark that is read back, printed with an audit or without
abbrev pub IsReadableMark : (audit : Bool) → Mark → Type 0
IsReadableMark audit (mark.Dispatch turn at t rank waited allowed) =
    (turn < 2 ^ 64) × (at < 2 ^ 64) × IsReadableTid t × FitsSigned w64 rank × IsReadableAudit audit waited allowed
IsReadableMark audit (mark.Answered t c a) = IsReadableTid t × IsReadable c × IsReadableAnswer c a
IsReadableMark audit (mark.Waits t c) = IsReadableTid t × IsReadable c
IsReadableMark audit (mark.Retakes t c) = IsReadableTid t × IsReadable c
IsReadableMark audit (mark.Canceled t (Some c)) = IsReadableTid t × IsReadable c
IsReadableMark audit (mark.Canceled t None) = IsReadableTid t
IsReadableMark audit (mark.Took t m) = IsReadableTid t × (m < 256)
IsReadableMark audit (mark.Withdrew t b) = IsReadableTid t × (b < 256)
IsReadableMark audit (mark.Handler t h arg) = IsReadableTid t × (h.0 < 2 ^ 32) × FitsSigned w64 arg
IsReadableMark audit (mark.Destructor t k arg) = IsReadableTid t × (k < 256) × FitsSigned w64 arg
IsReadableMark audit (mark.Acted t x a) = IsReadableTid t × IsReadableAct x a
IsReadableMark audit (mark.GaveMutex t m) = IsReadableTid t × (m < 256)
IsReadableMark audit (mark.GaveLock t l) = IsReadableTid t × (l < 256)
IsReadableMark audit (mark.Ended t v) = IsReadableTid t × FitsSigned w64 v
IsReadableMark audit (mark.Noted t v) = IsReadableTid t × FitsSigned w64 v
IsReadableMark audit (mark.Woke t rank) = IsReadableTid t × FitsSigned w64 rank
IsReadableMark audit (mark.Moved at) = at < 2 ^ 64

-- a mark that is read back as its line tells it
abbrev pub IsReadableTold : Told → Type 0
IsReadableTold told = IsReadableMark told.audit told.mark

-- an ending that is read back
abbrev pub IsReadableEnding : Ending → Type 0
IsReadableEnding (ending.Ended v) = FitsSigned w64 v
IsReadableEnding ending.Killed = Unit {0}
IsReadableEnding (ending.Stalled live) = All IsReadableTid live.items
IsReadableEnding (ending.StepLimit n) = n < 2 ^ 64

-- ---- marks that are read back

-- only the line of a dispatch tells of an audit
abbrev pub tells_audit : (audit : Bool) → Mark → Bool
tells_audit audit (mark.Dispatch turn at t rank waited allowed) = audit
tells_audit audit m = false

-- what the line of a mark tells, printed with an audit or without
abbrev pub told_of : (audit : Bool) → Mark → Told
told_of audit m = record { mark = m; audit = tells_audit audit m }

-- what is found is what the words tell
abbrev pub IsToldBack : List (List ℕ) → Option Told → Type 0
IsToldBack words found = (audit : Bool) (m : Mark) → IsReadableMark audit m → words ≡ mark_words audit m → found ≡ Some (told_of audit m)

-- what is found is what the line tells
abbrev pub IsLineBack : List ℕ → Option Told → Type 0
IsLineBack line found = (audit : Bool) (m : Mark) → IsReadableMark audit m → line ++ codes "\n" ≡ mark_line audit m → found ≡ Some (told_of audit m)

-- the thread with which a line begins
abbrev pub thread_of : Mark → Option Tid
thread_of (mark.Dispatch turn at t rank waited allowed) = None
thread_of (mark.Answered t c a) = Some t
thread_of (mark.Waits t c) = Some t
thread_of (mark.Retakes t c) = Some t
thread_of (mark.Canceled t c) = Some t
thread_of (mark.Took t m) = Some t
thread_of (mark.Withdrew t b) = Some t
thread_of (mark.Handler t h arg) = Some t
thread_of (mark.Destructor t k arg) = Some t
thread_of (mark.Acted t x a) = Some t
thread_of (mark.GaveMutex t m) = Some t
thread_of (mark.GaveLock t l) = Some t
thread_of (mark.Ended t v) = Some t
thread_of (mark.Noted t v) = Some t
thread_of (mark.Woke t rank) = None
thread_of (mark.Moved at) = None

-- the words behind that thread
abbrev pub words_behind : Mark → List (List ℕ)
words_behind m = drop 1 (mark_words false m)

-- what is found is the thread's mark whose words follow the thread
abbrev pub IsMarkBack : Tid → List (List ℕ) → Option Mark → Type 0
IsMarkBack t words found = (m : Mark) → IsReadableMark false m → thread_of m ≡ Some t → words ≡ words_behind m → found ≡ Some m

-- what is found is the thread's mark with the call and its answer
abbrev pub IsAnsweredBack : Tid → (call answer : List (List ℕ)) → Option Mark → Type 0
IsAnsweredBack t call answer found =
    (c : Call) (a : Answer) → IsReadable c → IsReadableAnswer c a → call ≡ call_words c → answer ≡ answer_words a → found ≡ Some (mark.Answered t c a)

-- what is found is the thread's mark with the call and the word behind it
abbrev pub IsUnansweredBack : Tid → List (List ℕ) → Option Mark → Type 0
IsUnansweredBack t words found = (c : Call) (last : List ℕ) → IsReadable c → words ≡ call_words c ++ last ∷ [] → found ≡ unanswered_of t last c

-- what is found is the mark of a line that begins with a thread
abbrev pub IsThreadMarkBack : List (List ℕ) → Option Mark → Type 0
IsThreadMarkBack words found = (t : Tid) (m : Mark) → IsReadableMark false m → thread_of m ≡ Some t → words ≡ mark_words false m → found ≡ Some m

-- ---- endings that are read back

-- two endings have the same value, count or threads
abbrev pub TellsSame : Ending → Ending → Type 0
TellsSame (ending.Ended v) (ending.Ended w) = v ≡ w
TellsSame ending.Killed ending.Killed = Unit {0}
TellsSame (ending.Stalled live) (ending.Stalled others) = live.items ≡ others.items
TellsSame (ending.StepLimit n) (ending.StepLimit k) = n ≡ k
TellsSame _ _ = ⊥

-- the words of an ending
abbrev pub ending_words : Ending → List (List ℕ)
ending_words (ending.Ended v) = end_words (outcome.Ended v) 0 []
ending_words ending.Killed = end_words outcome.Killed 0 []
ending_words (ending.Stalled live) = end_words outcome.Stalled 0 (map (λ t. t.0) live.items)
ending_words (ending.StepLimit n) = end_words outcome.Running n []

-- what is found tells the ending of which the words are printed
abbrev pub IsEndingBack : List (List ℕ) → Option Ending → Type 0
IsEndingBack words found = (e : Ending) → IsReadableEnding e → words ≡ ending_words e → IsSomeAnd found (TellsSame e)

-- what is found tells the ending of which the line is printed
abbrev pub IsEndingLineBack : List ℕ → Option Ending → Type 0
IsEndingLineBack line found = (e : Ending) → IsReadableEnding e → line ++ codes "\n" ≡ ending_line e → IsSomeAnd found (TellsSame e)
