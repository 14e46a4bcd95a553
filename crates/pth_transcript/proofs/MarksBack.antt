-- The words behind a thread are read as its mark.
use Rattle.std.proofs.Common.{◌≡◌, ◌∙◌, ◌<◌, ◌≤◌, ◌-◌, ◌^◌, ◌++◌, ◌||◌, ℕ, suc, ℤ, Bool, true, false, cond, List, [], ◌∷◌, decimal, length, take, drop, get_or, codes, Option, Some, None, Result, Ok, Err, w64, FitsSigned, refl, sym, ap, subst, arith}
use Rattle.std.specs.Prelude.{option_map, IfOk}
use Rattle.std.specs.Str.{bytes_eq}
use Rattle.std.proofs.lemmas.Bool.{false≢true}
use denote.Ref.{Bor}
use Rattle.pth_base.specs.declared.act.Act.{Act}
use Rattle.pth_base.specs.declared.answer.Answer.{Answer}
use Rattle.pth_base.specs.declared.call.Call.{Call}
use Rattle.pth_base.specs.declared.call.Call.TheVariants as call
use Rattle.pth_base.specs.declared.ids.Tid.{Tid}
use Rattle.pth_base.specs.declared.mark.Mark.{Mark}
use Rattle.pth_base.specs.declared.mark.Mark.TheVariants as mark
use Rattle.pth_text.proofs.Numbers.{written_number_is_read}
use Rattle.pth_spelling.specs.Syntax.{syntax_of, library_syntax, attribute_syntax, thread_syntax, utility_syntax, cancellation_syntax, event_syntax, new_event_syntax, key_syntax, port_syntax, cleanup_syntax, mutex_syntax, rwlock_syntax, condition_syntax, barrier_syntax, io_syntax}
use Rattle.pth_spelling.specs.declared.keyword.CallWord.{CallWord}
use Rattle.pth_spelling.specs.declared.keyword.CallWord.TheVariants as calls
use Rattle.pth_spelling.specs.declared.keyword.LibraryWord.{LibraryWord}
use Rattle.pth_spelling.specs.declared.keyword.LibraryWord.TheVariants as libraries
use Rattle.pth_spelling.specs.declared.keyword.AttributeWord.{AttributeWord}
use Rattle.pth_spelling.specs.declared.keyword.AttributeWord.TheVariants as attributes
use Rattle.pth_spelling.specs.declared.keyword.ThreadWord.{ThreadWord}
use Rattle.pth_spelling.specs.declared.keyword.ThreadWord.TheVariants as threads
use Rattle.pth_spelling.specs.declared.keyword.UtilityWord.{UtilityWord}
use Rattle.pth_spelling.specs.declared.keyword.UtilityWord.TheVariants as utilities
use Rattle.pth_spelling.specs.declared.keyword.CancellationWord.{CancellationWord}
use Rattle.pth_spelling.specs.declared.keyword.CancellationWord.TheVariants as cancellations
use Rattle.pth_spelling.specs.declared.keyword.EventWord.{EventWord}
use Rattle.pth_spelling.specs.declared.keyword.EventWord.TheVariants as events
use Rattle.pth_spelling.specs.declared.keyword.KeyStorageWord.{KeyStorageWord}
use Rattle.pth_spelling.specs.declared.keyword.KeyStorageWord.TheVariants as keys
use Rattle.pth_spelling.specs.declared.keyword.PortWord.{PortWord}
use Rattle.pth_spelling.specs.declared.keyword.PortWord.TheVariants as ports
use Rattle.pth_spelling.specs.declared.keyword.CleanupWord.{CleanupWord}
use Rattle.pth_spelling.specs.declared.keyword.CleanupWord.TheVariants as cleanups
use Rattle.pth_spelling.specs.declared.keyword.MutexWord.{MutexWord}
use Rattle.pth_spelling.specs.declared.keyword.MutexWord.TheVariants as mutexes
use Rattle.pth_spelling.specs.declared.keyword.RwlockWord.{RwlockWord}
use Rattle.pth_spelling.specs.declared.keyword.RwlockWord.TheVariants as rwlocks
use Rattle.pth_spelling.specs.declared.keyword.ConditionWord.{ConditionWord}
use Rattle.pth_spelling.specs.declared.keyword.ConditionWord.TheVariants as conditions
use Rattle.pth_spelling.specs.declared.keyword.BarrierWord.{BarrierWord}
use Rattle.pth_spelling.specs.declared.keyword.BarrierWord.TheVariants as barriers
use Rattle.pth_spelling.specs.declared.keyword.IoWord.{IoWord}
use Rattle.pth_spelling.specs.declared.keyword.IoWord.TheVariants as ios
use Rattle.pth_spelling.specs.declared.keyword.NewEventWord.{NewEventWord}
use Rattle.pth_spelling.specs.declared.keyword.NewEventWord.TheVariants as new_events
use Rattle.pth_spelling.specs.Texts.{texts}
use Rattle.pth_print.specs.AnswerWords.{answer_words}
use Rattle.pth_print.specs.CallWords.{call_words, words_of}
use Rattle.pth_print.specs.MarkLines.{acted_words, mark_words}
use Rattle.pth_print.specs.Parts.{Parts, parts_of}
use Rattle.pth_print.specs.WordTexts.{number_word, tid_word}
use Rattle.pth_transcript.specs.AnswerMeanings.{IsAnswerBack}
use Rattle.pth_transcript.specs.MarkMeanings.{plain_of, unanswered_of}
use Rattle.pth_transcript.specs.Naturals.{thread_value}
use Rattle.pth_transcript.specs.Parted.{is_equals, parted}
use Rattle.pth_transcript.specs.ReadBack.{IsReadBack}
use Rattle.pth_transcript.specs.Readable.{IsReadable, IsReadableBy}
use Rattle.pth_transcript.specs.ReadableAnswers.{IsReadableAnswer, IsReadableAct}
use Rattle.pth_transcript.specs.ReadableMarks.{IsReadableTid, IsReadableMark, thread_of, words_behind, IsAnsweredBack, IsMarkBack, IsThreadMarkBack, IsUnansweredBack}
use Rattle.pth_transcript.proofs.EndingsBack.{has_words}
use Rattle.pth_transcript.proofs.LinesBack.{ended}
use Rattle.pth_transcript.proofs.NaturalsBack.{index_back, object_back, thread_back}
use Rattle.pth_transcript.proofs.Partings.{HasNoEquals, parted_behind, not_parted, same_pair}
use Rattle.pth_transcript.proofs.WordBytes.{no_equals, other_than_equals, number_is_word, decimal_word, call_words_are_words}

-- ---- the first word of a call begins no other mark

-- the words with which marks without a call begin behind their thread, and an act
abbrev pub is_mark_word : List ℕ → Bool
is_mark_word w =
    bytes_eq w (codes "act") || (bytes_eq w (codes "ends") || (bytes_eq w (codes "note") || (bytes_eq w (codes "withdraws")
    || (bytes_eq w (codes "takes") || (bytes_eq w (codes "gives") || (bytes_eq w (codes "handler") || bytes_eq w (codes "destructor")))))))

new_event_begins : (k : NewEventWord) → is_mark_word (new_event_syntax k).text ≡ false
new_event_begins new_events.Fd = refl
new_event_begins k = refl

library_begins : (k : LibraryWord) → is_mark_word (library_syntax k).text ≡ false
library_begins libraries.Kill = refl
library_begins k = refl

attribute_begins : (k : AttributeWord) → is_mark_word (attribute_syntax k).text ≡ false
attribute_begins attributes.New = refl
attribute_begins k = refl

thread_begins : (k : ThreadWord) → is_mark_word (thread_syntax k).text ≡ false
thread_begins threads.Spawn = refl
thread_begins k = refl

utility_begins : (k : UtilityWord) → is_mark_word (utility_syntax k).text ≡ false
utility_begins utilities.Fdmode = refl
utility_begins k = refl

cancellation_begins : (k : CancellationWord) → is_mark_word (cancellation_syntax k).text ≡ false
cancellation_begins cancellations.Point = refl
cancellation_begins k = refl

event_begins : (k : EventWord) → is_mark_word (event_syntax k).text ≡ false
event_begins (events.New k) = new_event_begins k
event_begins events.Chain = refl
event_begins k = refl

key_begins : (k : KeyStorageWord) → is_mark_word (key_syntax k).text ≡ false
key_begins keys.Create = refl
key_begins k = refl

port_begins : (k : PortWord) → is_mark_word (port_syntax k).text ≡ false
port_begins ports.Create = refl
port_begins k = refl

cleanup_begins : (k : CleanupWord) → is_mark_word (cleanup_syntax k).text ≡ false
cleanup_begins cleanups.Push = refl
cleanup_begins k = refl

mutex_begins : (k : MutexWord) → is_mark_word (mutex_syntax k).text ≡ false
mutex_begins mutexes.Init = refl
mutex_begins k = refl

rwlock_begins : (k : RwlockWord) → is_mark_word (rwlock_syntax k).text ≡ false
rwlock_begins rwlocks.Init = refl
rwlock_begins k = refl

condition_begins : (k : ConditionWord) → is_mark_word (condition_syntax k).text ≡ false
condition_begins conditions.Init = refl
condition_begins k = refl

barrier_begins : (k : BarrierWord) → is_mark_word (barrier_syntax k).text ≡ false
barrier_begins barriers.Init = refl
barrier_begins k = refl

io_begins : (k : IoWord) → is_mark_word (io_syntax k).text ≡ false
io_begins ios.Usleep = refl
io_begins k = refl

-- of all calls
call_word_begins : (k : CallWord) → is_mark_word (syntax_of k).text ≡ false
call_word_begins (calls.Library k) = library_begins k
call_word_begins (calls.Attributes k) = attribute_begins k
call_word_begins (calls.Threads k) = thread_begins k
call_word_begins (calls.Utilities k) = utility_begins k
call_word_begins (calls.Cancellation k) = cancellation_begins k
call_word_begins (calls.Events k) = event_begins k
call_word_begins (calls.Keys k) = key_begins k
call_word_begins (calls.Ports k) = port_begins k
call_word_begins (calls.Cleanups k) = cleanup_begins k
call_word_begins (calls.Mutexes k) = mutex_begins k
call_word_begins (calls.Rwlocks k) = rwlock_begins k
call_word_begins (calls.Conditions k) = condition_begins k
call_word_begins (calls.Barriers k) = barrier_begins k
call_word_begins (calls.Io k) = io_begins k

-- there is a first word, and it begins no other mark
abbrev pub BeginsCall : List (List ℕ) → Type 0
BeginsCall [] = ⊥
BeginsCall (w ∷ ws) = is_mark_word w ≡ false

begins_by : (o : Option Parts) → IsReadableBy o → BeginsCall (words_of o)
begins_by (Some p) fine = call_word_begins p.word
begins_by None fine = absurd fine

-- so do the words of a call
pub call_begins : (c : Call) → IsReadable c → BeginsCall (call_words c)
call_begins call.Plain fine = absurd fine
call_begins (call.Note v) fine = absurd fine
call_begins c fine = begins_by (parts_of c) fine

-- both tests fail
or_parts : (a b : Bool) → (a || b) ≡ false → (a ≡ false) × (b ≡ false)
or_parts true b e = absurd (false≢true (sym e))
or_parts false b e = (refl, e)

-- the word is none of those
record IsOther (w : List ℕ) : Type 0 where
  no_act : bytes_eq w (codes "act") ≡ false
  ends : bytes_eq w (codes "ends") ≡ false
  note : bytes_eq w (codes "note") ≡ false
  withdraws : bytes_eq w (codes "withdraws") ≡ false
  takes : bytes_eq w (codes "takes") ≡ false
  gives : bytes_eq w (codes "gives") ≡ false
  handler : bytes_eq w (codes "handler") ≡ false
  destructor : bytes_eq w (codes "destructor") ≡ false

other_word : (w : List ℕ) → is_mark_word w ≡ false → IsOther w
other_word w e =
    let a = or_parts (bytes_eq w (codes "act")) _ e in
    let b = or_parts (bytes_eq w (codes "ends")) _ a.1 in
    let c = or_parts (bytes_eq w (codes "note")) _ b.1 in
    let d = or_parts (bytes_eq w (codes "withdraws")) _ c.1 in
    let f = or_parts (bytes_eq w (codes "takes")) _ d.1 in
    let g = or_parts (bytes_eq w (codes "gives")) _ f.1 in
    let h = or_parts (bytes_eq w (codes "handler")) _ g.1 in
    record {
      no_act = a.0;
      ends = b.0;
      note = c.0;
      withdraws = d.0;
      takes = f.0;
      gives = g.0;
      handler = h.0;
      destructor = h.1;
    }

-- ---- how the words behind a thread are read

-- a mark without a call and without an act, or a mark with a call that is not answered
abbrev pub or_unanswered : (plain unanswered : Option Mark) → Option Mark
or_unanswered (Some m) unanswered = Some m
or_unanswered None unanswered = unanswered

-- by whether a word is `=`
abbrev pub by_equals : Option (List (List ℕ) × List (List ℕ)) → (answered others : Option Mark) → Option Mark
by_equals (Some p) answered others = answered
by_equals None answered others = others

-- what is found, where these are found of an act, of a call with its answer, and of a call without one
abbrev pub found_behind : Tid → (acted answered unanswered : Option Mark) → List (List ℕ) → Option Mark
found_behind t acted answered unanswered [] = None
found_behind t acted answered unanswered (w ∷ ws) =
    cond (bytes_eq w (codes "act")) acted (by_equals (parted (w ∷ ws)) answered (or_unanswered (plain_of t (w ∷ ws)) unanswered))

-- a call and its answer
answered_found : (t : Tid) (acted answered unanswered : Option Mark) (ws back : List (List ℕ)) → BeginsCall ws → HasNoEquals ws
    → found_behind t acted answered unanswered (ws ++ codes "=" ∷ back) ≡ answered
answered_found t acted answered unanswered [] back begins none = absurd begins
answered_found t acted answered unanswered (w ∷ ws) back begins none =
    rw ((other_word w begins).no_act) (rw (parted_behind (w ∷ ws) back none) refl)

-- words of a call, and one more, are no mark without a call
no_plain : (t : Tid) (ws : List (List ℕ)) (last : List ℕ) → BeginsCall ws → plain_of t (ws ++ last ∷ []) ≡ None
no_plain t [] last begins = absurd begins
no_plain t (w ∷ []) last begins = let o = other_word w begins in rw (o.ends) (rw (o.note) (rw (o.withdraws) refl))
no_plain t (w ∷ a ∷ []) last begins = let o = other_word w begins in rw (o.takes) (rw (o.gives) refl)
no_plain t (w ∷ a ∷ b ∷ []) last begins = let o = other_word w begins in rw (o.handler) (rw (o.destructor) refl)
no_plain t (w ∷ a ∷ b ∷ c ∷ []) last begins = refl
no_plain t (w ∷ a ∷ b ∷ c ∷ d ∷ ws) last begins = refl

-- one more word that is not `=`
none_more : (ws : List (List ℕ)) (last : List ℕ) → HasNoEquals ws → is_equals last ≡ false → HasNoEquals (ws ++ last ∷ [])
none_more [] last none other = (other, tt)
none_more (w ∷ ws) last none other = (none.0, none_more ws last none.1 other)

-- a call without an answer, by what stands behind it
unanswered_found : (t : Tid) (acted answered unanswered : Option Mark) (ws : List (List ℕ)) (last : List ℕ) → BeginsCall ws → HasNoEquals ws
    → is_equals last ≡ false → found_behind t acted answered unanswered (ws ++ last ∷ []) ≡ unanswered
unanswered_found t acted answered unanswered [] last begins none other = absurd begins
unanswered_found t acted answered unanswered (w ∷ ws) last begins none other =
    rw ((other_word w begins).no_act) (rw (not_parted ((w ∷ ws) ++ last ∷ []) (none_more (w ∷ ws) last none other))
    (rw (no_plain t (w ∷ ws) last begins) refl))

-- the words begin with that of an act
abbrev begins_act : List (List ℕ) → Bool
begins_act [] = true
begins_act (w ∷ ws) = bytes_eq w (codes "act")

-- a mark without a call and without an act
plain_found : (t : Tid) (acted answered unanswered : Option Mark) (ws : List (List ℕ)) (m : Mark) → begins_act ws ≡ false → HasNoEquals ws
    → plain_of t ws ≡ Some m → found_behind t acted answered unanswered ws ≡ Some m
plain_found t acted answered unanswered [] m other none read = absurd (false≢true (sym other))
plain_found t acted answered unanswered (w ∷ ws) m other none read =
    let fails : bytes_eq w (codes "act") ≡ false = other in
    rw fails (rw (not_parted (w ∷ ws) none) (rw read refl))

-- ---- the words behind a thread are read as its mark

-- what is found of the words of an act, of a call with its answer, and of a call without one is the mark
pub record AreFound (t : Tid) (m : Mark) (acted answered unanswered : Option Mark) : Type 0 where
  pub on_act : (x : Act) (a : Answer) → IsReadableAct x a → words_behind m ≡ codes "act" ∷ acted_words x a → mark.Acted t x a ≡ m → acted ≡ Some m
  pub on_answer : (c : Call) (a : Answer) → IsReadable c → IsReadableAnswer c a → words_behind m ≡ call_words c ++ codes "=" ∷ answer_words a
      → mark.Answered t c a ≡ m → answered ≡ Some m
  pub on_call : (c : Call) (last : List ℕ) → IsReadable c → words_behind m ≡ call_words c ++ last ∷ [] → unanswered_of t last c ≡ Some m
      → unanswered ≡ Some m

-- the thread with which the line begins
same_thread : (t u : Tid) → Some u ≡ Some t → t ≡ u
same_thread t u e = (cc)

pub no_thread : (t : Tid) → None ≡ Some t → ⊥
no_thread t e = cc

-- no word is `=`
number_none : (n : ℤ) → FitsSigned w64 n → is_equals (number_word n) ≡ false
number_none n fits = other_than_equals (number_word n) (number_is_word n fits)

decimal_none : (n : ℕ) → n < 2 ^ 64 → is_equals (decimal n) ≡ false
decimal_none n small = other_than_equals (decimal n) (decimal_word n small)

-- a mark with a call that is not answered
by_call : (t : Tid) (m : Mark) (acted answered unanswered : Option Mark) (c : Call) (last : List ℕ) → AreFound t m acted answered unanswered
    → IsReadable c → is_equals last ≡ false → words_behind m ≡ call_words c ++ last ∷ [] → unanswered_of t last c ≡ Some m
    → found_behind t acted answered unanswered (words_behind m) ≡ Some m
by_call t m acted answered unanswered c last found fine other e is =
    ap (found_behind t acted answered unanswered) e
    ∙ unanswered_found t acted answered unanswered (call_words c) last (call_begins c fine) (no_equals (call_words c) (call_words_are_words c fine)) other
    ∙ found.on_call c last fine e is

-- by the thread with which the line begins
behind : (t : Tid) (m : Mark) (acted answered unanswered : Option Mark) → IsReadableMark false m → thread_of m ≡ Some t
    → AreFound t m acted answered unanswered → found_behind t acted answered unanswered (words_behind m) ≡ Some m
unfolding parted unanswered_of
behind t (mark.Dispatch turn at u rank waited allowed) acted answered unanswered fine is found = absurd (no_thread t is)
behind t (mark.Answered u c a) acted answered unanswered fine is found =
    let same = same_thread t u is in
    answered_found t acted answered unanswered (call_words c) (answer_words a) (call_begins c fine.1)
    (no_equals (call_words c) (call_words_are_words c fine.1))
    ∙ found.on_answer c a fine.1 fine.2 refl (ap (λ t. mark.Answered t c a) same)
behind t (mark.Waits u c) acted answered unanswered fine is found =
    let same = same_thread t u is in
    by_call t (mark.Waits u c) acted answered unanswered c (codes "waits") found fine.1 refl refl (ap (λ t. Some (mark.Waits t c)) same)
behind t (mark.Retakes u c) acted answered unanswered fine is found =
    let same = same_thread t u is in
    by_call t (mark.Retakes u c) acted answered unanswered c (codes "retakes") found fine.1 refl refl (ap (λ t. Some (mark.Retakes t c)) same)
behind t (mark.Canceled u (Some c)) acted answered unanswered fine is found =
    let same = same_thread t u is in
    by_call t (mark.Canceled u (Some c)) acted answered unanswered c (codes "canceled") found fine.1 refl refl
    (ap (λ t. Some (mark.Canceled t (Some c))) same)
behind t (mark.Canceled u None) acted answered unanswered fine is found =
    let same = same_thread t u is in
    ap (λ t. Some (mark.Canceled t None)) same
behind t (mark.Took u m) acted answered unanswered fine is found =
    let same = same_thread t u is in
    plain_found t acted answered unanswered (codes "takes" ∷ codes "mutex" ∷ decimal m ∷ []) (mark.Took u m) refl
    (refl, (refl, (decimal_none m (omega (arith, fine.1)), tt)))
    (ap (option_map (λ m. mark.Took t m)) (object_back m fine.1) ∙ ap (λ t. Some (mark.Took t m)) same)
behind t (mark.Withdrew u b) acted answered unanswered fine is found =
    let same = same_thread t u is in
    plain_found t acted answered unanswered (codes "withdraws" ∷ decimal b ∷ []) (mark.Withdrew u b) refl
    (refl, (decimal_none b (omega (arith, fine.1)), tt))
    (ap (option_map (λ b. mark.Withdrew t b)) (object_back b fine.1) ∙ ap (λ t. Some (mark.Withdrew t b)) same)
behind t (mark.Handler u h arg) acted answered unanswered fine is found =
    let same = same_thread t u is in
    plain_found t acted answered unanswered (codes "handler" ∷ decimal h.0 ∷ codes "arg" ∷ number_word arg ∷ []) (mark.Handler u h arg) refl
    (refl, (decimal_none h.0 (omega (arith, fine.1)), (refl, (number_none arg fine.2, tt))))
    (rw (index_back h.0 fine.1) (rw (written_number_is_read arg fine.2) (ap (λ t. Some (mark.Handler t h arg)) same)))
behind t (mark.Destructor u k arg) acted answered unanswered fine is found =
    let same = same_thread t u is in
    plain_found t acted answered unanswered (codes "destructor" ∷ decimal k ∷ codes "arg" ∷ number_word arg ∷ []) (mark.Destructor u k arg) refl
    (refl, (decimal_none k (omega (arith, fine.1)), (refl, (number_none arg fine.2, tt))))
    (rw (object_back k fine.1) (rw (written_number_is_read arg fine.2) (ap (λ t. Some (mark.Destructor t k arg)) same)))
behind t (mark.Acted u x a) acted answered unanswered fine is found =
    let same = same_thread t u is in
    found.on_act x a fine.1 refl (ap (λ t. mark.Acted t x a) same)
behind t (mark.GaveMutex u m) acted answered unanswered fine is found =
    let same = same_thread t u is in
    plain_found t acted answered unanswered (codes "gives" ∷ codes "mutex" ∷ decimal m ∷ []) (mark.GaveMutex u m) refl
    (refl, (refl, (decimal_none m (omega (arith, fine.1)), tt)))
    (ap (option_map (λ m. mark.GaveMutex t m)) (object_back m fine.1) ∙ ap (λ t. Some (mark.GaveMutex t m)) same)
behind t (mark.GaveLock u l) acted answered unanswered fine is found =
    let same = same_thread t u is in
    plain_found t acted answered unanswered (codes "gives" ∷ codes "rwlock" ∷ decimal l ∷ []) (mark.GaveLock u l) refl
    (refl, (refl, (decimal_none l (omega (arith, fine.1)), tt)))
    (ap (option_map (λ l. mark.GaveLock t l)) (object_back l fine.1) ∙ ap (λ t. Some (mark.GaveLock t l)) same)
behind t (mark.Ended u v) acted answered unanswered fine is found =
    let same = same_thread t u is in
    plain_found t acted answered unanswered (codes "ends" ∷ number_word v ∷ []) (mark.Ended u v) refl
    (refl, (number_none v fine.1, tt))
    (ap (option_map (λ v. mark.Ended t v)) (written_number_is_read v fine.1) ∙ ap (λ t. Some (mark.Ended t v)) same)
behind t (mark.Noted u v) acted answered unanswered fine is found =
    let same = same_thread t u is in
    plain_found t acted answered unanswered (codes "note" ∷ number_word v ∷ []) (mark.Noted u v) refl
    (refl, (number_none v fine.1, tt))
    (ap (option_map (λ v. mark.Noted t v)) (written_number_is_read v fine.1) ∙ ap (λ t. Some (mark.Noted t v)) same)
behind t (mark.Woke u rank) acted answered unanswered fine is found = absurd (no_thread t is)
behind t (mark.Moved at) acted answered unanswered fine is found = absurd (no_thread t is)

-- the words that were read are those behind the thread
pub behind_back : (t : Tid) (m : Mark) (acted answered unanswered : Option Mark) (ws : List (List ℕ)) → IsReadableMark false m → thread_of m ≡ Some t
    → ws ≡ words_behind m → AreFound t m acted answered unanswered → found_behind t acted answered unanswered ws ≡ Some m
behind_back t m acted answered unanswered ws fine is e found =
    ap (found_behind t acted answered unanswered) e ∙ behind t m acted answered unanswered fine is found

-- what was found already is found again
already : (t : Tid) (m : Mark) → AreFound t m (Some m) (Some m) (Some m)
already t m = record {
  on_act = λ x a fine e is. refl;
  on_answer = λ c a fine right e is. refl;
  on_call = λ c last fine e is. refl;
}

-- ---- what is found by the words

-- an act
pub act_back : (t : Tid) (found : Option Mark) (w : List ℕ) (ws : List (List ℕ)) → bytes_eq w (codes "act") ≡ true
    → ((x : Act) (a : Answer) → IsReadableAct x a → ws ≡ acted_words x a → found ≡ Some (mark.Acted t x a)) → IsMarkBack t (w ∷ ws) found
act_back t found w ws holds reads m fine is e =
    let here : found_behind t found (Some m) (Some m) (w ∷ ws) ≡ found = rw holds refl in
    sym here ∙ behind_back t m found (Some m) (Some m) (w ∷ ws) fine is e (record {
      on_act = λ x a right cut same. reads x a right (ap (drop 1) (e ∙ cut)) ∙ ap (λ m. Some m) same;
      on_answer = λ c a fine right cut same. refl;
      on_call = λ c last fine cut same. refl;
    })

-- the words of a call and of its answer are parted
same_parted : (c : Call) (a : Answer) (ws call answer : List (List ℕ)) → IsReadable c → parted ws ≡ Some (call, answer)
    → ws ≡ call_words c ++ codes "=" ∷ answer_words a → (call ≡ call_words c) × (answer ≡ answer_words a)
same_parted c a ws call answer fine cut e =
    let same = same_pair (call, answer) (call_words c, answer_words a)
    (sym cut ∙ ap parted e ∙ parted_behind (call_words c) (answer_words a) (no_equals (call_words c) (call_words_are_words c fine))) in
    (ap (λ (p : List (List ℕ) × List (List ℕ)). p.0) same, ap (λ (p : List (List ℕ) × List (List ℕ)). p.1) same)

-- a call and its answer
pub answer_back : (t : Tid) (found : Option Mark) (w : List ℕ) (ws call answer : List (List ℕ)) → bytes_eq w (codes "act") ≡ false
    → parted (w ∷ ws) ≡ Some (call, answer)
    → IsAnsweredBack t call answer found → IsMarkBack t (w ∷ ws) found
answer_back t found w ws call answer fails cut reads m fine is e =
    let here : found_behind t (Some m) found (Some m) (w ∷ ws) ≡ found = rw fails (rw cut refl) in
    sym here ∙ behind_back t m (Some m) found (Some m) (w ∷ ws) fine is e (record {
      on_act = λ x a right cut same. refl;
      on_answer = λ c a fine right words same.
          let parts = same_parted c a (w ∷ ws) call answer fine cut (e ∙ words) in
          reads c a fine right parts.0 parts.1 ∙ ap (λ m. Some m) same;
      on_call = λ c last fine cut same. refl;
    })

-- a mark without a call and without an act
pub plain_back : (t : Tid) (plain : Mark) (w : List ℕ) (ws : List (List ℕ)) → bytes_eq w (codes "act") ≡ false → parted (w ∷ ws) ≡ None
    → plain_of t (w ∷ ws) ≡ Some plain → IsMarkBack t (w ∷ ws) (Some plain)
plain_back t plain w ws fails none read m fine is e =
    let here : found_behind t (Some m) (Some m) (Some m) (w ∷ ws) ≡ Some plain = rw fails (rw none (rw read refl)) in
    sym here ∙ behind_back t m (Some m) (Some m) (Some m) (w ∷ ws) fine is e (already t m)

-- a call without an answer
pub call_back : (t : Tid) (found : Option Mark) (w : List ℕ) (ws : List (List ℕ)) → bytes_eq w (codes "act") ≡ false → parted (w ∷ ws) ≡ None
    → plain_of t (w ∷ ws) ≡ None
    → ((c : Call) (last : List ℕ) → IsReadable c → w ∷ ws ≡ call_words c ++ last ∷ [] → found ≡ unanswered_of t last c) → IsMarkBack t (w ∷ ws) found
call_back t found w ws fails none other reads m fine is e =
    let here : found_behind t (Some m) (Some m) found (w ∷ ws) ≡ found = rw fails (rw none (rw other refl)) in
    sym here ∙ behind_back t m (Some m) (Some m) found (w ∷ ws) fine is e (record {
      on_act = λ x a right cut same. refl;
      on_answer = λ c a fine right cut same. refl;
      on_call = λ c last fine cut same. reads c last fine (e ∙ cut) ∙ same;
    })

-- ---- the thread

-- a line of a thread begins with it
record BeginsWith (t : Tid) (m : Mark) : Type 0 where
  low : IsReadableTid t
  are : mark_words false m ≡ tid_word t.0 ∷ words_behind m

begins_with : (t u : Tid) (m : Mark) → Some u ≡ Some t → IsReadableTid u → mark_words false m ≡ tid_word u.0 ∷ words_behind m → BeginsWith t m
begins_with t u m is low are =
    let same = same_thread t u is in
    subst (λ t. BeginsWith t m) (sym same) (record { low = low; are = are })

thread_begun : (t : Tid) (m : Mark) → IsReadableMark false m → thread_of m ≡ Some t → BeginsWith t m
thread_begun t (mark.Dispatch turn at u rank waited allowed) fine is = absurd (no_thread t is)
thread_begun t (mark.Answered u c a) fine is = begins_with t u (mark.Answered u c a) is fine.0 refl
thread_begun t (mark.Waits u c) fine is = begins_with t u (mark.Waits u c) is fine.0 refl
thread_begun t (mark.Retakes u c) fine is = begins_with t u (mark.Retakes u c) is fine.0 refl
thread_begun t (mark.Canceled u (Some c)) fine is = begins_with t u (mark.Canceled u (Some c)) is fine.0 refl
thread_begun t (mark.Canceled u None) fine is = begins_with t u (mark.Canceled u None) is fine refl
thread_begun t (mark.Took u m) fine is = begins_with t u (mark.Took u m) is fine.0 refl
thread_begun t (mark.Withdrew u b) fine is = begins_with t u (mark.Withdrew u b) is fine.0 refl
thread_begun t (mark.Handler u h arg) fine is = begins_with t u (mark.Handler u h arg) is fine.0 refl
thread_begun t (mark.Destructor u k arg) fine is = begins_with t u (mark.Destructor u k arg) is fine.0 refl
thread_begun t (mark.Acted u x a) fine is = begins_with t u (mark.Acted u x a) is fine.0 refl
thread_begun t (mark.GaveMutex u m) fine is = begins_with t u (mark.GaveMutex u m) is fine.0 refl
thread_begun t (mark.GaveLock u l) fine is = begins_with t u (mark.GaveLock u l) is fine.0 refl
thread_begun t (mark.Ended u v) fine is = begins_with t u (mark.Ended u v) is fine.0 refl
thread_begun t (mark.Noted u v) fine is = begins_with t u (mark.Noted u v) is fine.0 refl
thread_begun t (mark.Woke u rank) fine is = absurd (no_thread t is)
thread_begun t (mark.Moved at) fine is = absurd (no_thread t is)

same_words : (w v : List ℕ) (ws vs us : List (List ℕ)) → w ∷ ws ≡ us → us ≡ v ∷ vs → (w ≡ v) × (ws ≡ vs)
same_words w v ws vs us e are = ((cc), (cc))

-- the mark of the thread that is named first
pub thread_mark_back : (t : Tid) (found : Option Mark) (w : List ℕ) (ws : List (List ℕ)) → Some t ≡ thread_value w → IsMarkBack t ws found
    → IsThreadMarkBack (w ∷ ws) found
thread_mark_back t found w ws named back u m fine is e =
    let begun = thread_begun u m fine is in
    let same = same_words w (tid_word u.0) ws (words_behind m) (mark_words false m) e begun.are in
    let thread : t ≡ u = same_thread t u (sym (named ∙ ap thread_value same.0 ∙ thread_back u.0 begun.low)) in
    back m fine (is ∙ ap (λ t. Some t) (sym thread)) same.1

-- no thread is named first
pub no_thread_back : (found : Option Mark) (w : List ℕ) (ws : List (List ℕ)) → None ≡ thread_value w → IsThreadMarkBack (w ∷ ws) found
no_thread_back found w ws unnamed u m fine is e =
    let begun = thread_begun u m fine is in
    let same = same_words w (tid_word u.0) ws (words_behind m) (mark_words false m) e begun.are in
    absurd (no_thread u (unnamed ∙ ap thread_value same.0 ∙ thread_back u.0 begun.low))

-- ---- the last word

has_last : (a : List (List ℕ)) (x : List ℕ) → [] ≡ a ++ x ∷ [] → ⊥
has_last [] x e = absurd (false≢true (ap has_words e))
has_last (b ∷ a) x e = absurd (false≢true (ap has_words e))

-- two lists that end with a word
same_last : (a b : List (List ℕ)) (x y : List ℕ) → a ++ x ∷ [] ≡ b ++ y ∷ [] → (a ≡ b) × (x ≡ y)
same_last [] [] x y e = (refl, ap (λ (us : List (List ℕ)). get_or us 0 []) e)
same_last [] (v ∷ b) x y e = absurd (has_last b y (ap (drop 1) e))
same_last (w ∷ a) [] x y e = absurd (has_last a x (sym (ap (drop 1) e)))
same_last (w ∷ a) (v ∷ b) x y e =
    let first : w ≡ v = ap (λ (us : List (List ℕ)). get_or us 0 []) e in
    let rest = same_last a b x y (ap (drop 1) e) in
    (ap (λ w. w ∷ a) first ∙ ap (λ a. v ∷ a) rest.0, rest.1)

no_some : (c : Call) → None ≡ Some c → ⊥
no_some c e = cc

-- the words before the last are those of no call
pub no_call_back : (t : Tid) (found : Option Mark) (front : List (List ℕ)) (end : List ℕ) → IsReadBack front None → IsUnansweredBack t (front ++ end ∷ []) found
no_call_back t found front end back c last fine e =
    let same = same_last front (call_words c) end last e in
    absurd (no_some c (back c fine same.0))

-- no call stands before the last word
pub no_call_passed : (t : Tid) (ws : List (Bor (List ℕ))) → 1 ≤ length ws → IsReadBack (texts (take (length ws - 1) ws)) None
    → IsUnansweredBack t (texts ws) None
no_call_passed t [] some back = absurd (omega arith)
no_call_passed t (w ∷ ws) some back =
    let last : length (w ∷ ws) ≡ suc (length (w ∷ ws) - 1) = omega arith in
    subst (λ (us : List (List ℕ)). IsUnansweredBack t us None) (sym (ended (w ∷ ws) (length (w ∷ ws) - 1) w last))
    (no_call_back t None (texts (take (length (w ∷ ws) - 1) (w ∷ ws))) (get_or (w ∷ ws) (length (w ∷ ws) - 1) w).now back)

-- ---- a call and its answer

same_call : (c d : Call) → Some c ≡ Some d → c ≡ d
same_call c d e = cc

-- the call is read, and the answer to it
pub answered_back : (t : Tid) (call answer : List (List ℕ)) (c : Call) (found : Option Answer) (r : Option Mark) → IsReadBack call (Some c)
    → IsAnswerBack c answer found → r ≡ option_map (λ a. mark.Answered t c a) found → IsAnsweredBack t call answer r
answered_back t call answer c found r reads answers is = λ d a fine readable same e.
    let own : c ≡ d = same_call c d (reads d fine same) in
    is ∙ ap (option_map (λ a. mark.Answered t c a)) (answers a (subst (λ c. IsReadableAnswer c a) (sym own) readable) e)
    ∙ ap (λ c. Some (mark.Answered t c a)) own

-- no call is read
pub no_call_answered : (t : Tid) (call answer : List (List ℕ)) → IsReadBack call None → IsAnsweredBack t call answer None
no_call_answered t call answer reads = λ d a fine readable same e. absurd (no_some d (reads d fine same))

-- ---- what is found of the words behind the first

-- of an act
pub act_passed : {E : Type 0} (t : Tid) (r : Result (Option Mark) E) (w : List ℕ) (ws words : List (List ℕ)) → words ≡ w ∷ ws
    → bytes_eq w (codes "act") ≡ true
    → IfOk r (λ found. (x : Act) (a : Answer) → IsReadableAct x a → ws ≡ acted_words x a → found ≡ Some (mark.Acted t x a))
    → IfOk r (λ found. IsMarkBack t words found)
act_passed t (Ok found) w ws words cut holds reads = subst (λ ws. IsMarkBack t ws found) (sym cut) (act_back t found w ws holds reads)
act_passed t (Err e) w ws words cut holds reads = tt

-- of the words behind a thread
pub thread_passed : {E : Type 0} (t : Tid) (r : Result (Option Mark) E) (w : List ℕ) (ws words : List (List ℕ)) → words ≡ w ∷ ws
    → Some t ≡ thread_value w → IfOk r (λ found. IsMarkBack t ws found) → IfOk r (λ found. IsThreadMarkBack words found)
thread_passed t (Ok found) w ws words cut named back = subst (λ ws. IsThreadMarkBack ws found) (sym cut) (thread_mark_back t found w ws named back)
thread_passed t (Err e) w ws words cut named back = tt

-- of a call and its answer
pub answer_passed : {E : Type 0} (t : Tid) (r : Result (Option Mark) E) (w : List ℕ) (ws words call answer : List (List ℕ)) → words ≡ w ∷ ws
    → bytes_eq w (codes "act") ≡ false → parted words ≡ Some (call, answer)
    → IfOk r (λ found. IsAnsweredBack t call answer found) → IfOk r (λ found. IsMarkBack t words found)
answer_passed t (Ok found) w ws words call answer cut fails apart reads =
    subst (λ ws. IsMarkBack t ws found) (sym cut) (answer_back t found w ws call answer fails (ap parted (sym cut) ∙ apart) reads)
answer_passed t (Err e) w ws words call answer cut fails apart reads = tt

-- of words that tell no call and no act
pub mark_passed : (t : Tid) (m : Mark) (w : List ℕ) (ws words : List (List ℕ)) → words ≡ w ∷ ws → bytes_eq w (codes "act") ≡ false → None ≡ parted words
    → Some m ≡ plain_of t words → IsMarkBack t words (Some m)
mark_passed t m w ws words cut fails none read =
    subst (λ ws. IsMarkBack t ws (Some m)) (sym cut) (plain_back t m w ws fails (ap parted (sym cut) ∙ sym none) (ap (plain_of t) (sym cut) ∙ sym read))

-- of a call without an answer
pub call_passed : {E : Type 0} (t : Tid) (r : Result (Option Mark) E) (w : List ℕ) (ws words : List (List ℕ)) → words ≡ w ∷ ws
    → bytes_eq w (codes "act") ≡ false → None ≡ parted words → None ≡ plain_of t words → IfOk r (λ found. IsUnansweredBack t words found)
    → IfOk r (λ found. IsMarkBack t words found)
call_passed t (Ok found) w ws words cut fails none other reads =
    subst (λ ws. IsMarkBack t ws found) (sym cut)
    (call_back t found w ws fails (ap parted (sym cut) ∙ sym none) (ap (plain_of t) (sym cut) ∙ sym other) (λ c last fine e. reads c last fine (cut ∙ e)))
call_passed t (Err e) w ws words cut fails none other reads = tt
