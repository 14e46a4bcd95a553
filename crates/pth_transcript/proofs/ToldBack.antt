-- The line of a mark is read as that mark.
use Rattle.std.proofs.Common.{◌≡◌, ◌∙◌, ◌<◌, ◌^◌, ◌++◌, nat_lt, ℕ, ℤ, Bool, true, false, cond, List, [], ◌∷◌, decimal, codes, Option, Some, None, w64, FitsSigned, refl, sym, ap, arith}
use Rattle.std.specs.Prelude.{option_map, IsTrue}
use Rattle.std.specs.Str.{bytes_eq}
use Rattle.std.specs.Str.Parse.{IsNumeral}
use Rattle.std.specs.Int.{IsInRange}
use Rattle.std.proofs.lemmas.Bool.Decides.{nat_tests}
use Rattle.std.proofs.lemmas.Fmt.{decimal_is_IsNumeral}
use Rattle.std.proofs.lemmas.List.Elements.{All-nil, All-cons}
use Rattle.std.proofs.lemmas.Str.Parse.{digit_from_value}
use Rattle.pth_base.specs.declared.answer.Answer.{Answer}
use Rattle.pth_base.specs.declared.answer.Answer.TheVariants as answer
use Rattle.pth_base.specs.declared.act.Act.{Act}
use Rattle.pth_base.specs.declared.act.Act.TheVariants as act
use Rattle.pth_base.specs.declared.call.Call.{Call}
use Rattle.pth_base.specs.declared.errno.Errno.{Errno}
use Rattle.pth_base.specs.declared.errno.Errno.TheVariants.{EPERM}
use Rattle.pth_base.specs.declared.ids.Tid.{Tid}
use Rattle.pth_base.specs.declared.mark.Mark.{Mark}
use Rattle.pth_base.specs.declared.mark.Mark.TheVariants as mark
use Rattle.pth_text.specs.Bytes.{code}
use Rattle.pth_text.specs.LineWords.{words_of}
use Rattle.pth_text.proofs.Numbers.{written_number_is_read}
use Rattle.pth_print.specs.AnswerWords.{answer_words, errno_word}
use Rattle.pth_print.specs.CallWords.{call_words}
use Rattle.pth_print.specs.MarkLines.{acted_words, audit_words, mark_words, mark_line}
use Rattle.pth_print.specs.Sets.{set_word}
use Rattle.pth_print.specs.SpacedWords.{joined_words}
use Rattle.pth_print.specs.WordTexts.{number_word, hex_word, tid_word}
use Rattle.pth_transcript.specs.MarkMeanings.{dispatch_of, audited_of, turn_of, woken_of, moved_of, told_plain, told_audited}
use Rattle.pth_transcript.specs.Readable.{IsReadable}
use Rattle.pth_transcript.specs.ReadableAnswers.{asks_name, IsReadablePlainAnswer, IsReadableNameAnswer, IsReadableBehind, IsReadableAnswer, IsReadableAct}
use Rattle.pth_transcript.specs.ReadableMarks.{IsReadableTid, IsReadableAudit, IsReadableMark, IsReadableTold, tells_audit, told_of, thread_of, words_behind, IsToldBack, IsLineBack, IsThreadMarkBack}
use Rattle.pth_transcript.specs.Transcript.{told_line}
use Rattle.pth_transcript.specs.declared.told.Told.{Told}
use Rattle.pth_transcript.proofs.EndingsBack.{not_so, tid_no_blank, cell_no_blank}
use Rattle.pth_transcript.proofs.LinesBack.{HasNoBlank, HaveNoBlank, AreWords, both_no_blank, no_blanks, line_back, line_of_words}
use Rattle.pth_transcript.proofs.Cuts.{IsLine}
use Rattle.pth_transcript.proofs.MarksBack.{no_thread}
use Rattle.pth_transcript.proofs.NaturalsBack.{natural_back, thread_back}
use Rattle.pth_transcript.proofs.WordBytes.{is_word, no_blank, number_is_word, name_is_word, set_is_word, hex_is_word, decimal_word, call_words_are_words}

-- ---- lines that do not begin with a thread

-- a dispatch
dispatch_back : (turn at t : ℕ) (rank : ℤ) (waited allowed : ℕ) → turn < 2 ^ 64 → at < 2 ^ 64 → t < 2 ^ 32 → FitsSigned w64 rank
    → dispatch_of (decimal turn) (decimal at) (tid_word t) (number_word rank) waited allowed ≡ Some (mark.Dispatch turn at (record { 0 = t }) rank waited allowed)
unfolding dispatch_of
dispatch_back turn at t rank waited allowed a b c d =
    rw (natural_back turn a) (rw (natural_back at b) (rw (thread_back t c) (rw (written_number_is_read rank d) refl)))

audited_back : (turn at t : ℕ) (rank : ℤ) (waited allowed : ℕ) → turn < 2 ^ 64 → at < 2 ^ 64 → t < 2 ^ 32 → FitsSigned w64 rank
    → waited < 2 ^ 64 → allowed < 2 ^ 64
    → audited_of (decimal turn) (decimal at) (tid_word t) (number_word rank) (decimal waited) (decimal allowed)
    ≡ Some (mark.Dispatch turn at (record { 0 = t }) rank waited allowed)
unfolding audited_of
audited_back turn at t rank waited allowed a b c d f g =
    rw (natural_back waited f) (rw (natural_back allowed g) (dispatch_back turn at t rank waited allowed a b c d))

turn_back : (audit : Bool) (turn at : ℕ) (t : Tid) (rank : ℤ) (waited allowed : ℕ) → turn < 2 ^ 64 → at < 2 ^ 64 → IsReadableTid t → FitsSigned w64 rank
    → IsReadableAudit audit waited allowed
    → turn_of (decimal turn ∷ codes "at" ∷ decimal at ∷ tid_word t.0 ∷ codes "rank" ∷ number_word rank ∷ audit_words audit waited allowed)
    ≡ Some (told_of audit (mark.Dispatch turn at t rank waited allowed))
turn_back true turn at t rank waited allowed a b c d f =
    ap (option_map told_audited) (audited_back turn at t.0 rank waited allowed a b c d f.0 f.1)
turn_back false turn at t rank waited allowed a b c d f =
    ap (option_map told_plain) (dispatch_back turn at t.0 rank 0 0 a b c d)
    ∙ ap (λ (n : ℕ). Some (told_plain (mark.Dispatch turn at t rank n 0))) (sym f.0)
    ∙ ap (λ (n : ℕ). Some (told_plain (mark.Dispatch turn at t rank waited n))) (sym f.1)

woken_back : (t : Tid) (rank : ℤ) → IsReadableTid t → FitsSigned w64 rank → woken_of (tid_word t.0 ∷ codes "rank" ∷ number_word rank ∷ []) ≡ Some (mark.Woke t rank)
woken_back t rank low fits = rw (thread_back t.0 low) (rw (written_number_is_read rank fits) refl)

-- ---- how the words of a line are read

-- what is found, where this is found of a line that begins with a thread
abbrev pub found_in : (of_thread : Option Mark) → List (List ℕ) → Option Told
found_in of_thread [] = None
found_in of_thread (w ∷ ws) =
    cond (bytes_eq w (codes "turn")) (turn_of ws)
    (cond (bytes_eq w (codes "wake")) (option_map told_plain (woken_of ws))
    (cond (bytes_eq w (codes "idle")) (option_map told_plain (moved_of ws))
    (option_map told_plain of_thread)))

-- a numeral is not the end of `turn`
no_turn_in : (ds : List ℕ) → IsNumeral 10 ds → bytes_eq ds (codes "urn") ≡ false
no_turn_in [] digits = absurd (omega (arith, digits.0))
no_turn_in (c ∷ cs) digits = let range : IsInRange (code "0") (code "9") c = digit_from_value c digits.1.0 in grind (arith, nat_tests)

no_turn : (t : ℕ) → t < 2 ^ 32 → bytes_eq (tid_word t) (codes "turn") ≡ false
no_turn t low = no_turn_in (decimal t) (decimal_is_IsNumeral t (omega (arith, low))).0

-- a line that begins with a thread
thread_found : (of_thread : Option Mark) (m : Mark) (t : Tid) (ws : List (List ℕ)) → IsReadableTid t → of_thread ≡ Some m
    → found_in of_thread (tid_word t.0 ∷ ws) ≡ Some (told_plain m)
thread_found of_thread m t ws low is = rw (no_turn t.0 low) (ap (option_map told_plain) is)

-- the words of a mark
pub told_back : (of_thread : Option Mark) (audit : Bool) (m : Mark) → IsReadableMark audit m
    → (IsReadableMark false m → (t : Tid) → thread_of m ≡ Some t → of_thread ≡ Some m)
    → found_in of_thread (mark_words audit m) ≡ Some (told_of audit m)
told_back o audit (mark.Dispatch turn at t rank waited allowed) fine found =
    turn_back audit turn at t rank waited allowed fine.0 fine.1 fine.2 fine.3 fine.4
told_back o audit (mark.Answered t c a) fine found = thread_found o (mark.Answered t c a) t (words_behind (mark.Answered t c a)) fine.0 (found fine t refl)
told_back o audit (mark.Waits t c) fine found = thread_found o (mark.Waits t c) t (words_behind (mark.Waits t c)) fine.0 (found fine t refl)
told_back o audit (mark.Retakes t c) fine found = thread_found o (mark.Retakes t c) t (words_behind (mark.Retakes t c)) fine.0 (found fine t refl)
told_back o audit (mark.Canceled t (Some c)) fine found = thread_found o (mark.Canceled t (Some c)) t (words_behind (mark.Canceled t (Some c))) fine.0 (found fine t refl)
told_back o audit (mark.Canceled t None) fine found = thread_found o (mark.Canceled t None) t (words_behind (mark.Canceled t None)) fine (found fine t refl)
told_back o audit (mark.Took t m) fine found = thread_found o (mark.Took t m) t (words_behind (mark.Took t m)) fine.0 (found fine t refl)
told_back o audit (mark.Withdrew t b) fine found = thread_found o (mark.Withdrew t b) t (words_behind (mark.Withdrew t b)) fine.0 (found fine t refl)
told_back o audit (mark.Handler t h arg) fine found = thread_found o (mark.Handler t h arg) t (words_behind (mark.Handler t h arg)) fine.0 (found fine t refl)
told_back o audit (mark.Destructor t k arg) fine found = thread_found o (mark.Destructor t k arg) t (words_behind (mark.Destructor t k arg)) fine.0 (found fine t refl)
told_back o audit (mark.Acted t x a) fine found = thread_found o (mark.Acted t x a) t (words_behind (mark.Acted t x a)) fine.0 (found fine t refl)
told_back o audit (mark.GaveMutex t m) fine found = thread_found o (mark.GaveMutex t m) t (words_behind (mark.GaveMutex t m)) fine.0 (found fine t refl)
told_back o audit (mark.GaveLock t l) fine found = thread_found o (mark.GaveLock t l) t (words_behind (mark.GaveLock t l)) fine.0 (found fine t refl)
told_back o audit (mark.Ended t v) fine found = thread_found o (mark.Ended t v) t (words_behind (mark.Ended t v)) fine.0 (found fine t refl)
told_back o audit (mark.Noted t v) fine found = thread_found o (mark.Noted t v) t (words_behind (mark.Noted t v)) fine.0 (found fine t refl)
told_back o audit (mark.Woke t rank) fine found = ap (option_map told_plain) (woken_back t rank fine.0 fine.1)
told_back o audit (mark.Moved at) fine found = ap (λ at. option_map told_plain (option_map (λ at. mark.Moved at) at)) (natural_back at fine)

-- the words that were read are those of a mark
pub words_told : (of_thread : Option Mark) (audit : Bool) (m : Mark) (ws : List (List ℕ)) → IsReadableMark audit m → ws ≡ mark_words audit m
    → (IsReadableMark false m → (t : Tid) → thread_of m ≡ Some t → of_thread ≡ Some m)
    → found_in of_thread ws ≡ Some (told_of audit m)
words_told o audit m ws fine e found = ap (found_in o) e ∙ told_back o audit m fine found

-- ---- lines

-- a literal, a number, a number without a sign and a thread have no space
number_blank : (n : ℤ) → FitsSigned w64 n → HasNoBlank (number_word n)
number_blank n fits = no_blank (number_word n) (number_is_word n fits)

decimal_blank : (n : ℕ) → n < 2 ^ 64 → HasNoBlank (decimal n)
decimal_blank n small = no_blank (decimal n) (decimal_word n small)

tid_blank : (t : Tid) → IsReadableTid t → HasNoBlank (tid_word t.0)
tid_blank t low = tid_no_blank t.0 low

call_blank : (c : Call) → IsReadable c → HaveNoBlank (call_words c)
call_blank c fine = no_blanks (call_words c) (call_words_are_words c fine)

-- the words behind a thread
behind_thread : (t : Tid) (ws : List (List ℕ)) → IsReadableTid t → HaveNoBlank ws → AreWords (tid_word t.0 ∷ ws)
behind_thread t ws low none = record { first = tid_word t.0; others = ws; are = refl; here = tid_blank t low; none = none }

audit_blank : (audit : Bool) (waited allowed : ℕ) → IsReadableAudit audit waited allowed → HaveNoBlank (audit_words audit waited allowed)
audit_blank true waited allowed fine =
    (no_blank (codes "waited") refl, (decimal_blank waited fine.0, (no_blank (codes "allowed") refl, (decimal_blank allowed fine.1, tt))))
audit_blank false waited allowed fine = tt

-- `=`
equals_blank : HasNoBlank (codes "=")
equals_blank = All-cons (λ b. nat_lt (code " ") b ≡ true) (code "=") [] refl (All-nil (λ b. nat_lt (code " ") b ≡ true))

-- the name of an error
errno_is_word : (e : Errno) → is_word (errno_word e) ≡ true
errno_is_word EPERM = refl
errno_is_word e = refl

errno_blank : (e : Errno) → HaveNoBlank (answer_words (answer.Fail e))
errno_blank e = (no_blank (errno_word e) (errno_is_word e), tt)

-- an answer that is no text
plain_blank : (a : Answer) → IsReadablePlainAnswer a → HaveNoBlank (answer_words a)
plain_blank answer.None fine = (no_blank (codes "none") refl, tt)
plain_blank (answer.Int n) fine = (number_blank n fine, tt)
plain_blank (answer.Bytes bytes) fine = (no_blank (hex_word bytes) (hex_is_word bytes), tt)
plain_blank (answer.Sets count r w x) fine = (
  number_blank count fine.0,
  (
    no_blank (codes "sets") refl,
    (
      no_blank (set_word r.0) (set_is_word r.0),
      (
        no_blank (set_word w.0) (set_is_word w.0),
        (no_blank (set_word x.0) (set_is_word x.0), tt),
      ),
    ),
  ),
)
plain_blank (answer.Text name) fine = absurd fine
plain_blank (answer.Msg id value) fine =
    (no_blank (codes "msg") refl, (decimal_blank id.0 fine.0, (no_blank (codes "value") refl, (number_blank value fine.1, tt))))
plain_blank (answer.Fail e) fine = errno_blank e

-- a name, or an error
name_blank : (a : Answer) → IsReadableNameAnswer a → HaveNoBlank (answer_words a)
name_blank answer.None fine = absurd fine
name_blank (answer.Int n) fine = absurd fine
name_blank (answer.Bytes bytes) fine = absurd fine
name_blank (answer.Sets count r w x) fine = absurd fine
name_blank (answer.Text name) fine = (no_blank name (name_is_word name fine), tt)
name_blank (answer.Msg id value) fine = absurd fine
name_blank (answer.Fail e) fine = errno_blank e

blank_by : (b : Bool) (a : Answer) → IsReadableBehind b a → HaveNoBlank (answer_words a)
blank_by true a fine = name_blank a fine
blank_by false a fine = plain_blank a fine

-- an answer to a call
answer_blank : (c : Call) (a : Answer) → IsReadableAnswer c a → HaveNoBlank (answer_words a)
answer_blank c a fine = blank_by (asks_name c) a fine

-- an act and its answer
act_blank : (x : Act) (a : Answer) → IsReadableAct x a → HaveNoBlank (acted_words x a)
act_blank (act.Note v) a fine = (no_blank (codes "note") refl, (number_blank v fine.0, tt))
act_blank (act.Set k v) a fine = (no_blank (codes "set") refl, (cell_no_blank k fine.0, (number_blank v fine.1, tt)))
act_blank (act.Release m) a fine = (no_blank (codes "release") refl, (number_blank m fine.0, (equals_blank, plain_blank a fine.1)))
act_blank (act.Notify c v) a fine =
    (no_blank (codes "notify") refl, (number_blank c fine.0, (number_blank v fine.1, (equals_blank, plain_blank a fine.2))))
act_blank (act.Put p v) a fine =
    (no_blank (codes "put") refl, (number_blank p fine.0, (number_blank v fine.1, (equals_blank, plain_blank a fine.2))))
act_blank (act.SetKey k v) a fine =
    (no_blank (codes "setkey") refl, (number_blank k fine.0, (number_blank v fine.1, (equals_blank, plain_blank a fine.2))))

-- the words of a mark
mark_blank : (audit : Bool) (m : Mark) → IsReadableMark audit m → AreWords (mark_words audit m)
mark_blank audit (mark.Dispatch turn at t rank waited allowed) fine = record {
  first = codes "turn";
  others = decimal turn ∷ codes "at" ∷ decimal at ∷ tid_word t.0 ∷ codes "rank" ∷ number_word rank ∷ audit_words audit waited allowed;
  are = refl;
  here = no_blank (codes "turn") refl;
  none = (
    decimal_blank turn fine.0,
    (
      no_blank (codes "at") refl,
      (
        decimal_blank at fine.1,
        (
          tid_blank t fine.2,
          (
            no_blank (codes "rank") refl,
            (number_blank rank fine.3, audit_blank audit waited allowed fine.4),
          ),
        ),
      ),
    ),
  );
}
mark_blank audit (mark.Answered t c a) fine =
    behind_thread t (call_words c ++ codes "=" ∷ answer_words a) fine.0
    (both_no_blank (call_words c) (codes "=" ∷ answer_words a) (call_blank c fine.1) (equals_blank, answer_blank c a fine.2))
mark_blank audit (mark.Waits t c) fine =
    behind_thread t (call_words c ++ codes "waits" ∷ []) fine.0
    (both_no_blank (call_words c) (codes "waits" ∷ []) (call_blank c fine.1) (no_blank (codes "waits") refl, tt))
mark_blank audit (mark.Retakes t c) fine =
    behind_thread t (call_words c ++ codes "retakes" ∷ []) fine.0
    (both_no_blank (call_words c) (codes "retakes" ∷ []) (call_blank c fine.1) (no_blank (codes "retakes") refl, tt))
mark_blank audit (mark.Canceled t (Some c)) fine =
    behind_thread t (call_words c ++ codes "canceled" ∷ []) fine.0
    (both_no_blank (call_words c) (codes "canceled" ∷ []) (call_blank c fine.1) (no_blank (codes "canceled") refl, tt))
mark_blank audit (mark.Canceled t None) fine = behind_thread t (codes "canceled" ∷ []) fine (no_blank (codes "canceled") refl, tt)
mark_blank audit (mark.Took t m) fine =
    behind_thread t (codes "takes" ∷ codes "mutex" ∷ decimal m ∷ []) fine.0
    (no_blank (codes "takes") refl, (no_blank (codes "mutex") refl, (decimal_blank m (omega (arith, fine.1)), tt)))
mark_blank audit (mark.Withdrew t b) fine =
    behind_thread t (codes "withdraws" ∷ decimal b ∷ []) fine.0 (no_blank (codes "withdraws") refl, (decimal_blank b (omega (arith, fine.1)), tt))
mark_blank audit (mark.Handler t h arg) fine =
    behind_thread t (codes "handler" ∷ decimal h.0 ∷ codes "arg" ∷ number_word arg ∷ []) fine.0
    (no_blank (codes "handler") refl, (decimal_blank h.0 (omega (arith, fine.1)), (no_blank (codes "arg") refl, (number_blank arg fine.2, tt))))
mark_blank audit (mark.Destructor t k arg) fine =
    behind_thread t (codes "destructor" ∷ decimal k ∷ codes "arg" ∷ number_word arg ∷ []) fine.0
    (no_blank (codes "destructor") refl, (decimal_blank k (omega (arith, fine.1)), (no_blank (codes "arg") refl, (number_blank arg fine.2, tt))))
mark_blank audit (mark.Acted t x a) fine = behind_thread t (codes "act" ∷ acted_words x a) fine.0 (no_blank (codes "act") refl, act_blank x a fine.1)
mark_blank audit (mark.GaveMutex t m) fine =
    behind_thread t (codes "gives" ∷ codes "mutex" ∷ decimal m ∷ []) fine.0
    (no_blank (codes "gives") refl, (no_blank (codes "mutex") refl, (decimal_blank m (omega (arith, fine.1)), tt)))
mark_blank audit (mark.GaveLock t l) fine =
    behind_thread t (codes "gives" ∷ codes "rwlock" ∷ decimal l ∷ []) fine.0
    (no_blank (codes "gives") refl, (no_blank (codes "rwlock") refl, (decimal_blank l (omega (arith, fine.1)), tt)))
mark_blank audit (mark.Ended t v) fine = behind_thread t (codes "ends" ∷ number_word v ∷ []) fine.0 (no_blank (codes "ends") refl, (number_blank v fine.1, tt))
mark_blank audit (mark.Noted t v) fine = behind_thread t (codes "note" ∷ number_word v ∷ []) fine.0 (no_blank (codes "note") refl, (number_blank v fine.1, tt))
mark_blank audit (mark.Woke t rank) fine = record {
  first = codes "wake";
  others = tid_word t.0 ∷ codes "rank" ∷ number_word rank ∷ [];
  are = refl;
  here = no_blank (codes "wake") refl;
  none = (tid_blank t fine.0, (no_blank (codes "rank") refl, (number_blank rank fine.1, tt)));
}
mark_blank audit (mark.Moved at) fine = record {
  first = codes "idle";
  others = codes "to" ∷ decimal at ∷ [];
  are = refl;
  here = no_blank (codes "idle") refl;
  none = (no_blank (codes "to") refl, (decimal_blank at fine, tt));
}

-- a line of a mark has its words
mark_line_back : (line : List ℕ) (audit : Bool) (m : Mark) → IsReadableMark audit m → line ++ codes "\n" ≡ mark_line audit m → words_of line ≡ mark_words audit m
mark_line_back line audit m fine e = line_back line (mark_words audit m) (mark_blank audit m fine) e

-- it has an LF at its end alone
pub mark_is_line : (told : Told) → IsReadableTold told → IsLine (told_line told)
mark_is_line told fine = line_of_words (told_line told) (mark_words told.audit told.mark) (mark_blank told.audit told.mark fine) refl

-- what was found of the words is what the line tells
pub line_told : (line : List ℕ) (found : Option Told) → IsToldBack (words_of line) found → IsLineBack line found
line_told line found back audit m fine e = back audit m fine (mark_line_back line audit m fine e)

-- ---- the mark that is found is printed so

-- the line is the same, where it is known whether it tells of an audit
same_words : (audit : Bool) (m : Mark) → mark_words (tells_audit audit m) m ≡ mark_words audit m
same_words audit (mark.Dispatch turn at t rank waited allowed) = refl
same_words audit (mark.Answered t c a) = refl
same_words audit (mark.Waits t c) = refl
same_words audit (mark.Retakes t c) = refl
same_words audit (mark.Canceled t (Some c)) = refl
same_words audit (mark.Canceled t None) = refl
same_words audit (mark.Took t m) = refl
same_words audit (mark.Withdrew t b) = refl
same_words audit (mark.Handler t h arg) = refl
same_words audit (mark.Destructor t k arg) = refl
same_words audit (mark.Acted t x a) = refl
same_words audit (mark.GaveMutex t m) = refl
same_words audit (mark.GaveLock t l) = refl
same_words audit (mark.Ended t v) = refl
same_words audit (mark.Noted t v) = refl
same_words audit (mark.Woke t rank) = refl
same_words audit (mark.Moved at) = refl

pub same_line : (audit : Bool) (m : Mark) → told_line (told_of audit m) ≡ mark_line audit m
same_line audit m = ap (λ ws. joined_words ws ++ codes "\n") (same_words audit m)

same_told : (a b : Told) → Some a ≡ Some b → a ≡ b
same_told a b e = (cc)

-- what is not printed so is not what the line tells
pub line_refused : (line : List ℕ) (told : Told) (b : Bool) → IsLineBack line (Some told) → (line ++ codes "\n" ≡ told_line told → IsTrue b) → b ≡ false
    → IsLineBack line None
line_refused line told b back printed fails audit m fine e =
    let same : told ≡ told_of audit m = same_told told (told_of audit m) (back audit m fine e) in
    absurd (not_so b (printed (e ∙ sym (same_line audit m) ∙ ap told_line (sym same))) fails)

-- ---- what is found by the words

-- the first word is tested
pub first_test : (w name word : List ℕ) (test b : Bool) → test ≡ bytes_eq w name → name ≡ word → test ≡ b → bytes_eq w word ≡ b
first_test w name word test b is same holds = ap (bytes_eq w) (sym same) ∙ sym is ∙ holds

-- a line that does not begin with a thread
not_of_thread : (found : Option Told) (ws : List (List ℕ)) → ((m : Mark) → found ≡ found_in (Some m) ws) → IsToldBack ws found
not_of_thread found ws same audit m fine e = same m ∙ words_told (Some m) audit m ws fine e (λ fine t is. refl)

-- a dispatch
pub turn_told : (w : List ℕ) (ws : List (List ℕ)) (found : Option Told) → bytes_eq w (codes "turn") ≡ true → found ≡ turn_of ws → IsToldBack (w ∷ ws) found
turn_told w ws found holds is = not_of_thread found (w ∷ ws) (λ m. rw holds is)

-- a thread that is ready again
pub wake_told : (w : List ℕ) (ws : List (List ℕ)) (found : Option Told) → bytes_eq w (codes "turn") ≡ false → bytes_eq w (codes "wake") ≡ true
    → found ≡ option_map told_plain (woken_of ws) → IsToldBack (w ∷ ws) found
wake_told w ws found fails holds is = not_of_thread found (w ∷ ws) (λ m. rw fails (rw holds is))

-- a moment to which time moved
pub idle_told : (w : List ℕ) (ws : List (List ℕ)) (found : Option Told) → bytes_eq w (codes "turn") ≡ false → bytes_eq w (codes "wake") ≡ false
    → bytes_eq w (codes "idle") ≡ true → found ≡ option_map told_plain (moved_of ws) → IsToldBack (w ∷ ws) found
idle_told w ws found fails other holds is = not_of_thread found (w ∷ ws) (λ m. rw fails (rw other (rw holds is)))

-- the words of a thread's mark do not depend on an audit
thread_words : (audit : Bool) (m : Mark) (t : Tid) → thread_of m ≡ Some t → mark_words audit m ≡ mark_words false m
thread_words audit (mark.Dispatch turn at u rank waited allowed) t is = absurd (no_thread t is)
thread_words audit (mark.Answered u c a) t is = refl
thread_words audit (mark.Waits u c) t is = refl
thread_words audit (mark.Retakes u c) t is = refl
thread_words audit (mark.Canceled u (Some c)) t is = refl
thread_words audit (mark.Canceled u None) t is = refl
thread_words audit (mark.Took u m) t is = refl
thread_words audit (mark.Withdrew u b) t is = refl
thread_words audit (mark.Handler u h arg) t is = refl
thread_words audit (mark.Destructor u k arg) t is = refl
thread_words audit (mark.Acted u x a) t is = refl
thread_words audit (mark.GaveMutex u m) t is = refl
thread_words audit (mark.GaveLock u l) t is = refl
thread_words audit (mark.Ended u v) t is = refl
thread_words audit (mark.Noted u v) t is = refl
thread_words audit (mark.Woke u rank) t is = refl
thread_words audit (mark.Moved at) t is = refl

-- a line that begins with a thread
pub thread_told : (w : List ℕ) (ws : List (List ℕ)) (of_thread : Option Mark) (found : Option Told) → bytes_eq w (codes "turn") ≡ false
    → bytes_eq w (codes "wake") ≡ false → bytes_eq w (codes "idle") ≡ false → IsThreadMarkBack (w ∷ ws) of_thread
    → found ≡ option_map told_plain of_thread → IsToldBack (w ∷ ws) found
thread_told w ws of_thread found fails other more back is audit m fine e =
    let here : found_in of_thread (w ∷ ws) ≡ option_map told_plain of_thread = rw fails (rw other (rw more refl)) in
    is ∙ sym here
    ∙ words_told of_thread audit m (w ∷ ws) fine e (λ fine t same. back t m fine same (e ∙ thread_words audit m t same))
