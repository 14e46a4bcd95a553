-- The lines of marks.
use Rattle.std.specs.Prelude.{ℕ, Bool, List, [], ◌∷◌, ◌++◌, Some, None, codes, decimal, if◌then◌else◌}
use Rattle.pth_base.specs.declared.act.Act.{Act}
use Rattle.pth_base.specs.declared.act.Act.TheVariants as act
use Rattle.pth_base.specs.declared.answer.Answer.{Answer}
use Rattle.pth_base.specs.declared.mark.Mark.{Mark}
use Rattle.pth_base.specs.declared.mark.Mark.TheVariants as mark
use Rattle.pth_print.specs.AnswerWords.{answer_words}
use Rattle.pth_print.specs.CallWords.{call_words}
use Rattle.pth_print.specs.WordTexts.{number_word, tid_word, cell}
use Rattle.pth_print.specs.SpacedWords.{joined_words}

-- what an audit tells of a dispatch
abbrev pub audit_words : Bool → ℕ → ℕ → List (List ℕ)
audit_words audit waited allowed =
    if audit then codes "waited" ∷ decimal waited ∷ codes "allowed" ∷ decimal allowed ∷ [] else []

-- a handler's act, with its answer where it is a call
abbrev pub acted_words : Act → Answer → List (List ℕ)
acted_words (act.Note v) answer = codes "note" ∷ number_word v ∷ []
acted_words (act.Set v n) answer = codes "set" ∷ cell v ∷ number_word n ∷ []
acted_words (act.Release m) answer = codes "release" ∷ number_word m ∷ codes "=" ∷ answer_words answer
acted_words (act.Notify c v) answer = codes "notify" ∷ number_word c ∷ number_word v ∷ codes "=" ∷ answer_words answer
acted_words (act.Put p v) answer = codes "put" ∷ number_word p ∷ number_word v ∷ codes "=" ∷ answer_words answer
acted_words (act.SetKey k v) answer = codes "setkey" ∷ number_word k ∷ number_word v ∷ codes "=" ∷ answer_words answer

-- a mark
abbrev pub mark_words : Bool → Mark → List (List ℕ)
mark_words audit (mark.Dispatch turn at tid rank waited allowed) =
    codes "turn" ∷ decimal turn ∷ codes "at" ∷ decimal at ∷ tid_word tid.0 ∷ codes "rank" ∷ number_word rank ∷ audit_words audit waited allowed
mark_words audit (mark.Answered tid call answer) = tid_word tid.0 ∷ (call_words call ++ codes "=" ∷ answer_words answer)
mark_words audit (mark.Waits tid call) = tid_word tid.0 ∷ (call_words call ++ codes "waits" ∷ [])
mark_words audit (mark.Retakes tid call) = tid_word tid.0 ∷ (call_words call ++ codes "retakes" ∷ [])
mark_words audit (mark.Canceled tid (Some call)) = tid_word tid.0 ∷ (call_words call ++ codes "canceled" ∷ [])
mark_words audit (mark.Canceled tid None) = tid_word tid.0 ∷ codes "canceled" ∷ []
mark_words audit (mark.Took tid mutex) = tid_word tid.0 ∷ codes "takes" ∷ codes "mutex" ∷ decimal mutex ∷ []
mark_words audit (mark.Withdrew tid barrier) = tid_word tid.0 ∷ codes "withdraws" ∷ decimal barrier ∷ []
mark_words audit (mark.Handler tid handler arg) = tid_word tid.0 ∷ codes "handler" ∷ decimal handler.0 ∷ codes "arg" ∷ number_word arg ∷ []
mark_words audit (mark.Destructor tid key arg) = tid_word tid.0 ∷ codes "destructor" ∷ decimal key ∷ codes "arg" ∷ number_word arg ∷ []
mark_words audit (mark.Acted tid act answer) = tid_word tid.0 ∷ codes "act" ∷ acted_words act answer
mark_words audit (mark.GaveMutex tid mutex) = tid_word tid.0 ∷ codes "gives" ∷ codes "mutex" ∷ decimal mutex ∷ []
mark_words audit (mark.GaveLock tid lock) = tid_word tid.0 ∷ codes "gives" ∷ codes "rwlock" ∷ decimal lock ∷ []
mark_words audit (mark.Ended tid value) = tid_word tid.0 ∷ codes "ends" ∷ number_word value ∷ []
mark_words audit (mark.Noted tid value) = tid_word tid.0 ∷ codes "note" ∷ number_word value ∷ []
mark_words audit (mark.Woke tid rank) = codes "wake" ∷ tid_word tid.0 ∷ codes "rank" ∷ number_word rank ∷ []
mark_words audit (mark.Moved at) = codes "idle" ∷ codes "to" ∷ decimal at ∷ []

-- the line of a mark, where an audit may be asked for
abbrev pub mark_line : Bool → Mark → List ℕ
mark_line audit mark = joined_words (mark_words audit mark) ++ codes "\n"
