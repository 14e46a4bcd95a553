-- Answers as words.
use Rattle.std.specs.Prelude.{ℕ, List, [], ◌∷◌, codes, decimal}
use Rattle.pth_base.specs.declared.answer.Answer.{Answer}
use Rattle.pth_base.specs.declared.answer.Answer.TheVariants as answer
use Rattle.pth_base.specs.declared.errno.Errno.{Errno}
use Rattle.pth_base.specs.declared.errno.Errno.TheVariants.{EPERM, ENOENT, ESRCH, EINTR, EIO, EBADF, EAGAIN, EACCES, EBUSY, EEXIST, EINVAL, EDEADLK, ECONNREFUSED}
use Rattle.pth_print.specs.Sets.{set_word}
use Rattle.pth_print.specs.WordTexts.{number_word, hex_word}

-- the name of an error
abbrev pub errno_word : Errno → List ℕ
errno_word EPERM = codes "EPERM"
errno_word ENOENT = codes "ENOENT"
errno_word ESRCH = codes "ESRCH"
errno_word EINTR = codes "EINTR"
errno_word EIO = codes "EIO"
errno_word EBADF = codes "EBADF"
errno_word EAGAIN = codes "EAGAIN"
errno_word EACCES = codes "EACCES"
errno_word EBUSY = codes "EBUSY"
errno_word EEXIST = codes "EEXIST"
errno_word EINVAL = codes "EINVAL"
errno_word EDEADLK = codes "EDEADLK"
errno_word ECONNREFUSED = codes "ECONNREFUSED"

-- an answer
abbrev pub answer_words : Answer → List (List ℕ)
answer_words answer.None = codes "none" ∷ []
answer_words (answer.Int n) = number_word n ∷ []
answer_words (answer.Bytes bytes) = hex_word bytes ∷ []
answer_words (answer.Sets count r w x) = number_word count ∷ codes "sets" ∷ set_word r.0 ∷ set_word w.0 ∷ set_word x.0 ∷ []
answer_words (answer.Text name) = name ∷ []
answer_words (answer.Msg id value) = codes "msg" ∷ decimal id.0 ∷ codes "value" ∷ number_word value ∷ []
answer_words (answer.Fail e) = errno_word e ∷ []
