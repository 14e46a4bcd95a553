use Rattle.std.proofs.Common.{◌≡◌, ◌∙◌, sym, ap, subst, rules, arith}
use Rattle.std.specs.Prelude.{IfSome, option_map, slice_index}
use Rattle.pth_base.specs.declared.answer.Answer.TheVariants as answer
use Rattle.pth_text.specs.Bytes.{code}
use Rattle.pth_transcript.specs.ReadableAnswers.{IsReadablePlainAnswer}
use Rattle.pth_transcript.proofs.AnswersBack.{one_word_is, refusal_read, bytes_passed, none_read, number_read}
use Rattle.pth_transcript.proofs.ReadAnswers.{plain_refusal, number_readable}
use Rattle.pth_transcript.proofs.answer.by_first.Goals as goal

pub returns-then-first-eq69-clause-back : goal.returns-then-first-eq69-clause-back
returns-then-first-eq69-clause-back c = λ a fine e.
    c.refusal.ensures ∙ refusal_read c.args.word.now a (one_word_is c.args.word.now a fine e) (omega arith)

pub returns-then-first-eq69-clause-readable : goal.returns-then-first-eq69-clause-readable
returns-then-first-eq69-clause-readable c = subst (λ r. IfSome r IsReadablePlainAnswer) (sym c.refusal.ensures) (plain_refusal c.args.word.now)

pub returns-then-first-eq104-clause-back : goal.returns-then-first-eq104-clause-back
returns-then-first-eq104-clause-back c = bytes_passed c.read_bytes.result c.args.word.now (omega arith) c.read_bytes.ensures.back

pub returns-then-first-eq110-clause-back : goal.returns-then-first-eq110-clause-back
returns-then-first-eq110-clause-back c = λ a fine e. none_read c.args.word.now a (one_word_is c.args.word.now a fine e) (omega arith)

pub returns-clause-back : goal.returns-clause-back
returns-clause-back c = λ a fine e.
    let w = c.args.word.now in
    let mapped : c.map.result ≡ option_map (λ n. answer.Int n) c.read_number.result = search rules in
    mapped ∙ ap (option_map (λ n. answer.Int n)) c.read_number.ensures
    ∙ number_read w a (one_word_is w a fine e)
    (λ (is : slice_index w 0 ≡ code "E"). omega arith)
    (λ (is : slice_index w 0 ≡ code "h"). omega arith)
    (λ (is : slice_index w 0 ≡ code "n"). omega arith)

pub returns-clause-readable : goal.returns-clause-readable
returns-clause-readable c =
    let mapped : c.map.result ≡ option_map (λ n. answer.Int n) c.read_number.result = search rules in
    subst (λ r. IfSome r IsReadablePlainAnswer) (sym (mapped ∙ ap (option_map (λ n. answer.Int n)) c.read_number.ensures)) (number_readable c.args.word.now)
