use Rattle.std.proofs.Common.{◌≡◌, rules}
use Rattle.std.specs.Prelude.{option_map}
use Rattle.pth_spelling.specs.Texts.{texts}
use Rattle.pth_transcript.proofs.ReadAnswers.{acted_readable}
use Rattle.pth_transcript.proofs.act.answered.Goals as goal

pub returns-clause-readable : goal.returns-clause-readable
returns-clause-readable c =
    let mapped : c.map.result ≡ option_map (λ a. record { act = c.in-Some.act; answer = a }) c.in_ok-plain_answer.field-0 = search rules in
    acted_readable (texts c.args.act.now) c.in-Some.act c.in_ok-plain_answer.field-0 c.map.result c.in-Some.ensures mapped c.in_ok-plain_answer.ensures.readable
