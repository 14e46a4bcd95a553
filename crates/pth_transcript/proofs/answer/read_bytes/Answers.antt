use Rattle.std.proofs.Common.{◌≡◌, rules}
use Rattle.std.specs.Prelude.{option_map}
use Rattle.pth_base.specs.declared.answer.Answer.TheVariants as answer
use Rattle.pth_transcript.proofs.ReadAnswers.{bytes_readable}
use Rattle.pth_transcript.proofs.answer.read_bytes.Goals as goal

pub returns-clause-readable : goal.returns-clause-readable
returns-clause-readable c =
    let mapped : c.map.result ≡ option_map (λ bytes. answer.Bytes bytes) c.in_ok-bytes.field-0 = search rules in
    bytes_readable c.in_ok-bytes.field-0 c.map.result mapped c.in_ok-bytes.ensures.readable
