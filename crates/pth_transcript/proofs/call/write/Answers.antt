use Rattle.std.proofs.Common.{◌≡◌, ◌∙◌, sym, ap, Some, rules}
use Rattle.std.specs.Prelude.{option_map}
use Rattle.pth_base.specs.declared.call.Call.TheVariants as call
use Rattle.pth_transcript.proofs.OwnBack.{write_back, same_read, not_none}
use Rattle.pth_transcript.proofs.ReadCalls.{write_readable}
use Rattle.pth_transcript.proofs.call.write.Goals as goal

pub returns-in_default-clause-back : goal.returns-in_default-clause-back
returns-in_default-clause-back c = λ d fine e. absurd (not_none _ _ (sym c.in_default.is ∙ c.read_number.ensures) (write_back _ _ d fine e).read)

pub returns : goal.returns
returns c =
    let mapped : c.map.result ≡ option_map (λ b. call.Write c.in-Some.f b) c.in_ok-bytes.field-0 = search rules in
    record {
      back = λ d fine e.
          let r = write_back _ _ d fine e in
          mapped
          ∙ ap (option_map (λ b. call.Write c.in-Some.f b)) (c.in_ok-bytes.ensures.back r.bytes r.low r.printed)
          ∙ ap (λ f. Some (call.Write f r.bytes)) (same_read c.in-Some.f r.descriptor _ c.in-Some.ensures r.read)
          ∙ ap (λ x. Some x) (sym r.is);
      readable = write_readable c.in-Some.f c.args.f.now _ _ c.in-Some.ensures c.in_ok-bytes.ensures.readable mapped;
    }
