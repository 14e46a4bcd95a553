use Rattle.std.proofs.Common.{◌≡◌, ◌∙◌, ℤ, sym, ap, ap₂, Some, rules}
use Rattle.std.specs.Prelude.{option_map}
use Rattle.pth_base.specs.declared.call.Call.TheVariants as call
use Rattle.pth_transcript.proofs.OwnBack.{write_ev_back, same_read, not_none}
use Rattle.pth_transcript.proofs.ReadCalls.{write_ev_readable}
use Rattle.pth_transcript.proofs.call.write_ev.Goals as goal
use Rattle.pth_transcript.proofs.call.write_ev.Goals.{in_default-via-in-Some+in_default, in_default-via-in_default}

pub returns-in_default-clause-back : goal.returns-in_default-clause-back
returns-in_default-clause-back c = λ d fine e.
    let r = write_ev_back _ _ _ d fine e in
    elim c.in_default.branch [
      | in_default-via-in-Some+in_default w ↦ absurd (not_none _ _ w.in_default.ensures' r.read_event)
      | in_default-via-in_default w ↦ absurd (not_none _ _ w.in_default.ensures-1 r.read)
    ]

pub returns : goal.returns
returns c =
    let mapped : c.map.result ≡ option_map (λ b. call.WriteEv c.in-Some-Some.f b c.in-Some-Some.e) c.in_ok-bytes.field-0 = search rules in
    record {
      back = λ d fine e.
          let r = write_ev_back _ _ _ d fine e in
          mapped
          ∙ ap (option_map (λ b. call.WriteEv c.in-Some-Some.f b c.in-Some-Some.e)) (c.in_ok-bytes.ensures.back r.bytes r.low r.printed)
          ∙ ap₂ (λ (f g : ℤ). Some (call.WriteEv f r.bytes g))
          (same_read c.in-Some-Some.f r.descriptor _ c.in-Some-Some.ensures r.read)
          (same_read c.in-Some-Some.e r.event _ c.in-Some-Some.ensures' r.read_event)
          ∙ ap (λ x. Some x) (sym r.is);
      readable = write_ev_readable c.in-Some-Some.f c.in-Some-Some.e c.args.f.now c.args.e.now _ _
          c.in-Some-Some.ensures c.in-Some-Some.ensures' c.in_ok-bytes.ensures.readable mapped;
    }
