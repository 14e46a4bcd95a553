use Rattle.std.proofs.Common.{arith}
use Rattle.std.proofs.lemmas.Bool.Decides.{nat_tests}
use Rattle.pth_transcript.proofs.Passing.{three_words, four_words, passed_on, few_words, many_words, three_others, four_others, script_passed}
use Rattle.pth_transcript.proofs.call.call.Goals as goal
use Rattle.pth_transcript.proofs.call.call.Goals.{in_default-via-then-words-lt3, in_default-via-in-len3-2+else-eq-2}
use Rattle.pth_transcript.proofs.call.call.Goals.{in_default-via-in-len4+else-eq-3, in_default-via-else-words-lt3+else-words-lt4+else-words-lt5}

pub returns-in-len3-2 : goal.returns-in-len3-2
returns-in-len3-2 c = record {
  back = passed_on c.write.result _ _
      (three_words c.args.words.now _ _ _ _ c.in-len3.len_at_least c.in-len3.len_below
      c.eq-then-words-lt4.ensures c.as_slice-then-words-lt4.ensures c.if-eq-2.true)
      c.write.ensures.back;
  readable = c.write.ensures.readable;
}

pub returns-in-len4 : goal.returns-in-len4
returns-in-len4 c = record {
  back = passed_on c.write_ev.result _ _
      (four_words c.args.words.now _ _ _ _ c.in-len4.len_at_least c.in-len4.len_below
      c.eq-then-words-lt5.ensures c.as_slice-then-words-lt5.ensures c.if-eq-3.true)
      c.write_ev.ensures.back;
  readable = c.write_ev.ensures.readable;
}

pub returns-in_default : goal.returns-in_default
returns-in_default c = record {
  back = script_passed c.script_call.result _
      (elim c.in_default.branch [
        | in_default-via-then-words-lt3 w ↦ few_words c.args.words.now (grind (arith, nat_tests))
        | in_default-via-in-len3-2+else-eq-2 w ↦ three_others c.args.words.now _ _ _ _ _ w.in-len3.len_at_least w.in-len3.len_below
            w.eq.ensures w.as_slice.ensures w.if-eq.false
            w.eq-then-words-lt4.ensures w.as_slice-then-words-lt4.ensures w.if-eq-2.false
        | in_default-via-in-len4+else-eq-3 w ↦ four_others c.args.words.now _ _ _ w.in-len4.len_at_least w.in-len4.len_below
            w.eq-then-words-lt5.ensures w.as_slice-then-words-lt5.ensures w.if-eq-3.false
        | in_default-via-else-words-lt3+else-words-lt4+else-words-lt5 w ↦ many_words c.args.words.now (grind (arith, nat_tests))
      ])
      c.script_call.ensures.back;
  readable = c.script_call.ensures.readable;
}
