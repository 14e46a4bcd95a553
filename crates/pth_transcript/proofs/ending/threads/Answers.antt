use Rattle.std.proofs.Common.{All, rules, sym, subst}
use Rattle.std.proofs.lemmas.List.Elements.{All-push}
use Rattle.pth_transcript.specs.ReadableMarks.{IsReadableTid}
use Rattle.pth_transcript.proofs.EndingsBack.{next_thread, no_tid, same_tid, one_more}
use Rattle.pth_transcript.proofs.ending.threads.Goals as goal

pub returns-in_default-clause-back : goal.returns-in_default-clause-back
returns-in_default-clause-back c = λ ts low e.
    let next = next_thread c.args.words.now ts c.loop-word.word-index _ c.loop-word-test.true low e in
    no_tid next.thread _ c.in_default.ensures next.read

pub loop-word-preserved : goal.loop-word-preserved
loop-word-preserved c = record {
  same = λ ts low e.
      let next = next_thread c.args.words.now ts c.loop-word.word-index _ c.loop-word-test.true low e in
      one_more ts c.loop-word.word-index _ _ next.thread c.in-Some.tid (same_tid _ next.thread _ c.in-Some.ensures next.read)
      (c.loop-word.invariant.same ts low e) c.in_ok-push.ensures.items next.next;
  readable = subst (All IsReadableTid) (sym c.in_ok-push.ensures.items) (All-push IsReadableTid _ c.in-Some.tid c.loop-word.invariant.readable (search rules));
}
