use Rattle.std.proofs.Common.{◌≡◌, List, All, map, take}
use Rattle.pth_base.specs.declared.ids.Tid.{Tid}
use Rattle.pth_spelling.specs.Texts.{texts}
use Rattle.pth_print.specs.WordTexts.{tid_word}
use Rattle.pth_transcript.specs.ReadableMarks.{IsReadableTid}
use Rattle.pth_transcript.proofs.ending.threads.Given as goal

abbrev pub invariant-loop-word : goal.invariant-loop-word
invariant-loop-word l = record {
  same : (ts : List Tid) → All IsReadableTid ts → texts l.words ≡ map tid_word (map (λ t. t.0) ts) → l.live.items ≡ take l.word-index ts;
  readable : All IsReadableTid l.live.items;
}
