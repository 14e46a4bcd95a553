-- What was judged of the lines that were read.
use Rattle.std.proofs.Common.{◌≡◌, ◌+◌, ◌<◌, ◌^◌, ℕ, List, [], ◌∷◌, ◌++◌, length, None, ap, subst, sym, arith}
use Rattle.std.proofs.lemmas.List.{length_push}
use Rattle.pth_base.specs.declared.mark.Mark.{Mark}
use Rattle.pth_checker.specs.Session.{HasHeard, HasJudged}
use Rattle.pth_checker.specs.Judging.{HasRoom, Judges}
use Rattle.pth_checker.specs.declared.session.Session.{Session}
use Rattle.pth_checker.specs.declared.judge.Judge.{Judge}

-- nothing was read yet
pub judged_none : (h : Session) → HasHeard None h None [] → HasJudged h 0
judged_none h heard = record { marks = []; judges = heard.judges; counted = heard.counted }

-- one line more was read
pub judged_read : (h after : Session) → HasJudged h 0 → after.judge ≡ h.judge → after.reader.lines ≡ h.reader.lines + 1 → HasJudged after 1
judged_read h after judged same more = record {
  marks = judged.marks;
  judges = subst (λ (j : Judge). Judges j judged.marks) (sym same) judged.judges;
  counted = let c = judged.counted in omega arith;
}

-- its mark was judged
pub judged_more : (h after : Session) (judged : HasJudged h 1) (m : Mark) → after.reader ≡ h.reader → Judges after.judge (judged.marks ++ m ∷ []) → HasJudged after 0
judged_more h after judged m same judges = record {
  marks = judged.marks ++ m ∷ [];
  judges = judges;
  counted = let c = judged.counted in let e = length_push judged.marks m in let r = ap (λ x. x.lines) same in omega arith;
}

pub has_room : (h : Session) → HasJudged h 1 → h.reader.lines < 2 ^ 64 → HasRoom h.judge
has_room h judged few = record { marks = judged.marks; judges = judged.judges; few = let c = judged.counted in omega arith }
