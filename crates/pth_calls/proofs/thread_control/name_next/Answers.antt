use Rattle.std.proofs.Common.{◌∙◌, ap, sym, inr, rules}
use Rattle.pth_world.specs.World.{WorldOf}
use Rattle.pth_world.proofs.Moves.{waits_to_run}
use Rattle.pth_world.proofs.Ranks.{ranks_none}
use Rattle.pth_calls.proofs.thread_control.name_next.Goals as goal

pub returns-clause-frame : goal.returns-clause-frame
returns-clause-frame g c =
    let w = c.args.w.now in
    let e = c.in-Some.it.now in
    let threads = ap (λ (k : WorldOf _ _ _). k.threads) c.name_next.ensures.same in
    record {
      whole = c.name_next.ensures.whole c.requires.whole;
      runs = ap (λ (k : WorldOf _ _ _). k.scheduler.running) c.name_next.ensures.same ∙ c.requires.runs;
      made = search rules;
      ranks = rw threads (ranks_none w.threads);
      preferred = inr (
        e.tid.0,
        ap (λ (k : WorldOf _ _ _). k.scheduler.preferred) c.name_next.ensures.same,
        rw threads (waits_to_run w e.tid.0 e c.requires.whole search rules search rules (sym c.is_not_to_run.ensures ∙ c.if-is_not_to_run.false)),
      );
    }
