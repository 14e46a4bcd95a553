use Rattle.std.proofs.Common.{rules, SFits, w64, to_z-of_z}
use Rattle.std.proofs.lemmas.Result.{on_err_weaker, on_ok_weaker}
use Rattle.pth_base.proofs.Cuts.{cut_none}
use Rattle.pth_queue.specs.declared.queue.Queue.TheVariants as queue
use Rattle.pth_world.specs.WellFormed.{Waiting}
use Rattle.pth_sched.proofs.Waking.{woken_leads, waits_still}
use Rattle.pth_sched.proofs.passes.wake.Goals as goal

pub make_ready-requires-clause-before : goal.make_ready-requires-clause-before
make_ready-requires-clause-before g c = record { queue = queue.Waiting; before = Waiting; stands = c.requires.waits.1 }

pub returns-clause-goes : goal.returns-clause-goes
returns-clause-goes g c =
    let fits : SFits w64 c.woken_rank-rank.result = search rules in
    let ready = simp to_z-of_z at c.make_ready.ensures.shows in
    let told = simp to_z-of_z at c.push.ensures.ok in
    record {
      leads = on_ok_weaker c.push.result (λ tells s st. woken_leads c.args.w.now c.make_ready.new.self s c.args.t.0 c.woken_rank-rank.result _ _ st c.make_ready.ensures.scheduler.store (c.woken_rank-rank.ensures.rank s.control st.control) (ready s.control st.control) tells) told;
      cut = on_err_weaker c.push.result (λ same s st. cut_none _ _ _ same) c.push.ensures.err;
    }

pub returns-clause-others : goal.returns-clause-others
returns-clause-others g c = λ u apart waits. waits_still c.args.w.now c.make_ready.new.self c.args.t.0 u _ c.requires.whole.sound c.requires.waits.0 c.make_ready.ensures.threads c.make_ready.ensures.queues apart waits

pub returns-clause-only_wakes : goal.returns-clause-only_wakes
returns-clause-only_wakes g c =
    let fits : SFits w64 c.woken_rank-rank.result = search rules in
    let ranks = simp to_z-of_z at c.make_ready.ensures.ranks in
    record {
      whole = c.make_ready.ensures.whole;
      rest = c.make_ready.ensures.scheduler;
      made = c.make_ready.ensures.threads.made;
      ranks = ranks c.woken_rank-rank.ensures.high;
      stays = c.make_ready.ensures.stays;
    }
