use Rattle.std.proofs.Common.{◌≢◌, ap, sym}
use Rattle.pth_numbered.specs.Numbered.{number_at}
use Rattle.pth_ring.specs.Arena.{events_of}
use Rattle.pth_sched.proofs.Counting.{begins_within, counts_less, counts_none, counts_next, round_counted}
use Rattle.pth_sched.proofs.moments.count_round.Goals as goal

pub round-init : goal.round-init
round-init g c = record { used = c.requires.used; within = begins_within (events_of c.args.w.now.events) _ c.requires.begins; so_far = λ s st. counts_none g.P.Program.functions s (events_of c.args.w.now.events) c.args.w.now.kernel.now _ c.args.start c.requires.begins }

pub returns-then-at-first : goal.returns-then-at-first
returns-then-at-first g c = λ s ms st h.
    round_counted g.P.Program.functions s (events_of c.args.w.now.events) c.args.w.now.kernel.now _ c.args.start _ _ c.round.best c.sooner-best.result c.event_at.result.now (c.round.invariant.so_far s st)
    (rw c.rings.ensures at c.event_at.ensures)
    (rw (c.time.ensures.now, c.occurs_at.ensures s st) at c.sooner-best.ensures)
    (rw c.rings-in-round.ensures at c.next_at-at.ensures.round)
    (ap (number_at c.args.w.now.events) c.if-at-first.true) ms h

pub round-preserved : goal.round-preserved
round-preserved g c =
    let x = events_of c.args.w.now.events in
    let v = c.next_at-at.result.0 in
    let e = number_at c.args.w.now.events c.args.first.0 in
    let used = rw c.rings-in-round.ensures at c.next_at-at.ensures.used in
    let apart = rw c.rings-in-round.ensures at c.next_at-at.ensures.apart in
    let more : number_at c.args.w.now.events v ≢ e = λ h. c.if-at-first.false (sym (apart c.args.first.0 (sym h))) in
    record {
      used = used;
      within = ((rw c.rings-in-round.ensures at c.next_at-at.ensures.round) e c.round.invariant.within).within;
      so_far = λ s st. counts_next g.P.Program.functions s x c.args.w.now.kernel.now e c.args.start _ _ c.round.best c.sooner-best.result c.event_at.result.now (c.round.invariant.so_far s st)
          (rw c.rings.ensures at c.event_at.ensures)
          (rw (c.time.ensures.now, c.occurs_at.ensures s st) at c.sooner-best.ensures)
          (rw c.rings-in-round.ensures at c.next_at-at.ensures.round)
          more;
    }

pub round-smaller : goal.round-smaller
round-smaller g c =
    let x = events_of c.args.w.now.events in
    let v = c.next_at-at.result.0 in
    let e = number_at c.args.w.now.events c.args.first.0 in
    let apart = rw c.rings-in-round.ensures at c.next_at-at.ensures.apart in
    let more : number_at c.args.w.now.events v ≢ e = λ h. c.if-at-first.false (sym (apart c.args.first.0 (sym h))) in
    counts_less x e _ _ c.round.invariant.within (rw c.rings-in-round.ensures at c.next_at-at.ensures.round) more
