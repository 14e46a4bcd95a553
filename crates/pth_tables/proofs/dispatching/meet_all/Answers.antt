use Rattle.std.proofs.Common.{◌≡◌, ◌+◌, ◌-◌, ◌∙◌, suc, drop, ap, arith}
use Rattle.pth_queue.specs.Arena.{slots_of}
use Rattle.pth_tables.specs.Waits.{waits_of, reached_all}
use Rattle.pth_tables.proofs.Walks.{dues_kept, reaches_all, reaches_both, reaches_nobody, reaches_others}
use Rattle.pth_tables.proofs.dispatching.meet_all.Goals as goal
use Rattle.pth_tables.proofs.dispatching.meet_all.Goals.{then-front-due, else-front-due}

pub walk-head-requires-clause-told : goal.walk-head-requires-clause-told
walk-head-requires-clause-told c =
    let slots = slots_of c.args.queues.now.ready in
    let x = waits_of c.args.waits.now in
    let place = c.in-Some.last.place in
    let low = c.in-Some.ensures.at.low in
    let front = c.in-Some.ensures.due in
    let few = c.in-Some.ensures.few in
    let told = c.requires.told in
    let behind : waits_of c.if-front-due.waits ≡ reached_all (suc place) (drop (suc place) slots) x = elim c.if-front-due.branch [
      | then-front-due w ↦ (
          let test = w.if-front-due.true in
          let within = w.walk_from_tail.ensures.at.low in
          ap waits_of w.waits-is ∙ reaches_others slots x place low front w.walk_from_tail.result.place (c.args.due - (place + 1)) (waits_of w.walk_from_tail.new.waits) (omega arith) w.walk_from_tail.ensures.value (omega arith)
          )
      | else-front-due w ↦ (
          let test = w.if-front-due.false in
          ap waits_of w.waits-is ∙ reaches_nobody slots x place low front (omega arith)
          )
    ] in
    let kept = dues_kept slots x place low front (waits_of c.if-front-due.waits) behind in
    omega arith

pub returns-after-front-due-clause-value : goal.returns-after-front-due-clause-value
returns-after-front-due-clause-value c =
    let slots = slots_of c.args.queues.now.ready in
    let x = waits_of c.args.waits.now in
    let place = c.in-Some.last.place in
    let low = c.in-Some.ensures.at.low in
    let front = c.in-Some.ensures.due in
    let few = c.in-Some.ensures.few in
    let told = c.requires.told in
    let behind : waits_of c.if-front-due.waits ≡ reached_all (suc place) (drop (suc place) slots) x = elim c.if-front-due.branch [
      | then-front-due w ↦ (
          let test = w.if-front-due.true in
          let within = w.walk_from_tail.ensures.at.low in
          ap waits_of w.waits-is ∙ reaches_others slots x place low front w.walk_from_tail.result.place (c.args.due - (place + 1)) (waits_of w.walk_from_tail.new.waits) (omega arith) w.walk_from_tail.ensures.value (omega arith)
          )
      | else-front-due w ↦ (
          let test = w.if-front-due.false in
          ap waits_of w.waits-is ∙ reaches_nobody slots x place low front (omega arith)
          )
    ] in
    reaches_both slots x place low front c.walk-head.result.place (waits_of c.if-front-due.waits) (waits_of c.walk-head.new.waits) behind c.walk-head.ensures.value

pub returns-in-None-clause-value : goal.returns-in-None-clause-value
returns-in-None-clause-value c =
    let within = c.walk_from_tail-in-None.ensures.at.low in
    reaches_all (slots_of c.args.queues.now.ready) (waits_of c.args.waits.now) c.walk_from_tail-in-None.result.place c.args.due (waits_of c.walk_from_tail-in-None.new.waits) (omega arith) c.walk_from_tail-in-None.ensures.value c.requires.told
