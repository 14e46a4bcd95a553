use Rattle.std.proofs.Common.{◌+◌, ◌∷◌, [], Some, map, option_map, sym, ap, ◌∙◌, subst}
use Rattle.std.proofs.lemmas.List.{map-append}
use Rattle.pth_threads.specs.Threads.{number_of}
use Rattle.pth_audit.specs.Blocking.{blocks_on}
use Rattle.pth_audit.proofs.Circles.{IsGoneAlong, gone_none, gone_more, goes_on}
use Rattle.pth_audit.proofs.cycle.along.Goals as goal

pub loop-init : goal.loop-init
loop-init g c = λ s st back.
    subst (λ ts. IsGoneAlong (blocks_on s) c.args.steps c.args.t.0 0 (map number_of ts) (Some c.args.t.0)) (sym c.new-tids.ensures) (gone_none (blocks_on s) c.args.steps c.args.t.0 back)

pub returns-in-None : goal.returns-in-None
returns-in-None g c = λ s st back.
    absurd (goes_on (blocks_on s) c.args.steps c.args.t.0 c.loop.counter c.loop.at.0 back c.loop-test.true (sym (c.loop.invariant s st back).here) (sym (c.blocks_on.ensures s st) ∙ ap (option_map number_of) c.in-None.is))

pub loop-preserved : goal.loop-preserved
loop-preserved g c = λ s st back.
    let so_far = c.loop.invariant s st back in
    let next = sym (ap (option_map number_of) c.in-Some.is) ∙ c.blocks_on.ensures s st in
    let more = gone_more (blocks_on s) c.args.steps c.args.t.0 back c.loop.counter c.loop.at.0 (map number_of c.loop.tids) (Some c.in-Some.next.0) next so_far in
    subst (λ ts. IsGoneAlong (blocks_on s) c.args.steps c.args.t.0 (c.loop.counter + 1) ts (Some c.in-Some.next.0)) (sym (ap (map number_of) c.in_ok-push.ensures ∙ map-append number_of c.loop.tids (c.loop.at ∷ []))) more
