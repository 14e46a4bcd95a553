use Rattle.std.proofs.Common.{◌∙◌, ap, Some, ℕ}
use Rattle.pth_numbered.specs.Numbered.{thing_at}
use Rattle.pth_ring.proofs.Shown.{live}
use Rattle.pth_ring.proofs.Asked.{first-next, first-prev}
use Rattle.pth_ring.proofs.rounds.find_from.Goals as goal

pub returns-in-false-true : goal.returns-in-false-true
returns-in-false-true c = rw (c.in-false-true.is-0, c.in-false-true.is-1) (ap (λ (w : ℕ). Some w) c.next_of.ensures ∙ first-next (thing_at c.args.nodes.now) c.args.e.0 c.requires.kept.linked (live c.args.nodes.now c.requires.kept c.args.e.0 c.requires.used))

pub returns-in-false-false : goal.returns-in-false-false
returns-in-false-false c = rw (c.in-false-false.is-0, c.in-false-false.is-1) (ap (λ (w : ℕ). Some w) c.prev_of.ensures ∙ first-prev (thing_at c.args.nodes.now) c.args.e.0 c.requires.kept.linked (live c.args.nodes.now c.requires.kept c.args.e.0 c.requires.used))
