use Rattle.std.proofs.Common.{◌+◌, refl, ◌∙◌, ap, ap₂, ℕ}
use Rattle.pth_base.specs.Table.{put}
use Rattle.pth_ring.proofs.Entries.{number-new, is-made}
use Rattle.pth_ring.proofs.Writes.{places_then}
use Rattle.pth_ring.proofs.links.insert_alone.Goals as goal

pub set_next-requires-clause-e : goal.set_next-requires-clause-e
set_next-requires-clause-e c = number-new c.args.nodes.now c.add.new.self c.in_ok-slot.slot.0 _ c.in_ok-slot.ensures.ok

pub set_next-requires-clause-to : goal.set_next-requires-clause-to
set_next-requires-clause-to c = set_next-requires-clause-e c

pub set_prev-requires-clause-e : goal.set_prev-requires-clause-e
set_prev-requires-clause-e c = rw c.set_next.ensures.places.numbers (number-new c.args.nodes.now c.add.new.self c.in_ok-slot.slot.0 _ c.in_ok-slot.ensures.ok)

pub set_prev-requires-clause-to : goal.set_prev-requires-clause-to
set_prev-requires-clause-to c = set_prev-requires-clause-e c

pub returns-clause-ok : goal.returns-clause-ok
returns-clause-ok c =
    let u = c.in_ok-slot.slot.0 in
    let a = c.set_next.ensures in
    let b = c.set_prev.ensures in
    is-made c.args.nodes.now c.add.new.self c.set_prev.new.nodes u _ c.args.spec c.requires.kept c.in_ok-slot.ensures.kept c.in_ok-slot.ensures.ok (ap (λ (n : ℕ). n + 1) c.made.ensures.value) refl
    (places_then _ _ _ a.places b.places)
    (b.next ∙ a.next)
    (b.prev ∙ ap (λ (f : ℕ → ℕ). put f u u) a.prev)
    (b.next_id ∙ a.next_id)
    (b.prev_id ∙ ap₂ (λ (f : ℕ → ℕ) (j : ℕ). put f u j) a.prev_id (ap (λ (f : ℕ → ℕ). f u) a.places.ids))
    (b.event ∙ a.event)
