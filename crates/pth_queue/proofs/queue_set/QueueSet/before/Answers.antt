use Rattle.std.proofs.Common.{◌≡◌, ◌∙◌, refl, sym, ap, ℕ, List, Option, Some, None, IsSome, option_map}
use Rattle.pth_base.specs.declared.ids.Slot.{Slot}
use Rattle.pth_queue.specs.declared.node.Node.{Node}
use Rattle.pth_queue.specs.declared.queue.Queue.{Queue}
use Rattle.pth_queue.specs.declared.arena.ArenaNode.{ArenaNode}
use Rattle.pth_queue.specs.Nodes.{prev_of}
use Rattle.pth_queue.specs.Queues.{QueuesOf, queue_of}
use Rattle.pth_queue.specs.Arena.{HasArenaNode, arena_node_at, home_at, node_if, IsArena, queues_of}
use Rattle.pth_queue.proofs.Homes.{home-is}
use Rattle.pth_queue.proofs.Noding.{node-is}
use Rattle.pth_queue.proofs.Spelling.{within}
use Rattle.pth_queue.proofs.queue_set.QueueSet.before.Goals as goal

-- the slot has a home
housed : {top : ℕ} (bs : List ArenaNode) (heads : List (Option Slot)) (v : QueuesOf) (s : ℕ) → IsArena top bs heads → queues_of top bs heads ≡ v → IsSome (queue_of s v) → IsSome (home_at bs s)
housed {top = top} bs heads v s a e h = rw (home-is bs heads s a ∙ ap (queue_of s) e) h

low : (bs : List ArenaNode) (s : ℕ) (o : Option Queue) → home_at bs s ≡ o → IsSome o → HasArenaNode s bs
low bs s None e h = cc
low bs s (Some q) e h = within bs s q e

kept : (o : Option Queue) (node : Node) → IsSome o → option_map (λ (n : Node). n.prev.0) (node_if o node) ≡ Some node.prev.0
kept None node h = cc
kept (Some q) node h = refl

pub prev_of-requires : goal.prev_of-requires
prev_of-requires c = low _ c.args.s.0 _ refl (housed c.self.inside.arena.items c.self.inside.heads c.args.self.now c.args.s.0 c.self.invariant c.self.view_is c.requires)

pub returns : goal.returns
returns c =
    ap (prev_of c.args.s.0) (sym c.self.view_is)
    ∙ ap (option_map (λ (n : Node). n.prev.0)) (sym (node-is c.self.inside.arena.items c.self.inside.heads c.args.s.0 c.self.invariant))
    ∙ kept (home_at c.self.inside.arena.items c.args.s.0) (arena_node_at c.self.inside.arena.items c.args.s.0).node (housed c.self.inside.arena.items c.self.inside.heads c.args.self.now c.args.s.0 c.self.invariant c.self.view_is c.requires)
    ∙ ap Some (sym c.prev_of.ensures)
