use Rattle.pth_numbered.proofs.Slots.{holds, thing_is}
use Rattle.pth_numbered.proofs.numbered.Numbered.get.Goals as goal

pub index-requires : goal.index-requires
index-requires g c = holds _ c.args.s.0 (rw (← c.self.view_is) at c.requires)

pub returns : goal.returns
returns g c = rw (← c.self.view_is) (thing_is _ c.args.s.0 _ c.index.ensures)
