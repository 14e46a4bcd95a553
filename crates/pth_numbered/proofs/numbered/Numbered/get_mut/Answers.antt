use Rattle.std.proofs.Common.{refl}
use Rattle.pth_numbered.proofs.Slots.{holds, thing_is, written, changes, kept_changed}
use Rattle.pth_numbered.proofs.numbered.Numbered.get_mut.Goals as goal

pub index_mut-requires : goal.index_mut-requires
index_mut-requires g c = holds _ c.args.s.0 (rw (← c.self.view_is) at c.requires)

pub invariant_of-self-lent : goal.invariant_of-self-lent
invariant_of-self-lent g c w = kept_changed _ c.args.s.0 _ w c.self.invariant c.index_mut.ensures.value

pub returns : goal.returns
returns g c = (
  (refl, λ w. rw (← c.self.view_is) (written _ c.args.s.0 _ w c.self.invariant c.index_mut.ensures.value)),
  record {
    writes_back = tt;
    value = rw (← c.self.view_is) (thing_is _ c.args.s.0 _ c.index_mut.ensures.value);
    changes = λ w. rw (← c.self.view_is) (changes _ c.args.s.0 _ w c.self.invariant c.index_mut.ensures.value);
  },
)
