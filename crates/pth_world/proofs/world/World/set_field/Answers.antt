use Rattle.pth_world.proofs.SettingValues.{known_frame, field_alive}
use Rattle.pth_world.proofs.world.World.set_field.Goals as goal

pub returns-clause-frame : goal.returns-clause-frame
returns-clause-frame g c = known_frame c.args.self.now c.change.new.self c.args.t.0 c.args.c c.requires.aside c.requires.prio c.requires.whole c.requires.known c.change.ensures.touches c.change.ensures.sound c.change.ensures.threads c.change.ensures.same

pub returns-clause-alive : goal.returns-clause-alive
returns-clause-alive g c = field_alive c.args.self.now.threads c.change.new.self.threads c.args.t.0 c.args.c c.requires.aside c.change.ensures.touches c.change.ensures.threads.slots
