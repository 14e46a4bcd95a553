-- The fields of a channel as one value.
use Rattle.std.specs.Prelude.{map}
use Rattle.pth_base.specs.declared.ids.Fd.{Fd}
use Rattle.pth_kernel.specs.declared.channel.Channel.TheInside.{Inside}
use Rattle.pth_kernel.specs.Channels.{ChannelOf}

abbrev pub channel_of : Inside → ChannelOf
channel_of c = record {
  bytes = c.bytes.items;
  connections = map (λ (g : Fd). g.0) c.connections.items;
  arrived = c.arrived;
  used = record { live = c.live; taken = c.taken; given = c.given; accepted = c.accepted; mode = c.mode };
}
