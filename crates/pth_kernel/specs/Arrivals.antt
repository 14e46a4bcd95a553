-- How much the entries of a descriptor bring together.
use Rattle.std.specs.Prelude.{◌+◌, true, false, List, length, flat_map, filter_map, sum_by, Some}
use Rattle.std.specs.Option.{option_or}
use Rattle.std.specs.List.{list_any}
use Rattle.pth_kernel.specs.declared.trace.Entry.{Entry}
use Rattle.pth_kernel.specs.declared.trace.Entry.TheVariants as entry
use Rattle.pth_kernel.specs.declared.arrived.Arrived.{Arrived}
use Rattle.pth_kernel.specs.Entries.{bytes_brought, room_brought, connection_brought, settling_brought, is_eof, is_exception, is_failure}
use Rattle.pth_kernel.specs.Kernel.{earliest}

-- what some entries bring
unfoldable pub arrived_of : List Entry → Arrived
arrived_of es = record {
  bytes = length (flat_map bytes_brought es);
  room = sum_by room_brought es;
  connections = length (filter_map connection_brought es);
  settled = earliest (filter_map settling_brought es);
  ended = list_any is_eof es;
  exceptional = list_any is_exception es;
  failed = list_any is_failure es;
}

-- one entry more
abbrev pub with_entry : Entry → Arrived → Arrived
with_entry (entry.Arrive bytes) a = record a { bytes = a.bytes + length bytes }
with_entry entry.Eof a = record a { ended = true }
with_entry (entry.Room n) a = record a { room = a.room + n }
with_entry (entry.Conn g) a = record a { connections = a.connections + 1 }
with_entry entry.Up a = record a { settled = option_or a.settled (Some true) }
with_entry entry.Refuse a = record a { settled = option_or a.settled (Some false) }
with_entry entry.Exc a = record a { exceptional = true }
with_entry entry.Fault a = record a { failed = true }
