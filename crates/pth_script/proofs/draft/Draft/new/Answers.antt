use Rattle.pth_script.proofs.Starting.{IsBlank, starts_seen, starts_kept, starts_making}
use Rattle.pth_script.proofs.draft.Draft.new.Goals as goal

pub returns-clause-seen : goal.returns-clause-seen
returns-clause-seen c =
    let k = c.new-6.result in
    let e = c.new-6.ensures in
    let blank : IsBlank k = record { clock = e.clock; next_open = e.next_open; live = e.live; trace = e.trace; kept = e.kept } in
    starts_seen c.new.result.items c.new-2.result.items c.new-3.result.items c.new-4.result c.new-5.result k c.new.ensures.items c.new-2.ensures.items c.new-3.ensures.items c.new-4.ensures c.new-5.ensures blank

pub returns-clause-kept : goal.returns-clause-kept
returns-clause-kept c =
    let k = c.new-6.result in
    let e = c.new-6.ensures in
    let blank : IsBlank k = record { clock = e.clock; next_open = e.next_open; live = e.live; trace = e.trace; kept = e.kept } in
    starts_kept c.new.result.items c.new-2.result.items c.new-3.result.items c.new-4.result c.new-5.result k c.new.ensures.items c.new-2.ensures.items c.new-3.ensures.items c.new-4.ensures c.new-5.ensures blank

pub returns-clause-makes : goal.returns-clause-makes
returns-clause-makes c =
    let k = c.new-6.result in
    let e = c.new-6.ensures in
    let blank : IsBlank k = record { clock = e.clock; next_open = e.next_open; live = e.live; trace = e.trace; kept = e.kept } in
    starts_making c.new.result.items c.new-2.result.items c.new-3.result.items c.new-4.result c.new-5.result k c.new.ensures.items c.new-2.ensures.items c.new-3.ensures.items c.new-4.ensures c.new-5.ensures blank
