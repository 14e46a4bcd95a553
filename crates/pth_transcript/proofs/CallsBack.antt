-- The words of each call are read as that call.
use Rattle.std.proofs.Common.{refl}
use Rattle.pth_base.specs.declared.attr.AttrField.TheVariants as field
use Rattle.pth_base.specs.declared.attr.AttrValue.TheVariants as value
use Rattle.pth_base.specs.declared.call.Call.{Call}
use Rattle.pth_base.specs.declared.call.Call.TheVariants as call
use Rattle.pth_base.specs.declared.event.EvLine.TheVariants as line
use Rattle.pth_base.specs.declared.query.Query.TheVariants as query
use Rattle.pth_spelling.specs.declared.keyword.NewEventWord.TheVariants as new_events
use Rattle.pth_spelling.specs.declared.keyword.QueryWord.TheVariants as queries
use Rattle.pth_transcript.specs.Readable.{IsReadable}
use Rattle.pth_transcript.proofs.Scripted.{IsRead, Replied, Written, WrittenEv}
use Rattle.pth_transcript.proofs.Spelled.{spelled}
use Rattle.pth_transcript.proofs.WordsBack.{field_back, query_back, event_back}

pub back : (c : Call) → IsReadable c → IsRead c
back (call.Ctrl query.Threads) fine = spelled (call.Ctrl query.Threads) refl refl (refl, refl, refl) (rw (query_back queries.Threads) refl) fine
back (call.Ctrl query.New) fine = spelled (call.Ctrl query.New) refl refl (refl, refl, refl) (rw (query_back queries.New) refl) fine
back (call.Ctrl query.Ready) fine = spelled (call.Ctrl query.Ready) refl refl (refl, refl, refl) (rw (query_back queries.Ready) refl) fine
back (call.Ctrl query.Running) fine = spelled (call.Ctrl query.Running) refl refl (refl, refl, refl) (rw (query_back queries.Running) refl) fine
back (call.Ctrl query.Waiting) fine = spelled (call.Ctrl query.Waiting) refl refl (refl, refl, refl) (rw (query_back queries.Waiting) refl) fine
back (call.Ctrl query.Suspended) fine = spelled (call.Ctrl query.Suspended) refl refl (refl, refl, refl) (rw (query_back queries.Suspended) refl) fine
back (call.Ctrl query.Dead) fine = spelled (call.Ctrl query.Dead) refl refl (refl, refl, refl) (rw (query_back queries.Dead) refl) fine
back (call.Ctrl (query.Favournew t)) fine = spelled (call.Ctrl (query.Favournew t)) refl refl (refl, refl, refl) (rw (query_back queries.Favournew) refl) fine
back (call.Ctrl (query.Prio t)) fine = spelled (call.Ctrl (query.Prio t)) refl refl (refl, refl, refl) (rw (query_back queries.Prio) refl) fine
back (call.Ctrl (query.Name t)) fine = spelled (call.Ctrl (query.Name t)) refl refl (refl, refl, refl) (rw (query_back queries.Name) refl) fine
back (call.AttrSet a (value.Prio v)) fine = spelled (call.AttrSet a (value.Prio v)) refl refl (refl, refl, refl) (rw (field_back field.Prio) refl) fine
back (call.AttrSet a (value.Name v)) fine = spelled (call.AttrSet a (value.Name v)) refl refl (refl, refl, refl) (rw (field_back field.Name) refl) fine
back (call.AttrSet a (value.Joinable v)) fine = spelled (call.AttrSet a (value.Joinable v)) refl refl (refl, refl, refl) (rw (field_back field.Joinable) refl) fine
back (call.AttrSet a (value.Cancel v)) fine = spelled (call.AttrSet a (value.Cancel v)) refl refl (refl, refl, refl) (rw (field_back field.Cancel) refl) fine
back (call.AttrSet a (value.Dispatches v)) fine = spelled (call.AttrSet a (value.Dispatches v)) refl refl (refl, refl, refl) (rw (field_back field.Dispatches) refl) fine
back (call.AttrSet a (value.State v)) fine = spelled (call.AttrSet a (value.State v)) refl refl (refl, refl, refl) (rw (field_back field.State) refl) fine
back (call.AttrSet a (value.Bound v)) fine = spelled (call.AttrSet a (value.Bound v)) refl refl (refl, refl, refl) (rw (field_back field.Bound) refl) fine
back (call.Chain e (line.Fd goals fd)) fine = spelled (call.Chain e (line.Fd goals fd)) refl refl (refl, refl, refl) (rw (event_back new_events.Fd) refl) fine
back (call.Chain e (line.Select r w x)) fine = spelled (call.Chain e (line.Select r w x)) refl refl (refl, refl, refl) (rw (event_back new_events.Select) refl) fine
back (call.Chain e (line.Time x)) fine = spelled (call.Chain e (line.Time x)) refl refl (refl, refl, refl) (rw (event_back new_events.Time) refl) fine
back (call.Chain e (line.Msg x)) fine = spelled (call.Chain e (line.Msg x)) refl refl (refl, refl, refl) (rw (event_back new_events.Msg) refl) fine
back (call.Chain e (line.Cond x)) fine = spelled (call.Chain e (line.Cond x)) refl refl (refl, refl, refl) (rw (event_back new_events.Cond) refl) fine
back (call.Chain e (line.Tid state tid)) fine = spelled (call.Chain e (line.Tid state tid)) refl refl (refl, refl, refl) (rw (event_back new_events.Tid) refl) fine
back (call.Chain e (line.Func check given interval)) fine = spelled (call.Chain e (line.Func check given interval)) refl refl (refl, refl, refl) (rw (event_back new_events.Func) refl) fine
back (call.Reply m v) fine = Replied m v fine.0 fine.1.0 refl
back (call.Write f bytes) fine = Written f bytes fine.0 fine.1.0 refl
back (call.WriteEv f bytes e) fine = WrittenEv f bytes e fine.0 fine.1.0 fine.1.1.0 refl
back call.Plain fine = absurd fine
back (call.Note v) fine = absurd fine
back c fine = spelled c refl refl (refl, refl, refl) refl fine
