use Rattle.pth_snapshot.proofs.Sizes.{both, entry_few}
use Rattle.pth_snapshot.proofs.thread_row.add_thread.Goals as goal

pub returns-in-Some-clause-few : goal.returns-in-Some-clause-few
returns-in-Some-clause-few g c =
    both c.add_entry.result c.add_entry.ensures.row c.add_entry.ensures.short
    (λ row short. entry_few c.args.out.now c.add_entry.new.out c.in-Some.entry.now.tid.0 c.in-Some.entry.now c.place.result row short)
