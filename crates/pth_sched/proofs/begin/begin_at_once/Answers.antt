use Rattle.std.proofs.Common.{refl, sym}
use Rattle.std.proofs.lemmas.List.{append-nil}
use Rattle.pth_model.specs.Calls.{begun}
use Rattle.pth_sched.proofs.begin.begin_at_once.Goals as goal

pub returns-in-Plain-clause-goes : goal.returns-in-Plain-clause-goes
unfolding begun
returns-in-Plain-clause-goes g c = record { next = λ s st. rw c.in-Plain.is refl; leads = λ s st. rw c.in-Plain.is (record { stands = st; tells = sym (append-nil _) }); cut = tt }

pub begin_told-requires-clause-not_plain : goal.begin_told-requires-clause-not_plain
begin_told-requires-clause-not_plain g c = c.in_default.not-Plain

pub begin_told-requires-clause-no_yield : goal.begin_told-requires-clause-no_yield
begin_told-requires-clause-no_yield g c = c.in_default.not-Yield
