use Rattle.std.proofs.Common.{Result, Ok, Err, IfOk, OnOk}
use Rattle.pth_waits.proofs.IoCalls.{io_tries}
use Rattle.pth_waits.proofs.io.io_again.Goals as goal

-- what follows from two facts of what there is
both_ok : {A E Q : Type 0} (r : Result A E) (F G : A → Type 0) → ((x : A) → F x → Q → G x) → IfOk r F → OnOk r Q → IfOk r G
both_ok (Ok x) F G follows f q = follows x f q
both_ok (Err e) F G follows f q = tt

pub returns-clause-tries : goal.returns-clause-tries
returns-clause-tries g c =
    both_ok c.try_awaited.result _ _ (λ x verdict after call some may.
    io_tries g.P.Program.functions c.args.w.now c.requires.whole c.try_awaited.new.k c.args.t.0 call c.args.awaits may x verdict after some)
    (rw c.kernel_mut.ensures.value at c.try_awaited.ensures.verdict) (rw c.kernel_mut.ensures.value at c.try_awaited.ensures.after)
