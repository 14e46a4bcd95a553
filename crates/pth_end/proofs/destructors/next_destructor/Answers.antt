use Rattle.std.proofs.Common.{◌≡◌, ◌∙◌, nat_lt, true, false, sym, arith}
use Rattle.std.proofs.lemmas.Bool.Decides.{nat_tests}
use Rattle.pth_model.specs.Ending.{round_limit}
use Rattle.pth_world.proofs.Stores.{alive_known}
use Rattle.pth_world.specs.Store.{store_of}
use Rattle.pth_end.proofs.Dues.{due_now, none_due, none_owed, due_next}
use Rattle.pth_end.proofs.destructors.next_destructor.Goals as goal

pub first_owed-requires : goal.first_owed-requires
first_owed-requires g c = alive_known c.args.w.now.threads c.args.t.0 c.requires.alive

pub first_owed-requires-2 : goal.first_owed-requires-2
first_owed-requires-2 g c = alive_known c.args.w.now.threads c.args.t.0 c.requires.alive

pub returns-in-Some-clause-next : goal.returns-in-Some-clause-next
returns-in-Some-clause-next g c = due_now (store_of c.args.w.now.store).keys c.args.t.0 c.args.round c.in-Some.owed c.due.result c.due.ensures (sym c.first_owed.ensures ∙ c.in-Some.is)

pub returns-then-round-eq-MOST_ROUNDS-clause-next : goal.returns-then-round-eq-MOST_ROUNDS-clause-next
returns-then-round-eq-MOST_ROUNDS-clause-next g c =
    let last : nat_lt c.args.round.number round_limit ≡ false = grind (arith, nat_tests) in
    none_due (store_of c.args.w.now.store).keys c.args.t.0 c.args.round (sym c.first_owed.ensures ∙ c.in_default.is) last

pub returns-in_err-owed-clause-next : goal.returns-in_err-owed-clause-next
returns-in_err-owed-clause-next g c =
    let none = c.from_residual.ensures in
    rw none (none_owed (store_of c.args.w.now.store).keys c.args.t.0 c.args.round (sym c.first_owed.ensures ∙ c.in_default.is) (sym c.first_owed-2.ensures ∙ c.in_err-owed.was))

pub returns-clause-next : goal.returns-clause-next
returns-clause-next g c =
    let more : nat_lt c.args.round.number round_limit ≡ true = grind (arith, nat_tests) in
    due_next (store_of c.args.w.now.store).keys c.args.t.0 c.args.round c.in_ok-owed.owed c.due-2.result c.due-2.ensures (sym c.first_owed.ensures ∙ c.in_default.is) more (sym c.first_owed-2.ensures ∙ c.in_ok-owed.was)
