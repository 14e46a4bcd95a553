use Rattle.std.proofs.Common.{◌≡◌, ◌∙◌, sym, subst, MatchOption}
use Rattle.pth_snapshot.specs.Loading.{DifferFirstAt}
use Rattle.pth_snapshot.proofs.Loading.{placed_there, compared}
use Rattle.pth_snapshot.proofs.load.bring.Goals as goal

pub returns-clause-found : goal.returns-clause-found
returns-clause-found g c = λ given st.
    compared g.P.Program.functions given c.in-Ok.place c.arrive.new.machine c.args.snap.now c.in_ok-text.text (sym c.named_place.ensures ∙ c.in-Ok.is)
    (placed_there g.P.Program.functions given c.in-Ok.place c.arrive.new.machine c.in_ok-line.line (sym c.is_some.ensures ∙ c.if-is_some.false) (c.in_ok-line.ensures.placed given st))
    c.in_ok-text.ensures.dumped c.first_difference.result
    (subst (λ text. MatchOption c.first_difference.result (c.args.snap.now ≡ text) (λ n. DifferFirstAt c.args.snap.now text n)) c.as_slice.ensures c.first_difference.ensures)
