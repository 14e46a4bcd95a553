use Rattle.std.proofs.Common.{◌≡◌, ◌∙◌, ℕ, List, ◌++◌, sym, ap, append-nil, arith, rules}
use Rattle.std.proofs.lemmas.Result.{err_from_is_err_and, on_ok_weaker, on_err_weaker}
use Rattle.pth_base.proofs.Cuts.{cut_none}
use Rattle.pth_base.specs.declared.mark.Mark.{Mark}
use Rattle.pth_lock.proofs.Bits.{contains-zero}
use Rattle.pth_lock.specs.Sets.{contains}
use Rattle.pth_end.proofs.Sweeping.{none_given, given_cut, given_then}
use Rattle.pth_end.proofs.giving.+tell_given.Goals as goal

pub returns-then-set-eq0-clause-ok : goal.returns-then-set-eq0-clause-ok
returns-then-set-eq0-clause-ok t c =
    let empty : c.args.set ≡ 0 = search rules in
    sym (ap (λ (xs : List Mark). c.args.marks.now ++ xs) (none_given c.args.held c.args.t (contains c.args.set) (λ k. ap (λ (n : ℕ). contains n k) empty ∙ contains-zero k)) ∙ append-nil c.args.marks.now)

pub returns-in_err-push-clause-err : goal.returns-in_err-push-clause-err
returns-in_err-push-clause-err t c =
    let p = err_from_is_err_and c.from_residual.result c.from_residual.ensures.1 in
    rw p.1 (cut_none _ _ _ c.in_err-push.ensures.err)

pub tell_given-requires : goal.tell_given-requires
tell_given-requires t c = let less = c.without.ensures.less c.first-k.ensures.member in (omega (arith, less), tt)

pub returns-clause-ok : goal.returns-clause-ok
returns-clause-ok t c = on_ok_weaker c.tell_given.result (given_then c.args.held c.args.t (contains c.args.set) (contains c.without.result) c.first-k.result c.first-k.ensures.low c.first-k.ensures.member c.first-k.ensures.least c.without.ensures.objects c.given.result c.given.ensures c.args.marks.now c.push.new.self c.tell_given.new.marks c.in_ok-push.ensures.ok) c.tell_given.ensures.ok

pub returns-clause-err : goal.returns-clause-err
returns-clause-err t c = on_err_weaker c.tell_given.result (given_cut c.args.held c.args.t (contains c.args.set) (contains c.without.result) c.first-k.result c.first-k.ensures.low c.first-k.ensures.member c.first-k.ensures.least c.without.ensures.objects c.given.result c.given.ensures c.args.marks.now c.push.new.self c.tell_given.new.marks c.in_ok-push.ensures.ok) c.tell_given.ensures.err
