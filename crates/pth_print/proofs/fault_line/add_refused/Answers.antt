use Rattle.std.proofs.Common.{◌++◌, ◌∙◌, ap, codes, decimal}
use Rattle.std.proofs.lemmas.Result.{err_from_is_err_and, on_err_weaker}
use Rattle.pth_print.specs.FaultLines.{flaw_name}
use Rattle.pth_base.proofs.Cuts.{cut_none}
use Rattle.pth_print.proofs.Cuts.{adds_cut, adds_then}
use Rattle.pth_print.proofs.fault_line.add_refused.Goals as goal

pub returns-in_err-natural : goal.returns-in_err-natural
returns-in_err-natural c =
    let p = err_from_is_err_and c.from_residual-in_err-natural.result c.from_residual-in_err-natural.ensures.1 in
    let after = codes ": " ++ (flaw_name c.args.flaw ++ codes "\n") in
    adds_then c.args.out.now c.push.new.self c.natural.new.self (codes ": line ") (decimal c.args.line ++ after) _ c.in_ok-push.ensures.ok
    (adds_cut c.push.new.self c.natural.new.self (decimal c.args.line) after _ p.0 p.1 (cut_none _ _ _ c.in_err-natural.ensures.err))

pub returns-in_err-push-2 : goal.returns-in_err-push-2
returns-in_err-push-2 c =
    let p = err_from_is_err_and c.from_residual-in_err-push-2.result c.from_residual-in_err-push-2.ensures.1 in
    let named = flaw_name c.args.flaw ++ codes "\n" in
    adds_then c.args.out.now c.push.new.self c.push-2.new.self (codes ": line ") (decimal c.args.line ++ (codes ": " ++ named)) _ c.in_ok-push.ensures.ok
    (adds_then c.push.new.self c.natural.new.self c.push-2.new.self (decimal c.args.line) (codes ": " ++ named) _ c.in_ok-natural.ensures.ok
    (adds_cut c.natural.new.self c.push-2.new.self (codes ": ") named _ p.0 p.1 (cut_none _ _ _ c.in_err-push-2.ensures.err)))

pub returns-in_err-push-3 : goal.returns-in_err-push-3
returns-in_err-push-3 c =
    let p = err_from_is_err_and c.from_residual-in_err-push-3.result c.from_residual-in_err-push-3.ensures.1 in
    let name = flaw_name c.args.flaw in
    adds_then c.args.out.now c.push.new.self c.push-3.new.self (codes ": line ") (decimal c.args.line ++ (codes ": " ++ (name ++ codes "\n"))) _ c.in_ok-push.ensures.ok
    (adds_then c.push.new.self c.natural.new.self c.push-3.new.self (decimal c.args.line) (codes ": " ++ (name ++ codes "\n")) _ c.in_ok-natural.ensures.ok
    (adds_then c.natural.new.self c.push-2.new.self c.push-3.new.self (codes ": ") (name ++ codes "\n") _ c.in_ok-push-2.ensures.ok
    (adds_cut c.push-2.new.self c.push-3.new.self name (codes "\n") _ p.0 p.1 (cut_none _ _ _ c.in_err-push-3.ensures.err))))

pub returns : goal.returns
returns c =
    let name = flaw_name c.args.flaw in
    adds_then c.args.out.now c.push.new.self c.push-4.new.self (codes ": line ") (decimal c.args.line ++ (codes ": " ++ (name ++ codes "\n"))) _ c.in_ok-push.ensures.ok
    (adds_then c.push.new.self c.natural.new.self c.push-4.new.self (decimal c.args.line) (codes ": " ++ (name ++ codes "\n")) _ c.in_ok-natural.ensures.ok
    (adds_then c.natural.new.self c.push-2.new.self c.push-4.new.self (codes ": ") (name ++ codes "\n") _ c.in_ok-push-2.ensures.ok
    (adds_then c.push-2.new.self c.push-3.new.self c.push-4.new.self name (codes "\n") _ (c.in_ok-push-3.ensures.ok ∙ ap (λ t. c.push-2.new.self ++ t) c.flaw_name.ensures)
    (record { ok = c.push-4.ensures.ok; err = on_err_weaker c.push-4.result (λ e. cut_none _ _ _ e) c.push-4.ensures.err }))))
