use Rattle.std.proofs.Common.{sym, subst}
use Rattle.pth_script.specs.Meaning.{IsScriptOf, IsKernelOf}
use Rattle.pth_text.specs.declared.rule.Breach.TheVariants.{Of}
use Rattle.pth_script.proofs.Runs.{ends_broken, ends_fine, stands, kernel_stands, top_stands}
use Rattle.pth_script.proofs.read.finish.Goals as goal

pub close-requires-clause-closable : goal.close-requires-clause-closable
close-requires-clause-closable c = c.in-Ok.ensures.closed.0

pub returns-in_ok-script-in-Ok : goal.returns-in_ok-script-in-Ok
returns-in_ok-script-in-Ok c = λ text before r.
    let shut = c.in-Ok.ensures.closed in (
      ends_fine c.args.reader before text c.args.line r (c.in-Ok.ensures.first before r.follows),
      subst (λ s. IsScriptOf s text) (sym c.in_ok-script-in-Ok.ensures.0) (stands c.args.reader before text c.args.line r shut.0.handler shut.0.body),
      subst (λ k. IsKernelOf k text) (sym c.in_ok-script-in-Ok.ensures.1) (kernel_stands c.args.reader before text c.args.line r),
      top_stands c.args.reader before text c.args.line r c.in-Ok.top shut.1,
    )

pub returns-in-Err : goal.returns-in-Err
returns-in-Err c = λ text before r. ends_broken c.args.reader before text c.args.line r (Of c.in-Err.rule) (c.in-Err.ensures.first before r.follows)
