use Rattle.std.proofs.Common.{◌<◌, ◌∙◌, sym, arith}
use Rattle.pth_sched.proofs.QuiescentWorlds.{pass_leads_nowhere, dormant_stays_quiescent}
use Rattle.pth_sched.proofs.passes.pass_unless_quiescent.Goals as goal

pub returns-then-not-is_alone-clause-goes : goal.returns-then-not-is_alone-clause-goes
returns-then-not-is_alone-clause-goes g c = record {
  leads = λ s st.
      let w = c.args.w.now in
      let until = c.known_until-until.result in
      let early : w.kernel.now < until = omega (arith, c.time.ensures.now, c.if-time-until.true) in
      let some : 0 < until = omega (arith, c.if-time-until.true) in
      pass_leads_nowhere w g.P.Program.functions s st c.requires.whole until early (c.known_until-until.ensures.dormant s st some) (sym (c.is_alone.ensures s.control st.control) ∙ c.if-not-is_alone.true) c.args.marks.now;
  cut = tt;
}

pub returns-then-not-is_alone-clause-quiescence : goal.returns-then-not-is_alone-clause-quiescence
returns-then-not-is_alone-clause-quiescence g c = λ some. dormant_stays_quiescent c.args.w.now c.known_until-until.result c.requires.whole (λ s st. c.known_until-until.ensures.dormant s st some)
