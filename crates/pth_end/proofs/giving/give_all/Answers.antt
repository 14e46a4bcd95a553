use Rattle.std.proofs.Common.{ap, arith}
use Rattle.std.proofs.lemmas.Result.{err_from_is_err_and, on_ok_weaker, on_err_weaker}
use Rattle.pth_model.specs.Ending.{gives_mutexes, gives_locks}
use Rattle.pth_model.specs.Store.{Store}
use Rattle.pth_end.proofs.Handled.{handled_stored, handled_then}
use Rattle.pth_end.proofs.Chains.{leads_then, cut_one, cut_second}
use Rattle.pth_end.proofs.Sweeping.{mutexes_cut, mutexes_lead, locks_cut, locks_lead}
use Rattle.pth_end.proofs.giving.give_all.Goals as goal

pub returns-in_err-tell_given-clause-goes : goal.returns-in_err-tell_given-clause-goes
returns-in_err-tell_given-clause-goes g c =
    let p = err_from_is_err_and c.from_residual.result c.from_residual.ensures.1 in
    rw p.1 (record {
      leads = tt;
      cut = λ s st. cut_one s (gives_mutexes c.args.t.0) (gives_locks c.args.t.0) _ _
          (mutexes_cut c.args.t.0 c.args.w.now c.release_mutexes-mutexes.new.self s st c.release_mutexes-mutexes.result (omega arith) _ _ c.release_mutexes-mutexes.ensures.had c.in_err-tell_given.ensures.err);
    })

pub returns-clause-goes : goal.returns-clause-goes
returns-clause-goes g c =
    let t = c.args.t.0 in
    let m = c.release_mutexes-mutexes in
    let l = c.release_locks-locks in
    record {
      leads = on_ok_weaker c.tell_given-2.result (λ told s st.
          let first = mutexes_lead t c.args.w.now m.new.self s st m.result (omega arith) _ _ m.ensures.had m.ensures.changes (m.ensures.keeps.shows s.control st.control) c.in_ok-tell_given.ensures.ok in
          let s2 = (gives_mutexes t s).state in
          let second = locks_lead t m.new.self l.new.self s2 first.stands l.result (omega arith) _ _ l.ensures.held l.ensures.changes (l.ensures.keeps.shows s2.control first.stands.control) told in
          leads_then m.new.self l.new.self s (gives_mutexes t) (gives_locks t) _ _ _ first second) c.tell_given-2.ensures.ok;
      cut = on_err_weaker c.tell_given-2.result (λ cut s st.
          let first = mutexes_lead t c.args.w.now m.new.self s st m.result (omega arith) _ _ m.ensures.had m.ensures.changes (m.ensures.keeps.shows s.control st.control) c.in_ok-tell_given.ensures.ok in
          let s2 = (gives_mutexes t s).state in
          cut_second m.new.self s (gives_mutexes t) (gives_locks t) _ _ _ first
          (locks_cut t m.new.self l.new.self s2 first.stands l.result (omega arith) _ _ l.ensures.held cut)) c.tell_given-2.ensures.err;
    }

pub returns-clause-handled : goal.returns-clause-handled
returns-clause-handled g c =
    let m = c.release_mutexes-mutexes in
    let l = c.release_locks-locks in
    let first = handled_stored c.args.w.now m.new.self c.requires.whole m.ensures.keeps (ap (λ (x : Store). x.cleanups) m.ensures.changes) in
    let second = handled_stored m.new.self l.new.self first.whole l.ensures.keeps (ap (λ (x : Store). x.cleanups) l.ensures.changes) in
    on_ok_weaker c.tell_given-2.result (λ told. handled_then _ _ _ first second) c.tell_given-2.ensures.ok
