use Rattle.std.proofs.Common.{◌≢◌, [], rules}
use Rattle.std.proofs.lemmas.Result.{on_ok_weaker, on_err_weaker}
use Rattle.pth_base.specs.declared.outcome.Outcome.TheVariants.{Running}
use Rattle.pth_sched.proofs.Parts.{part_halt, part_close, part_step, makes_as, stands_as, cut_as, still_makes}
use Rattle.pth_sched.proofs.schedule.Schedule.part.Goals as goal

pub returns-in_default : goal.returns-in_default
returns-in_default g c =
    let ended : c.args.self.now.turn.outcome ≢ Running = search rules in
    record {
      ok = λ x st right history. makes_as _ _ _ (part_halt g.P.Program.functions _ x st ended) _ _ (still_makes _ x st _);
      stands = λ x st right. stands_as _ _ _ (part_halt g.P.Program.functions _ x st ended) (still_makes _ x st []).stands;
      err = tt;
      going = c.requires.keeps.going;
      ranks = c.requires.keeps.ranks;
      within = λ to on le. le;
    }

pub returns-in-Some-clause-ok : goal.returns-in-Some-clause-ok
returns-in-Some-clause-ok g c =
    on_ok_weaker c.close.result (λ makes x st right history. makes_as _ _ _ (part_close g.P.Program.functions _ x st (search rules) _ (search rules)) _ _ (makes x st)) c.close.ensures.ok

pub returns-in-Some-clause-err : goal.returns-in-Some-clause-err
returns-in-Some-clause-err g c =
    on_err_weaker c.close.result (λ cut x st right. cut_as c.close.new.self _ _ (part_close g.P.Program.functions _ x st (search rules) _ (search rules)) _ _ (cut x st)) c.close.ensures.err

pub returns-in-Some-running-clause-ok : goal.returns-in-Some-running-clause-ok
returns-in-Some-running-clause-ok g c =
    on_ok_weaker c.step.result (λ makes x st right history. makes_as _ _ _ (part_step g.P.Program.functions _ x st (search rules) _ (search rules) (search rules)) _ _ (makes x st (right _))) c.step.ensures.ok

pub returns-in-Some-running-clause-err : goal.returns-in-Some-running-clause-err
returns-in-Some-running-clause-err g c =
    on_err_weaker c.step.result (λ cut x st right. cut_as c.step.new.self _ _ (part_step g.P.Program.functions _ x st (search rules) _ (search rules) (search rules)) _ _ (cut x st (right _))) c.step.ensures.err

pub returns-clause-ok : goal.returns-clause-ok
returns-clause-ok g c = on_ok_weaker c.take_or_move.result (λ makes x st right history. makes x st history) c.take_or_move.ensures.ok

pub returns-clause-stands : goal.returns-clause-stands
returns-clause-stands g c = on_ok_weaker c.take_or_move.result (λ stands x st right. stands x st) c.take_or_move.ensures.stands

pub returns-in-Some-clause-stands : goal.returns-in-Some-clause-stands
returns-in-Some-clause-stands g c =
    on_ok_weaker c.close.result (λ makes x st right. stands_as _ _ _ (part_close g.P.Program.functions _ x st (search rules) _ (search rules)) (makes x st).stands) c.close.ensures.ok

pub returns-in-Some-running-clause-stands : goal.returns-in-Some-running-clause-stands
returns-in-Some-running-clause-stands g c =
    on_ok_weaker c.step.result (λ makes x st right. stands_as _ _ _ (part_step g.P.Program.functions _ x st (search rules) _ (search rules) (search rules)) (makes x st (right _)).stands) c.step.ensures.ok

pub returns-clause-err : goal.returns-clause-err
returns-clause-err g c = on_err_weaker c.take_or_move.result (λ cut x st right. cut x st) c.take_or_move.ensures.err
