use Rattle.std.proofs.Common.{◌∙◌, sym}
use Rattle.std.proofs.lemmas.Result.{on_ok_weaker, on_err_weaker}
use Rattle.pth_sched.proofs.Parts.{part_take, part_move, makes_as, stands_as, cut_as}
use Rattle.pth_sched.proofs.schedule.Schedule.take_or_move.Goals as goal

pub returns-then-is_idle-clause-ok : goal.returns-then-is_idle-clause-ok
returns-then-is_idle-clause-ok g c =
    on_ok_weaker c.move_on.result (λ makes x st history. makes_as _ _ _ (part_move g.P.Program.functions _ x st c.requires.goes c.requires.over c.requires.nobody (sym (c.is_idle.ensures.idle x.state.control st.world.control) ∙ c.if-is_idle.true)) _ _ (makes x st)) c.move_on.ensures.ok

pub returns-then-is_idle-clause-err : goal.returns-then-is_idle-clause-err
returns-then-is_idle-clause-err g c =
    on_err_weaker c.move_on.result (λ cut x st. cut_as c.move_on.new.self _ _ (part_move g.P.Program.functions _ x st c.requires.goes c.requires.over c.requires.nobody (sym (c.is_idle.ensures.idle x.state.control st.world.control) ∙ c.if-is_idle.true)) _ _ (cut x st)) c.move_on.ensures.err

pub returns-then-is_idle-clause-going : goal.returns-then-is_idle-clause-going
returns-then-is_idle-clause-going g c = on_ok_weaker c.move_on.result (λ keeps. keeps.going) c.move_on.ensures.keeps

pub returns-then-is_idle-clause-ranks : goal.returns-then-is_idle-clause-ranks
returns-then-is_idle-clause-ranks g c = on_ok_weaker c.move_on.result (λ keeps. keeps.ranks) c.move_on.ensures.keeps

pub returns-clause-ok : goal.returns-clause-ok
returns-clause-ok g c =
    on_ok_weaker c.take.result (λ makes x st history. makes_as _ _ _ (part_take g.P.Program.functions _ x st c.requires.goes c.requires.over c.requires.nobody (sym (c.is_idle.ensures.idle x.state.control st.world.control) ∙ c.if-is_idle.false)) _ _ (makes x st history)) c.take.ensures.ok

pub returns-clause-stands : goal.returns-clause-stands
returns-clause-stands g c =
    on_ok_weaker c.take.result (λ stands x st. stands_as _ _ _ (part_take g.P.Program.functions _ x st c.requires.goes c.requires.over c.requires.nobody (sym (c.is_idle.ensures.idle x.state.control st.world.control) ∙ c.if-is_idle.false)) (stands x st)) c.take.ensures.stands

pub returns-then-is_idle-clause-stands : goal.returns-then-is_idle-clause-stands
returns-then-is_idle-clause-stands g c =
    on_ok_weaker c.move_on.result (λ makes x st. stands_as _ _ _ (part_move g.P.Program.functions _ x st c.requires.goes c.requires.over c.requires.nobody (sym (c.is_idle.ensures.idle x.state.control st.world.control) ∙ c.if-is_idle.true)) (makes x st).stands) c.move_on.ensures.ok

pub returns-clause-err : goal.returns-clause-err
returns-clause-err g c =
    on_err_weaker c.take.result (λ cut x st. cut_as c.take.new.self _ _ (part_take g.P.Program.functions _ x st c.requires.goes c.requires.over c.requires.nobody (sym (c.is_idle.ensures.idle x.state.control st.world.control) ∙ c.if-is_idle.false)) _ _ (cut x st)) c.take.ensures.err
