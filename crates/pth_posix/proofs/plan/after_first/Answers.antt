use Rattle.std.proofs.Common.{rules, ◌∙◌, ap, ◌∷◌, SFits, w64, to_z, of_z, to_z-of_z}
use Rattle.pth_posix.specs.Plan.{plan}
use Rattle.pth_posix.specs.declared.pcall.PCall.TheVariants as pcall
use Rattle.pth_posix.proofs.plan.after_first.Goals as goal

pub returns-in-TimedWait : goal.returns-in-TimedWait
returns-in-TimedWait c =
    let here : SFits w64 c.in-TimedWait.c = search rules in
    let mutex : SFits w64 c.in-TimedWait.m = search rules in
    let got = c.args.first.now ∷ c.args.more.now in
    rw c.in-TimedWait.is (c.wait_timed.ensures c.in-TimedWait.at ∙ ap (λ x. plan (pcall.TimedWait x (to_z w64 (of_z w64 c.in-TimedWait.m)) c.in-TimedWait.at) got) (to_z-of_z here) ∙ ap (λ x. plan (pcall.TimedWait c.in-TimedWait.c x c.in-TimedWait.at) got) (to_z-of_z mutex))

pub returns-in-Join : goal.returns-in-Join
returns-in-Join c =
    let thread : SFits w64 c.in-Join.t = search rules in
    rw c.in-Join.is (c.joined.ensures c.args.more.now ∙ ap (λ x. plan (pcall.Join x) (c.args.first.now ∷ c.args.more.now)) (to_z-of_z thread))
