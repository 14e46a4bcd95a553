use Rattle.std.proofs.Common.{◌≡◌, ◌∙◌, ap}
use Rattle.std.proofs.lemmas.Result.{on_ok_weaker}
use Rattle.pth_kernel.specs.Kernel.{fd_named, kernel_of}
use Rattle.pth_kernel.specs.Channels.{ChannelOf, moded}
use Rattle.pth_kernel.proofs.Shown.{seen, shows, changed}
use Rattle.pth_kernel.proofs.Changes.{answered-mode, set-mode}
use Rattle.pth_kernel.proofs.Operands.{same_operand}
use Rattle.pth_kernel.proofs.kernel.Kernel.mode.Goals as goal

pub returns-in-Some-clause-answer : goal.returns-in-Some-clause-answer
returns-in-Some-clause-answer c =
    let is_m = same_operand c.args.m c.ranges.m in
    let is = same_operand c.args.f c.ranges.f in
    let named : fd_named c.args.f ≡ c.in-Some.i = rw is at c.in-Some.ensures.some in
    let k = c.self.inside in
    let s = shows k.trace k.moment k.clock k.place k.channels.items c.self.invariant (fd_named c.args.f) c.in-Some.i c.index_mut.result.now named c.in-Some.ensures.low c.index_mut.ensures.value in
    rw (← c.self.view_is) ((rw is_m at c.set_mode.ensures.answer) ∙ answered-mode (kernel_of (seen k.trace k.moment k.clock k.channels.items)) (fd_named c.args.f) c.args.m c.index_mut.result.now.used s.used)

pub returns-in-Some-clause-set : goal.returns-in-Some-clause-set
returns-in-Some-clause-set c =
    let is_m = same_operand c.args.m c.ranges.m in
    let is = same_operand c.args.f c.ranges.f in
    let named : fd_named c.args.f ≡ c.in-Some.i = rw is at c.in-Some.ensures.some in
    let k = c.self.inside in
    on_ok_weaker c.set_mode.result (λ e. rw (← c.self.view_is) (changed k.trace k.moment k.clock k.place k.channels.items c.self.invariant (fd_named c.args.f) c.in-Some.i c.index_mut.result.now c.set_mode.new.self (moded c.args.m) named c.in-Some.ensures.low c.index_mut.ensures.value (ap (λ (x : ChannelOf). x.used) e) ∙ set-mode (kernel_of (seen k.trace k.moment k.clock k.channels.items)) (fd_named c.args.f) c.args.m)) (rw is_m at c.set_mode.ensures.set)
