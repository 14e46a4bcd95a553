use Rattle.std.proofs.Common.{◌∙◌, ap, sym, Some, ℕ, length, map, ◌<◌, arith}
use Rattle.std.proofs.lemmas.List.{length-map, get_or-map}
use Rattle.pth_base.specs.declared.ids.Fd.{Fd}
use Rattle.pth_kernel.proofs.Lists.{first-left}
use Rattle.pth_kernel.proofs.channel.Channel.accept.Goals as goal

pub returns-clause-which : goal.returns-clause-which
returns-clause-which c =
    let x = c.self.inside in
    let low : x.accepted < x.arrived.connections = omega arith in
    let h : x.accepted < length x.connections.items = omega (arith, length-map x.connections.items (λ (g : Fd). g.0)) in
    rw (← c.self.view_is) (ap (λ (g : Fd). Some g.0) c.index-g.ensures ∙ ap (λ (n : ℕ). Some n) (sym (get_or-map (λ (g : Fd). g.0) x.connections.items x.accepted c.index-g.result.now 0 h)) ∙ sym (first-left x.accepted x.arrived.connections (map (λ (g : Fd). g.0) x.connections.items) 0 low c.self.invariant.connections))
