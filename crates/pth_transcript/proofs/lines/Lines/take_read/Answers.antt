use Rattle.std.proofs.Common.{◌≡◌, ◌∙◌, ◌+◌, ◌-◌, ◌++◌, ℕ, List, Some, None, take, drop, ap, subst, sym, arith}
use Rattle.pth_text.specs.LineEnd.{line_end_of}
use Rattle.pth_transcript.proofs.LineFound.{cut, found, line_lineless, rest_lineless}
use Rattle.pth_transcript.specs.Taking.{IsLineless}
use Rattle.pth_transcript.proofs.lines.Lines.take_read.Goals as goal

pub returns-in_default-clause-lineless : goal.returns-in_default-clause-lineless
returns-in_default-clause-lineless c =
    let bytes = c.self.inside.bytes.items in
    let rest = c.self.inside.rest in
    let none : line_end_of bytes (rest + c.args.seen) ≡ None = ap (λ (l : List ℕ). line_end_of l (rest + c.args.seen)) (sym c.deref.ensures.value) ∙ sym c.in_default.ensures in
    let before : IsLineless (take c.args.seen (drop rest bytes)) = subst (λ u. IsLineless (take c.args.seen u)) (ap (λ s. s.unread) (sym c.self.view_is)) c.requires.lineless in
    λ _. subst IsLineless (ap (λ s. s.unread) c.self.view_is) (rest_lineless bytes rest c.args.seen before none)

pub returns-clause-line : goal.returns-clause-line
returns-clause-line c =
    let bytes = c.self.inside.bytes.items in
    let rest = c.self.inside.rest in
    let end = c.in-Some.end in
    let f = found bytes (rest + c.args.seen) end (ap (λ (l : List ℕ). line_end_of l (rest + c.args.seen)) (sym c.deref.ensures.value) ∙ sym c.in-Some.ensures) in
    let low = f.0 in
    let line = c.in_ok-extend_from_slice.ensures.items ∙ ap (λ (l : List ℕ). l ++ take (end - rest) (drop rest c.deref-2.result.now)) c.clear.ensures.items
    ∙ ap (λ (l : List ℕ). take (end - rest) (drop rest l)) c.deref-2.ensures.value in
    λ _. ap (λ s. s.unread) (sym c.self.view_is) ∙ cut bytes c.extend_from_slice.new.self.items rest end (omega (arith, low)) f.1 f.2 line

pub returns-clause-one : goal.returns-clause-one
returns-clause-one c =
    let bytes = c.self.inside.bytes.items in
    let rest = c.self.inside.rest in
    let end = c.in-Some.end in
    let at : line_end_of bytes (rest + c.args.seen) ≡ Some end = ap (λ (l : List ℕ). line_end_of l (rest + c.args.seen)) (sym c.deref.ensures.value) ∙ sym c.in-Some.ensures in
    let before : IsLineless (take c.args.seen (drop rest bytes)) = subst (λ u. IsLineless (take c.args.seen u)) (ap (λ s. s.unread) (sym c.self.view_is)) c.requires.lineless in
    let line = c.in_ok-extend_from_slice.ensures.items ∙ ap (λ (l : List ℕ). l ++ take (end - rest) (drop rest c.deref-2.result.now)) c.clear.ensures.items
    ∙ ap (λ (l : List ℕ). take (end - rest) (drop rest l)) c.deref-2.ensures.value in
    λ _. line_lineless bytes c.extend_from_slice.new.self.items rest c.args.seen end before at line
