use Rattle.std.proofs.Common.{◌∙◌, sym, ap, rules, Some}
use Rattle.pth_text.proofs.Pairs.{hex_none, hex_all}
use Rattle.pth_text.proofs.hex.read_hex.Goals as goal

pub returns-then-not-is_hex : goal.returns-then-not-is_hex
returns-then-not-is_hex c = hex_none c.args.word.now (sym c.is_hex.ensures ∙ c.if-not-is_hex.true)

pub returns : goal.returns
returns c = ap (λ xs. Some xs) (c.in_ok-from_slice.ensures ∙ c.as_slice.ensures.value) ∙ hex_all c.args.word.now _ _ (sym c.is_hex.ensures ∙ c.if-not-is_hex.false) (search rules) c.in_ok-push_pairs.ensures
